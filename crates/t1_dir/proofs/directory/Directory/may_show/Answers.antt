use Rattle.std.proofs.Common.{◌≡◌, ◌∙◌, ◌/◌, ap, subst, sym}
use Rattle.t1_shape.specs.Slots.{Layout}
use Rattle.t1_packet.specs.declared.cache.Cache.{Cache}
use Rattle.t1_packet.specs.Caches.{layout, line_of}
use Rattle.t1_dir.specs.Directory.{DirectoryState, IsHidden}
use Rattle.t1_dir.proofs.MarkLaws.{IsHiddenIn, hidden, layout_is}
use Rattle.t1_dir.proofs.directory.Directory.may_show.Goals as goal

pub returns-in-Dcache : goal.returns-in-Dcache
returns-in-Dcache c off =
    let g : Layout = record { ways = c.ways-ways.result; sets = c.sets-sets.result } in
    let same : g ≡ layout c.args.self.now.shape c.args.cache =
    layout_is c.ways-ways.result c.sets-sets.result (layout c.args.self.now.shape c.args.cache) c.ways-ways.ensures.value c.sets-sets.ensures.value in
    let here : IsHiddenIn g c.self.inside.dcache.items (c.args.addr / 16) =
    hidden g c.self.inside.dcache.items c.self.inside.dcache_marks (c.args.addr / 16) c.self.invariant.0 (c.may_hold.ensures off) in
    subst (λ (d : DirectoryState). IsHidden d c.args.cache (line_of c.args.cache c.args.addr)) c.self.view_is
    (subst (λ (k : Cache). IsHidden (record { shape = c.self.inside.chip; dcache = c.self.inside.dcache.items; icache = c.self.inside.icache.items }) k (line_of k c.args.addr)) (sym c.in-Dcache.is)
    (subst (λ (l : Layout). IsHiddenIn l c.self.inside.dcache.items (c.args.addr / 16)) (same ∙ ap (λ (d : DirectoryState). layout d.shape c.args.cache) (sym c.self.view_is) ∙ ap (λ (k : Cache). layout c.self.inside.chip k) c.in-Dcache.is) here))

pub returns-in-Icache : goal.returns-in-Icache
returns-in-Icache c off =
    let g : Layout = record { ways = c.ways-ways.result; sets = c.sets-sets.result } in
    let same : g ≡ layout c.args.self.now.shape c.args.cache =
    layout_is c.ways-ways.result c.sets-sets.result (layout c.args.self.now.shape c.args.cache) c.ways-ways.ensures.value c.sets-sets.ensures.value in
    let here : IsHiddenIn g c.self.inside.icache.items (c.args.addr / 32) =
    hidden g c.self.inside.icache.items c.self.inside.icache_marks (c.args.addr / 32) c.self.invariant.1 (c.may_hold-in-Icache.ensures off) in
    subst (λ (d : DirectoryState). IsHidden d c.args.cache (line_of c.args.cache c.args.addr)) c.self.view_is
    (subst (λ (k : Cache). IsHidden (record { shape = c.self.inside.chip; dcache = c.self.inside.dcache.items; icache = c.self.inside.icache.items }) k (line_of k c.args.addr)) (sym c.in-Icache.is)
    (subst (λ (l : Layout). IsHiddenIn l c.self.inside.icache.items (c.args.addr / 32)) (same ∙ ap (λ (d : DirectoryState). layout d.shape c.args.cache) (sym c.self.view_is) ∙ ap (λ (k : Cache). layout c.self.inside.chip k) c.in-Icache.is) here))
