use Rattle.std.proofs.Common.{◌∙◌, ℕ, List, Option, replicate, ap, sym, subst}
use Rattle.t1_packet.specs.declared.cache.Cache.TheVariants.{Dcache, Icache}
use Rattle.t1_dir.specs.Directory.{no_tags}
use Rattle.t1_dir.specs.Marks.{AreMarked}
use Rattle.t1_dir.proofs.MarkLaws.{start_marks}
use Rattle.t1_dir.proofs.Rows.{no_tags_are}
use Rattle.t1_dir.proofs.directory.Directory.new.Goals as goal

pub invariant_of-result : goal.invariant_of-result
invariant_of-result c = (
  subst (λ (rows : List (List (Option ℕ))). AreMarked rows c.in_ok-dcache_marks.dcache_marks) (sym c.in_ok-dcache.ensures)
      (start_marks c.args.cores c.in_ok-dcache_marks.dcache_marks c.requires c.in_ok-dcache_marks.ensures),
  subst (λ (rows : List (List (Option ℕ))). AreMarked rows c.in_ok-icache_marks.icache_marks) (sym c.in_ok-icache.ensures)
      (start_marks c.args.cores c.in_ok-icache_marks.icache_marks c.requires c.in_ok-icache_marks.ensures),
)

pub returns : goal.returns
returns c =
    let dcache = c.in_ok-dcache.ensures ∙ ap (λ (tags : List (Option ℕ)). replicate c.args.cores tags) (sym (no_tags_are c.args.chip Dcache)) in
    let icache = c.in_ok-icache.ensures ∙ ap (λ (tags : List (Option ℕ)). replicate c.args.cores tags) (sym (no_tags_are c.args.chip Icache)) in
    ap (λ (rows : List (List (Option ℕ))). record { shape = c.args.chip; dcache = rows; icache = c.in_ok-icache.icache.items }) dcache
    ∙ ap (λ (rows : List (List (Option ℕ))). record { shape = c.args.chip; dcache = replicate c.args.cores (no_tags c.args.chip Dcache); icache = rows }) icache
