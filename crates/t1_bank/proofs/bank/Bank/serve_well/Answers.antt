-- One service, step by step.
use Rattle.std.proofs.Common.{◌≡◌, ◌∙◌, ◌/◌, ◌<◌, IfSome, ℕ, List, Option, ap, sym, subst}
use Rattle.t1_bank.proofs.Rule.{way_for_fill}
use Rattle.t1_bank.specs.Sound.{IsSound}
use Rattle.t1_dir.specs.Directory.{DirectoryState}
use Rattle.t1_event.specs.BankRule.{BankState, bank_well, fill_bytes, kills_of, old_of, served_well, ways_for}
use Rattle.t1_event.specs.Kills.{effect}
use Rattle.t1_l2.specs.Array.{ArrayState, ensured, evicted_for}
use Rattle.t1_packet.specs.Data.{KillData, RequestData}
use Rattle.t1_packet.specs.Ops.{op_addr}
use Rattle.t1_packet.specs.declared.op.Op.{Op}
use Rattle.t1_packet.specs.declared.served.Served.{Served}
use Rattle.t1_shape.specs.Shapes.{Shape}
use Rattle.t1_bank.proofs.Fit.{IsFit}
use Rattle.t1_bank.proofs.DirTags.{shape_cleared}
use Rattle.t1_bank.proofs.Steps.{sound_well}
use Rattle.t1_bank.proofs.Serve.{fit_from, mine_at, core_of, size_is, aligned_at, way_fits, now_is, present_op, present_at, evicted_low, evicted_is, old_is, line_is, effect_present, effect_size_is, effect_aligned, kills_are, kills_clear, core_then, state_is}
use Rattle.t1_bank.proofs.bank.Bank.serve_well.Goals as goal

pub ensure-evicted-requires : goal.ensure-evicted-requires
ensure-evicted-requires c =
    let f = fit_from _ _ _ _ c.self.view_is c.request.view_is c.requires.fit in
    mine_at _ _ c.self.invariant f _ c.addr_of-addr.ensures

pub get-old-requires-clause-present : goal.get-old-requires-clause-present
get-old-requires-clause-present c =
    let f = fit_from _ _ _ _ c.self.view_is c.request.view_is c.requires.fit in
    present_at _ _ c.self.invariant f _ _ c.addr_of-addr.ensures c.ensure-evicted.ensures.new

pub get-old-requires-clause-size : goal.get-old-requires-clause-size
get-old-requires-clause-size c =
    let f = fit_from _ _ _ _ c.self.view_is c.request.view_is c.requires.fit in
    size_is _ _ c.self.invariant f _ c.size_of.ensures

pub get-old-requires-clause-aligned : goal.get-old-requires-clause-aligned
get-old-requires-clause-aligned c =
    let f = fit_from _ _ _ _ c.self.view_is c.request.view_is c.requires.fit in
    aligned_at _ _ c.self.invariant f _ _ c.addr_of-addr.ensures c.size_of.ensures

pub line_of_fill-served-requires : goal.line_of_fill-served-requires
line_of_fill-served-requires c =
    let f = fit_from _ _ _ _ c.self.view_is c.request.view_is c.requires.fit in
    present_op _ _ c.self.invariant f _ _ c.addr_of-addr.ensures c.ensure-evicted.ensures.new

pub way_of_fill-way-requires : goal.way_of_fill-way-requires
way_of_fill-way-requires c =
    let f = fit_from _ _ _ _ c.self.view_is c.request.view_is c.requires.fit in
    core_of _ _ c.self.invariant f

pub find_copies-requires-clause-low : goal.find_copies-requires-clause-low
find_copies-requires-clause-low c =
    let f = fit_from _ _ _ _ c.self.view_is c.request.view_is c.requires.fit in
    evicted_low _ _ c.self.invariant f _ _ c.addr_of-addr.ensures c.ensure-evicted.ensures.new _ c.ensure-evicted.ensures.evicted

pub drop_copies-requires-clause-kills : goal.drop_copies-requires-clause-kills
drop_copies-requires-clause-kills c =
    let f = fit_from _ _ _ _ c.self.view_is c.request.view_is c.requires.fit in
    let ev = evicted_is _ _ c.self.invariant f _ _ c.addr_of-addr.ensures c.ensure-evicted.ensures.new _ c.ensure-evicted.ensures.evicted in
    let eo = old_is _ _ c.self.invariant f _ _ c.addr_of-addr.ensures c.ensure-evicted.ensures.new _ _ c.size_of.ensures c.get-old.ensures.value in
    let ek = kills_are _ _ c.self.invariant f _ _ _ _ ev eo c.effect_of-done.ensures c.find_copies.ensures in
    kills_clear _ _ c.self.invariant f _ ek

pub fill-requires-clause-core : goal.fill-requires-clause-core
fill-requires-clause-core c =
    let f = fit_from _ _ _ _ c.self.view_is c.request.view_is c.requires.fit in
    core_then _ _ c.self.invariant f _ c.find_copies.new.kills c.drop_copies.ensures

pub fill-requires-clause-way : goal.fill-requires-clause-way
fill-requires-clause-way c =
    let f = fit_from _ _ _ _ c.self.view_is c.request.view_is c.requires.fit in
    let shape = ap (λ (d : DirectoryState). d.shape) c.drop_copies.ensures ∙ shape_cleared c.find_copies.new.kills c.self.inside.directory in
    subst (λ (q : Shape). IfSome c.way_of_fill-way.result (λ v. v < ways_for q c.request.inside.op)) (sym shape) (way_fits _ _ c.self.invariant f _ c.way_of_fill-way.ensures)

pub write-requires-clause-present : goal.write-requires-clause-present
write-requires-clause-present c =
    let f = fit_from _ _ _ _ c.self.view_is c.request.view_is c.requires.fit in
    effect_present _ _ c.self.invariant f _ _ c.addr_of-addr.ensures c.ensure-evicted.ensures.new _ _ c.effect_of-done.ensures

pub write-requires-clause-size : goal.write-requires-clause-size
write-requires-clause-size c =
    let f = fit_from _ _ _ _ c.self.view_is c.request.view_is c.requires.fit in
    effect_size_is _ _ c.self.invariant f _ _ c.effect_of-done.ensures

pub write-requires-clause-aligned : goal.write-requires-clause-aligned
write-requires-clause-aligned c =
    let f = fit_from _ _ _ _ c.self.view_is c.request.view_is c.requires.fit in
    effect_aligned _ _ c.self.invariant f _ _ c.effect_of-done.ensures

pub invariant_of-self : goal.invariant_of-self
invariant_of-self c =
    let f = fit_from _ _ _ _ c.self.view_is c.request.view_is c.requires.fit in
    let ev = evicted_is _ _ c.self.invariant f _ _ c.addr_of-addr.ensures c.ensure-evicted.ensures.new _ c.ensure-evicted.ensures.evicted in
    let eo = old_is _ _ c.self.invariant f _ _ c.addr_of-addr.ensures c.ensure-evicted.ensures.new _ _ c.size_of.ensures c.get-old.ensures.value in
    let ek = kills_are _ _ c.self.invariant f _ _ _ _ ev eo c.effect_of-done.ensures c.find_copies.ensures in
    let state = state_is _ _ c.self.invariant f _ _ _ _ _ _ _ _ c.drop_copies.ensures ek c.fill.ensures c.way_of_fill-way.ensures (now_is _ _ c.self.invariant f _ _ c.addr_of-addr.ensures c.ensure-evicted.ensures.new) c.effect_of-done.ensures eo c.write.ensures in
    subst IsSound (sym state) (sound_well _ _ c.self.invariant f)

pub returns-clause-served : goal.returns-clause-served
returns-clause-served c =
    let i = c.self.inside in
    let b : BankState = record { cores = i.cores; ram = i.ram; directory = i.directory; array = i.array } in
    let q = c.request.inside in
    let r : RequestData = record { core = q.core; strand = q.strand; item = q.item; seen = q.seen; op = q.op } in
    let f = fit_from _ _ _ _ c.self.view_is c.request.view_is c.requires.fit in
    let ev = evicted_is _ _ c.self.invariant f _ _ c.addr_of-addr.ensures c.ensure-evicted.ensures.new _ c.ensure-evicted.ensures.evicted in
    let eo = old_is _ _ c.self.invariant f _ _ c.addr_of-addr.ensures c.ensure-evicted.ensures.new _ _ c.size_of.ensures c.get-old.ensures.value in
    let ek = kills_are _ _ c.self.invariant f _ _ _ _ ev eo c.effect_of-done.ensures c.find_copies.ensures in
    let line = line_is _ _ c.self.invariant f _ _ c.addr_of-addr.ensures c.ensure-evicted.ensures.new _ c.line_of_fill-served.ensures in
    let old = c.get-old.result in
    let way = c.way_of_fill-way.result in
    let bytes = c.line_of_fill-served.result in
    let v = c.ensure-evicted.result in
    let kills = c.find_copies.new.kills in
    let ew : way ≡ way_for_fill b.directory r.core r.op = c.way_of_fill-way.ensures in
    let all : ◌≡◌ {A = Served} (record { request = r; old = old; way = way; line = bytes; evicted = v; kills = kills }) (served_well b r) = cc (eo, ew, line, ev, ek) in
    ap (λ (x : RequestData). record { request = x; old = old; way = way; line = bytes; evicted = v; kills = kills }) (sym c.request.view_is)
    ∙ (all ∙ (ap (λ (x : BankState). served_well x r) c.self.view_is ∙ ap (λ (x : RequestData). served_well c.args.self.now x) c.request.view_is))

pub returns-clause-after : goal.returns-clause-after
returns-clause-after c =
    let i = c.self.inside in
    let b : BankState = record { cores = i.cores; ram = i.ram; directory = i.directory; array = i.array } in
    let q = c.request.inside in
    let r : RequestData = record { core = q.core; strand = q.strand; item = q.item; seen = q.seen; op = q.op } in
    let f = fit_from _ _ _ _ c.self.view_is c.request.view_is c.requires.fit in
    let ev = evicted_is _ _ c.self.invariant f _ _ c.addr_of-addr.ensures c.ensure-evicted.ensures.new _ c.ensure-evicted.ensures.evicted in
    let eo = old_is _ _ c.self.invariant f _ _ c.addr_of-addr.ensures c.ensure-evicted.ensures.new _ _ c.size_of.ensures c.get-old.ensures.value in
    let ek = kills_are _ _ c.self.invariant f _ _ _ _ ev eo c.effect_of-done.ensures c.find_copies.ensures in
    let state = state_is _ _ c.self.invariant f _ _ _ _ _ _ _ _ c.drop_copies.ensures ek c.fill.ensures c.way_of_fill-way.ensures (now_is _ _ c.self.invariant f _ _ c.addr_of-addr.ensures c.ensure-evicted.ensures.new) c.effect_of-done.ensures eo c.write.ensures in
    state ∙ (ap (λ (x : BankState). bank_well x r) c.self.view_is ∙ ap (λ (x : RequestData). bank_well c.args.self.now x) c.request.view_is)
