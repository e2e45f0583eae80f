-- Each way that does not hold the line leads the scan one further.
use Rattle.std.proofs.Common.{◌≡◌, ℕ, ◌+◌, ◌-◌, ◌*◌, ◌%◌, ◌<◌, None, true, false, get_or, length, ap, sym, ◌∙◌, suc, arith}
use Rattle.std.proofs.lemmas.List.{get_or_read}
use Rattle.std.proofs.lemmas.Nat.{mod_below, mul-add-lt}
use Rattle.t1_shape.specs.Slots.{Layout, first_slot, holds, scan}
use Rattle.t1_shape.proofs.Slots.{scan_next, slot_is_scan, option_eq-holds, holds-same}
use Rattle.t1_dir.proofs.tags.Tags.slot_of.Goals as goal

pub loop-way-init : goal.loop-way-init
loop-way-init c =
    let g : Layout = record { ways = c.args.ways; sets = c.args.sets } in
    slot_is_scan g c.args.self.now c.args.line
    ∙ (ap (λ (k : ℕ). scan c.args.self.now c.args.line k c.args.ways) (let e : first_slot g c.args.line ≡ c.args.ways * (c.args.line % c.args.sets) + 0 = omega arith in e)
    ∙ ap (λ (n : ℕ). scan c.args.self.now c.args.line (c.args.ways * (c.args.line % c.args.sets) + 0) n) (let e : c.args.ways ≡ c.args.ways - 0 = omega arith in e))

pub loop-way-preserved : goal.loop-way-preserved
loop-way-preserved c =
    let k : ℕ = c.args.ways * (c.args.line % c.args.sets) + c.loop-way.way in
    let row : (c.args.line % c.args.sets) * c.args.ways + c.loop-way.way < c.args.ways * c.args.sets =
    mul-add-lt (c.args.line % c.args.sets) c.args.ways c.loop-way.way c.args.sets (mod_below c.args.line c.args.sets c.requires.0) (omega arith) in
    let inner : c.index.result.now ≡ get_or c.self.inside.slots.items k None =
    get_or_read c.self.inside.slots.items k c.index.result.now (let l : length c.self.inside.slots.items ≡ 512 = c.self.invariant in let r = c.requires.1 in omega (arith, l, r, row)) c.index.ensures None in
    let read : c.index.result.now ≡ get_or c.args.self.now k None = cc (inner, c.self.view_is) in
    let off : holds c.index.result.now c.args.line ≡ false = sym (option_eq-holds c.index.result.now c.args.line) ∙ (sym c.eq.ensures ∙ c.if-eq.false) in
    c.loop-way.invariant
    ∙ (scan_next c.args.self.now c.args.line k (c.args.ways - c.loop-way.way) (c.args.ways - (c.loop-way.way + 1)) (omega arith)
    (λ e. let on : holds c.index.result.now c.args.line ≡ true = holds-same c.index.result.now c.args.line (read ∙ e) in cc)
    ∙ ap (λ (i : ℕ). scan c.args.self.now c.args.line i (c.args.ways - (c.loop-way.way + 1))) (let e : suc k ≡ c.args.ways * (c.args.line % c.args.sets) + (c.loop-way.way + 1) = omega arith in e))
