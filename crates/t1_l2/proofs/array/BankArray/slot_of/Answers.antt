-- Each way that does not hold the line leads the scan one further.
use Rattle.std.proofs.Common.{◌≡◌, ℕ, suc, ◌+◌, ◌-◌, ◌<◌, true, false, List, length, get_or, Option, None, ap, sym, ◌∙◌, arith}
use Rattle.std.proofs.lemmas.List.{get_or_read}
use Rattle.t1_shape.specs.Numbers.{l2_ways}
use Rattle.t1_shape.specs.Slots.{first_slot, holds, scan}
use Rattle.t1_shape.proofs.Slots.{scan_next, option_eq-holds, holds-same}
use Rattle.t1_l2.specs.Array.{ArrayState, layout_of, place_of}
use Rattle.t1_l2.proofs.Kept.{slot_in_is}
use Rattle.t1_l2.proofs.array.BankArray.slot_of.Goals as goal

pub loop-way-init : goal.loop-way-init
loop-way-init c =
    let a = c.args.self.now in
    let first = c.first_of-first.ensures.value in
    let ways = c.ways-ways.ensures.value in
    slot_in_is a c.args.line
    ∙ (ap (λ (k : ℕ). scan a.tags c.args.line k (l2_ways a.shape)) (let e : first_slot (layout_of a) (place_of a c.args.line) ≡ c.first_of-first.result + 0 = omega (arith, first) in e)
    ∙ ap (λ (n : ℕ). scan a.tags c.args.line (c.first_of-first.result + 0) n) (let e : l2_ways a.shape ≡ c.ways-ways.result - 0 = omega (arith, ways) in e))

pub loop-way-preserved : goal.loop-way-preserved
loop-way-preserved c =
    let k : ℕ = c.first_of-first.result + c.loop-way.way in
    let tags = c.args.self.now.tags in
    let same : c.self.inside.tags.items ≡ tags = ap (λ (a : ArrayState). a.tags) c.self.view_is in
    let fits : k < length c.self.inside.tags.items =
    (let r = c.first_of-first.ensures.room in let v = c.ways-ways.ensures.value in let l : length c.self.inside.tags.items ≡ length tags = ap (λ (ts : List (Option ℕ)). length ts) same in omega (arith, r, v, l)) in
    let read : c.index.result.now ≡ get_or tags k None =
    get_or_read c.self.inside.tags.items k c.index.result.now fits c.index.ensures None ∙ ap (λ (ts : List (Option ℕ)). get_or ts k None) same in
    let off : holds c.index.result.now c.args.line ≡ false = sym (option_eq-holds c.index.result.now c.args.line) ∙ (sym c.eq.ensures ∙ c.if-eq.false) in
    c.loop-way.invariant
    ∙ (scan_next tags c.args.line k (c.ways-ways.result - c.loop-way.way) (c.ways-ways.result - (c.loop-way.way + 1)) (omega arith)
    (λ e. let on : holds c.index.result.now c.args.line ≡ true = holds-same c.index.result.now c.args.line (read ∙ e) in cc)
    ∙ ap (λ (i : ℕ). scan tags c.args.line i (c.ways-ways.result - (c.loop-way.way + 1))) (let e : suc k ≡ c.first_of-first.result + (c.loop-way.way + 1) = omega arith in e))
