-- Each way that is full leads the search one further.
use Rattle.std.proofs.Common.{not, List, ◌≡◌, ℕ, suc, ◌+◌, ◌-◌, ◌<◌, None, Option, true, false, get_or, length, ap, sym, ◌∙◌, arith}
use Rattle.std.proofs.lemmas.List.{get_or_read}
use Rattle.std.specs.Option.{is_some}
use Rattle.t1_shape.specs.Numbers.{l2_ways}
use Rattle.t1_shape.specs.Slots.{set_of, empty_way, way_or}
use Rattle.t1_shape.proofs.Slots.{empty_stop, empty_full, victim_is}
use Rattle.t1_l2.specs.Array.{ArrayState, layout_of, place_of}
use Rattle.t1_l2.proofs.array.BankArray.victim.Goals as goal

pub loop-way-init : goal.loop-way-init
loop-way-init c =
    let a = c.args.self.now in
    let ways = c.ways-ways.ensures.value in
    victim_is (layout_of a) a.tags a.pointers (place_of a c.args.line)
    ∙ (ap (λ (f : ℕ). way_or (empty_way a.tags f 0 (l2_ways a.shape)) (get_or a.pointers (set_of (layout_of a) (place_of a c.args.line)) 0)) (sym c.first_of-first.ensures.value)
    ∙ (ap (λ (s : ℕ). way_or (empty_way a.tags c.first_of-first.result 0 (l2_ways a.shape)) (get_or a.pointers s 0)) (sym c.set_of-set.ensures.value)
    ∙ ap (λ (n : ℕ). way_or (empty_way a.tags c.first_of-first.result 0 n) (get_or a.pointers c.set_of-set.result 0)) (let e : l2_ways a.shape ≡ c.ways-ways.result - 0 = omega (arith, ways) in e)))

pub returns-then-is_none : goal.returns-then-is_none
returns-then-is_none c =
    let k : ℕ = c.first_of-first.result + c.loop-way.way in
    let tags = c.args.self.now.tags in
    let same : c.self.inside.tags.items ≡ tags = ap (λ (a : ArrayState). a.tags) c.self.view_is in
    let fits : k < length c.self.inside.tags.items =
    (let r = c.first_of-first.ensures.room in let v = c.ways-ways.ensures.value in let l : length c.self.inside.tags.items ≡ length tags = ap (λ (ts : List (Option ℕ)). length ts) same in omega (arith, r, v, l)) in
    let read : get_or tags k None ≡ c.index.result.now =
    sym (get_or_read c.self.inside.tags.items k c.index.result.now fits c.index.ensures None ∙ ap (λ (ts : List (Option ℕ)). get_or ts k None) same) in
    let off : is_some c.index.result.now ≡ false = c.is_none.ensures ∙ ap not c.if-is_none.true in
    sym (c.loop-way.invariant
    ∙ ap (λ (o : Option ℕ). way_or o (get_or c.args.self.now.pointers c.set_of-set.result 0))
    (empty_stop tags c.first_of-first.result c.loop-way.way (c.ways-ways.result - c.loop-way.way) (c.ways-ways.result - (c.loop-way.way + 1)) (omega arith) c.index.result.now read off))

pub loop-way-preserved : goal.loop-way-preserved
loop-way-preserved c =
    let k : ℕ = c.first_of-first.result + c.loop-way.way in
    let tags = c.args.self.now.tags in
    let same : c.self.inside.tags.items ≡ tags = ap (λ (a : ArrayState). a.tags) c.self.view_is in
    let fits : k < length c.self.inside.tags.items =
    (let r = c.first_of-first.ensures.room in let v = c.ways-ways.ensures.value in let l : length c.self.inside.tags.items ≡ length tags = ap (λ (ts : List (Option ℕ)). length ts) same in omega (arith, r, v, l)) in
    let read : get_or tags k None ≡ c.index.result.now =
    sym (get_or_read c.self.inside.tags.items k c.index.result.now fits c.index.ensures None ∙ ap (λ (ts : List (Option ℕ)). get_or ts k None) same) in
    let on : is_some c.index.result.now ≡ true = c.is_none.ensures ∙ ap not c.if-is_none.false in
    c.loop-way.invariant
    ∙ ap (λ (o : Option ℕ). way_or o (get_or c.args.self.now.pointers c.set_of-set.result 0))
    (empty_full tags c.first_of-first.result c.loop-way.way (c.ways-ways.result - c.loop-way.way) (c.ways-ways.result - (c.loop-way.way + 1)) (omega arith) c.index.result.now read on
    ∙ ap (λ (w : ℕ). empty_way tags c.first_of-first.result w (c.ways-ways.result - (c.loop-way.way + 1))) (let e : suc c.loop-way.way ≡ c.loop-way.way + 1 = omega arith in e))
