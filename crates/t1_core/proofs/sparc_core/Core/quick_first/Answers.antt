-- The strand at the place moves, waits and is passed, or asks for a ring.
use Rattle.std.proofs.Common.{◌≡◌, ◌∙◌, ℕ, List, Some, false, length, get_or, refl, sym, ap, subst}
use Rattle.std.specs.List.{slice_get}
use Rattle.t1_core.specs.declared.answers.Did.TheVariants as did
use Rattle.t1_core.specs.Steps.{CoreState}
use Rattle.t1_core.specs.Turns.{is_ready}
use Rattle.t1_core.specs.Told.{ActedAt}
use Rattle.t1_core.proofs.Turning.{moved_from, wait_passed}
use Rattle.t1_core.proofs.sparc_core.Core.quick_first.Goals as goal

pub returns-in-Moved-clause-some : goal.returns-in-Moved-clause-some
returns-in-Moved-clause-some c = λ room.
    let s : CoreState = c.loop-place.self in
    let inv = c.loop-place.invariant in
    let turns : c.self-in-loop-place.inside.select ≡ s.turns = ap (λ (k : CoreState). k.turns) c.self-in-loop-place.view_is in
    let at : slice_get s.turns c.loop-place.place ≡ Some c.at-strand.result =
    subst (λ (ts : List ℕ). slice_get ts c.loop-place.place ≡ Some c.at-strand.result) turns c.at-strand.ensures.value in
    let moved = (c.in-Moved.ensures.step room).moved refl in
    subst (λ (k : CoreState). ActedAt k room c.loop-place.place did.Moved c.quick_strand.new.self) inv.same
    (moved_from s room c.loop-place.place c.at-strand.result c.quick_strand.new.self at (inv.none room) moved.0 moved.1)

pub loop-place-preserved : goal.loop-place-preserved
loop-place-preserved c =
    let s : CoreState = c.loop-place.self in
    let inv = c.loop-place.invariant in
    let turns : c.self-in-loop-place.inside.select ≡ s.turns = ap (λ (k : CoreState). k.turns) c.self-in-loop-place.view_is in
    let at : slice_get s.turns c.loop-place.place ≡ Some c.at-strand.result =
    subst (λ (ts : List ℕ). slice_get ts c.loop-place.place ≡ Some c.at-strand.result) turns c.at-strand.ensures.value in
    let back : c.quick_strand.new.self ≡ s = c.in-Waits.ensures.still in
    record {
      same = back ∙ inv.same;
      count = inv.count ∙ ap (λ (k : CoreState). length k.turns) (sym back);
      none = λ room k l. subst (λ (m : CoreState). is_ready m room (get_or m.turns k 0) ≡ false) (sym back)
          (wait_passed s room c.loop-place.place c.at-strand.result at (inv.none room) ((c.in-Waits.ensures.step room).waits refl) k l);
    }
