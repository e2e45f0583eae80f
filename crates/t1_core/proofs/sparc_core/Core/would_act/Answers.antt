-- The strand at the place does not wait, or all are passed.
use Rattle.std.proofs.Common.{◌≡◌, ◌≤◌, ◌∙◌, ℕ, List, Some, length, sym, ap, subst, arith}
use Rattle.std.specs.List.{slice_get}
use Rattle.t1_core.specs.Steps.{CoreState}
use Rattle.t1_core.proofs.Turning.{one_passed, acts_here, acts_nowhere}
use Rattle.t1_core.proofs.sparc_core.Core.would_act.Goals as goal

pub returns-in-None : goal.returns-in-None
returns-in-None c =
    let s : CoreState = c.args.self.now in
    let turns : c.self.inside.select ≡ s.turns = ap (λ (k : CoreState). k.turns) c.self.view_is in
    let at : slice_get s.turns c.loop-place.place ≡ Some c.at-strand.result =
    subst (λ (ts : List ℕ). slice_get ts c.loop-place.place ≡ Some c.at-strand.result) turns c.at-strand.ensures.value in
    acts_here s c.args.room c.loop-place.place c.at-strand.result at c.loop-place.invariant (sym c.in-None.ensures)

pub loop-place-preserved : goal.loop-place-preserved
loop-place-preserved c =
    let s : CoreState = c.args.self.now in
    let turns : c.self.inside.select ≡ s.turns = ap (λ (k : CoreState). k.turns) c.self.view_is in
    let at : slice_get s.turns c.loop-place.place ≡ Some c.at-strand.result =
    subst (λ (ts : List ℕ). slice_get ts c.loop-place.place ≡ Some c.at-strand.result) turns c.at-strand.ensures.value in
    one_passed s c.args.room c.loop-place.place c.at-strand.result _ at c.loop-place.invariant (sym c.in-Some.ensures)

pub returns : goal.returns
returns c =
    let s : CoreState = c.args.self.now in
    let turns : c.self.inside.select ≡ s.turns = ap (λ (k : CoreState). k.turns) c.self.view_is in
    let all : length s.turns ≤ c.loop-place.place = omega (arith, ap (λ (ts : List ℕ). length ts) turns) in
    acts_nowhere s c.args.room c.loop-place.place all c.loop-place.invariant
