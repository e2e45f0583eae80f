-- The strand at the place acts, or waits and is passed.
use Rattle.std.proofs.Common.{◌≡◌, ◌∙◌, ℕ, List, Some, false, length, get_or, sym, ap, subst}
use Rattle.std.specs.List.{slice_get}
use Rattle.t1_core.specs.declared.answers.Did.TheVariants as did
use Rattle.t1_core.specs.Steps.{CoreState}
use Rattle.t1_core.specs.Turns.{is_ready}
use Rattle.t1_core.specs.Told.{ActedAt}
use Rattle.t1_core.specs.Quick.{IsWait}
use Rattle.t1_core.proofs.Quiet.{exec_quiet}
use Rattle.t1_core.proofs.Turning.{acted_from, wait_passed}
use Rattle.t1_core.proofs.sparc_core.Core.act_first.Goals as goal

pub returns-in-Moved-clause-some : goal.returns-in-Moved-clause-some
returns-in-Moved-clause-some c =
    let s : CoreState = c.loop-place.self in
    let inv = c.loop-place.invariant in
    let turns : c.self-in-loop-place.inside.select ≡ s.turns = ap (λ (k : CoreState). k.turns) c.self-in-loop-place.view_is in
    let at : slice_get s.turns c.loop-place.place ≡ Some c.at-strand.result =
    subst (λ (ts : List ℕ). slice_get ts c.loop-place.place ≡ Some c.at-strand.result) turns c.at-strand.ensures.value in
    subst (λ (k : CoreState). ActedAt k c.args.room c.loop-place.place did.Moved c.exec.new.self) inv.same
    (acted_from s c.args.room c.loop-place.place c.at-strand.result did.Moved c.exec.new.self at inv.none c.in-Moved.ensures.did tt c.in-Moved.ensures.core c.in-Moved.ensures.ring)

pub returns-in-Sent-clause-some : goal.returns-in-Sent-clause-some
returns-in-Sent-clause-some c =
    let s : CoreState = c.loop-place.self in
    let inv = c.loop-place.invariant in
    let turns : c.self-in-loop-place.inside.select ≡ s.turns = ap (λ (k : CoreState). k.turns) c.self-in-loop-place.view_is in
    let at : slice_get s.turns c.loop-place.place ≡ Some c.at-strand.result =
    subst (λ (ts : List ℕ). slice_get ts c.loop-place.place ≡ Some c.at-strand.result) turns c.at-strand.ensures.value in
    subst (λ (k : CoreState). ActedAt k c.args.room c.loop-place.place (did.Sent c.in-Sent.dest c.in-Sent.request) c.exec.new.self) inv.same
    (acted_from s c.args.room c.loop-place.place c.at-strand.result (did.Sent c.in-Sent.dest c.in-Sent.request) c.exec.new.self at inv.none c.in-Sent.ensures.did tt c.in-Sent.ensures.core c.in-Sent.ensures.ring)

pub loop-place-preserved : goal.loop-place-preserved
loop-place-preserved c =
    let s : CoreState = c.loop-place.self in
    let inv = c.loop-place.invariant in
    let turns : c.self-in-loop-place.inside.select ≡ s.turns = ap (λ (k : CoreState). k.turns) c.self-in-loop-place.view_is in
    let at : slice_get s.turns c.loop-place.place ≡ Some c.at-strand.result =
    subst (λ (ts : List ℕ). slice_get ts c.loop-place.place ≡ Some c.at-strand.result) turns c.at-strand.ensures.value in
    let back : c.exec.new.self ≡ s = c.in-Waits.ensures.core ∙ exec_quiet s c.at-strand.result c.args.room c.in-Waits.field-0 (sym c.in-Waits.ensures.did) in
    record {
      same = back ∙ inv.same;
      count = inv.count ∙ ap (λ (k : CoreState). length k.turns) (sym back);
      none = λ k l. subst (λ (m : CoreState). is_ready m c.args.room (get_or m.turns k 0) ≡ false) (sym back)
          (wait_passed s c.args.room c.loop-place.place c.at-strand.result at inv.none (subst IsWait c.in-Waits.ensures.did tt) k l);
    }
