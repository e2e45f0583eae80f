-- Which strand of the queue acts.
use Rattle.std.proofs.Common.{◌≡◌, ◌+◌, ◌<◌, ◌≤◌, ℕ, true, false, is_none, is_some, List, length, get_or, Option, Some, None, refl, ap, sym, ◌∙◌, subst, inl, inr, arith}
use Rattle.std.specs.List.{slice_get}
use Rattle.std.proofs.lemmas.Bool.{cases_eq}
use Rattle.std.proofs.lemmas.Option.{get_or_from_slice_get, slice_get_within}
use Rattle.t1_select.specs.Queue.{moved_last}
use Rattle.t1_select.proofs.Moves.{length-moved_last}
use Rattle.t1_select.proofs.Places.{first_ready_is, first_ready_none}
use Rattle.t1_event.specs.declared.trace.Trace.{Trace}
use Rattle.t1_core.specs.declared.answers.Did.{Did}
use Rattle.t1_core.specs.declared.answers.Did.TheVariants as did
use Rattle.t1_core.specs.declared.answers.Wait.{Wait}
use Rattle.t1_core.specs.Threads.{ThreadState}
use Rattle.t1_core.specs.Steps.{CoreState, exec_of, waited, wait_of}
use Rattle.t1_core.specs.Turns.{is_ready, next_place, Turned, turn_of}
use Rattle.t1_core.specs.Told.{HasRing, ActedAt}
use Rattle.t1_core.specs.Quick.{IsWait}
use Rattle.t1_core.specs.Room.{AreParts}
use Rattle.t1_core.proofs.Quiet.{acted_turns, turn_some, turn_none}

-- each strand before this place waits
abbrev pub NonePassed : CoreState → ℕ → ℕ → Type 0
NonePassed c room place = (k : ℕ) → k < place → is_ready c room (get_or c.turns k 0) ≡ false

abbrev pub Acts : Did → Type 0
Acts did.Moved = Unit {0}
Acts (did.Sent d r) = Unit {0}
Acts (did.Waits w) = ⊥

acting : (d : Did) → Acts d → is_none (waited d) ≡ true
acting did.Moved a = refl
acting (did.Sent d r) a = refl
acting (did.Waits w) a = absurd a

-- the first that does not wait acted
pub acted_from : (c : CoreState) (room place strand : ℕ) (d : Did) (after : CoreState) → slice_get c.turns place ≡ Some strand → NonePassed c room place
    → d ≡ (exec_of c strand room).did → Acts d → after ≡ (exec_of c strand room).core → HasRing room d → ActedAt c room place d after
acted_from c room place strand d after at none is acts core ring =
    let here : get_or c.turns place 0 ≡ strand = get_or_from_slice_get c.turns place strand 0 at in
    let ready : is_ready c room strand ≡ true = ap (λ (e : Did). is_none (waited e)) (sym is) ∙ acting d acts in
    let within : place < length c.turns = slice_get_within c.turns place strand at in
    record {
      first = first_ready_is (λ i. is_ready c room i) c.turns place within none (subst (λ (i : ℕ). is_ready c room i ≡ true) (sym here) ready);
      within = within;
      did_is = is ∙ ap (λ (i : ℕ). (exec_of c i room).did) (sym here);
      core_is = core ∙ ap (λ (i : ℕ). (exec_of c i room).core) (sym here);
      ring = ring;
    }

waiting : (d : Did) → IsWait d → is_none (waited d) ≡ false
waiting did.Moved w = absurd w
waiting (did.Sent d r) w = absurd w
waiting (did.Waits v) w = refl

-- one that is not ready is passed
passed : (c : CoreState) (room place strand : ℕ) → slice_get c.turns place ≡ Some strand → NonePassed c room place
    → is_ready c room strand ≡ false → NonePassed c room (place + 1)
passed c room place strand at none waits k l =
    let here : get_or c.turns place 0 ≡ strand = get_or_from_slice_get c.turns place strand 0 at in
    elim (cases_eq k place) [
      | inl same ↦ subst (λ (j : ℕ). is_ready c room (get_or c.turns j 0) ≡ false) (sym same) (subst (λ (i : ℕ). is_ready c room i ≡ false) (sym here) waits)
      | inr not ↦ none k (omega (arith, not, l))
    ]

-- one that waits is passed
pub wait_passed : (c : CoreState) (room place strand : ℕ) → slice_get c.turns place ≡ Some strand → NonePassed c room place
    → IsWait (exec_of c strand room).did → NonePassed c room (place + 1)
wait_passed c room place strand at none is = passed c room place strand at none (waiting (exec_of c strand room).did is)

pub one_passed : (c : CoreState) (room place strand : ℕ) (w : Wait) → slice_get c.turns place ≡ Some strand → NonePassed c room place
    → wait_of c strand room ≡ Some w → NonePassed c room (place + 1)
one_passed c room place strand w at none is = passed c room place strand at none (ap (λ (o : Option Wait). is_none o) is)

-- none acts
pub all_passed : (c : CoreState) (room count : ℕ) → length c.turns ≡ count → NonePassed c room count → next_place c room ≡ None
all_passed c room count e none = first_ready_none (λ i. is_ready c room i) c.turns (λ k l. none k (omega (arith, e, l)))

-- the first that does not wait moved, and needed no ring
pub moved_from : (c : CoreState) (room place strand : ℕ) (after : CoreState) → slice_get c.turns place ≡ Some strand → NonePassed c room place
    → after ≡ (exec_of c strand room).core → (exec_of c strand room).did ≡ did.Moved → ActedAt c room place did.Moved after
moved_from c room place strand after at none core is = acted_from c room place strand did.Moved after at none (sym is) tt core tt

-- the place is one of the queue after, too
pub acted_within : (c : CoreState) (room place : ℕ) (d : Did) (after : CoreState) → ActedAt c room place d after → place < length after.turns
acted_within c room place d after a = omega (arith, a.within, ap (λ (ts : List ℕ). length ts) (acted_turns c room place d after a))

-- the queue keeps its length
pub parts_moved : (number : ℕ) (threads : List ThreadState) (ram : ℕ) (turns : List ℕ) (made : List Trace) (capacity place : ℕ)
    → AreParts number threads ram turns made capacity → place < length turns → AreParts number threads ram (moved_last turns place) made capacity
parts_moved number threads ram turns made capacity place p h =
    record { core = p.core; few = p.few; ram_is = p.ram_is; queue = length-moved_last turns place h ∙ p.queue; none_made = p.none_made; room = p.room }

-- ---- whether a turn would act

pub acts_here : (c : CoreState) (room place strand : ℕ) → slice_get c.turns place ≡ Some strand → NonePassed c room place
    → wait_of c strand room ≡ None → true ≡ is_some (turn_of c room).did
acts_here c room place strand at none free =
    let here : get_or c.turns place 0 ≡ strand = get_or_from_slice_get c.turns place strand 0 at in
    let ready : is_ready c room strand ≡ true = ap (λ (o : Option Wait). is_none o) free in
    let first : next_place c room ≡ Some place = first_ready_is (λ i. is_ready c room i) c.turns place (slice_get_within c.turns place strand at) none
    (subst (λ (i : ℕ). is_ready c room i ≡ true) (sym here) ready) in
    sym (ap (λ (t : Turned). is_some t.did) (turn_some c room place first))

pub acts_nowhere : (c : CoreState) (room place : ℕ) → length c.turns ≤ place → NonePassed c room place → false ≡ is_some (turn_of c room).did
acts_nowhere c room place all none =
    let first : next_place c room ≡ None = first_ready_none (λ i. is_ready c room i) c.turns (λ k l. none k (omega (arith, all, l))) in
    sym (ap (λ (t : Turned). is_some t.did) (turn_none c room first))
