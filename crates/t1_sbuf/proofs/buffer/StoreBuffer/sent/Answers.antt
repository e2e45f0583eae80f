-- The entry at the cursor is the one that may be sent.
use Rattle.std.proofs.Common.{◌≡◌, ◌<◌, ◌+◌, ℕ, suc, List, length, false, true, sym, subst, arith}
use Rattle.std.specs.Prelude.{IsSome, slice_set}
use Rattle.t1_sbuf.specs.declared.entry.Entry.{Entry}
use Rattle.t1_sbuf.specs.Entries.{AreEntries, next_to_send_of, next_place, sent_next, IsOldestSent}
use Rattle.t1_sbuf.proofs.Sent.{entries_sent, place_after_sent, sent_oldest, place_in, marked_at}
use Rattle.t1_sbuf.proofs.buffer.StoreBuffer.sent.Goals as goal

may_send : (es now : List Entry) → es ≡ now → IsSome (next_to_send_of now) → IsSome (next_to_send_of es)
may_send es now is some = subst (λ (m : List Entry). IsSome (next_to_send_of m)) (sym is) some

one_there : (es now : List Entry) (cursor : ℕ) → es ≡ now → cursor ≡ next_place es → IsSome (next_to_send_of now) → cursor < length es
one_there es now cursor is at some = let l = place_in es (may_send es now is some) in omega (arith, l, at)

pub returns-in_default-clause-marked : goal.returns-in_default-clause-marked
returns-in_default-clause-marked c =
    let es : List Entry = c.self.inside.entries.items in
    let l : c.self.inside.cursor < length es = one_there es c.args.self.now c.self.inside.cursor c.self.view_is c.self.invariant.1 c.requires in
    absurd (let clash : false ≡ true = c.in_default.ensures.variant.1 l in cc)

pub returns-in_default-clause-oldest : goal.returns-in_default-clause-oldest
returns-in_default-clause-oldest c =
    let es : List Entry = c.self.inside.entries.items in
    let l : c.self.inside.cursor < length es = one_there es c.args.self.now c.self.inside.cursor c.self.view_is c.self.invariant.1 c.requires in
    absurd (let clash : false ≡ true = c.in_default.ensures.variant.1 l in cc)

pub invariant_of-self-2 : goal.invariant_of-self-2
invariant_of-self-2 c =
    let es : List Entry = c.self.inside.entries.items in
    let some : IsSome (next_to_send_of es) = may_send es c.args.self.now c.self.view_is c.requires in
    let is : slice_set es c.self.inside.cursor (record c.in-Some.next.now { sent = true }) ≡ sent_next es =
    marked_at es c.self.inside.cursor c.in-Some.next.now c.self.invariant.1 some c.in-Some.ensures.value in
    let after : next_place (sent_next es) ≡ suc (next_place es) = place_after_sent es c.self.invariant.0 some in
    let at = c.self.invariant.1 in (
      subst AreEntries (sym is) (entries_sent es c.self.invariant.0 some),
      subst (λ (m : List Entry). c.self.inside.cursor + 1 ≡ next_place m) (sym is) (omega (arith, after, at)),
    )

pub returns-clause-marked : goal.returns-clause-marked
returns-clause-marked c =
    let es : List Entry = c.self.inside.entries.items in
    let some : IsSome (next_to_send_of es) = may_send es c.args.self.now c.self.view_is c.requires in
    let is : slice_set es c.self.inside.cursor (record c.in-Some.next.now { sent = true }) ≡ sent_next es =
    marked_at es c.self.inside.cursor c.in-Some.next.now c.self.invariant.1 some c.in-Some.ensures.value in
    subst (λ (m : List Entry). slice_set es c.self.inside.cursor (record c.in-Some.next.now { sent = true }) ≡ sent_next m) c.self.view_is is

pub returns-clause-oldest : goal.returns-clause-oldest
returns-clause-oldest c =
    let es : List Entry = c.self.inside.entries.items in
    let some : IsSome (next_to_send_of es) = may_send es c.args.self.now c.self.view_is c.requires in
    let is : slice_set es c.self.inside.cursor (record c.in-Some.next.now { sent = true }) ≡ sent_next es =
    marked_at es c.self.inside.cursor c.in-Some.next.now c.self.invariant.1 some c.in-Some.ensures.value in
    subst IsOldestSent (sym is) (sent_oldest es some)
