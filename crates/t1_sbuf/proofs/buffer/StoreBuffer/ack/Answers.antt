-- The oldest was sent, so the cursor is past it.
use Rattle.std.proofs.Common.{◌≡◌, ◌≤◌, ◌-◌, ℕ, suc, drop, List, [], ◌∷◌, sym, subst, arith}
use Rattle.t1_sbuf.specs.declared.entry.Entry.{Entry}
use Rattle.t1_sbuf.specs.Entries.{AreEntries, IsOldestSent, next_place}
use Rattle.t1_sbuf.proofs.Sent.{entries_tail, place_tail}
use Rattle.t1_sbuf.proofs.buffer.StoreBuffer.ack.Goals as goal

one_past : (es : List Entry) → IsOldestSent es → 1 ≤ next_place es
one_past [] old = absurd old
one_past (e ∷ es) old = let p : next_place (e ∷ es) ≡ suc (next_place es) = place_tail e es old in omega (arith, p)

rest_are : (es : List Entry) (cursor : ℕ) → IsOldestSent es → AreEntries es → cursor ≡ next_place es → AreEntries (drop 1 es) × (cursor - 1 ≡ next_place (drop 1 es))
rest_are [] cursor old a at = absurd old
rest_are (e ∷ es) cursor old a at =
    let p : next_place (e ∷ es) ≡ suc (next_place es) = place_tail e es old in
    (entries_tail e es a, omega (arith, p, at))

pub overflow_sub-self : goal.overflow_sub-self
overflow_sub-self c =
    let old : IsOldestSent c.self.inside.entries.items = subst IsOldestSent (sym c.self.view_is) c.requires in
    let past = one_past c.self.inside.entries.items old in
    let at = c.self.invariant.1 in
    omega (arith, past, at)

pub invariant_of-self : goal.invariant_of-self
invariant_of-self c =
    let old : IsOldestSent c.self.inside.entries.items = subst IsOldestSent (sym c.self.view_is) c.requires in
    let both = rest_are c.self.inside.entries.items c.self.inside.cursor old c.self.invariant.0 c.self.invariant.1 in
    subst (λ (es : List Entry). AreEntries es × (c.self.inside.cursor - 1 ≡ next_place es)) (sym c.remove.ensures.items) both
