-- The stores of a strand that are sent, and their times.
use Rattle.std.proofs.Common.{◌≡◌, ◌+◌, ◌<◌, ◌≤◌, ℕ, true, false, List, [], ◌∷◌, ◌++◌, length, Option, Some, None, inl, inr, refl, sym, ◌∙◌, subst, arith, length-append}
use Rattle.std.specs.Prelude.{IsSome}
use Rattle.std.specs.List.{remove}
use Rattle.t1_sbuf.specs.declared.entry.Entry.{Entry}
use Rattle.t1_sbuf.specs.Entries.{next_unsent, next_to_send_of, sent_next, IsOldestSent}
use Rattle.t1_sbuf.proofs.Sent.{next_if, next_after, sent_after, sent_here}
use Rattle.t1_core.specs.Stores.{AreSent}

-- a store enters that is not sent
pub sent_push : (es : List Entry) (ts : List ℕ) (e : Entry) → AreSent es ts → e.sent ≡ false → AreSent (es ++ e ∷ []) ts
sent_push [] [] e a is = (is, tt)
sent_push [] (t ∷ ts) e a is = absurd a
sent_push (f ∷ es) [] e a is = (a.0, sent_push es [] e a.1 is)
sent_push (f ∷ es) (t ∷ ts) e a is = (a.0, sent_push es ts e a.1 is)

-- the next one is sent
next_sent : (es : List Entry) (ts : List ℕ) (t : ℕ) (e : Entry) → next_unsent es ≡ Some e → AreSent es ts → AreSent (sent_next es) (ts ++ t ∷ [])
next_sent [] ts t e h a = let clash : ◌≡◌ {A = Option Entry} None (Some e) = h in cc
next_sent (d ∷ ds) [] t e h a = subst (λ (es : List Entry). AreSent es (t ∷ [])) (sym (sent_here d ds a.0)) (refl, a.1)
next_sent (d ∷ ds) (u ∷ us) t e h a =
    let next : next_unsent ds ≡ Some e = elim (next_after d.sent d e (next_unsent ds) h) [
      | inl p ↦ p.1
      | inr p ↦ absurd (let clash : true ≡ false = sym a.0 ∙ p.0 in cc)
    ] in
    subst (λ (es : List Entry). AreSent es (u ∷ us ++ t ∷ [])) (sym (sent_after d ds a.0)) (a.0, next_sent ds us t e next a.1)

pub sent_more : (es : List Entry) (ts : List ℕ) (t : ℕ) → AreSent es ts → IsSome (next_to_send_of es) → AreSent (sent_next es) (ts ++ t ∷ [])
sent_more es ts t a some = let n = next_if es some in next_sent es ts t n.0 n.1.is a

-- no more times than stores
pub times_few : (es : List Entry) (ts : List ℕ) → AreSent es ts → length ts ≤ length es
times_few [] [] a = omega arith
times_few [] (t ∷ ts) a = absurd a
times_few (e ∷ es) [] a = omega arith
times_few (e ∷ es) (t ∷ ts) a = let f = times_few es ts a.1 in omega (arith, f)

-- there is room for the time of the next one
pub room_for_time : (es : List Entry) (ts : List ℕ) → AreSent es ts → IsSome (next_to_send_of es) → length (sent_next es) ≤ 8 → length ts < 8
room_for_time es ts a some few =
    let more : length (ts ++ 0 ∷ []) ≤ length (sent_next es) = times_few (sent_next es) (ts ++ 0 ∷ []) (sent_more es ts 0 a some) in
    let one : length (ts ++ 0 ∷ []) ≡ length ts + 1 = length-append ts (0 ∷ []) in
    omega arith

-- the oldest is acknowledged, and leaves with its time
pub some_time : (es : List Entry) (ts : List ℕ) → AreSent es ts → IsOldestSent es → 0 < length ts
some_time [] ts a old = absurd old
some_time (e ∷ es) [] a old = absurd (let clash : false ≡ true = sym a.0 ∙ old in cc)
some_time (e ∷ es) (t ∷ ts) a old = omega arith

pub sent_less : (e : Entry) (es : List Entry) (ts : List ℕ) → AreSent (e ∷ es) ts → IsOldestSent (e ∷ es) → AreSent es (remove ts 0)
sent_less e es [] a old = absurd (let clash : false ≡ true = sym a.0 ∙ old in cc)
sent_less e es (t ∷ ts) a old = a.1
