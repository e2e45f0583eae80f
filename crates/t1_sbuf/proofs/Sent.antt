-- Which entries are sent, where they go, and which is next.
use Rattle.std.proofs.Common.{◌≡◌, ◌⊎◌, ◌+◌, ◌<◌, ◌≤◌, ◌==◌, ℕ, zero, suc, Bool, true, false, not, ◌&&◌, ◌||◌, if◌then◌else◌, List, [], ◌∷◌, ◌++◌, length, set, get_or, Option, Some, None, inl, inr, refl, ap, sym, ◌∙◌, subst, arith, length-append}
use Rattle.std.specs.Prelude.{IsSome}
use Rattle.std.specs.List.{All, slice_get}
use Rattle.std.proofs.lemmas.Bool.{cases_Bool, and_parts, not-true, or_cases, eq-eqb, eqb-true, ne_eqb}
use Rattle.std.proofs.lemmas.List.Elements.{All-nil, All-push, All-cons, All-head, All-tail}
use Rattle.t1_sbuf.specs.declared.entry.Entry.{Entry}
use Rattle.t1_sbuf.specs.declared.entry.Look.TheVariants.{Clear}
use Rattle.t1_sbuf.specs.Looks.{look_of, look_from}
use Rattle.t1_sbuf.specs.Entries.{IsStore, IsOldestSent, are_unsent, are_sent_to, AreSentFirst, AreTogether, AreEntries, next_unsent, next_place, if_together, next_to_send_of, sent_next}

pub no_entries : AreEntries [] × (0 ≡ next_place [])
unfolding next_place
no_entries = (record { few = omega arith; stores = All-nil IsStore; front = tt; together = tt }, refl)

-- one part stays and the other follows
and_then : (a b c : Bool) → (b ≡ true → c ≡ true) → (a && b) ≡ true → (a && c) ≡ true
and_then true b c f h = f h
and_then false b c f h = h

-- ---- a store enters that is not sent

unsent_push : (es : List Entry) (e : Entry) → are_unsent es ≡ true → e.sent ≡ false → are_unsent (es ++ e ∷ []) ≡ true
unsent_push [] e unsent is = rw is refl
unsent_push (f ∷ es) e unsent is = and_then (not f.sent) (are_unsent es) (are_unsent (es ++ e ∷ [])) (λ h. unsent_push es e h is) unsent

front_push : (es : List Entry) (e : Entry) → AreSentFirst es → e.sent ≡ false → AreSentFirst (es ++ e ∷ [])
front_push [] e front is = (λ f. refl, tt)
front_push (f ∷ es) e front is = (λ off. unsent_push es e (front.0 off) is, front_push es e front.1 is)

sent_to_push : (dest : ℕ) (es : List Entry) (e : Entry) → are_sent_to dest es ≡ true → e.sent ≡ false → are_sent_to dest (es ++ e ∷ []) ≡ true
sent_to_push dest [] e all is = rw is refl
sent_to_push dest (f ∷ es) e all is =
    and_then (not f.sent || (f.dest == dest)) (are_sent_to dest es) (are_sent_to dest (es ++ e ∷ [])) (λ h. sent_to_push dest es e h is) all

together_push : (es : List Entry) (e : Entry) → AreTogether es → e.sent ≡ false → AreTogether (es ++ e ∷ [])
together_push [] e all is = (λ on. refl, tt)
together_push (f ∷ es) e all is = (λ on. sent_to_push f.dest es e (all.0 on) is, together_push es e all.1 is)

pub entries_push : (es : List Entry) (e : Entry) → AreEntries es → length es < 8 → IsStore e → e.sent ≡ false → AreEntries (es ++ e ∷ [])
entries_push es e a room store is =
    let size : length (es ++ e ∷ []) ≡ length es + 1 = length-append es (e ∷ []) in
    record { few = omega arith; stores = All-push IsStore es e a.stores store; front = front_push es e a.front is; together = together_push es e a.together is }

pub place_push : (es : List Entry) (e : Entry) → e.sent ≡ false → next_place (es ++ e ∷ []) ≡ next_place es
unfolding next_place
place_push [] e is = rw is refl
place_push (f ∷ es) e is = ap (λ (n : ℕ). if f.sent then suc n else 0) (place_push es e is)

-- ---- the oldest leaves

pub entries_tail : (e : Entry) (es : List Entry) → AreEntries (e ∷ es) → AreEntries es
entries_tail e es a =
    let few : suc (length es) ≤ 8 = a.few in
    record { few = omega arith; stores = All-tail IsStore e es a.stores; front = a.front.1; together = a.together.1 }

-- where the oldest is sent, the cursor is past it
pub place_tail : (e : Entry) (es : List Entry) → e.sent ≡ true → next_place (e ∷ es) ≡ suc (next_place es)
unfolding next_place
place_tail e es on = rw on refl

-- ---- the entry at the cursor

at_place : (s : Bool) (e : Entry) (es : List Entry) → slice_get es (next_place es) ≡ next_unsent es
    → slice_get (e ∷ es) (if s then suc (next_place es) else 0) ≡ (if s then next_unsent es else Some e)
at_place true e es h = h
at_place false e es h = refl

pub place_is_next : (es : List Entry) → slice_get es (next_place es) ≡ next_unsent es
unfolding next_place
place_is_next [] = refl
place_is_next (e ∷ es) = at_place e.sent e es (place_is_next es)

-- entries of which none is sent go anywhere
pub unsent_to : (dest : ℕ) (es : List Entry) → are_unsent es ≡ true → are_sent_to dest es ≡ true
unsent_to dest [] h = refl
unsent_to dest (e ∷ es) h =
    let p = and_parts (not e.sent) (are_unsent es) h in
    rw (not-true e.sent p.0, unsent_to dest es p.1) refl

next_some : (es : List Entry) (e : Entry) → next_unsent es ≡ Some e → are_sent_to e.dest es ≡ true → next_to_send_of es ≡ Some e
unfolding next_to_send_of
next_some es e is to = rw is (rw to refl)

next_apart : (es : List Entry) (e : Entry) → next_unsent es ≡ Some e → are_sent_to e.dest es ≡ false → next_to_send_of es ≡ None
unfolding next_to_send_of
next_apart es e is to = rw is (rw to refl)

next_none : (es : List Entry) → next_unsent es ≡ None → next_to_send_of es ≡ None
unfolding next_to_send_of
next_none es is = rw is refl

-- ---- it is sent

-- the next one, where there is one that may be sent
pub record IsNext (es : List Entry) (e : Entry) : Type 0 where
  pub is : next_unsent es ≡ Some e
  pub goes : are_sent_to e.dest es ≡ true

pub next_if : (es : List Entry) → IsSome (next_to_send_of es) → (e : Entry) × IsNext es e
unfolding next_to_send_of
next_if es some = by (next_unsent es) refl some
  where
    chosen : (b : Bool) (e : Entry) → IsSome (if b then Some e else None) → b ≡ true
    chosen true e h = refl
    chosen false e h = let clash : false ≡ true = h in cc

    by : (o : Option Entry) → next_unsent es ≡ o → IsSome (if_together es o) → (e : Entry) × IsNext es e
    by None is h = let clash : false ≡ true = h in cc
    by (Some e) is h = (e, record { is = is; goes = chosen (are_sent_to e.dest es) e h })

-- what follows the oldest, where that is sent; else the oldest is the next one
pub next_after : (s : Bool) (d e : Entry) (o : Option Entry) → (if s then o else Some d) ≡ Some e → ((s ≡ true) × (o ≡ Some e)) ⊎ ((s ≡ false) × (d ≡ e))
next_after true d e o h = inl (refl, h)
next_after false d e o h = inr (refl, (let q : d ≡ e = cc (h) in q))

abbrev pub mark : Entry → Entry
mark e = record e { sent = true }

pub sent_after : (e : Entry) (es : List Entry) → e.sent ≡ true → sent_next (e ∷ es) ≡ e ∷ sent_next es
unfolding sent_next
sent_after e es on = rw on refl

pub sent_here : (e : Entry) (es : List Entry) → e.sent ≡ false → sent_next (e ∷ es) ≡ mark e ∷ es
unfolding sent_next
sent_here e es off = rw off refl

pub sent_length : (es : List Entry) → length (sent_next es) ≡ length es
unfolding sent_next
sent_length [] = refl
sent_length (e ∷ es) = elim (cases_Bool e.sent) [ inl on ↦ rw on (ap suc (sent_length es)) | inr off ↦ rw off refl ]

all_sent : (es : List Entry) → All IsStore es → All IsStore (sent_next es)
unfolding sent_next
all_sent [] all = all
all_sent (e ∷ es) all =
    let store : IsStore e = All-head IsStore e es all in
    let marked : IsStore (mark e) = record { size = store.size; aligned = store.aligned; value = store.value } in
    let rest : All IsStore es = All-tail IsStore e es all in
    elim (cases_Bool e.sent) [
      | inl on ↦ subst (λ (xs : List Entry). All IsStore xs) (sym (sent_after e es on)) (All-cons IsStore e (sent_next es) store (all_sent es rest))
      | inr off ↦ subst (λ (xs : List Entry). All IsStore xs) (sym (sent_here e es off)) (All-cons IsStore (mark e) es marked rest)
    ]

no_next : (e : Entry) → next_unsent [] ≡ Some e → ⊥
no_next e h = let clash : ◌≡◌ {A = Option Entry} None (Some e) = h in cc

unsent_not : (e : Entry) → e.sent ≡ false → (mark e).sent ≡ false → ⊥
unsent_not e off on = let clash : true ≡ false = on in cc

first_place : (e : Entry) (es : List Entry) → e.sent ≡ false → next_place (e ∷ es) ≡ 0
unfolding next_place
first_place e es off = rw off refl

unsent_place : (es : List Entry) → are_unsent es ≡ true → next_place es ≡ 0
unfolding next_place
unsent_place [] h = refl
unsent_place (e ∷ es) h = first_place e es (not-true e.sent (and_parts (not e.sent) (are_unsent es) h).0)

-- one that is sent, in a list that goes to a destination, goes there
goes_there : (d e : Entry) → d.sent ≡ true → (not d.sent || (d.dest == e.dest)) ≡ true → d.dest ≡ e.dest
goes_there d e on h = elim (or_cases (not d.sent) (d.dest == e.dest) h) [
  | inl off ↦ absurd (let no : d.sent ≡ false = not-true d.sent off in let clash : true ≡ false = sym on ∙ no in cc)
  | inr same ↦ eqb-true d.dest e.dest same
]

module _ (e : Entry) where
  front_sent : (es : List Entry) → next_unsent es ≡ Some e → AreSentFirst es → AreSentFirst (sent_next es)
  front_sent [] h front = absurd (no_next e h)
  front_sent (d ∷ ds) h front = elim (next_after d.sent d e (next_unsent ds) h) [
    | inl p ↦ subst AreSentFirst (sym (sent_after d ds p.0)) ((λ off. let clash : true ≡ false = sym p.0 ∙ off in cc), front_sent ds p.1 front.1)
    | inr p ↦ subst AreSentFirst (sym (sent_here d ds p.0)) ((λ on. let clash : true ≡ false = on in cc), front.1)
  ]

  place_sent : (es : List Entry) → next_unsent es ≡ Some e → AreSentFirst es → next_place (sent_next es) ≡ suc (next_place es)
  unfolding next_place
  place_sent [] h front = absurd (no_next e h)
  place_sent (d ∷ ds) h front = elim (next_after d.sent d e (next_unsent ds) h) [
    | inl p ↦ ap next_place (sent_after d ds p.0) ∙ (place_tail d (sent_next ds) p.0 ∙ (ap suc (place_sent ds p.1 front.1) ∙ ap suc (sym (place_tail d ds p.0))))
    | inr p ↦ ap next_place (sent_here d ds p.0) ∙ (ap suc (unsent_place ds (front.0 p.0)) ∙ sym (ap suc (first_place d ds p.0)))
  ]

  -- what goes to its destination still does with it
  goes_sent : (es : List Entry) → next_unsent es ≡ Some e → are_sent_to e.dest es ≡ true → are_sent_to e.dest (sent_next es) ≡ true
  goes_sent [] h to = absurd (no_next e h)
  goes_sent (d ∷ ds) h to =
      let t = and_parts (not d.sent || (d.dest == e.dest)) (are_sent_to e.dest ds) to in
      elim (next_after d.sent d e (next_unsent ds) h) [
        | inl p ↦ ap (are_sent_to e.dest) (sent_after d ds p.0) ∙ rw (t.0, goes_sent ds p.1 t.1) refl
        | inr p ↦ ap (are_sent_to e.dest) (sent_here d ds p.0) ∙ rw (eq-eqb d.dest e.dest (ap (λ (x : Entry). x.dest) p.1), t.1) refl
      ]

  together_sent : (es : List Entry) → next_unsent es ≡ Some e → are_sent_to e.dest es ≡ true → AreTogether es → AreTogether (sent_next es)
  together_sent [] h to all = absurd (no_next e h)
  together_sent (d ∷ ds) h to all =
      let t = and_parts (not d.sent || (d.dest == e.dest)) (are_sent_to e.dest ds) to in
      elim (next_after d.sent d e (next_unsent ds) h) [
        | inl p ↦
            let same : e.dest ≡ d.dest = sym (goes_there d e p.0 t.0) in
            subst AreTogether (sym (sent_after d ds p.0))
            ((λ on. subst (λ (to : ℕ). are_sent_to to (sent_next ds) ≡ true) same (goes_sent ds p.1 t.1)), together_sent ds p.1 t.1 all.1)
        | inr p ↦
            let same : e.dest ≡ d.dest = ap (λ (x : Entry). x.dest) (sym p.1) in
            subst AreTogether (sym (sent_here d ds p.0)) ((λ on. subst (λ (to : ℕ). are_sent_to to ds ≡ true) same t.1), all.1)
      ]

  oldest_sent : (es : List Entry) → next_unsent es ≡ Some e → IsOldestSent (sent_next es)
  oldest_sent [] h = absurd (no_next e h)
  oldest_sent (d ∷ ds) h = elim (next_after d.sent d e (next_unsent ds) h) [
    | inl p ↦ subst IsOldestSent (sym (sent_after d ds p.0)) p.0
    | inr p ↦ subst IsOldestSent (sym (sent_here d ds p.0)) refl
  ]

  set_sent : (es : List Entry) → next_unsent es ≡ Some e → set es (next_place es) (mark e) ≡ sent_next es
  set_sent [] h = absurd (no_next e h)
  set_sent (d ∷ ds) h = elim (next_after d.sent d e (next_unsent ds) h) [
    | inl p ↦ ap (λ (n : ℕ). set (d ∷ ds) n (mark e)) (place_tail d ds p.0) ∙ (ap (λ (xs : List Entry). d ∷ xs) (set_sent ds p.1) ∙ sym (sent_after d ds p.0))
    | inr p ↦ ap (λ (n : ℕ). set (d ∷ ds) n (mark e)) (first_place d ds p.0) ∙ (ap (λ (x : Entry). mark x ∷ ds) (sym p.1) ∙ sym (sent_here d ds p.0))
  ]

  place_below : (es : List Entry) → next_unsent es ≡ Some e → next_place es < length es
  place_below [] h = absurd (no_next e h)
  place_below (d ∷ ds) h = elim (next_after d.sent d e (next_unsent ds) h) [
    | inl p ↦ (let q = place_tail d ds p.0 in let l = place_below ds p.1 in omega (arith, q, l))
    | inr p ↦ (let q = first_place d ds p.0 in omega (arith, q))
  ]

  entries_sent_if : (es : List Entry) → IsNext es e → AreEntries es → AreEntries (sent_next es)
  entries_sent_if es n a = record {
    few = (let l = sent_length es in let few = a.few in omega (arith, l, few));
    stores = all_sent es a.stores;
    front = front_sent es n.is a.front;
    together = together_sent es n.is n.goes a.together;
  }

-- ---- what the code does at the cursor

pub entries_sent : (es : List Entry) → AreEntries es → IsSome (next_to_send_of es) → AreEntries (sent_next es)
entries_sent es a some = let n = next_if es some in entries_sent_if n.0 es n.1 a

pub place_after_sent : (es : List Entry) → AreEntries es → IsSome (next_to_send_of es) → next_place (sent_next es) ≡ suc (next_place es)
place_after_sent es a some = let n = next_if es some in place_sent n.0 es n.1.is a.front

pub sent_oldest : (es : List Entry) → IsSome (next_to_send_of es) → IsOldestSent (sent_next es)
sent_oldest es some = let n = next_if es some in oldest_sent n.0 es n.1.is

pub place_in : (es : List Entry) → IsSome (next_to_send_of es) → next_place es < length es
place_in es some = let n = next_if es some in place_below n.0 es n.1.is

got : (es : List Entry) (n : ℕ) (e : Entry) → n < length es → e ≡ get_or es n e → slice_get es n ≡ Some e
got [] n e l h = absurd (omega (arith, l))
got (d ∷ ds) zero e l h = ap (λ (x : Entry). Some x) (sym h)
got (d ∷ ds) (suc n) e l h = got ds n e (omega (arith, l)) h

pub marked_at : (es : List Entry) (cursor : ℕ) (e : Entry) → cursor ≡ next_place es → IsSome (next_to_send_of es) → e ≡ get_or es cursor e
    → set es cursor (mark e) ≡ sent_next es
marked_at es cursor e is some at =
    let n = next_if es some in
    let found : e ≡ get_or es (next_place es) e = subst (λ (k : ℕ). e ≡ get_or es k e) is at in
    let next : next_unsent es ≡ Some e = sym (place_is_next es) ∙ got es (next_place es) e (place_below n.0 es n.1.is) found in
    ap (λ (k : ℕ). set es k (mark e)) is ∙ set_sent e es next

-- ---- what may be sent, as the code finds it

past : (es : List Entry) (n : ℕ) → length es ≤ n → slice_get es n ≡ None
past [] n l = refl
past (e ∷ es) zero l = absurd (omega (arith, l))
past (e ∷ es) (suc n) l = past es n (omega (arith, l))

pub none_past : (es : List Entry) → length es ≤ next_place es → next_to_send_of es ≡ None
none_past es l = next_none es (sym (place_is_next es) ∙ past es (next_place es) l)

-- those that are sent go where the oldest of them goes
sent_to : (es : List Entry) (d : Entry) (dest : ℕ) → AreEntries es → (0 < next_place es → (get_or es 0 d).dest ≡ dest) → are_sent_to dest es ≡ true
sent_to [] d dest a same = refl
sent_to (e ∷ es) d dest a same =
    elim (cases_Bool e.sent) [
      | inl on ↦
          let goes : e.dest ≡ dest = same (let q = place_tail e es on in omega (arith, q)) in
          let rest : are_sent_to dest es ≡ true = subst (λ (to : ℕ). are_sent_to to es ≡ true) goes (a.together.0 on) in
          rw (on, eq-eqb e.dest dest goes, rest) refl
      | inr off ↦ rw (off, unsent_to dest es (a.front.0 off)) refl
    ]

-- one of them goes elsewhere
not_to : (es : List Entry) (d : Entry) (dest : ℕ) → 0 < next_place es → ((get_or es 0 d).dest ≡ dest → ⊥) → are_sent_to dest es ≡ false
unfolding next_place
not_to [] d dest l other = absurd (omega (arith, l))
not_to (e ∷ es) d dest l other =
    elim (cases_Bool e.sent) [
      | inl on ↦ rw (on, ne_eqb e.dest dest other) refl
      | inr off ↦ absurd (let q = first_place e es off in omega (arith, q, l))
    ]

here : (es : List Entry) (e : Entry) → next_place es < length es → e ≡ get_or es (next_place es) e → next_unsent es ≡ Some e
here es e l at = sym (place_is_next es) ∙ got es (next_place es) e l at

pub some_here : (es : List Entry) (e d : Entry) → AreEntries es → next_place es < length es → e ≡ get_or es (next_place es) e
    → (0 < next_place es → (get_or es 0 d).dest ≡ e.dest) → next_to_send_of es ≡ Some e
some_here es e d a l at same = next_some es e (here es e l at) (sent_to es d e.dest a same)

pub none_here : (es : List Entry) (e d : Entry) → next_place es < length es → e ≡ get_or es (next_place es) e
    → 0 < next_place es → ((get_or es 0 d).dest ≡ e.dest → ⊥) → next_to_send_of es ≡ None
none_here es e d l at first other = next_apart es e (here es e l at) (not_to es d e.dest first other)

-- an empty buffer says nothing
pub look_of_none : (es : List Entry) (addr size : ℕ) → es ≡ [] → look_of es addr size ≡ Clear
unfolding look_from
look_of_none es addr size e = ap (λ (xs : List Entry). look_of xs addr size) e
