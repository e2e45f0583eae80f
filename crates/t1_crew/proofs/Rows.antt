-- Slots and agents in a row.
use Rattle.std.proofs.Common.{◌≡◌, ◌<◌, ℕ, zero, suc, List, [], ◌∷◌, ◌++◌, Bool, true, length, get_or, set, refl, sym, ap, ◌∙◌, append_assoc, arith}
use Rattle.t1_crew.specs.Id.{Id}
use Rattle.t1_crew.specs.declared.agent.Agent as agent
use Rattle.t1_crew.specs.declared.agent.Slot.{Slot}
use Rattle.t1_crew.specs.Slots.{slot_id, slot_ids, ids, AreOver}

ids_snoc : {A : Type 0} (id : A → Id) (xs : List A) (a : A) → ids id (xs ++ a ∷ []) ≡ ids id xs ++ id a ∷ []
ids_snoc id [] a = refl
ids_snoc id (x ∷ xs) a = ap (λ l. id x ∷ l) (ids_snoc id xs a)

pub over_snoc : {A : Type 0} (over : A → Bool) (xs : List A) (a : A) → AreOver over xs → over a ≡ true → AreOver over (xs ++ a ∷ [])
over_snoc over [] a h e = (e, tt)
over_snoc over (x ∷ xs) a h e = (h.0, over_snoc over xs a h.1 e)

module _ {A : Type 0} {g : agent.Ghosts A} where
  slot_ids_snoc : (xs : List (Slot A g)) (s : Slot A g) → slot_ids (xs ++ s ∷ []) ≡ slot_ids xs ++ slot_id s ∷ []
  slot_ids_snoc [] s = refl
  slot_ids_snoc (x ∷ xs) s = ap (λ l. slot_id x ∷ l) (slot_ids_snoc xs s)

  pub slot_ids_set : (xs : List (Slot A g)) (i : ℕ) (s t : Slot A g) → t ≡ get_or xs i t → i < length xs → slot_id s ≡ slot_id t → slot_ids (set xs i s) ≡ slot_ids xs
  slot_ids_set [] i s t h k e = refl
  slot_ids_set (x ∷ xs) zero s t h k e = ap (λ l. l ∷ slot_ids xs) (e ∙ ap slot_id h)
  slot_ids_set (x ∷ xs) (suc i) s t h k e = ap (λ l. slot_id x ∷ l) (slot_ids_set xs i s t h (omega arith) e)

  -- one more slot for the next agent
  pub starts : (xs ys : List (Slot A g)) (s : Slot A g) (a : A) (before rest : List A) (all : List Id) → ys ≡ xs ++ s ∷ [] → before ≡ a ∷ rest → slot_id s ≡ g.id a
      → slot_ids xs ++ ids g.id before ≡ all → slot_ids ys ++ ids g.id rest ≡ all
  starts xs ys s a before rest all ys_is before_is e h =
      ap (λ l. slot_ids l ++ ids g.id rest) ys_is ∙ ap (λ l. l ++ ids g.id rest) (slot_ids_snoc xs s) ∙ append_assoc (slot_ids xs) (slot_id s ∷ []) (ids g.id rest)
      ∙ ap (λ i. slot_ids xs ++ (i ∷ ids g.id rest)) e ∙ ap (λ l. slot_ids xs ++ ids g.id l) (sym before_is) ∙ h

  -- one more agent from the next slot
  pub joins : (xs ys : List A) (a : A) (s : Slot A g) (ss rest : List (Slot A g)) (all : List Id) → ys ≡ xs ++ a ∷ [] → ss ≡ s ∷ rest → g.id a ≡ slot_id s
      → ids g.id xs ++ slot_ids ss ≡ all → ids g.id ys ++ slot_ids rest ≡ all
  joins xs ys a s ss rest all ys_is ss_is e h =
      ap (λ l. ids g.id l ++ slot_ids rest) ys_is ∙ ap (λ l. l ++ slot_ids rest) (ids_snoc g.id xs a) ∙ append_assoc (ids g.id xs) (g.id a ∷ []) (slot_ids rest)
      ∙ ap (λ i. ids g.id xs ++ (i ∷ slot_ids rest)) e ∙ ap (λ l. ids g.id xs ++ slot_ids l) (sym ss_is) ∙ h
