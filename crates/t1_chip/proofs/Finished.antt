-- Where a schedule finds no slot, none is enabled.
use Rattle.std.proofs.Common.{◌≡◌, ◌+◌, ◌<◌, ◌≤◌, ◌==◌, ◌≢◌, ◌⊎◌, inl, inr, ℕ, zero, suc, Bool, true, false, nat_lt, Option, Some, None, refl, sym, subst, arith, if◌then◌else◌}
use Rattle.std.proofs.lemmas.Bool.{eqb-true, eqb-false, ne_eqb, ltb-true, ltb-false, eq-eqb}
use Rattle.t1_machine.specs.Slots.{slot_at, slots}
use Rattle.t1_machine.specs.Machine.{MachineState, is_enabled}
use Rattle.t1_machine.specs.Runs.{enabled_from, next_number}
use Rattle.t1_machine_rule.specs.Ends.{NoneEnabled}

abbrev IsOff : MachineState → ℕ → Type 0
IsOff m n = is_enabled m (slot_at m.chip n) ≡ false

none_here : (b : Bool) (m : MachineState) (s : ℕ) (rest : Option ℕ) → is_enabled m (slot_at m.chip s) ≡ b → (if b then Some s else rest) ≡ None → IsOff m s × (rest ≡ None)
none_here true m s rest e none = let clash : ◌≡◌ {A = Option ℕ} (Some s) None = none in cc
none_here false m s rest e none = (e, none)

none_cons : (m : MachineState) (s k : ℕ) → enabled_from m s (suc k) ≡ None → IsOff m s × (enabled_from m (next_number m.chip s) k ≡ None)
unfolding enabled_from
none_cons m s k none = none_here (is_enabled m (slot_at m.chip s)) m s _ refl none

next_last : (m : MachineState) (s : ℕ) → s + 1 ≡ slots m.chip → next_number m.chip s ≡ 0
next_last m s e = let n : (s + 1 == slots m.chip) ≡ true = eq-eqb (s + 1) (slots m.chip) e in rw n refl

next_more : (m : MachineState) (s : ℕ) → s + 1 < slots m.chip → next_number m.chip s ≡ s + 1
next_more m s h = let n : (s + 1 == slots m.chip) ≡ false = ne_eqb (s + 1) (slots m.chip) (λ e. omega (arith, e)) in rw n refl

-- a number among k from s on, cyclically
abbrev IsAmong : MachineState → ℕ → ℕ → ℕ → Type 0
IsAmong m s k n = ((s ≤ n) × (n < s + k)) ⊎ (n + slots m.chip < s + k)

among_last : (m : MachineState) (s k n : ℕ) → s + 1 ≡ slots m.chip → n < slots m.chip → n ≢ s → IsAmong m s (suc k) n → IsAmong m 0 k n
among_last m s k n e h other (inl a) = absurd (omega (arith, e, h, other, a.0))
among_last m s k n e h other (inr a) = inl (omega arith, omega (arith, e, a))

among_more : (m : MachineState) (s k n : ℕ) → s + 1 < slots m.chip → n ≢ s → IsAmong m s (suc k) n → IsAmong m (s + 1) k n
among_more m s k n e other (inl a) = inl (omega (arith, other, a.0), omega (arith, a.1))
among_more m s k n e other (inr a) = inr (omega (arith, a))

-- one slot is off, and so is each of those that come after it
one_more : (k : ℕ) (m : MachineState) (s n : ℕ) → s < slots m.chip → n < slots m.chip → IsAmong m s (suc k) n → IsOff m s → enabled_from m (next_number m.chip s) k ≡ None
    → ((t : ℕ) → t < slots m.chip → enabled_from m t k ≡ None → IsAmong m t k n → IsOff m n) → IsOff m n
one_more k m s n h few among off none rest = at (n == s) refl (s + 1 == slots m.chip) refl where
  at : (b : Bool) → (n == s) ≡ b → (l : Bool) → (s + 1 == slots m.chip) ≡ l → IsOff m n
  at true e l f = subst (λ (j : ℕ). IsOff m j) (sym (eqb-true n s e)) off
  at false e true f =
      let last = eqb-true (s + 1) (slots m.chip) f in
      rest 0 (omega (arith, h)) (subst (λ (j : ℕ). enabled_from m j k ≡ None) (next_last m s last) none) (among_last m s k n last few (eqb-false n s e) among)
  at false e false f =
      let ne = eqb-false (s + 1) (slots m.chip) f in
      let more : s + 1 < slots m.chip = omega (arith, h, ne) in
      rest (s + 1) (omega (arith, more)) (subst (λ (j : ℕ). enabled_from m j k ≡ None) (next_more m s more) none) (among_more m s k n more (eqb-false n s e) among)

none_all : (k : ℕ) (m : MachineState) (s : ℕ) → s < slots m.chip → enabled_from m s k ≡ None → (n : ℕ) → n < slots m.chip → IsAmong m s k n → IsOff m n
none_all zero m s h none n few (inl a) = absurd (omega (arith, a.0, a.1))
none_all zero m s h none n few (inr a) = absurd (omega (arith, a, h, few))
none_all (suc k) m s h none n few among =
    let both = none_cons m s k none in
    one_more k m s n h few among both.0 both.1 (λ t h' none' among'. none_all k m t h' none' n few among')

among_all : (m : MachineState) (s n : ℕ) → s < slots m.chip → n < slots m.chip → IsAmong m s (slots m.chip) n
among_all m s n h few = at (nat_lt n s) refl where
  at : (b : Bool) → nat_lt n s ≡ b → IsAmong m s (slots m.chip) n
  at true e = let k = ltb-true n s e in inr (omega (arith, k))
  at false e = let k = ltb-false n s e in inl (omega (arith, k), omega (arith, few))

pub none_enabled : (m : MachineState) (s : ℕ) → s < slots m.chip → enabled_from m s (slots m.chip) ≡ None → NoneEnabled m
none_enabled m s h none n few = none_all (slots m.chip) m s h none n few (among_all m s n h few)

-- slots that are off below a number, and at it
pub off_below : (m : MachineState) (k : ℕ) → ((n : ℕ) → n < k → IsOff m n) → IsOff m k → (n : ℕ) → n < k + 1 → IsOff m n
off_below m k all here n h = at (n == k) refl where
  at : (b : Bool) → (n == k) ≡ b → IsOff m n
  at true e = subst (λ (j : ℕ). IsOff m j) (sym (eqb-true n k e)) here
  at false e = let other = eqb-false n k e in all n (omega (arith, h, other))
