-- Slots that are not enabled are passed over.
use Rattle.std.proofs.Common.{◌≡◌, ◌+◌, ◌-◌, ◌<◌, ◌≤◌, ◌==◌, ◌∙◌, ℕ, zero, suc, true, false, Some, None, refl, ap, sym, subst, arith}
use Rattle.std.proofs.lemmas.Bool.{ne_eqb}
use Rattle.t1_machine.specs.Slots.{slot_at, slots}
use Rattle.t1_machine.specs.Machine.{MachineState, is_enabled}
use Rattle.t1_machine.specs.Runs.{enabled_from, next_number}
use Rattle.t1_chip.specs.Chips.{wrapped}

start_here : (m : MachineState) (s : ℕ) → s < slots m.chip → wrapped m.chip (s + 0) ≡ s
start_here m s h =
    let z : s + 0 ≡ s = omega arith in
    let n : (s == slots m.chip) ≡ false = ne_eqb s (slots m.chip) (λ e. omega (arith, e)) in
    ap (λ (k : ℕ). wrapped m.chip k) z ∙ rw n refl

one_passed : (m : MachineState) (s n : ℕ) → is_enabled m (slot_at m.chip s) ≡ false → enabled_from m s (suc n) ≡ enabled_from m (next_number m.chip s) n
unfolding enabled_from
one_passed m s n e = rw e refl

pub jump : (j : ℕ) (m : MachineState) (s n : ℕ) → s < slots m.chip → s + j ≤ slots m.chip → j ≤ n → ((i : ℕ) → i < j → is_enabled m (slot_at m.chip (s + i)) ≡ false)
    → enabled_from m s n ≡ enabled_from m (wrapped m.chip (s + j)) (n - j)
jump zero m s n h few most off =
    let z : n - 0 ≡ n = omega arith in
    rw (start_here m s h, z) refl
jump (suc j) m s zero h few most off = absurd (omega arith)
jump (suc zero) m s (suc n) h few most off =
    let z : s + 0 ≡ s = omega arith in
    let here : is_enabled m (slot_at m.chip s) ≡ false = subst (λ (k : ℕ). is_enabled m (slot_at m.chip k) ≡ false) z (off 0 (omega arith)) in
    let left : suc n - 1 ≡ n = omega arith in
    rw left (one_passed m s n here)
jump (suc (suc j)) m s (suc n) h few most off =
    let z : s + 0 ≡ s = omega arith in
    let here : is_enabled m (slot_at m.chip s) ≡ false = subst (λ (k : ℕ). is_enabled m (slot_at m.chip k) ≡ false) z (off 0 (omega arith)) in
    let one : next_number m.chip s ≡ s + 1 = let k : (s + 1 == slots m.chip) ≡ false = ne_eqb (s + 1) (slots m.chip) (λ e. omega (arith, e)) in rw k refl in
    let sum : (s + 1) + suc j ≡ s + suc (suc j) = omega arith in
    let left : suc n - suc (suc j) ≡ n - suc j = omega arith in
    let rest : enabled_from m (s + 1) n ≡ enabled_from m (wrapped m.chip ((s + 1) + suc j)) (n - suc j) =
    jump (suc j) m (s + 1) n (omega arith) (omega arith) (omega arith)
    (λ i k. subst (λ (x : ℕ). is_enabled m (slot_at m.chip x) ≡ false) (assoc s i) (off (suc i) (omega arith))) in
    one_passed m s n here
    ∙ (ap (λ (x : ℕ). enabled_from m x n) one
    ∙ (rest ∙ (ap (λ (x : ℕ). enabled_from m (wrapped m.chip x) (n - suc j)) sum ∙ ap (λ (k : ℕ). enabled_from m (wrapped m.chip (s + suc (suc j))) k) (sym left))))
  where
    assoc : (s i : ℕ) → s + suc i ≡ (s + 1) + i
    assoc s i = omega arith

pub nothing_left : (m : MachineState) (j s n : ℕ) → s < slots m.chip → s + j ≤ slots m.chip → n ≤ j → ((i : ℕ) → i < j → is_enabled m (slot_at m.chip (s + i)) ≡ false) → enabled_from m s n ≡ None
unfolding enabled_from
nothing_left m j s n h few most off =
    let z : n - n ≡ 0 = omega arith in
    jump n m s n h (omega arith) (omega arith) (λ i k. off i (omega arith)) ∙ rw z refl

pub none_left : (m : MachineState) (s : ℕ) → enabled_from m s 0 ≡ None
unfolding enabled_from
none_left m s = refl

pub found_first : (m : MachineState) (s n : ℕ) → 0 < n → is_enabled m (slot_at m.chip s) ≡ true → enabled_from m s n ≡ Some s
unfolding enabled_from
found_first m s zero h e = absurd (omega arith)
found_first m s (suc n) h e = rw e refl

pub passed : (m : MachineState) (s n : ℕ) → 0 < n → is_enabled m (slot_at m.chip s) ≡ false → enabled_from m (next_number m.chip s) (n - 1) ≡ enabled_from m s n
passed m s zero h e = absurd (omega arith)
passed m s (suc n) h e = let z : suc n - 1 ≡ n = omega arith in rw z (sym (one_passed m s n e))
