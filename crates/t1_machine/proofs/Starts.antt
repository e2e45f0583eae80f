-- The parts of a machine are made one after another.
use Rattle.std.proofs.Common.{◌≡◌, ◌∙◌, ◌+◌, ◌-◌, ◌<◌, ℕ, zero, suc, List, [], ◌∷◌, ◌++◌, length, get_or, replicate, refl, ap, sym, arith, append_assoc}
use Rattle.t1_event.specs.declared.report.Config.{Config}
use Rattle.t1_event.specs.BankRule.{BankState}
use Rattle.t1_joint.specs.Start.{Setup}
use Rattle.t1_joint.specs.Fit.{destination_start}
use Rattle.t1_core.specs.Steps.{CoreState}
use Rattle.t1_core.specs.Start.{new_core}
use Rattle.t1_packet.specs.declared.served.Served.{Served}
use Rattle.t1_machine.specs.Machine.{MachineState, HasSpare}
use Rattle.t1_machine.specs.Start.{cores_from, banks_from, machine_start}

pub one_more : {A : Type 0} (xs : List A) (x : A) (k n : ℕ) → k < n → (xs ++ x ∷ []) ++ replicate (n - (k + 1)) x ≡ xs ++ replicate (n - k) x
one_more xs x k n h =
    let s : n - k ≡ suc (n - (k + 1)) = omega arith in
    append_assoc xs (x ∷ []) (replicate (n - (k + 1)) x) ∙ ap (λ (m : ℕ). xs ++ replicate m x) (sym s)

pub one_core_more : (config : Config) (entry k n : ℕ) (cores : List CoreState) → k < n
    → (cores ++ new_core config k entry ∷ []) ++ cores_from config entry (k + 1) (n - (k + 1)) ≡ cores ++ cores_from config entry k (n - k)
unfolding cores_from
one_core_more config entry k n cores h =
    let s : n - k ≡ suc (n - (k + 1)) = omega arith in
    append_assoc cores (new_core config k entry ∷ []) (cores_from config entry (k + 1) (n - (k + 1))) ∙ ap (λ (m : ℕ). cores ++ cores_from config entry k m) (sym s)

pub one_bank_more : (w : Setup) (k n : ℕ) (banks : List BankState) → k < n
    → (banks ++ destination_start w k ∷ []) ++ banks_from w (k + 1) (n - (k + 1)) ≡ banks ++ banks_from w k (n - k)
unfolding banks_from
one_bank_more w k n banks h =
    let s : n - k ≡ suc (n - (k + 1)) = omega arith in
    append_assoc banks (destination_start w k ∷ []) (banks_from w (k + 1) (n - (k + 1))) ∙ ap (λ (m : ℕ). banks ++ banks_from w k m) (sym s)

pub cores_length : (config : Config) (entry k n : ℕ) → length (cores_from config entry k n) ≡ n
unfolding cores_from
cores_length config entry k zero = refl
cores_length config entry k (suc n) = ap suc (cores_length config entry (k + 1) n)

pub zeros : (n d : ℕ) → ◌≡◌ {A = ℕ} (get_or {A = ℕ} (replicate {A = ℕ} n 0) d 0) 0
zeros zero d = refl
zeros (suc n) zero = refl
zeros (suc n) (suc d) = zeros n d

pub banks_length : (w : Setup) (k n : ℕ) → length (banks_from w k n) ≡ n
unfolding banks_from
banks_length w k zero = refl
banks_length w k (suc n) = ap suc (banks_length w (k + 1) n)

-- ---- at the start no destination has served an access

empties : {A : Type 0} (n d : ℕ) → get_or (replicate {A = List A} n []) d [] ≡ []
empties zero d = refl
empties (suc n) zero = refl
empties (suc n) (suc d) = empties n d

no_first : {A : Type 0} (xs : List A) (x : A) (rest : List A) (P : Type 0) → xs ≡ [] → xs ≡ x ∷ rest → P
no_first {A} xs x rest P none some = let clash : ◌≡◌ {A = List A} [] (x ∷ rest) = sym none ∙ some in cc

pub start_spares : (w : Setup) (m : MachineState) → m ≡ machine_start w → HasSpare m
unfolding machine_start
start_spares w m e d access rest some =
    let first : get_or (machine_start w).served d [] ≡ access ∷ rest = ap (λ (n : MachineState). get_or n.served d []) (sym e) ∙ some in
    no_first (get_or (machine_start w).served d []) access rest _ (empties 9 d) first
