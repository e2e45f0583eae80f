-- The slots by their numbers.
use Rattle.std.proofs.Common.{◌-◌, ◌/◌, ◌%◌, ◌<◌, ◌≤◌, ℕ, nat_lt, inl, inr, arith}
use Rattle.std.proofs.lemmas.Bool.{cases_Bool, ltb-true, ltb-false}
use Rattle.t1_num.specs.declared.chip.ChipKind.TheVariants.{T1, T2}
use Rattle.t1_shape.specs.Shapes.{Shape}
use Rattle.t1_shape.specs.Numbers.{most_strands}
use Rattle.t1_machine.specs.declared.slot.Slot.{Slot}
use Rattle.t1_machine.specs.declared.slot.Slot.TheVariants.{Exec, Drain, Take, Serve, Admit}
use Rattle.t1_machine.specs.Slots.{slots, slot_at, first_take, first_serve, first_admit, IsSlot}

-- what holds of the slots of each kind holds of the slot of a number
pub in_slot : (chip : Shape) (P : Slot → Type 0) (n : ℕ) → (n < 8 → P (Exec n))
    → (8 ≤ n → n < first_take chip → P (Drain ((n - 8) / most_strands chip) ((n - 8) % most_strands chip)))
    → (first_take chip ≤ n → n < first_serve chip → P (Take (n - first_take chip))) → (first_serve chip ≤ n → n < first_admit chip → P (Serve (n - first_serve chip)))
    → (first_admit chip ≤ n → P (Admit (n - first_admit chip))) → P (slot_at chip n)
in_slot chip P n exec drain take serve admit =
    elim (cases_Bool (nat_lt n 8)) [
      | inl a ↦ rw a (exec (ltb-true n 8 a))
      | inr a ↦ elim (cases_Bool (nat_lt n (first_take chip))) [
        | inl b ↦ rw (a, b) (drain (ltb-false n 8 a) (ltb-true n (first_take chip) b))
        | inr b ↦ elim (cases_Bool (nat_lt n (first_serve chip))) [
          | inl c ↦ rw (a, b, c) (take (ltb-false n (first_take chip) b) (ltb-true n (first_serve chip) c))
          | inr c ↦ elim (cases_Bool (nat_lt n (first_admit chip))) [
            | inl d ↦ rw (a, b, c, d) (serve (ltb-false n (first_serve chip) c) (ltb-true n (first_admit chip) d))
            | inr d ↦ rw (a, b, c, d) (admit (ltb-false n (first_admit chip) d))
          ]
        ]
      ]
    ]

pub is_slot : (chip : Shape) (n : ℕ) → n < slots chip → IsSlot chip (slot_at chip n)
is_slot T1 n h =
    in_slot T1 (λ s. IsSlot T1 s) n (λ few. few) (λ up few. (omega (arith, up, few), omega arith)) (λ up few. omega (arith, up, few)) (λ up few. omega (arith, up, few))
    (λ up. omega (arith, up, h))
is_slot T2 n h =
    in_slot T2 (λ s. IsSlot T2 s) n (λ few. few) (λ up few. (omega (arith, up, few), omega arith)) (λ up few. omega (arith, up, few)) (λ up few. omega (arith, up, few))
    (λ up. omega (arith, up, h))

-- each number of a slot has its bit in a set
pub slots_few : (chip : Shape) → slots chip ≤ 98
slots_few T1 = omega arith
slots_few T2 = omega arith
