-- Slots by their numbers.
use Rattle.t1_num.specs.declared.chip.ChipKind.TheVariants.{T1, T2}
use Rattle.t1_shape.specs.Numbers.{most_strands, destinations}
use Rattle.t1_shape.specs.Shapes.{Shape}
use Rattle.std.proofs.Common.{◌≡◌, ℕ, ◌+◌, ◌-◌, ◌*◌, ◌/◌, ◌%◌, ◌<◌, nat_lt, true, false, Option, Some, None, is_some, refl, ap, ◌∙◌, subst, inl, inr, arith}
use Rattle.std.proofs.lemmas.Bool.{cases_Bool, ltb-true, ltb-false, lt-ltb, le-ltb}
use Rattle.t1_machine.specs.declared.slot.Slot.{Slot}
use Rattle.t1_machine.specs.declared.slot.Slot.TheVariants as slot
use Rattle.t1_machine.specs.Slots.{slot_at, slots, first_take, first_serve, first_admit}
use Rattle.t1_machine.specs.Machine.{MachineState, stepped}
use Rattle.t1_machine_rule.specs.Ends.{NoneEnabled}

-- ---- from a number

pub slot_cases : (chip : Shape) (P : Slot → Type 0) (n : ℕ) → n < slots chip → ((c : ℕ) → c < 8 → P (slot.Exec c)) → ((c s : ℕ) → c < 8 → s < 8 → P (slot.Drain c s)) → ((c : ℕ) → c < 8 → P (slot.Take c))
    → ((d : ℕ) → d < 9 → P (slot.Serve d)) → ((d : ℕ) → d < 9 → P (slot.Admit d)) → P (slot_at chip n)
slot_cases T1 P n l exec drain take serve admit =
    elim (cases_Bool (nat_lt n 8)) [
      | inl a ↦ rw a (exec n (ltb-true n 8 a))
      | inr a ↦ elim (cases_Bool (nat_lt n 40)) [
        | inl b ↦ rw (a, b) (let low = ltb-false n 8 a in let high = ltb-true n 40 b in drain ((n - 8) / 4) ((n - 8) % 4) (omega (arith, low, high)) (omega arith))
        | inr b ↦ elim (cases_Bool (nat_lt n 48)) [
          | inl c ↦ rw (a, b, c) (let low = ltb-false n 40 b in let high = ltb-true n 48 c in take (n - 40) (omega (arith, low, high)))
          | inr c ↦ elim (cases_Bool (nat_lt n 53)) [
            | inl d ↦ rw (a, b, c, d) (let low = ltb-false n 48 c in let high = ltb-true n 53 d in serve (n - 48) (omega (arith, low, high)))
            | inr d ↦ rw (a, b, c, d) (let low = ltb-false n 53 d in admit (n - 53) (omega (arith, low, l)))
          ]
        ]
      ]
    ]
slot_cases T2 P n l exec drain take serve admit =
    elim (cases_Bool (nat_lt n 8)) [
      | inl a ↦ rw a (exec n (ltb-true n 8 a))
      | inr a ↦ elim (cases_Bool (nat_lt n 72)) [
        | inl b ↦ rw (a, b) (let low = ltb-false n 8 a in let high = ltb-true n 72 b in drain ((n - 8) / 8) ((n - 8) % 8) (omega (arith, low, high)) (omega arith))
        | inr b ↦ elim (cases_Bool (nat_lt n 80)) [
          | inl c ↦ rw (a, b, c) (let low = ltb-false n 72 b in let high = ltb-true n 80 c in take (n - 72) (omega (arith, low, high)))
          | inr c ↦ elim (cases_Bool (nat_lt n 89)) [
            | inl d ↦ rw (a, b, c, d) (let low = ltb-false n 80 c in let high = ltb-true n 89 d in serve (n - 80) (omega (arith, low, high)))
            | inr d ↦ rw (a, b, c, d) (let low = ltb-false n 89 d in admit (n - 89) (omega (arith, low, l)))
          ]
        ]
      ]
    ]

-- ---- to a number

exec_at : (chip : Shape) (c : ℕ) → c < 8 → slot_at chip c ≡ slot.Exec c
exec_at chip c l = rw (lt-ltb c 8 l) refl

drain_at : (chip : Shape) (c s : ℕ) → c < 8 → s < most_strands chip → slot_at chip (8 + (most_strands chip * c + s)) ≡ slot.Drain c s
drain_at T1 c s lc ls =
    let a : nat_lt (8 + (4 * c + s)) 8 ≡ false = le-ltb (8 + (4 * c + s)) 8 (omega arith) in
    let b : nat_lt (8 + (4 * c + s)) 40 ≡ true = lt-ltb (8 + (4 * c + s)) 40 (omega (arith, lc, ls)) in
    let x : (8 + (4 * c + s) - 8) / 4 ≡ c = omega (arith, ls) in
    let y : (8 + (4 * c + s) - 8) % 4 ≡ s = omega (arith, ls) in
    rw (a, b) (ap (λ (k : ℕ). slot.Drain k ((8 + (4 * c + s) - 8) % 4)) x ∙ ap (λ (k : ℕ). slot.Drain c k) y)
drain_at T2 c s lc ls =
    let a : nat_lt (8 + (8 * c + s)) 8 ≡ false = le-ltb (8 + (8 * c + s)) 8 (omega arith) in
    let b : nat_lt (8 + (8 * c + s)) 72 ≡ true = lt-ltb (8 + (8 * c + s)) 72 (omega (arith, lc, ls)) in
    let x : (8 + (8 * c + s) - 8) / 8 ≡ c = omega (arith, ls) in
    let y : (8 + (8 * c + s) - 8) % 8 ≡ s = omega (arith, ls) in
    rw (a, b) (ap (λ (k : ℕ). slot.Drain k ((8 + (8 * c + s) - 8) % 8)) x ∙ ap (λ (k : ℕ). slot.Drain c k) y)

drain_in_slots : (chip : Shape) (c s : ℕ) → c < 8 → s < most_strands chip → 8 + (most_strands chip * c + s) < slots chip
drain_in_slots T1 c s lc ls = omega (arith, lc, ls)
drain_in_slots T2 c s lc ls = omega (arith, lc, ls)

take_at : (chip : Shape) (c : ℕ) → c < 8 → slot_at chip (first_take chip + c) ≡ slot.Take c
take_at T1 c l =
    let a : nat_lt (40 + c) 8 ≡ false = le-ltb (40 + c) 8 (omega arith) in
    let b : nat_lt (40 + c) 40 ≡ false = le-ltb (40 + c) 40 (omega arith) in
    let d : nat_lt (40 + c) 48 ≡ true = lt-ltb (40 + c) 48 (omega (arith, l)) in
    let x : 40 + c - 40 ≡ c = omega arith in
    rw (a, b, d) (ap (λ (k : ℕ). slot.Take k) x)
take_at T2 c l =
    let a : nat_lt (72 + c) 8 ≡ false = le-ltb (72 + c) 8 (omega arith) in
    let b : nat_lt (72 + c) 72 ≡ false = le-ltb (72 + c) 72 (omega arith) in
    let d : nat_lt (72 + c) 80 ≡ true = lt-ltb (72 + c) 80 (omega (arith, l)) in
    let x : 72 + c - 72 ≡ c = omega arith in
    rw (a, b, d) (ap (λ (k : ℕ). slot.Take k) x)

serve_at : (chip : Shape) (d : ℕ) → d < destinations chip → slot_at chip (first_serve chip + d) ≡ slot.Serve d
serve_at T1 d l =
    let a : nat_lt (48 + d) 8 ≡ false = le-ltb (48 + d) 8 (omega arith) in
    let b : nat_lt (48 + d) 40 ≡ false = le-ltb (48 + d) 40 (omega arith) in
    let c : nat_lt (48 + d) 48 ≡ false = le-ltb (48 + d) 48 (omega arith) in
    let e : nat_lt (48 + d) 53 ≡ true = lt-ltb (48 + d) 53 (omega (arith, l)) in
    let x : 48 + d - 48 ≡ d = omega arith in
    rw (a, b, c, e) (ap (λ (k : ℕ). slot.Serve k) x)
serve_at T2 d l =
    let a : nat_lt (80 + d) 8 ≡ false = le-ltb (80 + d) 8 (omega arith) in
    let b : nat_lt (80 + d) 72 ≡ false = le-ltb (80 + d) 72 (omega arith) in
    let c : nat_lt (80 + d) 80 ≡ false = le-ltb (80 + d) 80 (omega arith) in
    let e : nat_lt (80 + d) 89 ≡ true = lt-ltb (80 + d) 89 (omega (arith, l)) in
    let x : 80 + d - 80 ≡ d = omega arith in
    rw (a, b, c, e) (ap (λ (k : ℕ). slot.Serve k) x)

admit_at : (chip : Shape) (d : ℕ) → slot_at chip (first_admit chip + d) ≡ slot.Admit d
admit_at T1 d =
    let a : nat_lt (53 + d) 8 ≡ false = le-ltb (53 + d) 8 (omega arith) in
    let b : nat_lt (53 + d) 40 ≡ false = le-ltb (53 + d) 40 (omega arith) in
    let c : nat_lt (53 + d) 48 ≡ false = le-ltb (53 + d) 48 (omega arith) in
    let e : nat_lt (53 + d) 53 ≡ false = le-ltb (53 + d) 53 (omega arith) in
    let x : 53 + d - 53 ≡ d = omega arith in
    rw (a, b, c, e) (ap (λ (k : ℕ). slot.Admit k) x)
admit_at T2 d =
    let a : nat_lt (89 + d) 8 ≡ false = le-ltb (89 + d) 8 (omega arith) in
    let b : nat_lt (89 + d) 72 ≡ false = le-ltb (89 + d) 72 (omega arith) in
    let c : nat_lt (89 + d) 80 ≡ false = le-ltb (89 + d) 80 (omega arith) in
    let e : nat_lt (89 + d) 89 ≡ false = le-ltb (89 + d) 89 (omega arith) in
    let x : 89 + d - 89 ≡ d = omega arith in
    rw (a, b, c, e) (ap (λ (k : ℕ). slot.Admit k) x)

-- ---- slots that are not enabled

not_some : (o : Option MachineState) → is_some o ≡ false → o ≡ None
not_some None e = refl
not_some (Some next) e = let clash : true ≡ false = e in cc

pub none_some : (o : Option MachineState) → o ≡ None → is_some o ≡ false
none_some o e = ap (λ (p : Option MachineState). is_some p) e

module _ (m : MachineState) (none : NoneEnabled m) where
  at_slot : (n : ℕ) (s : Slot) → n < slots m.chip → slot_at m.chip n ≡ s → stepped m s ≡ None
  at_slot n s l e = subst (λ (t : Slot). stepped m t ≡ None) e (not_some (stepped m (slot_at m.chip n)) (none n l))

  pub no_exec : (c : ℕ) → c < 8 → stepped m (slot.Exec c) ≡ None
  no_exec c l = at_slot c (slot.Exec c) (omega (arith, l)) (exec_at m.chip c l)

  pub no_drain : (c s : ℕ) → c < 8 → s < most_strands m.chip → stepped m (slot.Drain c s) ≡ None
  no_drain c s lc ls = at_slot (8 + (most_strands m.chip * c + s)) (slot.Drain c s) (drain_in_slots m.chip c s lc ls) (drain_at m.chip c s lc ls)

  pub no_take : (c : ℕ) → c < 8 → stepped m (slot.Take c) ≡ None
  no_take c l = at_slot (first_take m.chip + c) (slot.Take c) (omega (arith, l)) (take_at m.chip c l)

  pub no_serve : (d : ℕ) → d < destinations m.chip → stepped m (slot.Serve d) ≡ None
  no_serve d l = at_slot (first_serve m.chip + d) (slot.Serve d) (omega (arith, l)) (serve_at m.chip d l)

  pub no_admit : (d : ℕ) → d < destinations m.chip → stepped m (slot.Admit d) ≡ None
  no_admit d l = at_slot (first_admit m.chip + d) (slot.Admit d) (omega (arith, l)) (admit_at m.chip d)
