-- What a request that is served tells.
use Rattle.std.proofs.Common.{length, subst, ◌≡◌, ℕ, ◌+◌, ◌/◌, ◌%◌, ◌<◌, ◌≤◌, ◌==◌, ◌&&◌, ◌||◌, ◌⊎◌, true, inl, inr, arith, nat_lt}
use Rattle.std.proofs.lemmas.Bool.{and_parts, or_cases, ltb-true, eqb-true}
use Rattle.t1_bank.specs.Sound.{IsSound}
use Rattle.t1_event.specs.BankRule.{BankState, fits, is_fit, is_own_access, is_size, ways_for}
use Rattle.t1_l2.specs.Array.{IsOwn}
use Rattle.t1_packet.specs.Data.{RequestData}
use Rattle.t1_packet.specs.Ops.{asked_way, op_addr, op_size}
use Rattle.t1_shape.proofs.Numbers.{place_within}
use Rattle.t1_shape.specs.Numbers.{banks}

pub record IsFit (b : BankState) (r : RequestData) : Type 0 where
  pub core : r.core < b.cores
  pub way : asked_way r.op < ways_for b.array.shape r.op
  pub within : op_addr r.op < b.ram
  pub bank : op_addr r.op / 64 % banks b.array.shape ≡ b.array.bank
  pub size : (op_size r.op ≡ 1) ⊎ ((op_size r.op ≡ 2) ⊎ ((op_size r.op ≡ 4) ⊎ (op_size r.op ≡ 8)))
  pub aligned : op_addr r.op % op_size r.op ≡ 0

size_cases : (s : ℕ) → is_size s ≡ true → (s ≡ 1) ⊎ ((s ≡ 2) ⊎ ((s ≡ 4) ⊎ (s ≡ 8)))
size_cases s e =
    elim (or_cases ((s == 1) || (s == 2) || (s == 4)) (s == 8) e) [
      | inr a ↦ inr (inr (inr (eqb-true s 8 a)))
      | inl f ↦ elim (or_cases ((s == 1) || (s == 2)) (s == 4) f) [
        | inr a ↦ inr (inr (inl (eqb-true s 4 a)))
        | inl g ↦ elim (or_cases (s == 1) (s == 2) g) [ inl a ↦ inl (eqb-true s 1 a) | inr a ↦ inr (inl (eqb-true s 2 a)) ]
      ]
    ]

pub fit : (b : BankState) (r : RequestData) → is_fit b r ≡ true → IsFit b r
unfolding fits is_own_access
fit b r e =
    let x = op_addr r.op in
    let s = op_size r.op in
    let p = and_parts (nat_lt r.core b.cores && nat_lt (asked_way r.op) (ways_for b.array.shape r.op)) (nat_lt x b.ram && (x / 64 % banks b.array.shape == b.array.bank) && is_size s && (x % s == 0)) e in
    let q = and_parts (nat_lt r.core b.cores) (nat_lt (asked_way r.op) (ways_for b.array.shape r.op)) p.0 in
    let u = and_parts (nat_lt x b.ram && (x / 64 % banks b.array.shape == b.array.bank) && is_size s) (x % s == 0) p.1 in
    let v = and_parts (nat_lt x b.ram && (x / 64 % banks b.array.shape == b.array.bank)) (is_size s) u.0 in
    let w = and_parts (nat_lt x b.ram) (x / 64 % banks b.array.shape == b.array.bank) v.0 in
    record {
      core = ltb-true r.core b.cores q.0;
      way = ltb-true (asked_way r.op) (ways_for b.array.shape r.op) q.1;
      within = ltb-true x b.ram w.0;
      bank = eqb-true (x / 64 % banks b.array.shape) b.array.bank w.1;
      size = size_cases s v.1;
      aligned = eqb-true (x % s) 0 u.1;
    }

pub mine : (b : BankState) (r : RequestData) → IsSound b → IsFit b r → IsOwn b.array (op_addr r.op)
mine b r s f = record {
  within = place_within b.array.shape (op_addr r.op) (length b.array.memory) (subst (λ (n : ℕ). op_addr r.op < n) s.whole f.within);
  bank = f.bank;
}

-- the bytes of an access lie in one line of 16, so of 32 and of 64
pub one_line : (addr size : ℕ) → (size ≡ 1) ⊎ ((size ≡ 2) ⊎ ((size ≡ 4) ⊎ (size ≡ 8))) → addr % size ≡ 0 → addr % 16 + size ≤ 16
one_line addr size (inl e) a = let b : addr % 1 ≡ 0 = subst (λ (n : ℕ). addr % n ≡ 0) e a in omega arith
one_line addr size (inr (inl e)) a = let b : addr % 2 ≡ 0 = subst (λ (n : ℕ). addr % n ≡ 0) e a in omega arith
one_line addr size (inr (inr (inl e))) a = let b : addr % 4 ≡ 0 = subst (λ (n : ℕ). addr % n ≡ 0) e a in omega arith
one_line addr size (inr (inr (inr e))) a = let b : addr % 8 ≡ 0 = subst (λ (n : ℕ). addr % n ≡ 0) e a in omega arith
