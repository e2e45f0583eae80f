-- What holds of the bits of each field.
use Rattle.std.proofs.Common.{◌≡◌, ℕ, suc, ◌+◌, ◌-◌, ◌*◌, ◌/◌, ◌%◌, ◌^◌, ◌<◌, ◌≤◌, ◌==◌, [], ◌∷◌, true, false, refl, ap, ◌∙◌, arith, ℤ, pos, negsuc, nat_lt}
use Rattle.std.specs.Prelude.{Some, IfSome}
use Rattle.std.proofs.lemmas.Bool.Decides.{nat_tests, Decides-ltb}
use Rattle.std.proofs.lemmas.Int.{ints}
use Rattle.std.proofs.lemmas.Nat.{pow-add}
use Rattle.t1_insn.specs.Ranges.{IsSigned, IsSignedSource, IsUnsigned, IsNumberSource, is_register_condition, is_read_asr, is_write_asr, is_read_privileged, is_hyperprivileged, is_write_privileged}
use Rattle.t1_insn.specs.declared.operand.Src.{Src}
use Rattle.t1_insn.specs.declared.operand.Src.TheVariants.{Reg, Imm}
use Rattle.t1_decode.specs.Fields.{signed_of, signed_source_of, number_source_of}
use Rattle.t1_encode.specs.Fields.{number_bits, signed_bits, unsigned_bits, source_bits, number_source_bits, register_condition_bits, read_asr_bits, write_asr_bits, read_privileged_bits, hyper_bits, write_privileged_bits}
use Rattle.t1_encode.proofs.Parts.{word_holds, allowed_holds}

-- a number
pub number_holds : (k n : ℕ) (P : ℕ → Type 0) → (n < 2 ^ k → P n) → IfSome (number_bits k n) P
unfolding number_bits
number_holds k n P h = allowed_holds (nat_lt n (2 ^ k)) n P (λ t. h ((Decides-ltb n (2 ^ k)).0 t))

-- a signed number
halves : (k : ℕ) → 1 ≤ k → 2 ^ k ≡ 2 ^ (k - 1) + 2 ^ (k - 1)
halves k h =
    let e : 2 ^ k ≡ 2 ^ (k - 1) * 2 ^ 1 = ap (λ n. 2 ^ n) (omega arith) ∙ pow-add 2 (k - 1) 1 in
    omega (arith, e)

pub signed_holds : (k : ℕ) (z : ℤ) (P : ℕ → Type 0) → 1 ≤ k
    → ((bits : ℕ) → bits < 2 ^ k → signed_of k bits ≡ z → IsSigned k z → P bits) → IfSome (signed_bits k z) P
unfolding signed_bits signed_of
signed_holds k (pos n) P s h = allowed_holds (nat_lt n (2 ^ (k - 1))) n P (λ t.
    let l : n < 2 ^ (k - 1) = (Decides-ltb n (2 ^ (k - 1))).0 t in
    let e : 2 ^ k ≡ 2 ^ (k - 1) + 2 ^ (k - 1) = halves k s in
    h n (omega arith) (rw t refl) (omega (arith, ints), omega (arith, ints)))
signed_holds k (negsuc n) P s h = allowed_holds (nat_lt n (2 ^ (k - 1))) (2 ^ k - suc n) P (λ t.
    let l : n < 2 ^ (k - 1) = (Decides-ltb n (2 ^ (k - 1))).0 t in
    let e : 2 ^ k ≡ 2 ^ (k - 1) + 2 ^ (k - 1) = halves k s in
    let f : nat_lt (2 ^ k - suc n) (2 ^ (k - 1)) ≡ false = grind (arith, nat_tests) in
    h (2 ^ k - suc n) (omega arith) (rw f (omega (arith, ints))) (omega (arith, ints), omega (arith, ints)))

-- a width of an immediate below bit 13, at least that of a register
pub record IsWidth (k : ℕ) : Type 0 where
  pub some : 1 ≤ k
  pub least : 2 ^ 5 ≤ 2 ^ k
  pub most : 2 ^ k ≤ 2 ^ 13
  pub cut : (bits : ℕ) → bits < 2 ^ k → (1 * 2 ^ 13 + (bits * 2 ^ 0 + 0)) / 2 ^ 0 % 2 ^ (k - 1 + 1 - 0) ≡ bits

pub width_5 : IsWidth 5
width_5 = record { some = omega arith; least = omega arith; most = omega arith; cut = λ bits h. omega arith }

pub width_6 : IsWidth 6
width_6 = record { some = omega arith; least = omega arith; most = omega arith; cut = λ bits h. omega arith }

pub width_8 : IsWidth 8
width_8 = record { some = omega arith; least = omega arith; most = omega arith; cut = λ bits h. omega arith }

pub width_10 : IsWidth 10
width_10 = record { some = omega arith; least = omega arith; most = omega arith; cut = λ bits h. omega arith }

pub width_11 : IsWidth 11
width_11 = record { some = omega arith; least = omega arith; most = omega arith; cut = λ bits h. omega arith }

pub width_13 : IsWidth 13
width_13 = record { some = omega arith; least = omega arith; most = omega arith; cut = λ bits h. omega arith }

-- i and a second operand of so many bits: nothing stands between the two
pub record IsOperand (k low : ℕ) : Type 0 where
  pub i : low / 2 ^ 13 < 2
  pub bits : low % 2 ^ 13 < 2 ^ k

register_operand : (k r : ℕ) → IsWidth k → r < 2 ^ 5 → IsOperand k r
register_operand k r w h = record { i = omega arith; bits = omega (arith, w.least) }

immediate_operand : (k bits : ℕ) → IsWidth k → bits < 2 ^ k → IsOperand k (1 * 2 ^ 13 + (bits * 2 ^ 0 + 0))
immediate_operand k bits w h = record { i = omega (arith, w.most); bits = omega (arith, w.most) }

is_register : (r : ℕ) → r < 2 ^ 5 → (r / 2 ^ 13 % 2 == 1) ≡ false
is_register r h = grind (arith, nat_tests)

is_immediate : (k bits : ℕ) → IsWidth k → bits < 2 ^ k → ((1 * 2 ^ 13 + (bits * 2 ^ 0 + 0)) / 2 ^ 13 % 2 == 1) ≡ true
is_immediate k bits w h =
    let one : (1 * 2 ^ 13 + (bits * 2 ^ 0 + 0)) / 2 ^ 13 % 2 ≡ 1 = omega (arith, w.most) in
    rw one refl

pub source_holds : (k : ℕ) → IsWidth k → (src : Src) (P : ℕ → Type 0)
    → ((low : ℕ) → IsOperand k low → signed_source_of k low ≡ src → IsSignedSource k src → P low) → IfSome (source_bits k src) P
unfolding source_bits signed_source_of
source_holds k w (Reg r) P h = number_holds 5 r P (λ l.
    h r (register_operand k r w l) (rw (is_register r l) (ap Reg (omega arith))) l)
source_holds k w (Imm z) P h =
    word_holds ((13, Some 1) ∷ (0, signed_bits k z) ∷ []) P (signed_holds k z _ w.some (λ bits l e range.
    h (1 * 2 ^ 13 + (bits * 2 ^ 0 + 0)) (immediate_operand k bits w l) (rw (is_immediate k bits w l, w.cut bits l, e) refl) range))

-- the same of an immediate that is a number
unsigned_holds : (k : ℕ) (z : ℤ) (P : ℕ → Type 0)
    → ((bits : ℕ) → bits < 2 ^ k → pos bits ≡ z → IsUnsigned k z → P bits) → IfSome (unsigned_bits k z) P
unfolding unsigned_bits
unsigned_holds k (pos n) P h = number_holds k n P (λ l. h n l refl (omega (arith, ints), omega (arith, ints)))
unsigned_holds k (negsuc n) P h = tt

pub number_source_holds : (k : ℕ) → IsWidth k → (src : Src) (P : ℕ → Type 0)
    → ((low : ℕ) → IsOperand k low → number_source_of k low ≡ src → IsNumberSource k src → P low) → IfSome (number_source_bits k src) P
unfolding number_source_bits number_source_of
number_source_holds k w (Reg r) P h = number_holds 5 r P (λ l.
    h r (register_operand k r w l) (rw (is_register r l) (ap Reg (omega arith))) l)
number_source_holds k w (Imm z) P h =
    word_holds ((13, Some 1) ∷ (0, unsigned_bits k z) ∷ []) P (unsigned_holds k z _ (λ bits l e range.
    h (1 * 2 ^ 13 + (bits * 2 ^ 0 + 0)) (immediate_operand k bits w l) (rw (is_immediate k bits w l, w.cut bits l, e) refl) range))

-- numbers that a list has
register_condition_small : (n : ℕ) → is_register_condition n ≡ true → n < 8
register_condition_small n t = grind (arith, nat_tests)

pub register_condition_holds : (n : ℕ) (P : ℕ → Type 0) → (n < 8 → is_register_condition n ≡ true → P n) → IfSome (register_condition_bits n) P
unfolding register_condition_bits
register_condition_holds n P h = allowed_holds (is_register_condition n) n P (λ t. h (register_condition_small n t) t)

read_asr_small : (n : ℕ) → is_read_asr n ≡ true → n < 32
read_asr_small n t = grind (arith, nat_tests)

pub read_asr_holds : (n : ℕ) (P : ℕ → Type 0) → (n < 32 → is_read_asr n ≡ true → P n) → IfSome (read_asr_bits n) P
unfolding read_asr_bits
read_asr_holds n P h = allowed_holds (is_read_asr n) n P (λ t. h (read_asr_small n t) t)

write_asr_small : (n : ℕ) → is_write_asr n ≡ true → n < 32
write_asr_small n t = grind (arith, nat_tests)

pub write_asr_holds : (n : ℕ) (P : ℕ → Type 0) → (n < 32 → is_write_asr n ≡ true → P n) → IfSome (write_asr_bits n) P
unfolding write_asr_bits
write_asr_holds n P h = allowed_holds (is_write_asr n) n P (λ t. h (write_asr_small n t) t)

read_privileged_small : (n : ℕ) → is_read_privileged n ≡ true → n < 32
read_privileged_small n t = grind (arith, nat_tests)

pub read_privileged_holds : (n : ℕ) (P : ℕ → Type 0) → (n < 32 → is_read_privileged n ≡ true → P n) → IfSome (read_privileged_bits n) P
unfolding read_privileged_bits
read_privileged_holds n P h = allowed_holds (is_read_privileged n) n P (λ t. h (read_privileged_small n t) t)

hyper_small : (n : ℕ) → is_hyperprivileged n ≡ true → n < 32
hyper_small n t = grind (arith, nat_tests)

pub hyper_holds : (n : ℕ) (P : ℕ → Type 0) → (n < 32 → is_hyperprivileged n ≡ true → P n) → IfSome (hyper_bits n) P
unfolding hyper_bits
hyper_holds n P h = allowed_holds (is_hyperprivileged n) n P (λ t. h (hyper_small n t) t)

write_privileged_small : (n : ℕ) → is_write_privileged n ≡ true → n < 32
write_privileged_small n t = grind (arith, nat_tests)

pub write_privileged_holds : (n : ℕ) (P : ℕ → Type 0) → (n < 32 → is_write_privileged n ≡ true → P n) → IfSome (write_privileged_bits n) P
unfolding write_privileged_bits
write_privileged_holds n P h = allowed_holds (is_write_privileged n) n P (λ t. h (write_privileged_small n t) t)
