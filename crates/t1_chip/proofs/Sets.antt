-- Sets of slots.
use Rattle.std.proofs.Common.{◌≡◌, ◌+◌, ◌-◌, ◌*◌, ◌/◌, ◌%◌, ◌^◌, ◌<◌, ◌==◌, ◌≢◌, ◌∙◌, ℕ, Bool, true, false, max, refl, ap, sym, subst, arith}
use Rattle.std.specs.Prelude.{bit_or, bit_and}
use Rattle.std.specs.Int.{bit_at, bit_not, w128}
use Rattle.std.proofs.lemmas.Bool.{eqb-true, eqb-false}
use Rattle.std.proofs.lemmas.Nat.{pow-add, mul-lt}
use Rattle.std.proofs.Math.Nat.{div-div-eq-div-mul, mod-eq_of_lt, mul-div_cancel, pow-le-pow_right, one-le-pow}
use Rattle.std.proofs.lemmas.Nat.Bits.{bit_at_or, bit_at_set_same, bit_at_set_other, bit_at_clear_other, bit_at_ones}
use Rattle.t1_num.specs.declared.chip.ChipKind.TheVariants.{T1, T2}
use Rattle.t1_machine.specs.declared.woken.Woken.{Woken}
use Rattle.t1_machine.specs.Slots.{slots, slot_at}
use Rattle.t1_machine.specs.Machine.{MachineState, is_enabled}
use Rattle.t1_machine.specs.Wakes.{IsOwn, IsServe, IsAdmitOf, IsAdmit, IsTakeIn, IsAsleep, Wakes}
use Rattle.t1_chip.specs.Sets.{AreClear}
use Rattle.t1_chip.proofs.Numbers.{in_slot, is_slot, slots_few}

pub with_one : (set k n : ℕ) → k < 128 → bit_at (bit_or set (1 * 2 ^ k % 2 ^ 128)) n ≡ 0 → (bit_at set n ≡ 0) × (n ≢ k)
with_one set k n few e = at (n == k) refl where
  at : (b : Bool) → (n == k) ≡ b → (bit_at set n ≡ 0) × (n ≢ k)
  at true is =
      let here : bit_at (bit_or set (1 * 2 ^ k % 2 ^ 128)) k ≡ 1 = bit_at_set_same w128 set k few in
      let there : bit_at (bit_or set (1 * 2 ^ k % 2 ^ 128)) k ≡ 0 = subst (λ (j : ℕ). bit_at (bit_or set (1 * 2 ^ k % 2 ^ 128)) j ≡ 0) (eqb-true n k is) e in
      let clash : ◌≡◌ {A = ℕ} 1 0 = sym here ∙ there in absurd (omega (arith, clash))
  at false is = let other = eqb-false n k is in (sym (bit_at_set_other w128 set k few n other) ∙ e, other)

pub without_one : (set k n : ℕ) → k < 128 → n < 128 → n ≢ k → bit_at (bit_and set (bit_not w128 (1 * 2 ^ k % 2 ^ 128))) n ≡ bit_at set n
without_one set k n few less other = bit_at_clear_other w128 set k few n less other

-- ---- words of bits that are moved up

pub shifted : (n s i : ℕ) → bit_at (n / 2 ^ s) i ≡ bit_at n (s + i)
shifted n s i = ap (λ (k : ℕ). k % 2) (div-div-eq-div-mul n (2 ^ s) (2 ^ i) ∙ ap (λ (p : ℕ). n / p) (sym (pow-add 2 s i)))

no_more : (a b : ℕ) → max a b ≡ 0 → (a ≡ 0) × (b ≡ 0)
no_more a b e = (omega (arith, e), omega (arith, e))

-- no bit of a word of 16 bits is lost
whole : (bits s : ℕ) → bits < 2 ^ 16 → s < 98 → bits * 2 ^ s < 2 ^ 128
whole bits s few small =
    let place : 2 ^ s < 2 ^ 112 = omega (arith, pow-le-pow_right {n = 2} (omega arith) {i = s} {j = 97} (omega (arith, small))) in
    let product = mul-lt bits (2 ^ s) (2 ^ 16) (2 ^ 112) few place in
    omega (arith, product)

moved : (bits s i : ℕ) → bits < 2 ^ 16 → s < 98 → bit_at (bits * 2 ^ s % 2 ^ 128) (s + i) ≡ bit_at bits i
moved bits s i few small =
    let same : bits * 2 ^ s % 2 ^ 128 ≡ bits * 2 ^ s = mod-eq_of_lt (whole bits s few small) in
    let back : bits * 2 ^ s / 2 ^ s ≡ bits = mul-div_cancel bits (one-le-pow s 2 (omega arith)) in
    ap (λ (k : ℕ). bit_at k (s + i)) same ∙ (sym (shifted (bits * 2 ^ s) s i) ∙ ap (λ (k : ℕ). bit_at k i) back)

pub with_word : (set first bits n : ℕ) → first < 98 → bits < 2 ^ 16 → bit_at (bit_or set (bits * 2 ^ first % 2 ^ 128)) n ≡ 0
    → (bit_at set n ≡ 0) × ((i : ℕ) → n ≡ first + i → bit_at bits i ≡ 0)
with_word set first bits n small few e =
    let word : ℕ = bits * 2 ^ first % 2 ^ 128 in
    let both = no_more (bit_at set n) (bit_at word n) (sym (bit_at_or set word n) ∙ e) in
    (both.0, λ i at. sym (moved bits first i few small) ∙ (ap (λ (k : ℕ). bit_at word k) (sym at) ∙ both.1))

-- ---- kinds of slots

no_bit : (k i : ℕ) → i < k → bit_at (2 ^ k - 1) i ≡ 0 → ⊥
no_bit k i l e = let clash : ◌≡◌ {A = ℕ} 1 0 = sym (bit_at_ones k i l) ∙ e in absurd (omega (arith, clash))

no_clash : (b : ℕ) → b ≡ 1 → b ≡ 0 → ⊥
no_clash b one none = let clash : ◌≡◌ {A = ℕ} 1 0 = sym one ∙ none in absurd (omega (arith, clash))

pub own_t1 : (core n : ℕ) → n ≢ core → ((i : ℕ) → n ≡ 8 + 4 * core + i → bit_at 0xf i ≡ 0) → IsOwn core (slot_at T1 n) → ⊥
own_t1 core n other clear =
    in_slot T1 (λ s. IsOwn core s → ⊥) n (λ few own. other own)
    (λ up few own. no_bit 4 ((n - 8) % 4) (omega arith) (clear ((n - 8) % 4) (omega (arith, up, own))))
    (λ up few own. own) (λ up few own. own) (λ up own. own)

pub own_t2 : (core n : ℕ) → n ≢ core → ((i : ℕ) → n ≡ 8 + 8 * core + i → bit_at 0xff i ≡ 0) → IsOwn core (slot_at T2 n) → ⊥
own_t2 core n other clear =
    in_slot T2 (λ s. IsOwn core s → ⊥) n (λ few own. other own)
    (λ up few own. no_bit 8 ((n - 8) % 8) (omega arith) (clear ((n - 8) % 8) (omega (arith, up, own))))
    (λ up few own. own) (λ up few own. own) (λ up own. own)

pub serve_t1 : (dest n : ℕ) → n ≢ 48 + dest → IsServe dest (slot_at T1 n) → ⊥
serve_t1 dest n e =
    in_slot T1 (λ s. IsServe dest s → ⊥) n (λ few own. own) (λ up few own. own) (λ up few own. own) (λ up few own. e (omega (arith, up, own))) (λ up own. own)

pub serve_t2 : (dest n : ℕ) → n ≢ 80 + dest → IsServe dest (slot_at T2 n) → ⊥
serve_t2 dest n e =
    in_slot T2 (λ s. IsServe dest s → ⊥) n (λ few own. own) (λ up few own. own) (λ up few own. own) (λ up few own. e (omega (arith, up, own))) (λ up own. own)

pub admit_t1 : (dest n : ℕ) → n ≢ 53 + dest → IsAdmitOf dest (slot_at T1 n) → ⊥
admit_t1 dest n e =
    in_slot T1 (λ s. IsAdmitOf dest s → ⊥) n (λ few own. own) (λ up few own. own) (λ up few own. own) (λ up few own. own) (λ up own. e (omega (arith, up, own)))

pub admit_t2 : (dest n : ℕ) → n ≢ 89 + dest → IsAdmitOf dest (slot_at T2 n) → ⊥
admit_t2 dest n e =
    in_slot T2 (λ s. IsAdmitOf dest s → ⊥) n (λ few own. own) (λ up few own. own) (λ up few own. own) (λ up few own. own) (λ up own. e (omega (arith, up, own)))

pub admits_t1 : (n : ℕ) → n < 58 → ((i : ℕ) → n ≡ 53 + i → bit_at 0x1f i ≡ 0) → IsAdmit (slot_at T1 n) → ⊥
admits_t1 n h clear =
    in_slot T1 (λ s. IsAdmit s → ⊥) n (λ few own. own) (λ up few own. own) (λ up few own. own) (λ up few own. own)
    (λ up own. no_bit 5 (n - 53) (omega (arith, up, h)) (clear (n - 53) (omega (arith, up))))

pub admits_t2 : (n : ℕ) → n < 98 → ((i : ℕ) → n ≡ 89 + i → bit_at 0x1ff i ≡ 0) → IsAdmit (slot_at T2 n) → ⊥
admits_t2 n h clear =
    in_slot T2 (λ s. IsAdmit s → ⊥) n (λ few own. own) (λ up few own. own) (λ up few own. own) (λ up few own. own)
    (λ up own. no_bit 9 (n - 89) (omega (arith, up, h)) (clear (n - 89) (omega (arith, up))))

pub takes_t1 : (cores n : ℕ) → ((i : ℕ) → n ≡ 40 + i → bit_at cores i ≡ 0) → IsTakeIn cores (slot_at T1 n) → ⊥
takes_t1 cores n clear =
    in_slot T1 (λ s. IsTakeIn cores s → ⊥) n (λ few own. own) (λ up few own. own)
    (λ up few own. no_clash (bit_at cores (n - 40)) own (clear (n - 40) (omega (arith, up))))
    (λ up few own. own) (λ up own. own)

pub takes_t2 : (cores n : ℕ) → ((i : ℕ) → n ≡ 72 + i → bit_at cores i ≡ 0) → IsTakeIn cores (slot_at T2 n) → ⊥
takes_t2 cores n clear =
    in_slot T2 (λ s. IsTakeIn cores s → ⊥) n (λ few own. own) (λ up few own. own)
    (λ up few own. no_clash (bit_at cores (n - 72)) own (clear (n - 72) (omega (arith, up))))
    (λ up few own. own) (λ up own. own)

-- ---- what a set of slots tells

pub all_clear : (m : MachineState) → AreClear m (2 ^ 128 - 1)
all_clear m n h e =
    let few = slots_few m.chip in
    let one = bit_at_ones 128 n (omega (arith, h, few)) in
    let clash : ◌≡◌ {A = ℕ} 1 0 = sym one ∙ e in absurd (omega (arith, clash))

-- a slot that was tried in vain
pub tried_clear : (m : MachineState) (set after k : ℕ) → ((n : ℕ) → n < 98 → n ≢ k → bit_at after n ≡ bit_at set n) → is_enabled m (slot_at m.chip k) ≡ false → AreClear m set
    → AreClear m after
tried_clear m set after k same off clear n h e = at (n == k) refl where
  at : (b : Bool) → (n == k) ≡ b → is_enabled m (slot_at m.chip n) ≡ false
  at true is = subst (λ (j : ℕ). is_enabled m (slot_at m.chip j) ≡ false) (sym (eqb-true n k is)) off
  at false is = let few = slots_few m.chip in clear n h (sym (same n (omega (arith, h, few)) (eqb-false n k is)) ∙ e)

-- a slot that was done
pub woken_clear : (m n : MachineState) (set after : ℕ) (w : Woken) → n.chip ≡ m.chip → Wakes m n w
    → ((k : ℕ) → k < slots m.chip → bit_at after k ≡ 0 → (bit_at set k ≡ 0) × IsAsleep w (slot_at m.chip k)) → AreClear m set → AreClear n after
woken_clear m n set after w same wakes outside clear k h e =
    let less : k < slots m.chip = subst (λ c. k < slots c) same h in
    let both = outside k less e in
    let off = wakes.only (slot_at m.chip k) (is_slot m.chip k less) both.1 (clear k less both.0) in
    subst (λ c. is_enabled n (slot_at c k) ≡ false) (sym same) off
