-- Numbers read in the parts of a list of bytes, and after fields were put in it.
use Rattle.std.proofs.Common.{◌≡◌, ℕ, zero, suc, ◌+◌, ◌*◌, ◌^◌, ◌<◌, ◌≤◌, ◌⊎◌, inl, inr, ◌||◌, ◌&&◌, nat_le, Bool, true, List, [], ◌∷◌, ◌++◌, length, get_or, refl, ap, ◌∙◌, arith}
use Rattle.std.proofs.lemmas.Bool.{and_parts, or_cases, leb-true}
use Rattle.std.proofs.lemmas.List.{get_or_append_left, get_or-append-add}
use Rattle.std.proofs.Math.Nat.{mod-eq_of_lt}
use Rattle.t1_num.specs.Memory.{number_at, with_number_at}
use Rattle.t1_num.proofs.MemoryLaws.{number_at_same, number_at_apart, number_at-with_number_at, length-with_number_at}
use Rattle.t1_elf.specs.Saved.{with_fields}

-- in the front of two lists
pub number_in_front : (front back : List ℕ) (at size : ℕ) → at + size ≤ length front → number_at (front ++ back) at size ≡ number_at front at size
number_in_front front back at size within =
    number_at_same (front ++ back) front at size (λ i low high. get_or_append_left front back 0 i (omega (arith, high, within)))

-- in the back of them
pub number_in_back : (front back : List ℕ) (at size : ℕ) → number_at (front ++ back) (length front + at) size ≡ number_at back at size
unfolding number_at
number_in_back front back at zero = refl
number_in_back front back at (suc n) =
    let place : length front + at + n ≡ length front + (at + n) = omega arith in
    let last : get_or (front ++ back) (length front + at + n) 0 ≡ get_or back (at + n) 0 =
    ap (λ i. get_or (front ++ back) i 0) place ∙ get_or-append-add front back (at + n) 0 in
    ap (λ x. x * 256 + get_or (front ++ back) (length front + at + n) 0) (number_in_back front back at n)
    ∙ ap (λ x. number_at back at n * 256 + x) last

-- ---- fields

-- a place lies apart from these fields
abbrev pub lies_apart : ℕ → ℕ → List (ℕ × ℕ × ℕ) → Bool
lies_apart at size [] = true
lies_apart at size ((other, width, value) ∷ fields) = (nat_le (at + size) other || nat_le (other + width) at) && lies_apart at size fields

pub length-with_fields : (bytes : List ℕ) (fields : List (ℕ × ℕ × ℕ)) → length (with_fields bytes fields) ≡ length bytes
length-with_fields bytes [] = refl
length-with_fields bytes ((at, size, value) ∷ fields) =
    length-with_fields (with_number_at bytes at size value) fields ∙ length-with_number_at bytes at size value

-- a number apart from fields that are put stays
field_stays : (bytes : List ℕ) (fields : List (ℕ × ℕ × ℕ)) (at size : ℕ) → lies_apart at size fields ≡ true
    → number_at (with_fields bytes fields) at size ≡ number_at bytes at size
field_stays bytes [] at size apart = refl
field_stays bytes ((other, width, value) ∷ fields) at size apart =
    let parts = and_parts (nat_le (at + size) other || nat_le (other + width) at) (lies_apart at size fields) apart in
    let side : (at + size ≤ other) ⊎ (other + width ≤ at) =
    elim (or_cases (nat_le (at + size) other) (nat_le (other + width) at) parts.0) [
      | inl l ↦ inl (leb-true (at + size) other l)
      | inr r ↦ inr (leb-true (other + width) at r)
    ] in
    field_stays (with_number_at bytes other width value) fields at size parts.1 ∙ number_at_apart bytes other width value at size side

-- a field that was put is read, where the fields after it lie apart
pub field_is_read : (bytes : List ℕ) (before : List (ℕ × ℕ × ℕ)) (at size value : ℕ) (after : List (ℕ × ℕ × ℕ))
    → at + size ≤ length bytes → lies_apart at size after ≡ true → value < 256 ^ size
    → number_at (with_fields bytes (before ++ (at, size, value) ∷ after)) at size ≡ value
field_is_read bytes [] at size value after within apart fits =
    field_stays (with_number_at bytes at size value) after at size apart
    ∙ number_at-with_number_at bytes at size value within
    ∙ mod-eq_of_lt fits
field_is_read bytes ((other, width, number) ∷ before) at size value after within apart fits =
    field_is_read (with_number_at bytes other width number) before at size value after
    (omega (arith, length-with_number_at bytes other width number, within)) apart fits
