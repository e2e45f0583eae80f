-- What holds of a word, field by field.
use Rattle.std.proofs.Common.{◌≡◌, ℕ, ◌+◌, ◌*◌, ◌^◌, List, [], ◌∷◌, Bool, true, false, refl}
use Rattle.std.specs.Prelude.{Option, Some, None, IfSome, IsSome}
use Rattle.std.proofs.lemmas.Option.{IfSome_then}
use Rattle.t1_encode.specs.Fields.{joined, word_of, allowed}

-- P holds of the word of these fields, whatever bits they have
abbrev pub HoldsOf : List (ℕ × Option ℕ) → (ℕ → Type 0) → Type 0
HoldsOf [] P = P 0
HoldsOf (field ∷ fields) P = IfSome field.1 (λ bits. HoldsOf fields (λ rest. P (bits * 2 ^ field.0 + rest)))

joined_holds : (low : ℕ) (field rest : Option ℕ) (P : ℕ → Type 0)
    → IfSome field (λ bits. IfSome rest (λ others. P (bits * 2 ^ low + others))) → IfSome (joined low field rest) P
joined_holds low None rest P h = h
joined_holds low (Some bits) None P h = h
joined_holds low (Some bits) (Some others) P h = h

pub word_holds : (fields : List (ℕ × Option ℕ)) (P : ℕ → Type 0) → HoldsOf fields P → IfSome (word_of fields) P
word_holds [] P h = h
word_holds (field ∷ fields) P h =
    joined_holds field.0 field.1 (word_of fields) P
    (IfSome_then field.1 h (λ bits k. word_holds fields (λ rest. P (bits * 2 ^ field.0 + rest)) k))

-- each field has bits
abbrev pub AreSome : List (ℕ × Option ℕ) → Type 0
AreSome [] = Unit {0}
AreSome (field ∷ fields) = IsSome field.1 × AreSome fields

joined_some : (low : ℕ) (field rest : Option ℕ) → IsSome field → IsSome rest → IsSome (joined low field rest)
joined_some low None rest h k = h
joined_some low (Some bits) None h k = k
joined_some low (Some bits) (Some others) h k = h

pub word_some : (fields : List (ℕ × Option ℕ)) → AreSome fields → IsSome (word_of fields)
word_some [] h = refl
word_some (field ∷ fields) h = joined_some field.0 field.1 (word_of fields) h.0 (word_some fields h.1)

-- a field that is tested
pub allowed_holds : (b : Bool) (n : ℕ) (P : ℕ → Type 0) → (b ≡ true → P n) → IfSome (allowed b n) P
allowed_holds true n P h = h refl
allowed_holds false n P h = tt

pub allowed_some : (b : Bool) (n : ℕ) → b ≡ true → IsSome (allowed b n)
allowed_some true n h = h
allowed_some false n h = h
