-- The words of bytes.
use Rattle.std.proofs.Common.{◌≡◌, ℕ, zero, suc, ◌+◌, ◌*◌, ◌<◌, List, length, drop, get_or, refl, ap, ◌∙◌, arith}
use Rattle.std.proofs.lemmas.List.{get_or-drop}
use Rattle.t1_num.specs.Memory.{number_at}
use Rattle.t1_text.specs.Words.{words_from}

pub length-words_from : (n : ℕ) (bytes : List ℕ) → length (words_from n bytes) ≡ n
unfolding words_from
length-words_from zero bytes = refl
length-words_from (suc n) bytes = ap suc (length-words_from n (drop 4 bytes))

-- a number behind the first bytes
number_behind : (bytes : List ℕ) (first at size : ℕ) → number_at (drop first bytes) at size ≡ number_at bytes (first + at) size
unfolding number_at
number_behind bytes first at zero = refl
number_behind bytes first at (suc n) =
    let last : get_or (drop first bytes) (at + n) 0 ≡ get_or bytes (first + at + n) 0 =
    get_or-drop first bytes (at + n) 0 ∙ ap (λ i. get_or bytes i 0) (omega arith) in
    ap (λ x. x * 256 + get_or (drop first bytes) (at + n) 0) (number_behind bytes first at n)
    ∙ ap (λ x. number_at bytes (first + at) n * 256 + x) last

-- the word of a number lies at 4 times it
pub get_or-words_from : (n i : ℕ) (bytes : List ℕ) → i < n → get_or (words_from n bytes) i 0 ≡ number_at bytes (4 * i) 4
unfolding words_from
get_or-words_from zero i bytes h = absurd (omega arith)
get_or-words_from (suc n) zero bytes h = refl
get_or-words_from (suc n) (suc i) bytes h =
    get_or-words_from n i (drop 4 bytes) (omega arith)
    ∙ number_behind bytes 4 (4 * i) 4
    ∙ ap (λ at. number_at bytes at 4) (omega arith)
