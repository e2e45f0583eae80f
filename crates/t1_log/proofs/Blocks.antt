-- The blocks of a memory.
use Rattle.std.proofs.Common.{◌≡◌, ℕ, zero, suc, ◌*◌, ◌<◌, List, [], length, take, drop, get_or, refl, ap, ◌∙◌, arith}
use Rattle.std.proofs.lemmas.List.{drop-drop}
use Rattle.t1_log.specs.Texts.{blocks_from}

pub length-blocks_from : (n : ℕ) (bytes : List ℕ) → length (blocks_from n bytes) ≡ n
unfolding blocks_from
length-blocks_from zero bytes = refl
length-blocks_from (suc n) bytes = ap suc (length-blocks_from n (drop 32 bytes))

-- a block lies at 32 times its number
pub get_or-blocks_from : (n i : ℕ) (bytes : List ℕ) → i < n → get_or (blocks_from n bytes) i [] ≡ take 32 (drop (32 * i) bytes)
unfolding blocks_from
get_or-blocks_from zero i bytes h = absurd (omega arith)
get_or-blocks_from (suc n) zero bytes h = refl
get_or-blocks_from (suc n) (suc i) bytes h =
    get_or-blocks_from n i (drop 32 bytes) (omega arith)
    ∙ ap (take 32) (drop-drop (32 * i) 32 bytes ∙ ap (λ k. drop k bytes) (omega arith))
