-- Digits, one after another.
use Rattle.std.proofs.Common.{◌≡◌, ℕ, zero, suc, ◌-◌, ◌*◌, ◌/◌, ◌%◌, ◌^◌, ◌<◌, List, [], ◌∷◌, ◌++◌, refl, ◌∙◌, append_assoc, arith}
use Rattle.t1_log.specs.Hex.{digit_of, hex_of}

-- the highest of at least one digit, and the others
pub hex_more : (line : List ℕ) (k n digit : ℕ) → 0 < k → digit ≡ digit_of (n / 2 ^ (4 * (k - 1)) % 16)
    → (line ++ digit ∷ []) ++ hex_of (k - 1) n ≡ line ++ hex_of k n
unfolding hex_of
hex_more line zero n digit h e = absurd (omega arith)
hex_more line (suc k) n digit h e =
    let pred : suc k - 1 ≡ k = omega arith in
    append_assoc line (digit ∷ []) (hex_of (suc k - 1) n) ∙ rw (e, pred) refl
