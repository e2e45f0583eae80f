-- Places of a text.
use Rattle.std.proofs.Common.{◌≡◌, ◌∙◌, ℕ, ◌+◌, ◌<◌, ◌≤◌, ◌++◌, List, length, drop, get_or, sym, ap, arith}
use Rattle.std.proofs.lemmas.List.{length-append, length-drop, get_or_past}
use Rattle.t1_take.specs.Taken.{Reads}

-- a piece that was read brings the place on
pub went_on : (text : List ℕ) (a b : ℕ) (piece : List ℕ) → 0 < length piece → Reads text a b piece → a + 1 ≤ b
went_on text a b piece some r =
    let n = ap length r ∙ length-append piece (drop b text) in
    omega (arith, n, length-drop a text, length-drop b text, some)

-- past the end of a text no byte but 0 is read
pub at_end_of_text : (text : List ℕ) (at byte : ℕ) → length text ≤ at → 0 < byte → get_or text at 0 ≡ byte → ⊥
at_end_of_text text at byte past some e = (let z = sym (get_or_past text at 0 past) ∙ e in omega (arith, z, some))

pub nothing_past : (text : List ℕ) (at : ℕ) (piece rest : List ℕ) → drop at text ≡ piece ++ rest → 0 < length rest → length text ≤ at → ⊥
nothing_past text at piece rest e some past =
    let n = ap length e ∙ length-append piece rest in
    omega (arith, n, length-drop at text, some, past)
