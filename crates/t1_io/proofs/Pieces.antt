-- What came from a source after several reads into one list.
use Rattle.std.proofs.Common.{◌≡◌, ◌+◌, ◌∙◌, ap, sym, subst, ℕ, List, ◌++◌, take, drop}
use Rattle.std.proofs.KnownBytes.{Consumes-trans}
use Rattle.std.proofs.Math.Seq.{take-add}
use Rattle.std.specs.Io.KnownBytes.{Consumes}
use Rattle.std.specs.Prelude.{Option}

-- a read behind what came before
pub Consumes-behind : (old mid new : Option (List ℕ)) (all mid_all new_all : List ℕ) (at n : ℕ) → Consumes old mid (take at all)
    → take at mid_all ≡ take at all → take at new_all ≡ take at mid_all → Consumes mid new (take n (drop at new_all))
    → Consumes old new (take (at + n) new_all)
Consumes-behind old mid new all mid_all new_all at n first same still second =
    let P : List ℕ → Type 0 = λ bytes. Consumes old new bytes in
    subst P (ap (λ front. front ++ take n (drop at new_all)) (sym (still ∙ same)) ∙ sym (take-add at n new_all))
    (Consumes-trans old mid new (take at all) (take n (drop at new_all)) first second)
