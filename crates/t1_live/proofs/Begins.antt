-- Agents at their start, one more at a time.
use Rattle.std.proofs.Common.{◌≡◌, ◌<◌, ◌∙◌, ℕ, zero, suc, List, [], ◌∷◌, ◌++◌, length, get_or, set, ap, arith}
use Rattle.t1_live.specs.Sides.{CoreSide, DestinationSide}
use Rattle.t1_live.specs.Starts.{CoreStarts, AllStart, ServedNothing}

pub start_more : (sides : List CoreSide) (side : CoreSide) → AllStart sides → CoreStarts side → AllStart (sides ++ side ∷ [])
start_more [] side all one = (one, tt)
start_more (x ∷ xs) side all one = (all.0, start_more xs side all.1 one)

pub served_more : (sides : List DestinationSide) (side : DestinationSide) → ServedNothing sides → side.served ≡ [] → ServedNothing (sides ++ side ∷ [])
served_more [] side all one = (one, tt)
served_more (x ∷ xs) side all one = (all.0, served_more xs side all.1 one)

pub served_set : (sides : List DestinationSide) (i : ℕ) (side old : DestinationSide) → old ≡ get_or sides i old → i < length sides → side.served ≡ old.served → ServedNothing sides → ServedNothing (set sides i side)
served_set [] i side old e l same all = tt
served_set (x ∷ xs) zero side old e l same all = (same ∙ (ap (λ (y : DestinationSide). y.served) e ∙ all.0), all.1)
served_set (x ∷ xs) (suc i) side old e l same all = (all.0, served_set xs i side old e (omega (arith, l)) same all.1)
