-- What a sink holds after several writes.
use Rattle.std.proofs.Common.{◌≡◌, ◌+◌, ℕ, List, [], ◌++◌, take, drop, sym, ap, ◌∙◌, refl, append_assoc, append-nil}
use Rattle.std.proofs.Math.Seq.{take-add}
use Rattle.std.specs.Prelude.{Option, None, Some}
use Rattle.t1_io.specs.Held.{Grew, GrewPart}

-- nothing was written
pub Grew-nil : (old : Option (List ℕ)) → Grew old old []
Grew-nil None = tt
Grew-nil (Some bytes) = sym (append-nil bytes)

-- one growth after another
pub Grew-append : (old mid new : Option (List ℕ)) (xs ys : List ℕ) → Grew old mid xs → Grew mid new ys → Grew old new (xs ++ ys)
Grew-append old mid None xs ys first second = tt
Grew-append old None (Some new) xs ys first second = absurd second
Grew-append None (Some mid) (Some new) xs ys first second = absurd first
Grew-append (Some old) (Some mid) (Some new) xs ys first second = second ∙ ap (λ bytes. bytes ++ ys) first ∙ append_assoc old xs ys

-- a growth by a front of more bytes
pub GrewPart-front : (old new : Option (List ℕ)) (xs ys : List ℕ) → Grew old new xs → GrewPart old new (xs ++ ys)
GrewPart-front old new xs ys grew = (xs, ys, refl, grew)

-- a growth by a part, and no more of what follows
pub GrewPart-longer : (old new : Option (List ℕ)) (xs ys : List ℕ) → GrewPart old new xs → GrewPart old new (xs ++ ys)
GrewPart-longer old new xs ys part = (
  part.0,
  part.1 ++ ys,
  ap (λ bytes. bytes ++ ys) part.2 ∙ append_assoc part.0 part.1 ys,
  part.3,
)

-- a growth, and then by a part
pub GrewPart-append : (old mid new : Option (List ℕ)) (xs ys : List ℕ) → Grew old mid xs → GrewPart mid new ys → GrewPart old new (xs ++ ys)
GrewPart-append old mid new xs ys grew part = (
  xs ++ part.0,
  part.1,
  ap (λ bytes. xs ++ bytes) part.2 ∙ sym (append_assoc xs part.0 part.1),
  Grew-append old mid new xs part.0 grew part.3,
)

-- the pieces before one in full, that one in part, and none of those after it
pub GrewPart-between : (old mid new : Option (List ℕ)) (before piece after : List ℕ) → Grew old mid before → GrewPart mid new piece
    → GrewPart old new (before ++ (piece ++ after))
GrewPart-between old mid new before piece after grew part =
    GrewPart-append old mid new before (piece ++ after) grew (GrewPart-longer mid new piece after part)

-- a write of what is left of a piece goes on where the one before it stopped
pub Grew-take : (old mid new : Option (List ℕ)) (piece rest : List ℕ) (done count : ℕ) → rest ≡ drop done piece
    → Grew old mid (take done piece) → Grew mid new (take count rest) → Grew old new (take (done + count) piece)
Grew-take old mid new piece rest done count e first second =
    rw (take-add done count piece, ← e) (Grew-append old mid new (take done piece) (take count rest) first second)
