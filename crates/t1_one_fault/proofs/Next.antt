-- Where good lines that were read from one text part.
use Rattle.std.proofs.Common.{◌≡◌, ℕ, Bool, true, false, List, ◌++◌}
use Rattle.t1_line_forms.specs.declared.line.Line.{Line}
use Rattle.t1_line_forms.specs.declared.line.Line.TheVariants as line
use Rattle.t1_read.specs.Faults.{SoFar, MayFollow, IsGoodLine}

abbrev pub is_last : Line → Bool
is_last line.Last = true
is_last _ = false

-- a good line of a kind that may follow stands next, and it is not the last of a log
pub record IsGoodNext (so : SoFar) (rest : List ℕ) : Type 0 where
  pub kind : Line
  pub follows : MayFollow so kind
  pub other : is_last kind ≡ false
  pub text : List ℕ
  pub more : List ℕ
  pub good : IsGoodLine so kind text
  pub rest_is : rest ≡ text ++ more

-- two that were read from one text are one, or a good line stands next behind one of them
pub data Parted (so other : SoFar) (x y : List ℕ) : Type 0 where
  One : so ≡ other → x ≡ y → Parted so other x y
  FirstGoes : IsGoodNext so x → Parted so other x y
  OtherGoes : IsGoodNext other y → Parted so other x y
