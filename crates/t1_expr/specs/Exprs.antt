-- Expressions.
use Rattle.std.specs.Prelude.{ℕ, ◌+◌, ◌-◌, ◌/◌, ◌%◌, ◌^◌, ◌==◌, if◌then◌else◌, Bool, true, false, List, [], ◌∷◌, Option, Some, None, codes}
use Rattle.std.specs.Str.{bytes_eq}
use Rattle.t1_lex.specs.Tokens.{Lexeme}
use Rattle.t1_lex.specs.declared.token.TokenKind.TheVariants.{Name, Number, Percent, Punct}
use Rattle.t1_expr.specs.declared.sum.Mode.{Mode}
use Rattle.t1_expr.specs.declared.sum.Mode.TheVariants.{Start, Atom, Paren, More}
use Rattle.t1_expr.specs.declared.sum.Open.{Open}
use Rattle.t1_expr.specs.declared.sum.Sum.{Sum}

-- the values of names
abbrev pub Env : Type 0
Env = List ℕ → Option ℕ

-- a value; None where a name in it has none
abbrev pub Value : Type 0
Value = Option ℕ

-- sums wrap at 64 bits
unfoldable pub sum_of : Bool → Value → Value → Value
sum_of minus None b = None
sum_of minus (Some a) None = None
sum_of false (Some a) (Some b) = Some ((a + b) % 2 ^ 64)
sum_of true (Some a) (Some b) = Some ((a + 2 ^ 64 - b) % 2 ^ 64)

-- %lo is bits 9:0, %hi bits 31:10
unfoldable pub part_of : Bool → Value → Value
part_of low None = None
part_of true (Some n) = Some (n % 2 ^ 10)
part_of false (Some n) = Some (n / 2 ^ 10 % 2 ^ 22)

abbrev pub is_punct : ℕ → Lexeme → Bool
is_punct b (Punct c, bytes) = c == b
is_punct b _ = false

-- an atom of one token
unfoldable pub atom_of : Env → ℕ → Lexeme → Option Value
atom_of env here (Number n, bytes) = Some (Some n)
atom_of env here (Name, bytes) = if bytes_eq bytes (codes ".") then Some (Some here) else Some (env bytes)
atom_of env here _ = None

-- whether a token is %lo, or %hi
unfoldable pub opener_of : Lexeme → Option Bool
opener_of (Percent, bytes) = if bytes_eq bytes (codes "%lo") then Some true else (if bytes_eq bytes (codes "%hi") then Some false else None)
opener_of _ = None

unfoldable pub atom_added : Sum → Option Value → Option Sum
atom_added s None = None
atom_added s (Some v) = Some (record { mode = More; outer = s.outer; sum = sum_of s.minus s.sum v; minus = false })

unfoldable pub opened : Sum → Option Bool → Option Value → Option Sum
opened s None atom = atom_added s atom
opened s (Some low) atom = Some (record { mode = Paren; outer = record { sum = s.sum; minus = s.minus; low = low } ∷ s.outer; sum = Some 0; minus = false })

unfoldable pub closed : List Open → Value → Option Sum
closed [] sum = None
closed (o ∷ outer) sum = Some (record { mode = More; outer = outer; sum = sum_of o.minus o.sum (part_of o.low sum); minus = false })

abbrev pub wants : Sum → Bool → Sum
wants s minus = record { mode = Atom; outer = s.outer; sum = s.sum; minus = minus }

-- how an expression goes on with a token
unfoldable pub step_of : Env → ℕ → Mode → Sum → Lexeme → Option Sum
step_of env here Start s w = if is_punct 45 w then Some (wants s true) else opened s (opener_of w) (atom_of env here w)
step_of env here Atom s w = opened s (opener_of w) (atom_of env here w)
step_of env here Paren s w = if is_punct 40 w then Some (record { mode = Start; outer = s.outer; sum = s.sum; minus = s.minus }) else None
step_of env here More s w =
    if is_punct 43 w then Some (wants s false) else
    if is_punct 45 w then Some (wants s true) else
    if is_punct 41 w then closed s.outer s.sum else
    None

unfoldable pub ended : Mode → List Open → Value → List Lexeme → Option (Value × List Lexeme)
ended More [] sum ws = Some (sum, ws)
ended _ _ sum ws = None

-- the value of the longest expression at the front, and what stands behind it
unfoldable pub sum_from : Env → ℕ → Sum → List Lexeme → Option (Value × List Lexeme)
sum_from env here s [] = ended s.mode s.outer s.sum []
sum_from env here s (w ∷ ws) = elim (step_of env here s.mode s w) [
  | None ↦ ended s.mode s.outer s.sum (w ∷ ws)
  | Some next ↦ sum_from env here next ws
]

abbrev pub first_sum : Sum
first_sum = record { mode = Start; outer = []; sum = Some 0; minus = false }

unfoldable pub expr_at : Env → ℕ → List Lexeme → Option (Value × List Lexeme)
expr_at env here ws = sum_from env here first_sum ws
