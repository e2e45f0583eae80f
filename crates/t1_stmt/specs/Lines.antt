-- Lines, and what they ask for.
use Rattle.std.specs.Prelude.{ℕ, zero, suc, ◌==◌, ◌&&◌, not, if◌then◌else◌, Bool, true, false, List, [], ◌∷◌, ◌++◌, length, drop, Option, Some, None, Result, Ok, Err, codes, is_some}
use Rattle.std.specs.Str.{bytes_eq}
use Rattle.t1_lex.specs.Tokens.{Lexeme, cut_of, lexemes_in}
use Rattle.t1_lex.specs.declared.token.TokenKind.TheVariants as kind
use Rattle.t1_lex.specs.declared.token.Token.{Token}
use Rattle.t1_lex.specs.Lexemes.{lexemes}
use Rattle.std.specs.Prelude.{◌≡◌}
use Rattle.t1_stmt.specs.declared.fault.Halt.{Halt}
use Rattle.t1_stmt.specs.declared.fault.Halt.TheVariants as halt
use Rattle.t1_form.specs.Options.{◌>>=◌}
use Rattle.t1_expr.specs.Exprs.{Env, Value, is_punct, expr_at}
use Rattle.t1_form.specs.Names.{named, is_known_percent, barrier_names, directive_names}
use Rattle.t1_operand.specs.Slots.{mark_at, whole}
use Rattle.t1_form.specs.Options.{or_try}
use Rattle.t1_form.specs.Mnemonics.{forms_of}
use Rattle.t1_operand.specs.Forms.{forms_at}
use Rattle.t1_form.specs.declared.form.Forms.{Forms}
use Rattle.t1_form.specs.declared.directive.Directive.{Directive}
use Rattle.t1_form.specs.declared.directive.Directive.TheVariants as directive
use Rattle.t1_stmt.specs.declared.statement.Statement.{Statement}
use Rattle.t1_stmt.specs.declared.statement.Statement.TheVariants.{Nothing, Org, Skip, Align, Numbers, Text, Insn}
use Rattle.t1_stmt.specs.declared.statement.Body.{Body as CodeBody}
use Rattle.t1_stmt.specs.declared.statement.Body.TheVariants as code
use Rattle.t1_stmt.specs.declared.fault.Fault.{Fault}
use Rattle.t1_stmt.specs.declared.fault.Fault.TheVariants.{Syntax, UnknownName, BadOperand}

-- the lines of a text, of which the last one counts where it is not empty
abbrev pub last_line : List ℕ → List (List ℕ)
last_line [] = []
last_line (b ∷ bs) = (b ∷ bs) ∷ []

unfoldable pub lines_from : List ℕ → List ℕ → List (List ℕ)
lines_from line [] = last_line line
lines_from line (b ∷ bs) = if b == 10 then line ∷ lines_from [] bs else lines_from (line ++ b ∷ []) bs

abbrev pub lines_of : List ℕ → List (List ℕ)
lines_of text = lines_from [] text

-- the tokens of a line; a bad byte is Syntax
abbrev pub GivesLexed : {V : Type 0} → (V → List Token) → List ℕ → Result V Halt → Option (List Lexeme) → Type 0
GivesLexed view text (Ok v) read = read ≡ Some (lexemes text (view v))
GivesLexed view text (Err (halt.Fault k)) read = (k ≡ Syntax) × (read ≡ None)
GivesLexed view text (Err halt.Memory) read = Unit {0}

-- ---- directives

unfoldable pub more_exprs : (List Value → List Lexeme → Option (List Value)) → List Value → List Lexeme → Option (List Value)
more_exprs go vs [] = Some vs
more_exprs go vs (w ∷ ws) = if is_punct 44 w then go vs ws else None

unfoldable pub exprs_after : (List Value → List Lexeme → Option (List Value)) → List Value → Option (Value × List Lexeme) → Option (List Value)
exprs_after go vs None = None
exprs_after go vs (Some e) = more_exprs go (vs ++ e.0 ∷ []) e.1

-- one or more exprs, after these values
unfoldable pub exprs_from : ℕ → List Value → Env → ℕ → List Lexeme → Option (List Value)
exprs_from zero vs env here ws = None
exprs_from (suc n) vs env here ws = exprs_after (λ vs rest. exprs_from n vs env here rest) vs (expr_at env here ws)

-- one expr and nothing else
unfoldable pub alone : Env → ℕ → List Lexeme → Option Value
alone env here ws = do
  e ← expr_at env here ws
  whole e.0 e.1

-- what stands for a byte behind a backslash
unfoldable pub escape_value : ℕ → ℕ
escape_value b =
    if b == 110 then 10 else
    if b == 116 then 9 else
    if b == 48 then 0 else
    b

-- the bytes of a text to its closing quote, after these
unfoldable pub values_after : List ℕ → Bool → List ℕ → List ℕ
values_after out escaped [] = out
values_after out true (b ∷ bs) = values_after (out ++ escape_value b ∷ []) false bs
values_after out false (b ∷ bs) =
    if b == 34 then out else
    if b == 92 then values_after out true bs else
    values_after (out ++ b ∷ []) false bs

abbrev pub ended : Bool → List ℕ → List ℕ
ended true bs = bs ++ 0 ∷ []
ended false bs = bs

-- the bytes of a text in quotes
unfoldable pub text_of : Bool → List ℕ → List ℕ
text_of with_end quoted = ended with_end (values_after [] false (drop 1 quoted))

unfoldable pub text_in : Bool → Lexeme → Option (List ℕ)
text_in with_end (kind.Text, bytes) = Some (text_of with_end bytes)
text_in with_end _ = None

unfoldable pub text_at : Bool → List Lexeme → Option Statement
text_at with_end [] = None
text_at with_end (w ∷ ws) = do
  bs ← text_in with_end w
  whole (Text bs) ws

abbrev pub is_dot : List ℕ → Bool
is_dot name = bytes_eq name (codes ".")

-- a name; . is none
unfoldable pub name_in : Lexeme → Option (List ℕ)
name_in (kind.Name, bytes) = if is_dot bytes then None else Some bytes
name_in _ = None

unfoldable pub name_at : List Lexeme → Option Statement
name_at [] = None
name_at (w ∷ ws) = do
  n ← name_in w
  whole Nothing ws

unfoldable pub directive_at : Env → ℕ → Directive → List Lexeme → Option Statement
directive_at env here directive.Org ws = do
  v ← alone env here ws
  Some (Org v)
directive_at env here directive.Skip ws = do
  v ← alone env here ws
  Some (Skip v)
directive_at env here directive.Align ws = do
  v ← alone env here ws
  Some (Align v)
directive_at env here (directive.Numbers width) ws = do
  vs ← exprs_from (length ws) [] env here ws
  Some (Numbers width vs)
directive_at env here (directive.Text with_end) ws = text_at with_end ws
directive_at env here directive.Section ws = whole Nothing ws
directive_at env here directive.Global ws = name_at ws

-- ---- lines

abbrev pub is_known : Lexeme → Bool
is_known (kind.Percent, bytes) = is_known_percent bytes
is_known (kind.Hash, bytes) = is_some (named bytes barrier_names)
is_known _ = true

-- each % name and # name says something
unfoldable pub all_known : List Lexeme → Bool
all_known [] = true
all_known (w ∷ ws) = is_known w && all_known ws

abbrev pub or_bad : {A : Type 0} → Option A → Result A Fault
or_bad None = Err BadOperand
or_bad (Some a) = Ok a

abbrev pub known_only : {A : Type 0} → List Lexeme → Result A Fault → Result A Fault
known_only ws r = if all_known ws then r else Err UnknownName

unfoldable pub instruction_at : Env → ℕ → Forms → List Lexeme → Option Statement
instruction_at env here rows ws = do
  s ← forms_at env here rows ws
  Some (Insn s)

-- what a directive or an instruction asks for
unfoldable pub statement_of : Env → ℕ → List ℕ → List Lexeme → Result Statement Fault
statement_of env here name ws =
    or_try (named name directive_names) (λ d. known_only ws (or_bad (directive_at env here d ws)))
    (or_try (forms_of name) (λ rows. known_only ws (or_bad (instruction_at env here rows ws)))
    (Err UnknownName))

-- what stands behind the labels of a line
pub data Body : Type 0 where
  Empty : Body
  Assigns : List ℕ → Value → Body
  Holds : Statement → Body

abbrev pub seen_body : CodeBody → Body
seen_body code.Empty = Empty
seen_body (code.Assigns name v) = Assigns name.now v
seen_body (code.Holds a) = Holds a

abbrev pub assigned : List ℕ → Option Value → Result Body Fault
assigned name None = Err Syntax
assigned name (Some v) = Ok (Assigns name v)

abbrev pub holds : Result Statement Fault → Result Body Fault
holds (Ok a) = Ok (Holds a)
holds (Err e) = Err e

-- name = expr, or a directive or an instruction
unfoldable pub behind_name : Env → ℕ → List ℕ → List Lexeme → Result Body Fault
behind_name env here name ws = or_try (mark_at 61 ws) (λ rest. assigned name (alone env here rest)) (holds (statement_of env here name ws))

unfoldable pub body_of : Env → ℕ → List Lexeme → Result Body Fault
body_of env here [] = Ok Empty
body_of env here (w ∷ ws) = or_try (name_in w) (λ name. behind_name env here name ws) (Err Syntax)

-- the labels of a line, and what follows them
unfoldable pub labels_of : List Lexeme → List (List ℕ) × List Lexeme
labels_of ((kind.Name, name) ∷ w ∷ ws) =
    if not (is_dot name) && is_punct 58 w then (name ∷ (labels_of ws).0, (labels_of ws).1) else ([], (kind.Name, name) ∷ w ∷ ws)
labels_of ws = ([], ws)

pub record Line : Type 0 where
  pub labels : List (List ℕ)
  pub body : Body

abbrev pub with_labels : List (List ℕ) → Result Body Fault → Result Line Fault
with_labels labels (Ok body) = Ok (record { labels = labels; body = body })
with_labels labels (Err e) = Err e

unfoldable pub read_words : Env → ℕ → Option (List Lexeme) → Result Line Fault
read_words env here None = Err Syntax
read_words env here (Some ws) = with_labels (labels_of ws).0 (body_of env here (labels_of ws).1)

-- a line with its values; or the first of Syntax, UnknownName and BadOperand
unfoldable pub line_of : Env → ℕ → List ℕ → Result Line Fault
line_of env here bytes = read_words env here (lexemes_in (cut_of bytes))
