-- The two passes over the lines of a text: its object, or its first fault.
use Rattle.std.specs.Prelude.{ℕ, ◌+◌, ◌-◌, ◌*◌, ◌%◌, ◌^◌, ◌==◌, ◌||◌, ◌&&◌, not, nat_lt, nat_le, if◌then◌else◌, Bool, false, List, [], ◌∷◌, ◌++◌, length, replicate, Option, Some, None, Result, Ok, Err, codes, is_some, unwrap_or, ◌≡◌}
use Rattle.std.specs.Str.{bytes_eq}
use Rattle.std.specs.Int.{bytes_high_first}
use Rattle.std.specs.BTreeMap.{BTreeMap}
use denote.Ref.{Bor}
use Rattle.t1_insn.specs.Ranges.{is_among}
use Rattle.t1_form.specs.Options.{◌>>=◌}
use Rattle.t1_stmt.specs.Faults.{then_do}
use Rattle.t1_expr.specs.Exprs.{Env, Value}
use Rattle.t1_expr.specs.Symbols.{env_of}
use Rattle.t1_stmt.specs.Templates.{Pair, is_missing, instruction_words, instruction_size}
use Rattle.t1_form.specs.Options.{or_try}
use Rattle.t1_stmt.specs.Lines.{Line, Body, line_of, lines_of}
use Rattle.t1_stmt.specs.Lines.Body.{Assigns, Holds}
use Rattle.t1_form.specs.declared.directive.Width.{Width}
use Rattle.t1_form.specs.declared.directive.Width.TheVariants.{Byte, Half, Word, Xword}
use Rattle.t1_stmt.specs.declared.statement.Statement.TheVariants.{Org, Skip, Align, Numbers, Text, Insn}
use Rattle.t1_stmt.specs.declared.fault.Fault.{Fault}
use Rattle.t1_stmt.specs.declared.fault.Fault.TheVariants as fault
use Rattle.t1_stmt.specs.declared.fault.Halt.{Halt}
use Rattle.t1_stmt.specs.declared.fault.Halt.TheVariants as halt
use Rattle.t1_asm.specs.declared.error.AsmKind.{AsmKind}
use Rattle.t1_asm.specs.declared.error.AsmKind.TheVariants as kind
use Rattle.t1_asm.specs.declared.error.AsmError.{AsmError}
use Rattle.t1_asm.specs.declared.first.Pass.{Pass}
use Rattle.t1_asm.specs.declared.failure.Failure.{Failure}
use Rattle.t1_elf.specs.declared.object.Object.{Object}
use Rattle.t1_elf.specs.declared.object.Chunk.{Chunk}

-- ---- what a line takes

-- a power of two up to 4096
unfoldable pub is_alignment : ℕ → Bool
is_alignment a = is_among a (1 ∷ 2 ∷ 4 ∷ 8 ∷ 16 ∷ 32 ∷ 64 ∷ 128 ∷ 256 ∷ 512 ∷ 1024 ∷ 2048 ∷ 4096 ∷ [])

unfoldable pub padding : ℕ → ℕ → ℕ
padding here a = if is_alignment a then (a - here % a) % a else 0

abbrev pub width_bytes : Width → ℕ
width_bytes Byte = 1
width_bytes Half = 2
width_bytes Word = 4
width_bytes Xword = 8

-- the bytes of a line; none where a value that is wanted at once is missing
unfoldable pub size_of : ℕ → Body → ℕ
size_of here (Holds (Skip v)) = unwrap_or v 0
size_of here (Holds (Align v)) = padding here (unwrap_or v 0)
size_of here (Holds (Numbers width vs)) = width_bytes width * length vs
size_of here (Holds (Text bs)) = length bs
size_of here (Holds (Insn s)) = instruction_size s.template
size_of here _ = 0

-- where the bytes of a line stand
unfoldable pub start_of : ℕ → Body → ℕ
start_of here (Holds (Org v)) = unwrap_or v 0
start_of here _ = here

-- the value that is wanted at once
unfoldable pub early_value : Body → Value
early_value (Assigns name v) = v
early_value (Holds (Org v)) = v
early_value (Holds (Skip v)) = v
early_value (Holds (Align v)) = v
early_value _ = Some 0

abbrev pub is_past : ℕ → ℕ → Bool
is_past here size = nat_lt 0 size && nat_lt (2 ^ 39) (here + size)

unfoldable pub is_outside : ℕ → Body → Bool
is_outside here (Holds (Org v)) = nat_le (2 ^ 39) (unwrap_or v 0)
is_outside here (Holds (Align v)) = not (is_alignment (unwrap_or v 0)) || is_past here (padding here (unwrap_or v 0))
is_outside here (Holds (Insn s)) = not (here % 4 == 0) || is_past here (instruction_size s.template)
is_outside here body = is_past here (size_of here body)

-- ---- names

abbrev pub none_named : Env
none_named name = None

abbrev pub defined : Env → List ℕ → ℕ → Env
defined env name value q = if bytes_eq name q then Some value else env q

-- the names with these labels added; None where one is there already
unfoldable pub labelled : Env → ℕ → List (List ℕ) → Option Env
labelled env here [] = Some env
labelled env here (n ∷ ns) = if is_some (env n) then None else labelled (defined env n here) here ns

unfoldable pub assigned_in : Env → Body → Option Env
assigned_in env (Assigns name v) = if is_some (env name) then None else Some (defined env name (unwrap_or v 0))
assigned_in env _ = Some env

unfoldable pub named_by : Env → ℕ → Line → Option Env
named_by env here line = do
  labels ← labelled env here line.labels
  assigned_in labels line.body

-- a label _start is the entry; a name that is assigned is none
unfoldable pub entry_after : Option ℕ → ℕ → List (List ℕ) → Option ℕ
entry_after entry here [] = entry
entry_after entry here (n ∷ ns) = entry_after (if bytes_eq n (codes "_start") then Some here else entry) here ns

-- ---- the first pass

-- where the next byte goes, the bytes so far, the names so far, and the label _start
pub record State : Type 0 where
  pub here : ℕ
  pub total : ℕ
  pub entry : Option ℕ
  pub env : Env

unfoldable pub placed : State → Line → Result State Fault
placed s line =
    if nat_lt 16777216 (s.total + size_of s.here line.body) then Err fault.TooLong else
    or_try (named_by s.env s.here line) (λ env.
    if is_missing (early_value line.body) then Err fault.MissingLabel else
    if is_outside s.here line.body then Err fault.OutOfRange else
    Ok (record { here = start_of s.here line.body + size_of s.here line.body; total = s.total + size_of s.here line.body; entry = entry_after s.entry s.here line.labels; env = env }))
    (Err fault.DuplicateLabel)

-- what a line of the first pass leads to
unfoldable pub first_step : ℕ → State → List ℕ → Result State Fault
first_step number s bytes = if nat_lt 65536 number then Err fault.TooLong else then_do (line_of s.env s.here bytes) (placed s)

-- ---- the second pass

-- how many bytes chunks have
abbrev pub bytes_of_chunks : List Chunk → ℕ
bytes_of_chunks [] = 0
bytes_of_chunks (c ∷ cs) = length c.bytes + bytes_of_chunks cs

-- the chunks that are done, and the one that is open
pub record Out : Type 0 where
  pub done : List Chunk
  pub addr : ℕ
  pub bytes : List ℕ

abbrev pub location : Out → ℕ
location out = (out.addr + length out.bytes) % 2 ^ 64

abbrev pub appended : Out → List ℕ → Out
appended out bs = record { done = out.done; addr = out.addr; bytes = out.bytes ++ bs }

-- a chunk without bytes is dropped
abbrev pub kept : List Chunk → ℕ → List ℕ → List Chunk
kept done addr [] = done
kept done addr (b ∷ bs) = done ++ (record { addr = addr; bytes = b ∷ bs; zeros = 0 }) ∷ []

abbrev pub opened : Out → ℕ → Out
opened out addr = record { done = kept out.done out.addr out.bytes; addr = addr; bytes = [] }

-- a value of so many bits, signed or unsigned
unfoldable pub fitted : ℕ → Value → Result ℕ Fault
fitted k None = Err fault.MissingLabel
fitted k (Some v) = if nat_lt v (2 ^ k) || nat_le (2 ^ 64 - 2 ^ (k - 1)) v then Ok (v % 2 ^ k) else Err fault.OutOfRange

unfoldable pub some_missing : List Value → Bool
some_missing [] = false
some_missing (v ∷ vs) = is_missing v || some_missing vs

unfoldable pub number_onto : Width → Value → Out → Result Out Fault
number_onto width v out = then_do (fitted (8 * width_bytes width) v) (λ n. Ok (appended out (bytes_high_first (width_bytes width) n)))

unfoldable pub numbers_onto : Width → List Value → Out → Result Out Fault
numbers_onto width [] out = Ok out
numbers_onto width (v ∷ vs) out = then_do (number_onto width v out) (λ next. numbers_onto width vs next)

abbrev pub words_onto : Pair → Out → Out
words_onto (a, None) out = appended out (bytes_high_first 4 a)
words_onto (a, Some b) out = appended (appended out (bytes_high_first 4 a)) (bytes_high_first 4 b)

unfoldable pub written : Out → Body → Result Out Fault
written out (Holds (Org v)) = Ok (opened out (unwrap_or v 0))
written out (Holds (Skip v)) = Ok (appended out (replicate (unwrap_or v 0) 0))
written out (Holds (Align v)) = Ok (appended out (replicate (padding (location out) (unwrap_or v 0)) 0))
written out (Holds (Numbers width vs)) = if some_missing vs then Err fault.MissingLabel else numbers_onto width vs out
written out (Holds (Text bs)) = Ok (appended out bs)
written out (Holds (Insn s)) = then_do (instruction_words (location out) s) (λ p. Ok (words_onto p out))
written out _ = Ok out

-- what a line of the second pass leads to, with the names of all lines
unfoldable pub second_step : Env → ℕ → Out → List ℕ → Result Out Fault
second_step env number out bytes = then_do (line_of env (location out) bytes) (λ line. written out line.body)

-- ---- both

abbrev pub at_line : {A : Type 0} → ℕ → Result A Fault → Result A (ℕ × Fault)
at_line number (Ok a) = Ok a
at_line number (Err e) = Err (number, e)

abbrev pub then_go : {A B : Type 0} → Result A (ℕ × Fault) → (A → Result B (ℕ × Fault)) → Result B (ℕ × Fault)
then_go (Ok a) go = go a
then_go (Err e) go = Err e

-- the lines one after another, or the number and fault of the first at fault
unfoldable pub pass : {S : Type 0} → (ℕ → S → List ℕ → Result S Fault) → ℕ → S → List (List ℕ) → Result S (ℕ × Fault)
pass step number s [] = Ok s
pass step number s (l ∷ ls) = then_go (at_line number (step number s l)) (λ next. pass step (number + 1) next ls)

abbrev pub first_address : List Chunk → ℕ
first_address [] = 0
first_address (c ∷ cs) = c.addr

abbrev pub state_from : Env → State
state_from env = record { here = 0; total = 0; entry = None; env = env }

abbrev pub first_out : Out
first_out = record { done = []; addr = 0; bytes = [] }

unfoldable pub finished : State → Out → Object
finished s out = record { entry = unwrap_or s.entry (first_address (kept out.done out.addr out.bytes)); chunks = kept out.done out.addr out.bytes }

-- the object of a text, or the line and kind of its first fault
unfoldable pub assembled : List ℕ → Result Object (ℕ × Fault)
assembled text =
    then_go (pass first_step 1 (state_from none_named) (lines_of text)) (λ s.
    then_go (pass (second_step s.env) 1 first_out (lines_of text)) (λ out.
    Ok (finished s out)))

-- ---- what the code holds

abbrev pub state_of : Pass → BTreeMap (Bor (List ℕ)) ℕ → State
state_of p m = record { here = p.here; total = p.total; entry = p.entry; env = env_of m }

abbrev pub FailsAt : {Y : Type 0} → ℕ → Halt → Result Y (ℕ × Fault) → Type 0
FailsAt line (halt.Fault k) read = read ≡ Err (line, k)
FailsAt line halt.Memory read = Unit {0}

-- an answer of a pass is this reading, where there was memory
abbrev pub Ends : {X Y : Type 0} → (X → Y) → Result X Failure → Result Y (ℕ × Fault) → Type 0
Ends view (Ok x) read = read ≡ Ok (view x)
Ends view (Err f) read = FailsAt f.line f.halt read

abbrev pub IsFault : {Y : Type 0} → ℕ → AsmKind → Result Y (ℕ × Fault) → Type 0
IsFault line kind.Syntax read = read ≡ Err (line, fault.Syntax)
IsFault line kind.UnknownName read = read ≡ Err (line, fault.UnknownName)
IsFault line kind.BadOperand read = read ≡ Err (line, fault.BadOperand)
IsFault line kind.OutOfRange read = read ≡ Err (line, fault.OutOfRange)
IsFault line kind.DuplicateLabel read = read ≡ Err (line, fault.DuplicateLabel)
IsFault line kind.MissingLabel read = read ≡ Err (line, fault.MissingLabel)
IsFault line kind.TooLong read = read ≡ Err (line, fault.TooLong)
IsFault line kind.OutOfMemory read = line ≡ 0

-- the object of the reading, or its fault with its line; want of memory has line 0
abbrev pub IsAnswer : Result Object AsmError → Result Object (ℕ × Fault) → Type 0
IsAnswer (Ok o) read = read ≡ Ok o
IsAnswer (Err e) read = IsFault e.line e.kind read
