-- The instructions of statements, and their words.
use Rattle.std.specs.Prelude.{ℕ, ◌+◌, ◌-◌, ◌/◌, ◌%◌, ◌^◌, ◌==◌, nat_lt, if◌then◌else◌, Bool, true, false, ℤ, pos, negsuc, Option, Some, None, Result, Ok, Err}
use Rattle.t1_insn.specs.declared.operand.Src.{Src}
use Rattle.t1_insn.specs.declared.operand.Src.TheVariants.{Reg, Imm}
use Rattle.t1_insn.specs.declared.operand.Mem.{Mem}
use Rattle.t1_insn.specs.declared.operand.Mem.TheVariants as mem
use Rattle.t1_insn.specs.declared.operation.AluOp.TheVariants as alu
use Rattle.t1_insn.specs.declared.instruction.Insn.{Insn}
use Rattle.t1_insn.specs.declared.instruction.Insn.TheVariants as insn
use Rattle.t1_encode.specs.Words.{encoded}
use Rattle.t1_form.specs.Options.{◌>>=◌}
use Rattle.t1_expr.specs.Exprs.{Value}
use Rattle.t1_operand.specs.declared.fields.Source.{Source}
use Rattle.t1_operand.specs.declared.fields.Source.TheVariants.{Register, Value as Given}
use Rattle.t1_operand.specs.declared.fields.Fields.{Fields}
use Rattle.t1_form.specs.declared.template.Space.{Space}
use Rattle.t1_form.specs.declared.template.Space.TheVariants.{Plain, Named, Asi}
use Rattle.t1_form.specs.declared.template.Access.{Access}
use Rattle.t1_form.specs.declared.template.Access.TheVariants as access
use Rattle.t1_form.specs.declared.template.Template.{Template}
use Rattle.t1_form.specs.declared.template.Template.TheVariants as template
use Rattle.t1_operand.specs.declared.fields.Instruction.{Instruction}
use Rattle.t1_stmt.specs.declared.fault.Fault.{Fault}
use Rattle.t1_stmt.specs.declared.fault.Fault.TheVariants.{MissingLabel, OutOfRange}

-- a 64-bit value as a signed number, where it has 32 bits
unfoldable pub signed_word : ℕ → Option ℤ
signed_word v =
    if nat_lt v (2 ^ 31) then Some (pos v) else
    if nat_lt (2 ^ 64 - 1 - 2 ^ 31) v then Some (negsuc (2 ^ 64 - 1 - v)) else
    None

-- a distance modulo 2^64, in words of four bytes
unfoldable pub words_away : ℕ → Option ℤ
words_away away =
    if away % 4 == 0 then
    (if nat_lt away (2 ^ 33) then Some (pos (away / 4)) else
    if nat_lt (2 ^ 64 - 1 - 2 ^ 33) away then Some (negsuc ((2 ^ 64 - 1 - away) / 4)) else
    None)
    else None

unfoldable pub target_of : ℕ → Value → Option ℤ
target_of here v = do
  n ← v
  words_away ((n + 2 ^ 64 - here) % 2 ^ 64)

-- a value below k
unfoldable pub below : ℕ → Value → Option ℕ
below k v = do
  n ← v
  if nat_lt n k then Some n else None

unfoldable pub operand_of : Source → Option Src
operand_of (Register r) = Some (Reg r)
operand_of (Given v) = do
  n ← v
  z ← signed_word n
  Some (Imm z)

abbrev pub named_mem : Source → ℕ → Option Mem
named_mem (Register r) asi = Some (mem.Alt r asi)
named_mem (Given v) asi = None

abbrev pub asi_mem : Src → Option Mem
asi_mem (Reg r) = None
asi_mem (Imm z) = Some (mem.AltReg z)

unfoldable pub mem_of : Space → Fields → Option Mem
mem_of Plain f = do
  s ← operand_of f.source
  Some (mem.Plain s)
mem_of Named f = do
  asi ← below 256 f.value
  named_mem f.source asi
mem_of Asi f = do
  s ← operand_of f.source
  asi_mem s

abbrev pub accessed : Access → Fields → Mem → Insn
accessed (access.Load kind) f m = insn.Load kind f.rd f.rs1 m
accessed (access.Store kind) f m = insn.Store kind f.rd f.rs1 m
accessed access.Ldstub f m = insn.Ldstub f.rd f.rs1 m
accessed access.Swap f m = insn.Swap f.rd f.rs1 m

abbrev pub compared : Bool → Fields → Source → Option ℕ → Option Insn
compared wide f (Register r) asi = Some (insn.Cas wide f.rd f.rs1 r asi)
compared wide f (Given v) asi = None

unfoldable pub compare_of : Bool → Space → Fields → Option Insn
compare_of wide Asi f = compared wide f f.source None
compare_of wide _ f = do
  asi ← below 256 f.value
  compared wide f f.source (Some asi)

-- what is put into a branch, and into an instruction with a second operand
unfoldable pub branch_of : ℕ → Template → Fields → ℤ → Option Insn
branch_of here (template.Bicc cond) f disp = Some (insn.Bicc cond f.annul disp)
branch_of here (template.Bpcc cond) f disp = Some (insn.Bpcc cond f.annul f.wide f.taken disp)
branch_of here (template.Bpr rcond) f disp = Some (insn.Bpr rcond f.annul f.taken f.rs1 disp)
branch_of here template.Call f disp = Some (insn.Call disp)
branch_of here _ f disp = None

unfoldable pub operated : Template → Fields → Src → Option Insn
operated (template.Alu op cc) f src = Some (insn.Alu op cc f.rd f.rs1 src)
operated (template.Shift op wide) f src = Some (insn.Shift op wide f.rd f.rs1 src)
operated template.Save f src = Some (insn.Save f.rd f.rs1 src)
operated template.Restore f src = Some (insn.Restore f.rd f.rs1 src)
operated template.Jmpl f src = Some (insn.Jmpl f.rd f.rs1 src)
operated template.Return f src = Some (insn.Return f.rs1 src)
operated template.Flush f src = Some (insn.Flush f.rs1 src)
operated (template.Trap cond) f src = Some (insn.Trap cond f.wide f.rs1 src)
operated (template.Movcc cond) f src = Some (insn.Movcc cond f.wide f.rd src)
operated (template.Movr rcond) f src = Some (insn.Movr rcond f.rd f.rs1 src)
operated template.WriteAsr f src = Some (insn.WriteAsr f.number f.rs1 src)
operated template.WritePr f src = Some (insn.WritePr f.number f.rs1 src)
operated _ f src = None

-- the instruction of a statement that stands at a location; None where a value does not fit
unfoldable pub filled : ℕ → Template → Fields → Option Insn
filled here (template.Fixed i) f = Some i
filled here (template.Bicc cond) f = do
  disp ← target_of here f.value
  branch_of here (template.Bicc cond) f disp
filled here (template.Bpcc cond) f = do
  disp ← target_of here f.value
  branch_of here (template.Bpcc cond) f disp
filled here (template.Bpr rcond) f = do
  disp ← target_of here f.value
  branch_of here (template.Bpr rcond) f disp
filled here template.Call f = do
  disp ← target_of here f.value
  branch_of here template.Call f disp
filled here template.Sethi f = do
  n ← below (2 ^ 32) f.value
  Some (insn.Sethi f.rd n)
filled here (template.Access a space) f = do
  m ← mem_of space f
  Some (accessed a f m)
filled here (template.Prefetch space) f = do
  m ← mem_of space f
  fcn ← below 256 f.extra
  Some (insn.Prefetch fcn f.rs1 m)
filled here (template.Cas wide space) f = compare_of wide space f
filled here template.ReadAsr f = Some (insn.ReadAsr f.number f.rd)
filled here template.ReadPr f = Some (insn.ReadPr f.number f.rd)
filled here template.Membar f = do
  mask ← below 256 f.value
  Some (insn.Membar mask)
filled here template.Set f = None
filled here template.Illtrap f = None
filled here m f = do
  src ← operand_of f.source
  operated m f src

-- one word, or two
abbrev pub Pair : Type 0
Pair = ℕ × Option ℕ

-- sethi and or
unfoldable pub set_of : ℕ → ℕ → Option Pair
set_of rd n = do
  high ← encoded (insn.Sethi rd (n / 2 ^ 10))
  low ← encoded (insn.Alu alu.Or false rd rd (Imm (pos (n % 2 ^ 10))))
  Some (high, Some low)

unfoldable pub word_of : ℕ → Template → Fields → Option Pair
word_of here m f = do
  i ← filled here m f
  w ← encoded i
  Some (w, None)

unfoldable pub words_of : ℕ → Template → Fields → Option Pair
words_of here template.Set f = do
  n ← below (2 ^ 32) f.value
  set_of f.rd n
words_of here template.Illtrap f = do
  n ← below (2 ^ 22) f.value
  Some (n, None)
words_of here m f = word_of here m f

abbrev pub is_missing : Value → Bool
is_missing None = true
is_missing (Some n) = false

abbrev pub lacks_operand : Source → Bool
lacks_operand (Register r) = false
lacks_operand (Given v) = is_missing v

-- a name in a value has none
abbrev pub lacks : Fields → Bool
lacks f = if lacks_operand f.source then true else if is_missing f.value then true else is_missing f.extra

abbrev pub in_range : {A : Type 0} → Option A → Result A Fault
in_range None = Err OutOfRange
in_range (Some a) = Ok a

unfoldable pub instruction_words : ℕ → Instruction → Result Pair Fault
instruction_words here s = if lacks s.fields then Err MissingLabel else in_range (words_of here s.template s.fields)

-- set makes two words, the others one
abbrev pub instruction_size : Template → ℕ
instruction_size template.Set = 8
instruction_size _ = 4
