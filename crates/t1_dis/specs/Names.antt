-- The names in texts: registers, conditions, mnemonics.
use Rattle.std.specs.Prelude.{ℕ, ◌+◌, ◌/◌, ◌%◌, ◌==◌, ◌++◌, if◌then◌else◌, Bool, true, false, List, [], ◌∷◌, codes}
use Rattle.t1_insn.specs.declared.operand.Mem.{Mem}
use Rattle.t1_insn.specs.declared.operand.Mem.TheVariants.{Plain}
use Rattle.t1_insn.specs.declared.operation.AluOp.{AluOp}
use Rattle.t1_insn.specs.declared.operation.AluOp.TheVariants as alu
use Rattle.t1_insn.specs.declared.operation.ShiftOp.{ShiftOp}
use Rattle.t1_insn.specs.declared.operation.ShiftOp.TheVariants as shift
use Rattle.t1_insn.specs.declared.operation.LoadKind.{LoadKind}
use Rattle.t1_insn.specs.declared.operation.LoadKind.TheVariants as load
use Rattle.t1_insn.specs.declared.operation.StoreKind.{StoreKind}
use Rattle.t1_insn.specs.declared.operation.StoreKind.TheVariants as store
use Rattle.t1_insn.specs.declared.instruction.Insn.{Insn}
use Rattle.t1_insn.specs.declared.instruction.Insn.TheVariants as insn

-- g o l i
unfoldable pub letter_of : ℕ → ℕ
letter_of bank =
    if bank == 0 then 103 else
    if bank == 1 then 111 else
    if bank == 2 then 108 else
    105

abbrev pub register_bytes : ℕ → List ℕ
register_bytes r = 37 ∷ letter_of (r / 8) ∷ (48 + r % 8) ∷ []

-- conditions of the condition codes
unfoldable pub condition_text : ℕ → List ℕ
condition_text cond =
    if cond == 0 then codes "n" else
    if cond == 1 then codes "e" else
    if cond == 2 then codes "le" else
    if cond == 3 then codes "l" else
    if cond == 4 then codes "leu" else
    if cond == 5 then codes "cs" else
    if cond == 6 then codes "neg" else
    if cond == 7 then codes "vs" else
    if cond == 8 then codes "a" else
    if cond == 9 then codes "ne" else
    if cond == 10 then codes "g" else
    if cond == 11 then codes "ge" else
    if cond == 12 then codes "gu" else
    if cond == 13 then codes "cc" else
    if cond == 14 then codes "pos" else
    codes "vc"

-- conditions of a register
unfoldable pub register_condition_text : ℕ → List ℕ
register_condition_text rcond =
    if rcond == 1 then codes "z" else
    if rcond == 2 then codes "lez" else
    if rcond == 3 then codes "lz" else
    if rcond == 5 then codes "nz" else
    if rcond == 6 then codes "gz" else
    codes "gez"

-- ancillary state registers; 26 halts
unfoldable pub state_text : ℕ → List ℕ
state_text asr =
    if asr == 0 then codes "%y" else
    if asr == 2 then codes "%ccr" else
    if asr == 3 then codes "%asi" else
    if asr == 4 then codes "%tick" else
    if asr == 5 then codes "%pc" else
    if asr == 6 then codes "%fprs" else
    if asr == 20 then codes "%set_softint" else
    if asr == 21 then codes "%clear_softint" else
    if asr == 22 then codes "%softint" else
    codes "%asr26"

-- privileged registers
unfoldable pub privileged_text : ℕ → List ℕ
privileged_text reg =
    if reg == 0 then codes "%tpc" else
    if reg == 1 then codes "%tnpc" else
    if reg == 2 then codes "%tstate" else
    if reg == 3 then codes "%tt" else
    if reg == 4 then codes "%tick" else
    if reg == 5 then codes "%tba" else
    if reg == 6 then codes "%pstate" else
    if reg == 7 then codes "%tl" else
    if reg == 8 then codes "%pil" else
    if reg == 9 then codes "%cwp" else
    if reg == 10 then codes "%cansave" else
    if reg == 11 then codes "%canrestore" else
    if reg == 12 then codes "%cleanwin" else
    if reg == 13 then codes "%otherwin" else
    if reg == 14 then codes "%wstate" else
    codes "%gl"

-- an operation, with cc where it sets the condition codes
unfoldable pub alu_text : AluOp → Bool → List ℕ
alu_text alu.Add false = codes "add"
alu_text alu.Add true = codes "addcc"
alu_text alu.And false = codes "and"
alu_text alu.And true = codes "andcc"
alu_text alu.Or false = codes "or"
alu_text alu.Or true = codes "orcc"
alu_text alu.Xor false = codes "xor"
alu_text alu.Xor true = codes "xorcc"
alu_text alu.Sub false = codes "sub"
alu_text alu.Sub true = codes "subcc"
alu_text alu.Andn false = codes "andn"
alu_text alu.Andn true = codes "andncc"
alu_text alu.Orn false = codes "orn"
alu_text alu.Orn true = codes "orncc"
alu_text alu.Xnor false = codes "xnor"
alu_text alu.Xnor true = codes "xnorcc"
alu_text alu.Addc false = codes "addc"
alu_text alu.Addc true = codes "addccc"
alu_text alu.Mulx false = codes "mulx"
alu_text alu.Umul false = codes "umul"
alu_text alu.Umul true = codes "umulcc"
alu_text alu.Smul false = codes "smul"
alu_text alu.Smul true = codes "smulcc"
alu_text alu.Subc false = codes "subc"
alu_text alu.Subc true = codes "subccc"
alu_text alu.Udivx false = codes "udivx"
alu_text alu.Udiv false = codes "udiv"
alu_text alu.Udiv true = codes "udivcc"
alu_text alu.Sdiv false = codes "sdiv"
alu_text alu.Sdiv true = codes "sdivcc"
alu_text alu.Taddcc true = codes "taddcc"
alu_text alu.Tsubcc true = codes "tsubcc"
alu_text alu.TaddccTv true = codes "taddcctv"
alu_text alu.TsubccTv true = codes "tsubcctv"
alu_text alu.Mulscc true = codes "mulscc"
alu_text alu.Sdivx false = codes "sdivx"
alu_text _ _ = []

abbrev pub shift_text : ShiftOp → Bool → List ℕ
shift_text shift.Sll false = codes "sll"
shift_text shift.Srl false = codes "srl"
shift_text shift.Sra false = codes "sra"
shift_text shift.Sll true = codes "sllx"
shift_text shift.Srl true = codes "srlx"
shift_text shift.Sra true = codes "srax"

abbrev pub load_text : LoadKind → List ℕ
load_text load.Uw = codes "lduw"
load_text load.Ub = codes "ldub"
load_text load.Uh = codes "lduh"
load_text load.Tw = codes "ldtw"
load_text load.Sw = codes "ldsw"
load_text load.Sb = codes "ldsb"
load_text load.Sh = codes "ldsh"
load_text load.X = codes "ldx"

abbrev pub store_text : StoreKind → List ℕ
store_text store.W = codes "stw"
store_text store.B = codes "stb"
store_text store.H = codes "sth"
store_text store.Tw = codes "sttw"
store_text store.X = codes "stx"

-- an a behind the mnemonic of an alternate form
abbrev pub alternate_text : Mem → List ℕ
alternate_text (Plain src) = []
alternate_text _ = codes "a"

abbrev pub cas_text : Bool → List ℕ
cas_text false = codes "casa"
cas_text true = codes "casxa"

-- the mnemonic of an instruction
unfoldable pub mnemonic_of : Insn → List ℕ
mnemonic_of insn.Illegal = []
mnemonic_of insn.FpOff = []
mnemonic_of (insn.ReadHpr reg rd) = []
mnemonic_of (insn.WriteHpr reg rs1 src) = []
mnemonic_of insn.Stbar = codes "stbar"
mnemonic_of insn.Flushw = codes "flushw"
mnemonic_of insn.Saved = codes "saved"
mnemonic_of insn.Restored = codes "restored"
mnemonic_of insn.Done = codes "done"
mnemonic_of insn.Retry = codes "retry"
mnemonic_of (insn.Bpcc cond annul wide taken disp) = codes "b" ++ condition_text cond
mnemonic_of (insn.Bicc cond annul disp) = codes "b" ++ condition_text cond
mnemonic_of (insn.Bpr rcond annul taken rs1 disp) = codes "br" ++ register_condition_text rcond
mnemonic_of (insn.Sethi rd imm) = codes "sethi"
mnemonic_of (insn.Call disp) = codes "call"
mnemonic_of (insn.Membar mask) = codes "membar"
mnemonic_of (insn.Alu op cc rd rs1 src) = alu_text op cc
mnemonic_of (insn.Shift op wide rd rs1 src) = shift_text op wide
mnemonic_of (insn.ReadAsr asr rd) = codes "rd"
mnemonic_of (insn.WriteAsr asr rs1 src) = codes "wr"
mnemonic_of (insn.ReadPr reg rd) = codes "rdpr"
mnemonic_of (insn.WritePr reg rs1 src) = codes "wrpr"
mnemonic_of (insn.Movcc cond wide rd src) = codes "mov" ++ condition_text cond
mnemonic_of (insn.Movr rcond rd rs1 src) = codes "movr" ++ register_condition_text rcond
mnemonic_of (insn.Jmpl rd rs1 src) = codes "jmpl"
mnemonic_of (insn.Return rs1 src) = codes "return"
mnemonic_of (insn.Flush rs1 src) = codes "flush"
mnemonic_of (insn.Trap cond wide rs1 src) = codes "t" ++ condition_text cond
mnemonic_of (insn.Save rd rs1 src) = codes "save"
mnemonic_of (insn.Restore rd rs1 src) = codes "restore"
mnemonic_of (insn.Load kind rd rs1 mem) = load_text kind ++ alternate_text mem
mnemonic_of (insn.Store kind rd rs1 mem) = store_text kind ++ alternate_text mem
mnemonic_of (insn.Ldstub rd rs1 mem) = codes "ldstub" ++ alternate_text mem
mnemonic_of (insn.Swap rd rs1 mem) = codes "swap" ++ alternate_text mem
mnemonic_of (insn.Prefetch fcn rs1 mem) = codes "prefetch" ++ alternate_text mem
mnemonic_of (insn.Cas wide rd rs1 rs2 asi) = cas_text wide
