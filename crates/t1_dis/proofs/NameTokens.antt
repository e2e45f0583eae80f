-- The names of texts are tokens.
use Rattle.std.proofs.Common.{◌≡◌, ◌<◌, ℕ, zero, suc, ◌+◌, ◌/◌, ◌%◌, List, [], ◌∷◌, ◌++◌, refl, arith, Bool, true, false, cond}
use Rattle.std.proofs.lemmas.Bool.Decides.{nat_tests}
use Rattle.std.specs.Prelude.{codes, IsTrue}
use Rattle.t1_lex.specs.Bytes.{is_digit, is_letter, starts_name, is_name_byte}
use Rattle.t1_lex.specs.Parts.{stops, all_bytes, is_name, IsLong}
use Rattle.t1_lex.specs.declared.token.TokenKind.TheVariants.{Name, Percent}
use Rattle.t1_lex.proofs.Parts.{name_long, percent_long}
use Rattle.t1_insn.specs.Ranges.{IsInRange, has_form}
use Rattle.t1_insn.specs.declared.operand.Mem.{Mem}
use Rattle.t1_insn.specs.declared.operand.Mem.TheVariants.{Plain, Alt, AltReg}
use Rattle.t1_insn.specs.declared.operation.AluOp.{AluOp}
use Rattle.t1_insn.specs.declared.operation.AluOp.TheVariants as alu
use Rattle.t1_insn.specs.declared.operation.ShiftOp.{ShiftOp}
use Rattle.t1_insn.specs.declared.operation.ShiftOp.TheVariants as shift
use Rattle.t1_insn.specs.declared.operation.LoadKind.{LoadKind}
use Rattle.t1_insn.specs.declared.operation.LoadKind.TheVariants as load
use Rattle.t1_insn.specs.declared.operation.StoreKind.{StoreKind}
use Rattle.t1_insn.specs.declared.operation.StoreKind.TheVariants as store
use Rattle.t1_insn.specs.declared.instruction.Insn.{Insn}
use Rattle.t1_insn.specs.declared.instruction.Insn.TheVariants as insn
use Rattle.t1_dis.specs.Names.{letter_of, register_bytes, condition_text, register_condition_text, state_text, privileged_text, alu_text, shift_text, load_text, store_text, alternate_text, cas_text, mnemonic_of}
use Rattle.t1_dis.specs.Texts.{codes_text, has_text}

-- registers
digit_goes_on : (d : ℕ) → d < 8 → is_name_byte (48 + d) ≡ true
unfolding is_name_byte is_digit
digit_goes_on d h = grind (arith, nat_tests)

bank_name : (k d : ℕ) → k < 4 → d < 8 → is_name (letter_of k ∷ (48 + d) ∷ []) ≡ true
unfolding is_name all_bytes letter_of starts_name is_letter is_digit
bank_name zero d h g = rw (digit_goes_on d g) refl
bank_name (suc zero) d h g = rw (digit_goes_on d g) refl
bank_name (suc (suc zero)) d h g = rw (digit_goes_on d g) refl
bank_name (suc (suc (suc zero))) d h g = rw (digit_goes_on d g) refl
bank_name (suc (suc (suc (suc k)))) d h g = absurd (omega arith)

pub register_long : (r : ℕ) → r < 32 → IsLong Percent (register_bytes r)
register_long r h = percent_long (letter_of (r / 8) ∷ (48 + r % 8) ∷ []) (bank_name (r / 8) (r % 8) (omega arith) (omega arith))

-- a % and a name
pub record IsPercent (bs : List ℕ) : Type 0 where
  pub long : IsLong Percent bs
  pub stops : (rest : List ℕ) → stops is_name_byte (bs ++ rest) ≡ true

percent : (bs : List ℕ) → is_name bs ≡ true → IsPercent (37 ∷ bs)
unfolding is_name_byte starts_name is_letter is_digit stops
percent bs h = record { long = percent_long bs h; stops = λ rest. refl }

percent_if : (t : Bool) (x y : List ℕ) → IsPercent x → IsPercent y → IsPercent (cond t x y)
percent_if true x y p q = p
percent_if false x y p q = q

pub codes_percent : (wide : Bool) → IsPercent (codes_text wide)
unfolding is_name all_bytes starts_name is_name_byte is_letter is_digit
codes_percent false = percent (codes "icc") refl
codes_percent true = percent (codes "xcc") refl

pub asi_percent : IsPercent (codes "%asi")
unfolding is_name all_bytes starts_name is_name_byte is_letter is_digit
asi_percent = percent (codes "asi") refl

pub state_percent : (n : ℕ) → IsPercent (state_text n)
unfolding state_text is_name all_bytes starts_name is_name_byte is_letter is_digit
state_percent n =
    percent_if _ _ _ (percent (codes "y") refl) (
    percent_if _ _ _ (percent (codes "ccr") refl) (
    percent_if _ _ _ (percent (codes "asi") refl) (
    percent_if _ _ _ (percent (codes "tick") refl) (
    percent_if _ _ _ (percent (codes "pc") refl) (
    percent_if _ _ _ (percent (codes "fprs") refl) (
    percent_if _ _ _ (percent (codes "set_softint") refl) (
    percent_if _ _ _ (percent (codes "clear_softint") refl) (
    percent_if _ _ _ (percent (codes "softint") refl) (
    (percent (codes "asr26") refl))))))))))

pub privileged_percent : (n : ℕ) → IsPercent (privileged_text n)
unfolding privileged_text is_name all_bytes starts_name is_name_byte is_letter is_digit
privileged_percent n =
    percent_if _ _ _ (percent (codes "tpc") refl) (
    percent_if _ _ _ (percent (codes "tnpc") refl) (
    percent_if _ _ _ (percent (codes "tstate") refl) (
    percent_if _ _ _ (percent (codes "tt") refl) (
    percent_if _ _ _ (percent (codes "tick") refl) (
    percent_if _ _ _ (percent (codes "tba") refl) (
    percent_if _ _ _ (percent (codes "pstate") refl) (
    percent_if _ _ _ (percent (codes "tl") refl) (
    percent_if _ _ _ (percent (codes "pil") refl) (
    percent_if _ _ _ (percent (codes "cwp") refl) (
    percent_if _ _ _ (percent (codes "cansave") refl) (
    percent_if _ _ _ (percent (codes "canrestore") refl) (
    percent_if _ _ _ (percent (codes "cleanwin") refl) (
    percent_if _ _ _ (percent (codes "otherwin") refl) (
    percent_if _ _ _ (percent (codes "wstate") refl) (
    (percent (codes "gl") refl))))))))))))))))

-- names
record AreNameBytes (bs : List ℕ) : Type 0 where
  all : all_bytes is_name_byte bs ≡ true

letters : (bs : List ℕ) → all_bytes is_name_byte bs ≡ true → AreNameBytes bs
letters bs h = record { all = h }

all_if : (t : Bool) (x y : List ℕ) → AreNameBytes x → AreNameBytes y → AreNameBytes (cond t x y)
all_if true x y p q = p
all_if false x y p q = q

condition_letters : (n : ℕ) → AreNameBytes (condition_text n)
unfolding condition_text all_bytes starts_name is_name_byte is_letter is_digit
condition_letters n =
    all_if _ _ _ (letters (codes "n") refl) (
    all_if _ _ _ (letters (codes "e") refl) (
    all_if _ _ _ (letters (codes "le") refl) (
    all_if _ _ _ (letters (codes "l") refl) (
    all_if _ _ _ (letters (codes "leu") refl) (
    all_if _ _ _ (letters (codes "cs") refl) (
    all_if _ _ _ (letters (codes "neg") refl) (
    all_if _ _ _ (letters (codes "vs") refl) (
    all_if _ _ _ (letters (codes "a") refl) (
    all_if _ _ _ (letters (codes "ne") refl) (
    all_if _ _ _ (letters (codes "g") refl) (
    all_if _ _ _ (letters (codes "ge") refl) (
    all_if _ _ _ (letters (codes "gu") refl) (
    all_if _ _ _ (letters (codes "cc") refl) (
    all_if _ _ _ (letters (codes "pos") refl) (
    letters (codes "vc") refl)))))))))))))))

condition_bytes : (n : ℕ) → all_bytes is_name_byte (condition_text n) ≡ true
condition_bytes n = (condition_letters n).all

register_condition_letters : (n : ℕ) → AreNameBytes (register_condition_text n)
unfolding register_condition_text all_bytes starts_name is_name_byte is_letter is_digit
register_condition_letters n =
    all_if _ _ _ (letters (codes "z") refl) (
    all_if _ _ _ (letters (codes "lez") refl) (
    all_if _ _ _ (letters (codes "lz") refl) (
    all_if _ _ _ (letters (codes "nz") refl) (
    all_if _ _ _ (letters (codes "gz") refl) (
    letters (codes "gez") refl)))))

register_condition_bytes : (n : ℕ) → all_bytes is_name_byte (register_condition_text n) ≡ true
register_condition_bytes n = (register_condition_letters n).all

alternate_bytes : (mem : Mem) → all_bytes is_name_byte (alternate_text mem) ≡ true
unfolding all_bytes starts_name is_name_byte is_letter is_digit
alternate_bytes (Plain src) = refl
alternate_bytes (Alt rs2 asi) = refl
alternate_bytes (AltReg imm) = refl

alu_name : (op : AluOp) (cc : Bool) → IsTrue (has_form op cc) → is_name (alu_text op cc) ≡ true
unfolding is_name all_bytes starts_name is_name_byte is_letter is_digit alu_text
alu_name alu.Add false h = refl
alu_name alu.Add true h = refl
alu_name alu.And false h = refl
alu_name alu.And true h = refl
alu_name alu.Or false h = refl
alu_name alu.Or true h = refl
alu_name alu.Xor false h = refl
alu_name alu.Xor true h = refl
alu_name alu.Sub false h = refl
alu_name alu.Sub true h = refl
alu_name alu.Andn false h = refl
alu_name alu.Andn true h = refl
alu_name alu.Orn false h = refl
alu_name alu.Orn true h = refl
alu_name alu.Xnor false h = refl
alu_name alu.Xnor true h = refl
alu_name alu.Addc false h = refl
alu_name alu.Addc true h = refl
alu_name alu.Mulx false h = refl
alu_name alu.Mulx true h = cc
alu_name alu.Umul false h = refl
alu_name alu.Umul true h = refl
alu_name alu.Smul false h = refl
alu_name alu.Smul true h = refl
alu_name alu.Subc false h = refl
alu_name alu.Subc true h = refl
alu_name alu.Udivx false h = refl
alu_name alu.Udivx true h = cc
alu_name alu.Udiv false h = refl
alu_name alu.Udiv true h = refl
alu_name alu.Sdiv false h = refl
alu_name alu.Sdiv true h = refl
alu_name alu.Taddcc false h = cc
alu_name alu.Taddcc true h = refl
alu_name alu.Tsubcc false h = cc
alu_name alu.Tsubcc true h = refl
alu_name alu.TaddccTv false h = cc
alu_name alu.TaddccTv true h = refl
alu_name alu.TsubccTv false h = cc
alu_name alu.TsubccTv true h = refl
alu_name alu.Mulscc false h = cc
alu_name alu.Mulscc true h = refl
alu_name alu.Sdivx false h = refl
alu_name alu.Sdivx true h = cc

shift_name : (op : ShiftOp) (wide : Bool) → is_name (shift_text op wide) ≡ true
unfolding is_name all_bytes starts_name is_name_byte is_letter is_digit
shift_name shift.Sll false = refl
shift_name shift.Srl false = refl
shift_name shift.Sra false = refl
shift_name shift.Sll true = refl
shift_name shift.Srl true = refl
shift_name shift.Sra true = refl

load_name : (kind : LoadKind) (mem : Mem) → is_name (load_text kind ++ alternate_text mem) ≡ true
unfolding is_name all_bytes starts_name is_name_byte is_letter is_digit
load_name load.Uw mem = alternate_bytes mem
load_name load.Ub mem = alternate_bytes mem
load_name load.Uh mem = alternate_bytes mem
load_name load.Tw mem = alternate_bytes mem
load_name load.Sw mem = alternate_bytes mem
load_name load.Sb mem = alternate_bytes mem
load_name load.Sh mem = alternate_bytes mem
load_name load.X mem = alternate_bytes mem

store_name : (kind : StoreKind) (mem : Mem) → is_name (store_text kind ++ alternate_text mem) ≡ true
unfolding is_name all_bytes starts_name is_name_byte is_letter is_digit
store_name store.W mem = alternate_bytes mem
store_name store.B mem = alternate_bytes mem
store_name store.H mem = alternate_bytes mem
store_name store.Tw mem = alternate_bytes mem
store_name store.X mem = alternate_bytes mem

cas_name : (wide : Bool) → is_name (cas_text wide) ≡ true
unfolding is_name all_bytes starts_name is_name_byte is_letter is_digit
cas_name true = refl
cas_name false = refl

mnemonic_name : (i : Insn) → has_text i ≡ true → IsInRange i → is_name (mnemonic_of i) ≡ true
unfolding mnemonic_of is_name all_bytes starts_name is_name_byte is_letter is_digit
mnemonic_name insn.Illegal t h = cc
mnemonic_name insn.FpOff t h = cc
mnemonic_name (insn.ReadHpr reg rd) t h = cc
mnemonic_name (insn.WriteHpr reg rs1 src) t h = cc
mnemonic_name insn.Stbar t h = refl
mnemonic_name insn.Flushw t h = refl
mnemonic_name insn.Saved t h = refl
mnemonic_name insn.Restored t h = refl
mnemonic_name insn.Done t h = refl
mnemonic_name insn.Retry t h = refl
mnemonic_name (insn.Bpcc cond annul wide taken disp) t h = condition_bytes cond
mnemonic_name (insn.Bicc cond annul disp) t h = condition_bytes cond
mnemonic_name (insn.Bpr rcond annul taken rs1 disp) t h = register_condition_bytes rcond
mnemonic_name (insn.Sethi rd imm) t h = refl
mnemonic_name (insn.Call disp) t h = refl
mnemonic_name (insn.Membar mask) t h = refl
mnemonic_name (insn.Alu op cc rd rs1 src) t h = alu_name op cc h.0
mnemonic_name (insn.Shift op wide rd rs1 src) t h = shift_name op wide
mnemonic_name (insn.ReadAsr asr rd) t h = refl
mnemonic_name (insn.WriteAsr asr rs1 src) t h = refl
mnemonic_name (insn.ReadPr reg rd) t h = refl
mnemonic_name (insn.WritePr reg rs1 src) t h = refl
mnemonic_name (insn.Movcc cond wide rd src) t h = condition_bytes cond
mnemonic_name (insn.Movr rcond rd rs1 src) t h = register_condition_bytes rcond
mnemonic_name (insn.Jmpl rd rs1 src) t h = refl
mnemonic_name (insn.Return rs1 src) t h = refl
mnemonic_name (insn.Flush rs1 src) t h = refl
mnemonic_name (insn.Trap cond wide rs1 src) t h = condition_bytes cond
mnemonic_name (insn.Save rd rs1 src) t h = refl
mnemonic_name (insn.Restore rd rs1 src) t h = refl
mnemonic_name (insn.Load kind rd rs1 mem) t h = load_name kind mem
mnemonic_name (insn.Store kind rd rs1 mem) t h = store_name kind mem
mnemonic_name (insn.Ldstub rd rs1 mem) t h = alternate_bytes mem
mnemonic_name (insn.Swap rd rs1 mem) t h = alternate_bytes mem
mnemonic_name (insn.Prefetch fcn rs1 mem) t h = alternate_bytes mem
mnemonic_name (insn.Cas wide rd rs1 rs2 asi) t h = cas_name wide

pub mnemonic_long : (i : Insn) → has_text i ≡ true → IsInRange i → IsLong Name (mnemonic_of i)
mnemonic_long i t h = name_long (mnemonic_of i) (mnemonic_name i t h)
