-- The texts of words, part by part: a mnemonic, and its operands by the slots of the assembler's form.
use Rattle.std.specs.Prelude.{ℕ, ◌-◌, ◌^◌, ◌==◌, nat_lt, if◌then◌else◌, Bool, true, false, List, [], ◌∷◌, Option, Some, None, codes, decimal}
use Rattle.t1_lex.specs.Parts.{Part, bytes_of}
use Rattle.t1_lex.specs.Parts.Part.{Space, Mark, Long}
use Rattle.t1_lex.specs.declared.token.TokenKind.TheVariants.{Name, Number, Percent}
use Rattle.t1_insn.specs.declared.instruction.Insn.{Insn}
use Rattle.t1_insn.specs.declared.instruction.Insn.TheVariants as insn
use Rattle.t1_decode.specs.Words.{insn_of}
use Rattle.t1_form.specs.declared.slot.Slot.{Slot}
use Rattle.t1_form.specs.declared.slot.Slot.TheVariants as slot
use Rattle.t1_form.specs.Shapes.{slots_of}
use Rattle.t1_operand.specs.declared.fields.Source.{Source}
use Rattle.t1_operand.specs.declared.fields.Source.TheVariants.{Register, Value}
use Rattle.t1_operand.specs.declared.fields.Fields.{Fields}
use Rattle.t1_dis.specs.Hex.{hex_of}
use Rattle.t1_dis.specs.Names.{register_bytes, state_text, privileged_text, mnemonic_of}
use Rattle.t1_dis.specs.Operands.{shape_of, fields_of}

abbrev pub register : ℕ → Part
register r = Long Percent (register_bytes r)

abbrev pub number : ℕ → Part
number n = Long (Number n) (decimal n)

abbrev pub hex : ℕ → ℕ → Part
hex k n = Long (Number n) (48 ∷ 120 ∷ hex_of k n)

-- a 64-bit value as a signed number, and what follows it
unfoldable pub signed : ℕ → List Part → List Part
signed v ps = if nat_lt v (2 ^ 63) then number v ∷ ps else Mark 45 ∷ number (2 ^ 64 - v) ∷ ps

-- the same behind a register
unfoldable pub offset : ℕ → List Part → List Part
offset v ps = if nat_lt v (2 ^ 63) then Mark 43 ∷ number v ∷ ps else Mark 45 ∷ number (2 ^ 64 - v) ∷ ps

abbrev pub source : Source → List Part → List Part
source (Register r) ps = register r ∷ ps
source (Value (Some v)) ps = signed v ps
source (Value None) ps = ps

-- r+r, r+n or r-n
abbrev pub behind_register : Source → List Part → List Part
behind_register (Register r) ps = Mark 43 ∷ register r ∷ ps
behind_register (Value (Some v)) ps = offset v ps
behind_register (Value None) ps = ps

abbrev pub address : ℕ → Source → List Part → List Part
address r from ps = register r ∷ behind_register from ps

abbrev pub value : Option ℕ → List Part → List Part
value (Some n) ps = number n ∷ ps
value None ps = ps

abbrev pub target : Option ℕ → List Part → List Part
target (Some n) ps = hex 16 n ∷ ps
target None ps = ps

abbrev pub codes_text : Bool → List ℕ
codes_text false = codes "%icc"
codes_text true = codes "%xcc"

-- a space behind a comma
abbrev pub gap : ℕ → List Part → List Part
gap b ps = if b == 44 then Space ∷ ps else ps

-- what a slot shows of the fields, and what follows it
unfoldable pub slot_parts : Slot → Fields → List Part → List Part
slot_parts (slot.Mark b) f ps = Mark b ∷ gap b ps
slot_parts slot.Rd f ps = register f.rd ∷ ps
slot_parts slot.Rs1 f ps = register f.rs1 ∷ ps
slot_parts slot.Rs2 f ps = source f.source ps
slot_parts slot.Operand f ps = source f.source ps
slot_parts slot.Number f ps = value f.value ps
slot_parts slot.Target f ps = target f.value ps
slot_parts slot.AsiNumber f ps = Space ∷ value f.value ps
slot_parts slot.Extra f ps = value f.extra ps
slot_parts slot.Address f ps = address f.rs1 f.source ps
slot_parts slot.Within f ps = address f.rs1 f.source ps
slot_parts slot.Pair f ps = address f.rs1 f.source ps
slot_parts slot.Offset f ps = address f.rs1 f.source ps
slot_parts slot.Codes f ps = Long Percent (codes_text f.wide) ∷ ps
slot_parts slot.Asi f ps = Space ∷ Long Percent (codes "%asi") ∷ ps
slot_parts slot.State f ps = Long Percent (state_text f.number) ∷ ps
slot_parts slot.Privileged f ps = Long Percent (privileged_text f.number) ∷ ps
slot_parts _ f ps = ps

-- slot by slot
unfoldable pub slots_parts : List Slot → Fields → List Part
slots_parts [] f = []
slots_parts (s ∷ ss) f = slot_parts s f (slots_parts ss f)

-- the operands with a space before them, where there are any
abbrev pub operand_parts : List Slot → Fields → List Part
operand_parts [] f = []
operand_parts (s ∷ ss) f = Space ∷ slots_parts (s ∷ ss) f

-- ,a and ,pn where they are wanted
abbrev pub annulled : Bool → List Part → List Part
annulled true ps = Mark 44 ∷ Long Name (codes "a") ∷ ps
annulled false ps = ps

abbrev pub predicted : Bool → List Part → List Part
predicted false ps = Mark 44 ∷ Long Name (codes "pn") ∷ ps
predicted true ps = ps

-- a line: the mnemonic, the flags of a branch, the operands
abbrev pub line_parts : List ℕ → List Slot → Fields → List Part
line_parts name slots f = Long Name name ∷ annulled f.annul (predicted f.taken (operand_parts slots f))

abbrev pub word_parts : ℕ → List Part
word_parts word = Long Name (codes ".word") ∷ Space ∷ hex 8 word ∷ []

-- an instruction of the profile that the assembler has a form of: it has none of the hyperprivileged
-- registers (this project's profile)
abbrev pub has_text : Insn → Bool
has_text insn.Illegal = false
has_text insn.FpOff = false
has_text (insn.ReadHpr reg rd) = false
has_text (insn.WriteHpr reg rs1 src) = false
has_text _ = true

-- the parts of the text of an instruction that stands at an address, whose word this is
unfoldable pub parts_of : ℕ → ℕ → Insn → List Part
parts_of addr word i = if has_text i then line_parts (mnemonic_of i) (slots_of (shape_of i)) (fields_of addr i) else word_parts word

-- the text of a word
abbrev pub text_of : ℕ → ℕ → List ℕ
text_of addr word = bytes_of (parts_of addr word (insn_of word))
