-- The parts of each line are tokens.
use Rattle.std.proofs.Common.{◌≡◌, ◌≤◌, ◌<◌, ◌^◌, ◌==◌, ◌-◌, ℕ, List, [], ◌∷◌, refl, sym, arith, Some, None, Bool, true, false, cond, ℤ, pos, negsuc, subst}
use Rattle.std.proofs.lemmas.Bool.Decides.{nat_tests}
use Rattle.std.proofs.lemmas.Int.{ints}
use Rattle.std.specs.Prelude.{codes, IsTrue, ◌||◌}
use Rattle.t1_lex.specs.Bytes.{is_digit, is_letter, starts_name, is_name_byte}
use Rattle.t1_lex.specs.Parts.{Part, stops, all_bytes, is_name, IsLong, AreParts}
use Rattle.t1_lex.specs.Parts.Part.{Long}
use Rattle.t1_lex.specs.declared.token.TokenKind.TheVariants.{Name}
use Rattle.t1_lex.proofs.Parts.{name_long, parts_are_lexemes}
use Rattle.t1_insn.specs.Ranges.{IsInRange, IsSource, IsSignedSource, IsNumberSource, IsCount, IsSigned, is_read_asr, is_write_asr, is_read_privileged, is_write_privileged}
use Rattle.t1_insn.specs.declared.operand.Src.{Src}
use Rattle.t1_insn.specs.declared.operand.Src.TheVariants.{Reg, Imm}
use Rattle.t1_insn.specs.declared.operand.Mem.TheVariants.{Plain, Alt, AltReg}
use Rattle.t1_insn.specs.declared.instruction.Insn.{Insn}
use Rattle.t1_insn.specs.declared.instruction.Insn.TheVariants as insn
use Rattle.t1_form.specs.Names.{named, privileged_names, state_of, numbered_state, behind, capped, capped_from}
use Rattle.t1_form.specs.Shapes.{slots_of}
use Rattle.t1_form.specs.declared.slot.Shape.TheVariants as shape
use Rattle.t1_form.specs.declared.slot.Slot.{Slot}
use Rattle.t1_form.specs.declared.slot.Slot.TheVariants as slot
use Rattle.t1_operand.specs.declared.fields.Source.TheVariants.{Register, Value}
use Rattle.t1_operand.specs.declared.fields.Fields.{Fields}
use Rattle.t1_dis.specs.Names.{state_text, privileged_text, mnemonic_of}
use Rattle.t1_dis.specs.Operands.{plain_fields, state_fields, codes_fields, branch_fields, prefetch_fields, value_of, source_of, target_of, shape_of, fields_of}
use Rattle.t1_dis.specs.Texts.{slot_parts, slots_parts, operand_parts, annulled, predicted, line_parts, word_parts, has_text, parts_of}
use Rattle.t1_dis.specs.Laws.{TextHasLexemes}
use Rattle.t1_dis.proofs.Numbers.{hex_long}
use Rattle.t1_dis.proofs.NameTokens.{mnemonic_long}
use Rattle.t1_dis.proofs.Shown.{IsNumber, IsRegister, IsGiven, IsEither, AreShown, tidy, comma_between, left_between, right_between}
use Rattle.t1_dis.proofs.Tokens.{Stops, slots_tokens}

-- ---- what is shown is in its range

pub small_value : (imm : ℤ) → IsSigned 13 imm → value_of imm < 2 ^ 64
small_value (pos n) h = omega (arith, ints, h.1)
small_value (negsuc n) h = omega arith

pub source_shown : (src : Src) → IsSource src → IsEither (source_of src)
source_shown (Reg r) h = h
source_shown (Imm imm) h = small_value imm h

-- narrower immediates are immediates
pub signed_source : (k : ℕ) (src : Src) → 2 ^ (k - 1) ≤ 4096 → IsSignedSource k src → IsSource src
signed_source k (Reg r) b h = h
signed_source k (Imm (pos n)) b h = (omega (arith, ints), omega (arith, ints, h.1, b))
signed_source k (Imm (negsuc n)) b h = (omega (arith, ints, h.0, b), omega (arith, ints))

pub number_source : (k : ℕ) (src : Src) → 2 ^ k ≤ 4096 → IsNumberSource k src → IsSource src
number_source k (Reg r) b h = h
number_source k (Imm (pos n)) b h = (omega (arith, ints), omega (arith, ints, h.1, b))
number_source k (Imm (negsuc n)) b h = absurd (omega (arith, ints, h.0))

pub count_source : (wide : Bool) (src : Src) → IsCount wide src → IsSource src
count_source true src h = number_source 6 src (omega arith) h
count_source false src h = number_source 5 src (omega arith) h

pub target_small : (addr : ℕ) (z : ℤ) → target_of addr z < 2 ^ 64
unfolding target_of
target_small addr (pos n) = omega arith
target_small addr (negsuc n) = omega arith

-- ---- a number among few

same_number : (n m : ℕ) → (n == m) ≡ true → n ≡ m
same_number n m e = grind (arith, nat_tests)

pub pick : (P : ℕ → Type 0) (t : Bool) (n m : ℕ) (rest : Bool) → (n == m) ≡ t → IsTrue (t || rest) → P m → (IsTrue rest → P n) → P n
pick P true n m rest e h p q = subst P (sym (same_number n m e)) p
pick P false n m rest e h p q = q h

abbrev IsState : ℕ → Type 0
IsState n = state_of (state_text n) ≡ Some n

abbrev IsPrivileged : ℕ → Type 0
IsPrivileged n = named (privileged_text n) privileged_names ≡ Some n

pub read_state : (asr : ℕ) → IsTrue (is_read_asr asr) → IsState asr
unfolding state_of state_text numbered_state behind capped capped_from is_digit
read_state n h =
    pick IsState _ n 0 _ refl h refl (λ h.
    pick IsState _ n 2 _ refl h refl (λ h.
    pick IsState _ n 3 _ refl h refl (λ h.
    pick IsState _ n 4 _ refl h refl (λ h.
    pick IsState _ n 5 _ refl h refl (λ h.
    pick IsState _ n 6 _ refl h refl (λ h.
    pick IsState _ n 22 _ refl h refl (λ h. cc)))))))

pub write_state : (asr : ℕ) → IsTrue (is_write_asr asr) → IsState asr
unfolding state_of state_text numbered_state behind capped capped_from is_digit
write_state n h =
    pick IsState _ n 0 _ refl h refl (λ h.
    pick IsState _ n 2 _ refl h refl (λ h.
    pick IsState _ n 3 _ refl h refl (λ h.
    pick IsState _ n 6 _ refl h refl (λ h.
    pick IsState _ n 20 _ refl h refl (λ h.
    pick IsState _ n 21 _ refl h refl (λ h.
    pick IsState _ n 22 _ refl h refl (λ h.
    pick IsState _ n 26 _ refl h refl (λ h. cc))))))))

pub read_privileged : (reg : ℕ) → IsTrue (is_read_privileged reg) → IsPrivileged reg
unfolding privileged_text
read_privileged n h =
    pick IsPrivileged _ n 0 _ refl h refl (λ h.
    pick IsPrivileged _ n 1 _ refl h refl (λ h.
    pick IsPrivileged _ n 2 _ refl h refl (λ h.
    pick IsPrivileged _ n 3 _ refl h refl (λ h.
    pick IsPrivileged _ n 4 _ refl h refl (λ h.
    pick IsPrivileged _ n 5 _ refl h refl (λ h.
    pick IsPrivileged _ n 6 _ refl h refl (λ h.
    pick IsPrivileged _ n 7 _ refl h refl (λ h.
    pick IsPrivileged _ n 8 _ refl h refl (λ h.
    pick IsPrivileged _ n 9 _ refl h refl (λ h.
    pick IsPrivileged _ n 10 _ refl h refl (λ h.
    pick IsPrivileged _ n 11 _ refl h refl (λ h.
    pick IsPrivileged _ n 12 _ refl h refl (λ h.
    pick IsPrivileged _ n 13 _ refl h refl (λ h.
    pick IsPrivileged _ n 14 _ refl h refl (λ h.
    pick IsPrivileged _ n 16 _ refl h refl (λ h. cc))))))))))))))))

pub write_privileged : (reg : ℕ) → IsTrue (is_write_privileged reg) → IsPrivileged reg
unfolding privileged_text
write_privileged n h =
    pick IsPrivileged _ n 0 _ refl h refl (λ h.
    pick IsPrivileged _ n 1 _ refl h refl (λ h.
    pick IsPrivileged _ n 2 _ refl h refl (λ h.
    pick IsPrivileged _ n 3 _ refl h refl (λ h.
    pick IsPrivileged _ n 5 _ refl h refl (λ h.
    pick IsPrivileged _ n 6 _ refl h refl (λ h.
    pick IsPrivileged _ n 7 _ refl h refl (λ h.
    pick IsPrivileged _ n 8 _ refl h refl (λ h.
    pick IsPrivileged _ n 9 _ refl h refl (λ h.
    pick IsPrivileged _ n 10 _ refl h refl (λ h.
    pick IsPrivileged _ n 11 _ refl h refl (λ h.
    pick IsPrivileged _ n 12 _ refl h refl (λ h.
    pick IsPrivileged _ n 13 _ refl h refl (λ h.
    pick IsPrivileged _ n 14 _ refl h refl (λ h.
    pick IsPrivileged _ n 16 _ refl h refl (λ h. cc)))))))))))))))

-- ---- the slots of each shape

pub three_shown : (f : Fields) → f.rs1 < 32 → IsEither f.source → f.rd < 32 → AreShown (slots_of shape.Three) f
unfolding slots_of
three_shown f rs1 source rd = (rs1, (comma_between, (source, (comma_between, (rd, tt)))))

pub number_rd_shown : (f : Fields) → IsNumber f.value → f.rd < 32 → AreShown (slots_of shape.NumberRd) f
unfolding slots_of
number_rd_shown f value rd = (value, (comma_between, (rd, tt)))

pub jump_rd_shown : (f : Fields) → ((f.rs1 < 32) × IsEither f.source) → f.rd < 32 → AreShown (slots_of shape.JumpRd) f
unfolding slots_of
jump_rd_shown f place rd = (place, (comma_between, (rd, tt)))

pub jump_shown : (f : Fields) → ((f.rs1 < 32) × IsEither f.source) → AreShown (slots_of shape.Jump) f
unfolding slots_of
jump_shown f place = (place, tt)

pub trap_codes_shown : (f : Fields) → ((f.rs1 < 32) × IsEither f.source) → AreShown (slots_of shape.TrapCodes) f
unfolding slots_of
trap_codes_shown f place = (tt, (comma_between, (place, tt)))

pub move_codes_shown : (f : Fields) → IsEither f.source → f.rd < 32 → AreShown (slots_of shape.MoveCodes) f
unfolding slots_of
move_codes_shown f source rd = (tt, (comma_between, (source, (comma_between, (rd, tt)))))

pub load_shown : (f : Fields) → ((f.rs1 < 32) × IsEither f.source) → f.rd < 32 → AreShown (slots_of shape.Load) f
unfolding slots_of
load_shown f place rd = (left_between, (place, (right_between, (comma_between, (rd, tt)))))

pub load_named_shown : (f : Fields) → ((f.rs1 < 32) × IsRegister f.source) → IsNumber f.value → f.rd < 32 → AreShown (slots_of shape.LoadNamed) f
unfolding slots_of
load_named_shown f place value rd = (left_between, (place, (right_between, (value, (comma_between, (rd, tt))))))

pub load_asi_shown : (f : Fields) → ((f.rs1 < 32) × IsGiven f.source) → f.rd < 32 → AreShown (slots_of shape.LoadAsi) f
unfolding slots_of
load_asi_shown f place rd = (left_between, (place, (right_between, (tt, (comma_between, (rd, tt))))))

pub store_shown : (f : Fields) → f.rd < 32 → ((f.rs1 < 32) × IsEither f.source) → AreShown (slots_of shape.Store) f
unfolding slots_of
store_shown f rd place = (rd, (comma_between, (left_between, (place, (right_between, tt)))))

pub store_named_shown : (f : Fields) → f.rd < 32 → ((f.rs1 < 32) × IsRegister f.source) → IsNumber f.value → AreShown (slots_of shape.StoreNamed) f
unfolding slots_of
store_named_shown f rd place value = (rd, (comma_between, (left_between, (place, (right_between, (value, tt))))))

pub store_asi_shown : (f : Fields) → f.rd < 32 → ((f.rs1 < 32) × IsGiven f.source) → AreShown (slots_of shape.StoreAsi) f
unfolding slots_of
store_asi_shown f rd place = (rd, (comma_between, (left_between, (place, (right_between, (tt, tt))))))

pub fetch_shown : (f : Fields) → ((f.rs1 < 32) × IsEither f.source) → IsNumber f.extra → AreShown (slots_of shape.Fetch) f
unfolding slots_of
fetch_shown f place extra = (left_between, (place, (right_between, (comma_between, (extra, tt)))))

pub fetch_named_shown : (f : Fields) → ((f.rs1 < 32) × IsRegister f.source) → IsNumber f.value → IsNumber f.extra → AreShown (slots_of shape.FetchNamed) f
unfolding slots_of
fetch_named_shown f place value extra = (left_between, (place, (right_between, (value, (comma_between, (extra, tt))))))

pub fetch_asi_shown : (f : Fields) → ((f.rs1 < 32) × IsGiven f.source) → IsNumber f.extra → AreShown (slots_of shape.FetchAsi) f
unfolding slots_of
fetch_asi_shown f place extra = (left_between, (place, (right_between, (tt, (comma_between, (extra, tt))))))

pub compared_named_shown : (f : Fields) → f.rs1 < 32 → IsNumber f.value → IsRegister f.source → f.rd < 32 → AreShown (slots_of shape.ComparedNamed) f
unfolding slots_of
compared_named_shown f rs1 value source rd = (left_between, (rs1, (right_between, (value, (comma_between, (source, (comma_between, (rd, tt))))))))

pub compared_asi_shown : (f : Fields) → f.rs1 < 32 → IsRegister f.source → f.rd < 32 → AreShown (slots_of shape.ComparedAsi) f
unfolding slots_of
compared_asi_shown f rs1 source rd = (left_between, (rs1, (right_between, (tt, (comma_between, (source, (comma_between, (rd, tt))))))))

pub read_state_shown : (f : Fields) → IsState f.number → f.rd < 32 → AreShown (slots_of shape.ReadState) f
unfolding slots_of
read_state_shown f state rd = (state, (comma_between, (rd, tt)))

pub write_state_shown : (f : Fields) → f.rs1 < 32 → IsEither f.source → IsState f.number → AreShown (slots_of shape.WriteState) f
unfolding slots_of
write_state_shown f rs1 source state = (rs1, (comma_between, (source, (comma_between, (state, tt)))))

pub read_privileged_shown : (f : Fields) → IsPrivileged f.number → f.rd < 32 → AreShown (slots_of shape.ReadPrivileged) f
unfolding slots_of
read_privileged_shown f privileged rd = (privileged, (comma_between, (rd, tt)))

pub write_privileged_shown : (f : Fields) → f.rs1 < 32 → IsEither f.source → IsPrivileged f.number → AreShown (slots_of shape.WritePrivileged) f
unfolding slots_of
write_privileged_shown f rs1 source privileged = (rs1, (comma_between, (source, (comma_between, (privileged, tt)))))

pub barrier_number_shown : (f : Fields) → IsNumber f.value → AreShown (slots_of shape.BarrierNumber) f
unfolding slots_of
barrier_number_shown f value = (value, tt)

pub target_shown : (f : Fields) → IsNumber f.value → AreShown (slots_of shape.Target) f
unfolding slots_of
target_shown f value = (value, tt)

-- ---- lines

a_long : IsLong Name (codes "a")
unfolding is_name all_bytes starts_name is_name_byte is_letter is_digit
a_long = name_long (codes "a") refl

pn_long : IsLong Name (codes "pn")
unfolding is_name all_bytes starts_name is_name_byte is_letter is_digit
pn_long = name_long (codes "pn") refl

word_long : IsLong Name (codes ".word")
unfolding is_name all_bytes starts_name is_name_byte is_letter is_digit
word_long = name_long (codes ".word") refl

flags_tokens : (name : List ℕ) (annul taken : Bool) (ps : List Part) → IsLong Name name → Stops ps → AreParts ps → AreParts (Long Name name ∷ annulled annul (predicted taken ps))
unfolding stops is_name_byte starts_name is_letter is_digit
flags_tokens name true true ps l s p = (l, refl, (comma_between.mark, (a_long, s, p)))
flags_tokens name true false ps l s p = (l, refl, (comma_between.mark, (a_long, refl, (comma_between.mark, (pn_long, s, p)))))
flags_tokens name false true ps l s p = (l, s, p)
flags_tokens name false false ps l s p = (l, refl, (comma_between.mark, (pn_long, s, p)))

operands_stop : (ss : List Slot) (f : Fields) → Stops (operand_parts ss f)
unfolding stops is_name_byte starts_name is_letter is_digit
operands_stop [] f = refl
operands_stop (s ∷ ss) f = refl

operands_tokens : (ss : List Slot) (f : Fields) → AreParts (slots_parts ss f) → AreParts (operand_parts ss f)
operands_tokens [] f p = tt
operands_tokens (s ∷ ss) f p = p

line_tokens : (name : List ℕ) (ss : List Slot) (f : Fields) → IsLong Name name → AreParts (slots_parts ss f) → AreParts (line_parts name ss f)
line_tokens name ss f l p = flags_tokens name f.annul f.taken (operand_parts ss f) l (operands_stop ss f) (operands_tokens ss f p)

word_tokens : (word : ℕ) → word < 2 ^ 32 → AreParts (word_parts word)
unfolding stops is_name_byte starts_name is_letter is_digit
word_tokens word h = (word_long, refl, (hex_long 7 word h (omega arith), refl, tt))

bare_tokens : (f : Fields) → AreParts (slots_parts (slots_of shape.Nothing) f)
unfolding slots_of slots_parts
bare_tokens f = tt

codes_tokens : (f : Fields) → IsNumber f.value → AreParts (slots_parts (slots_of shape.BranchCodes) f)
unfolding slots_of slots_parts slot_parts tidy
codes_tokens f h = slots_tokens (slot.Codes ∷ slot.Mark 44 ∷ slot.Target ∷ []) f (tt, (comma_between, (h, tt))) refl

icc_tokens : (f : Fields) → IsNumber f.value → AreParts (slots_parts (slots_of shape.BranchIcc) f)
unfolding slots_of slots_parts slot_parts tidy
icc_tokens f h = slots_tokens (slot.Target ∷ []) f (h, tt) refl

register_tokens : (f : Fields) → f.rs1 < 32 → IsNumber f.value → AreParts (slots_parts (slots_of shape.BranchRegister) f)
unfolding slots_of slots_parts slot_parts tidy
register_tokens f g h = slots_tokens (slot.Rs1 ∷ slot.Mark 44 ∷ slot.Target ∷ []) f (g, (comma_between, (h, tt))) refl

barrier_number_tokens : (f : Fields) → AreShown (slots_of shape.BarrierNumber) f → AreParts (slots_parts (slots_of shape.BarrierNumber) f)
unfolding slots_of tidy
barrier_number_tokens f h = slots_tokens (slots_of shape.BarrierNumber) f h refl

compared_asi_tokens : (f : Fields) → AreShown (slots_of shape.ComparedAsi) f → AreParts (slots_parts (slots_of shape.ComparedAsi) f)
unfolding slots_of tidy
compared_asi_tokens f h = slots_tokens (slots_of shape.ComparedAsi) f h refl

compared_named_tokens : (f : Fields) → AreShown (slots_of shape.ComparedNamed) f → AreParts (slots_parts (slots_of shape.ComparedNamed) f)
unfolding slots_of tidy
compared_named_tokens f h = slots_tokens (slots_of shape.ComparedNamed) f h refl

fetch_asi_tokens : (f : Fields) → AreShown (slots_of shape.FetchAsi) f → AreParts (slots_parts (slots_of shape.FetchAsi) f)
unfolding slots_of tidy
fetch_asi_tokens f h = slots_tokens (slots_of shape.FetchAsi) f h refl

fetch_named_tokens : (f : Fields) → AreShown (slots_of shape.FetchNamed) f → AreParts (slots_parts (slots_of shape.FetchNamed) f)
unfolding slots_of tidy
fetch_named_tokens f h = slots_tokens (slots_of shape.FetchNamed) f h refl

fetch_tokens : (f : Fields) → AreShown (slots_of shape.Fetch) f → AreParts (slots_parts (slots_of shape.Fetch) f)
unfolding slots_of tidy
fetch_tokens f h = slots_tokens (slots_of shape.Fetch) f h refl

jump_rd_tokens : (f : Fields) → AreShown (slots_of shape.JumpRd) f → AreParts (slots_parts (slots_of shape.JumpRd) f)
unfolding slots_of tidy
jump_rd_tokens f h = slots_tokens (slots_of shape.JumpRd) f h refl

jump_tokens : (f : Fields) → AreShown (slots_of shape.Jump) f → AreParts (slots_parts (slots_of shape.Jump) f)
unfolding slots_of tidy
jump_tokens f h = slots_tokens (slots_of shape.Jump) f h refl

load_asi_tokens : (f : Fields) → AreShown (slots_of shape.LoadAsi) f → AreParts (slots_parts (slots_of shape.LoadAsi) f)
unfolding slots_of tidy
load_asi_tokens f h = slots_tokens (slots_of shape.LoadAsi) f h refl

load_named_tokens : (f : Fields) → AreShown (slots_of shape.LoadNamed) f → AreParts (slots_parts (slots_of shape.LoadNamed) f)
unfolding slots_of tidy
load_named_tokens f h = slots_tokens (slots_of shape.LoadNamed) f h refl

load_tokens : (f : Fields) → AreShown (slots_of shape.Load) f → AreParts (slots_parts (slots_of shape.Load) f)
unfolding slots_of tidy
load_tokens f h = slots_tokens (slots_of shape.Load) f h refl

move_codes_tokens : (f : Fields) → AreShown (slots_of shape.MoveCodes) f → AreParts (slots_parts (slots_of shape.MoveCodes) f)
unfolding slots_of tidy
move_codes_tokens f h = slots_tokens (slots_of shape.MoveCodes) f h refl

number_rd_tokens : (f : Fields) → AreShown (slots_of shape.NumberRd) f → AreParts (slots_parts (slots_of shape.NumberRd) f)
unfolding slots_of tidy
number_rd_tokens f h = slots_tokens (slots_of shape.NumberRd) f h refl

read_privileged_tokens : (f : Fields) → AreShown (slots_of shape.ReadPrivileged) f → AreParts (slots_parts (slots_of shape.ReadPrivileged) f)
unfolding slots_of tidy
read_privileged_tokens f h = slots_tokens (slots_of shape.ReadPrivileged) f h refl

read_state_tokens : (f : Fields) → AreShown (slots_of shape.ReadState) f → AreParts (slots_parts (slots_of shape.ReadState) f)
unfolding slots_of tidy
read_state_tokens f h = slots_tokens (slots_of shape.ReadState) f h refl

store_asi_tokens : (f : Fields) → AreShown (slots_of shape.StoreAsi) f → AreParts (slots_parts (slots_of shape.StoreAsi) f)
unfolding slots_of tidy
store_asi_tokens f h = slots_tokens (slots_of shape.StoreAsi) f h refl

store_named_tokens : (f : Fields) → AreShown (slots_of shape.StoreNamed) f → AreParts (slots_parts (slots_of shape.StoreNamed) f)
unfolding slots_of tidy
store_named_tokens f h = slots_tokens (slots_of shape.StoreNamed) f h refl

store_tokens : (f : Fields) → AreShown (slots_of shape.Store) f → AreParts (slots_parts (slots_of shape.Store) f)
unfolding slots_of tidy
store_tokens f h = slots_tokens (slots_of shape.Store) f h refl

target_tokens : (f : Fields) → AreShown (slots_of shape.Target) f → AreParts (slots_parts (slots_of shape.Target) f)
unfolding slots_of tidy
target_tokens f h = slots_tokens (slots_of shape.Target) f h refl

three_tokens : (f : Fields) → AreShown (slots_of shape.Three) f → AreParts (slots_parts (slots_of shape.Three) f)
unfolding slots_of tidy
three_tokens f h = slots_tokens (slots_of shape.Three) f h refl

trap_codes_tokens : (f : Fields) → AreShown (slots_of shape.TrapCodes) f → AreParts (slots_parts (slots_of shape.TrapCodes) f)
unfolding slots_of tidy
trap_codes_tokens f h = slots_tokens (slots_of shape.TrapCodes) f h refl

write_privileged_tokens : (f : Fields) → AreShown (slots_of shape.WritePrivileged) f → AreParts (slots_parts (slots_of shape.WritePrivileged) f)
unfolding slots_of tidy
write_privileged_tokens f h = slots_tokens (slots_of shape.WritePrivileged) f h refl

write_state_tokens : (f : Fields) → AreShown (slots_of shape.WriteState) f → AreParts (slots_parts (slots_of shape.WriteState) f)
unfolding slots_of tidy
write_state_tokens f h = slots_tokens (slots_of shape.WriteState) f h refl

-- the operands of each instruction
insn_tokens : (addr : ℕ) (i : Insn) → IsInRange i → AreParts (slots_parts (slots_of (shape_of i)) (fields_of addr i))
unfolding shape_of fields_of
insn_tokens addr insn.Illegal h = bare_tokens (plain_fields 0 0 (Register 0) (Some 0))
insn_tokens addr insn.FpOff h = bare_tokens (plain_fields 0 0 (Register 0) (Some 0))
insn_tokens addr (insn.ReadHpr reg rd) h = bare_tokens (plain_fields 0 0 (Register 0) (Some 0))
insn_tokens addr (insn.WriteHpr reg rs1 src) h = bare_tokens (plain_fields 0 0 (Register 0) (Some 0))
insn_tokens addr insn.Stbar h = bare_tokens (plain_fields 0 0 (Register 0) (Some 0))
insn_tokens addr insn.Flushw h = bare_tokens (plain_fields 0 0 (Register 0) (Some 0))
insn_tokens addr insn.Saved h = bare_tokens (plain_fields 0 0 (Register 0) (Some 0))
insn_tokens addr insn.Restored h = bare_tokens (plain_fields 0 0 (Register 0) (Some 0))
insn_tokens addr insn.Done h = bare_tokens (plain_fields 0 0 (Register 0) (Some 0))
insn_tokens addr insn.Retry h = bare_tokens (plain_fields 0 0 (Register 0) (Some 0))
insn_tokens addr (insn.Bpcc cond annul wide taken disp) h = codes_tokens (branch_fields annul wide taken 0 (target_of addr disp)) (target_small addr disp)
insn_tokens addr (insn.Bicc cond annul disp) h = icc_tokens (branch_fields annul false true 0 (target_of addr disp)) (target_small addr disp)
insn_tokens addr (insn.Bpr rcond annul taken rs1 disp) h = register_tokens (branch_fields annul false taken rs1 (target_of addr disp)) h.1 (target_small addr disp)
insn_tokens addr (insn.Sethi rd imm) h = number_rd_tokens (plain_fields rd 0 (Register 0) (Some imm)) (number_rd_shown (plain_fields rd 0 (Register 0) (Some imm)) (omega (arith, h.1)) h.0)
insn_tokens addr (insn.Call disp) h = target_tokens (branch_fields false false true 0 (target_of addr disp)) (target_shown (branch_fields false false true 0 (target_of addr disp)) (target_small addr disp))
insn_tokens addr (insn.Membar mask) h = barrier_number_tokens (plain_fields 0 0 (Register 0) (Some mask)) (barrier_number_shown (plain_fields 0 0 (Register 0) (Some mask)) (omega (arith, h)))
insn_tokens addr (insn.Alu op cc rd rs1 src) h = three_tokens (plain_fields rd rs1 (source_of src) (Some 0)) (three_shown (plain_fields rd rs1 (source_of src) (Some 0)) h.1.1 (source_shown src h.1.2) h.1.0)
insn_tokens addr (insn.Shift op wide rd rs1 src) h = three_tokens (plain_fields rd rs1 (source_of src) (Some 0)) (three_shown (plain_fields rd rs1 (source_of src) (Some 0)) h.1 (source_shown src (count_source wide src h.2)) h.0)
insn_tokens addr (insn.ReadAsr asr rd) h = read_state_tokens (state_fields rd 0 (Register 0) asr) (read_state_shown (state_fields rd 0 (Register 0) asr) (read_state asr h.0) h.1)
insn_tokens addr (insn.WriteAsr asr rs1 src) h = write_state_tokens (state_fields 0 rs1 (source_of src) asr) (write_state_shown (state_fields 0 rs1 (source_of src) asr) h.1.0 (source_shown src h.1.1) (write_state asr h.0))
insn_tokens addr (insn.ReadPr reg rd) h = read_privileged_tokens (state_fields rd 0 (Register 0) reg) (read_privileged_shown (state_fields rd 0 (Register 0) reg) (read_privileged reg h.0) h.1)
insn_tokens addr (insn.WritePr reg rs1 src) h = write_privileged_tokens (state_fields 0 rs1 (source_of src) reg) (write_privileged_shown (state_fields 0 rs1 (source_of src) reg) h.1.0 (source_shown src h.1.1) (write_privileged reg h.0))
insn_tokens addr (insn.Movcc cond wide rd src) h = move_codes_tokens (codes_fields rd 0 (source_of src) wide) (move_codes_shown (codes_fields rd 0 (source_of src) wide) (source_shown src (signed_source 11 src (omega arith) h.2)) h.1)
insn_tokens addr (insn.Movr rcond rd rs1 src) h = three_tokens (plain_fields rd rs1 (source_of src) (Some 0)) (three_shown (plain_fields rd rs1 (source_of src) (Some 0)) h.2 (source_shown src (signed_source 10 src (omega arith) h.3)) h.1)
insn_tokens addr (insn.Jmpl rd rs1 src) h = jump_rd_tokens (plain_fields rd rs1 (source_of src) (Some 0)) (jump_rd_shown (plain_fields rd rs1 (source_of src) (Some 0)) (h.1, source_shown src h.2) h.0)
insn_tokens addr (insn.Return rs1 src) h = jump_tokens (plain_fields 0 rs1 (source_of src) (Some 0)) (jump_shown (plain_fields 0 rs1 (source_of src) (Some 0)) (h.0, source_shown src h.1))
insn_tokens addr (insn.Flush rs1 src) h = jump_tokens (plain_fields 0 rs1 (source_of src) (Some 0)) (jump_shown (plain_fields 0 rs1 (source_of src) (Some 0)) (h.0, source_shown src h.1))
insn_tokens addr (insn.Trap cond wide rs1 src) h = trap_codes_tokens (codes_fields 0 rs1 (source_of src) wide) (trap_codes_shown (codes_fields 0 rs1 (source_of src) wide) (h.1, source_shown src (number_source 8 src (omega arith) h.2)))
insn_tokens addr (insn.Save rd rs1 src) h = three_tokens (plain_fields rd rs1 (source_of src) (Some 0)) (three_shown (plain_fields rd rs1 (source_of src) (Some 0)) h.1 (source_shown src h.2) h.0)
insn_tokens addr (insn.Restore rd rs1 src) h = three_tokens (plain_fields rd rs1 (source_of src) (Some 0)) (three_shown (plain_fields rd rs1 (source_of src) (Some 0)) h.1 (source_shown src h.2) h.0)
insn_tokens addr (insn.Load kind rd rs1 (Plain src)) h = load_tokens (plain_fields rd rs1 (source_of src) (Some 0)) (load_shown (plain_fields rd rs1 (source_of src) (Some 0)) (h.1.1, source_shown src h.1.2) h.1.0)
insn_tokens addr (insn.Load kind rd rs1 (Alt rs2 asi)) h = load_named_tokens (plain_fields rd rs1 (Register rs2) (Some asi)) (load_named_shown (plain_fields rd rs1 (Register rs2) (Some asi)) (h.1.1, h.1.2.0) (omega (arith, h.1.2.1)) h.1.0)
insn_tokens addr (insn.Load kind rd rs1 (AltReg imm)) h = load_asi_tokens (plain_fields rd rs1 (Value (Some (value_of imm))) (Some 0)) (load_asi_shown (plain_fields rd rs1 (Value (Some (value_of imm))) (Some 0)) (h.1.1, small_value imm h.1.2) h.1.0)
insn_tokens addr (insn.Ldstub rd rs1 (Plain src)) h = load_tokens (plain_fields rd rs1 (source_of src) (Some 0)) (load_shown (plain_fields rd rs1 (source_of src) (Some 0)) (h.1, source_shown src h.2) h.0)
insn_tokens addr (insn.Ldstub rd rs1 (Alt rs2 asi)) h = load_named_tokens (plain_fields rd rs1 (Register rs2) (Some asi)) (load_named_shown (plain_fields rd rs1 (Register rs2) (Some asi)) (h.1, h.2.0) (omega (arith, h.2.1)) h.0)
insn_tokens addr (insn.Ldstub rd rs1 (AltReg imm)) h = load_asi_tokens (plain_fields rd rs1 (Value (Some (value_of imm))) (Some 0)) (load_asi_shown (plain_fields rd rs1 (Value (Some (value_of imm))) (Some 0)) (h.1, small_value imm h.2) h.0)
insn_tokens addr (insn.Swap rd rs1 (Plain src)) h = load_tokens (plain_fields rd rs1 (source_of src) (Some 0)) (load_shown (plain_fields rd rs1 (source_of src) (Some 0)) (h.1, source_shown src h.2) h.0)
insn_tokens addr (insn.Swap rd rs1 (Alt rs2 asi)) h = load_named_tokens (plain_fields rd rs1 (Register rs2) (Some asi)) (load_named_shown (plain_fields rd rs1 (Register rs2) (Some asi)) (h.1, h.2.0) (omega (arith, h.2.1)) h.0)
insn_tokens addr (insn.Swap rd rs1 (AltReg imm)) h = load_asi_tokens (plain_fields rd rs1 (Value (Some (value_of imm))) (Some 0)) (load_asi_shown (plain_fields rd rs1 (Value (Some (value_of imm))) (Some 0)) (h.1, small_value imm h.2) h.0)
insn_tokens addr (insn.Store kind rd rs1 (Plain src)) h = store_tokens (plain_fields rd rs1 (source_of src) (Some 0)) (store_shown (plain_fields rd rs1 (source_of src) (Some 0)) h.1.0 (h.1.1, source_shown src h.1.2))
insn_tokens addr (insn.Store kind rd rs1 (Alt rs2 asi)) h = store_named_tokens (plain_fields rd rs1 (Register rs2) (Some asi)) (store_named_shown (plain_fields rd rs1 (Register rs2) (Some asi)) h.1.0 (h.1.1, h.1.2.0) (omega (arith, h.1.2.1)))
insn_tokens addr (insn.Store kind rd rs1 (AltReg imm)) h = store_asi_tokens (plain_fields rd rs1 (Value (Some (value_of imm))) (Some 0)) (store_asi_shown (plain_fields rd rs1 (Value (Some (value_of imm))) (Some 0)) h.1.0 (h.1.1, small_value imm h.1.2))
insn_tokens addr (insn.Prefetch fcn rs1 (Plain src)) h = fetch_tokens (prefetch_fields fcn rs1 (Plain src)) (fetch_shown (prefetch_fields fcn rs1 (Plain src)) (h.1, source_shown src h.2) (omega (arith, h.0)))
insn_tokens addr (insn.Prefetch fcn rs1 (Alt rs2 asi)) h = fetch_named_tokens (prefetch_fields fcn rs1 (Alt rs2 asi)) (fetch_named_shown (prefetch_fields fcn rs1 (Alt rs2 asi)) (h.1, h.2.0) (omega (arith, h.2.1)) (omega (arith, h.0)))
insn_tokens addr (insn.Prefetch fcn rs1 (AltReg imm)) h = fetch_asi_tokens (prefetch_fields fcn rs1 (AltReg imm)) (fetch_asi_shown (prefetch_fields fcn rs1 (AltReg imm)) (h.1, small_value imm h.2) (omega (arith, h.0)))
insn_tokens addr (insn.Cas wide rd rs1 rs2 (Some asi)) h = compared_named_tokens (plain_fields rd rs1 (Register rs2) (Some asi)) (compared_named_shown (plain_fields rd rs1 (Register rs2) (Some asi)) h.1 (omega (arith, h.3)) h.2 h.0)
insn_tokens addr (insn.Cas wide rd rs1 rs2 None) h = compared_asi_tokens (plain_fields rd rs1 (Register rs2) (Some 0)) (compared_asi_shown (plain_fields rd rs1 (Register rs2) (Some 0)) h.1 h.2 h.0)

text_go : (addr word : ℕ) (i : Insn) (t : Bool) → has_text i ≡ t → word < 2 ^ 32 → IsInRange i → AreParts (cond t (line_parts (mnemonic_of i) (slots_of (shape_of i)) (fields_of addr i)) (word_parts word))
text_go addr word i true e h s = line_tokens (mnemonic_of i) (slots_of (shape_of i)) (fields_of addr i) (mnemonic_long i e s) (insn_tokens addr i s)
text_go addr word i false e h s = word_tokens word h

pub text_has_lexemes : TextHasLexemes
unfolding parts_of
text_has_lexemes addr word i h s = parts_are_lexemes (parts_of addr word i) (text_go addr word i (has_text i) refl h s)
