-- A text is one word, which decodes to its instruction.
use Rattle.std.proofs.Common.{◌≡◌, ◌≤◌, ◌<◌, ℕ, suc, ◌+◌, ◌-◌, ◌*◌, ◌^◌, ◌%◌, ◌/◌, List, [], ◌∷◌, refl, ap, ◌∙◌, ◌++◌, arith, cond, Option, Some, None, Bool, true, false, not, ◌&&◌, ℤ, pos, negsuc, Ok}
use Rattle.std.proofs.lemmas.Bool.Decides.{nat_tests}
use Rattle.std.proofs.lemmas.Int.{ints}
use Rattle.std.specs.Prelude.{codes, IsSome, IfSome, nat_lt}
use Rattle.t1_lex.specs.Tokens.{Lexeme}
use Rattle.t1_lex.specs.Parts.{Part, lexemes_of}
use Rattle.t1_lex.specs.Parts.Part.{Space, Mark, Long}
use Rattle.t1_lex.specs.declared.token.TokenKind.TheVariants.{Name, Number, Percent}
use Rattle.t1_lex.proofs.Parts.{and_true, not_true}
use Rattle.t1_insn.specs.Ranges.{IsInRange, IsSigned, IsSource}
use Rattle.t1_insn.specs.declared.operand.Src.{Src}
use Rattle.t1_insn.specs.declared.operand.Src.TheVariants.{Reg, Imm}
use Rattle.t1_insn.specs.declared.operand.Mem.{Mem}
use Rattle.t1_insn.specs.declared.operand.Mem.TheVariants.{Plain, Alt, AltReg}
use Rattle.t1_insn.specs.declared.operation.AluOp.{AluOp}
use Rattle.t1_insn.specs.declared.operation.ShiftOp.{ShiftOp}
use Rattle.t1_insn.specs.declared.operation.LoadKind.{LoadKind}
use Rattle.t1_insn.specs.declared.operation.StoreKind.{StoreKind}
use Rattle.t1_insn.specs.declared.instruction.Insn.{Insn}
use Rattle.t1_insn.specs.declared.instruction.Insn.TheVariants as insn
use Rattle.t1_decode.specs.Words.{insn_of}
use Rattle.t1_encode.specs.Words.{encoded}
use Rattle.t1_encode.proofs.Encoding.{again, encoded_in_range}
use Rattle.t1_expr.specs.Exprs.{Env, expr_at, sum_from, step_of, atom_of, opener_of, atom_added, opened, ended, is_punct}
use Rattle.t1_form.specs.Names.{register_of, is_known_percent}
use Rattle.t1_form.specs.Mnemonics.{form}
use Rattle.t1_form.specs.Shapes.{slots_of}
use Rattle.t1_form.specs.declared.form.Forms.{Forms}
use Rattle.t1_form.specs.declared.form.Forms.TheVariants.{One, Two}
use Rattle.t1_form.specs.declared.slot.Slot.{Slot}
use Rattle.t1_form.specs.declared.slot.Slot.TheVariants as slot
use Rattle.t1_form.specs.declared.slot.Shape.{Shape}
use Rattle.t1_form.specs.declared.slot.Shape.TheVariants as shape
use Rattle.t1_form.specs.declared.template.Template.{Template}
use Rattle.t1_form.specs.declared.template.Template.TheVariants as template
use Rattle.t1_form.specs.declared.template.Access.TheVariants as access
use Rattle.t1_form.specs.declared.template.Space.TheVariants as space
use Rattle.t1_operand.specs.Slots.{mark_at, register_in, register_at, whole, source_or, source_at, rest_of_pair, plus_register, pair_at, codes_at, flag_at, slot_at, slots_at, none_given, with_rd, barriers_from, barrier_in}
use Rattle.t1_operand.specs.Forms.{form_at, forms_at}
use Rattle.t1_operand.specs.declared.fields.Source.TheVariants.{Register, Value as Given}
use Rattle.t1_operand.specs.declared.fields.Fields.{Fields}
use Rattle.t1_operand.specs.declared.fields.Instruction.{Instruction}
use Rattle.t1_stmt.specs.Templates.{signed_word, words_away, target_of as target_value, below, operand_of, mem_of, compare_of, branch_of, operated, filled, word_of, words_of, lacks, instruction_words}
use Rattle.t1_stmt.specs.Lines.{name_in, all_known, instruction_at, statement_of, behind_name, body_of, labels_of, read_words}
use Rattle.t1_dis.specs.Names.{mnemonic_of, condition_text, register_condition_text, alu_text, shift_text, load_text, store_text, alternate_text, cas_text}
use Rattle.t1_dis.specs.Operands.{value_of, source_of, mem_source, mem_asi, target_of, shape_of, fields_of, plain_fields, state_fields, codes_fields, branch_fields, prefetch_fields}
use Rattle.t1_dis.specs.Texts.{number, hex, register, offset, codes_text, slot_parts, slots_parts, annulled, predicted, line_parts, parts_of}
use Rattle.t1_form.specs.declared.directive.Width.TheVariants.{Word}
use Rattle.t1_stmt.specs.Lines.Body.{Holds}
use Rattle.t1_stmt.specs.Lines.{directive_at, exprs_from, exprs_after, more_exprs}
use Rattle.t1_stmt.specs.declared.statement.Statement.TheVariants.{Numbers}
use Rattle.t1_dis.specs.Laws.{IsOneWord, TextIsWord, TextIsItself, only}
use Rattle.t1_dis.proofs.Shown.{AreShown, closed}
use Rattle.t1_dis.proofs.Mnemonics.{IsMnemonic, branch_forms, trap_forms, access_forms, prefetch_forms, cas_forms, branch_mnemonic, trap_mnemonic, move_mnemonic, register_branch_mnemonic, register_move_mnemonic, alu_mnemonic, shift_mnemonic, load_mnemonic, store_mnemonic, ldstub_mnemonic, swap_mnemonic, prefetch_mnemonic, cas_mnemonic, sethi_mnemonic, call_mnemonic, membar_mnemonic, rd_mnemonic, wr_mnemonic, rdpr_mnemonic, wrpr_mnemonic, jmpl_mnemonic, return_mnemonic, flush_mnemonic, save_mnemonic, restore_mnemonic, stbar_mnemonic, flushw_mnemonic, saved_mnemonic, restored_mnemonic, done_mnemonic, retry_mnemonic}
use Rattle.t1_dis.proofs.Reading.{ends, register_back, number_reads, all_put, slots_read, slots_known, known_register}
use Rattle.t1_dis.proofs.Lines.{source_shown, signed_source, number_source, count_source, small_value, target_small, read_state, write_state, read_privileged, write_privileged, three_shown, number_rd_shown, jump_rd_shown, jump_shown, trap_codes_shown, move_codes_shown, load_shown, load_named_shown, load_asi_shown, store_shown, store_named_shown, store_asi_shown, fetch_shown, fetch_named_shown, fetch_asi_shown, compared_named_shown, compared_asi_shown, read_state_shown, write_state_shown, read_privileged_shown, write_privileged_shown, barrier_number_shown, target_shown}

-- ---- a line and its word

-- neither a colon nor an = stands first
opens : List Lexeme → Bool
opens [] = false
opens (w ∷ ws) = not (is_punct 58 w) && not (is_punct 61 w)

line_read : (env : Env) (here : ℕ) (name : List ℕ) (forms : Forms) (ws : List Lexeme) (s : Instruction) → IsMnemonic name forms
    → opens ws ≡ true → all_known ws ≡ true → forms_at env here forms ws ≡ Some s
    → read_words env here (Some ((Name, name) ∷ ws)) ≡ Ok (only s)
unfolding read_words labels_of body_of name_in behind_name mark_at statement_of instruction_at opens
line_read env here name forms [] s n o known read = cc
line_read env here name forms (w ∷ ws) s n o known read =
    let p = and_true (not (is_punct 58 w)) (not (is_punct 61 w)) o in
    let colon = not_true (is_punct 58 w) p.0 in
    let equals = not_true (is_punct 61 w) p.1 in
    simp (n.plain, colon, equals, n.undirected, n.found, known, read)

-- a mnemonic alone
bare_read : (env : Env) (here : ℕ) (name : List ℕ) (i : Insn) → IsMnemonic name (One (form shape.Nothing (template.Fixed i)))
    → read_words env here (Some ((Name, name) ∷ [])) ≡ Ok (only (record { template = template.Fixed i; fields = none_given }))
unfolding read_words labels_of body_of name_in behind_name mark_at statement_of instruction_at all_known forms_at form_at slots_of slots_at whole
bare_read env here name i n = simp (n.plain, n.undirected, n.found)

word_filled : (addr : ℕ) (m : Template) (f : Fields) (i : Insn) (w : ℕ) → lacks f ≡ false → words_of addr m f ≡ word_of addr m f → filled addr m f ≡ Some i → encoded i ≡ Some w
    → instruction_words addr (record { template = m; fields = f }) ≡ Ok (w, None)
unfolding instruction_words word_of
word_filled addr m f i w l q p e = rw (l, q, p, e) refl

one_word : (env : Env) (addr : ℕ) (ws : List Lexeme) (m : Template) (f : Fields) (i : Insn) (o : Option ℕ) → read_words env addr (Some ws) ≡ Ok (only (record { template = m; fields = f }))
    → lacks f ≡ false → words_of addr m f ≡ word_of addr m f → filled addr m f ≡ Some i → IfSome (encoded i) (λ w. insn_of w ≡ i) → encoded i ≡ o → IsSome o → IsOneWord env addr ws i
one_word env addr ws m f i None r l q p a e s = cc
one_word env addr ws m f i (Some w) r l q p a e s = (record { template = m; fields = f }, w, r, word_filled addr m f i w l q p e, rw e at a)

is_one_word : (env : Env) (addr : ℕ) (ws : List Lexeme) (m : Template) (f : Fields) (i : Insn) → read_words env addr (Some ws) ≡ Ok (only (record { template = m; fields = f }))
    → lacks f ≡ false → words_of addr m f ≡ word_of addr m f → filled addr m f ≡ Some i → IsInRange i → IsOneWord env addr ws i
is_one_word env addr ws m f i r l q p h = one_word env addr ws m f i (encoded i) r l q p (again i) refl ((encoded_in_range i).1 h)

-- ---- which of the forms of a mnemonic is read

abbrev Reads : Env → ℕ → Shape → List Lexeme → Fields → Type 0
Reads env here s ws f = slots_at env here (slots_of s) none_given ws ≡ Some f

abbrev Refuses : Env → ℕ → Shape → List Lexeme → Type 0
Refuses env here s ws = slots_at env here (slots_of s) none_given ws ≡ None

abbrev Finds : Env → ℕ → Forms → List Lexeme → Template → Fields → Type 0
Finds env here forms ws m f = forms_at env here forms ws ≡ Some (record { template = m; fields = f })

one_form : (env : Env) (here : ℕ) (s : Shape) (m : Template) (ws : List Lexeme) (f : Fields) → Reads env here s ws f → Finds env here (One (form s m)) ws m f
unfolding forms_at form_at
one_form env here s m ws f e = rw e refl

first_form : (env : Env) (here : ℕ) (s t : Shape) (m n : Template) (ws : List Lexeme) (f : Fields) → Reads env here s ws f → Finds env here (Two (form s m) (form t n)) ws m f
unfolding forms_at form_at
first_form env here s t m n ws f e = rw e refl

second_form : (env : Env) (here : ℕ) (s t : Shape) (m n : Template) (ws : List Lexeme) (f : Fields) → Refuses env here s ws → Reads env here t ws f → Finds env here (Two (form s m) (form t n)) ws n f
unfolding forms_at form_at
second_form env here s t m n ws f r e = rw (r, e) refl

-- ---- a line with operands and no flags

-- the line without flags
abbrev plain_lexemes : List ℕ → Shape → Fields → List Lexeme
plain_lexemes name s f = (Name, name) ∷ lexemes_of (slots_parts (slots_of s) f)

record IsFilled (addr : ℕ) (m : Template) (f : Fields) (i : Insn) : Type 0 where
  there : lacks f ≡ false
  word : words_of addr m f ≡ word_of addr m f
  filled : filled addr m f ≡ Some i

operand_word : (env : Env) (addr : ℕ) (name : List ℕ) (s : Shape) (m : Template) (f : Fields) (forms : Forms) (i : Insn)
    → IsMnemonic name forms → AreShown (slots_of s) f → closed (slots_of s) ≡ true → all_put (slots_of s) f none_given ≡ f
    → opens (lexemes_of (slots_parts (slots_of s) f)) ≡ true
    → (Reads env addr s (lexemes_of (slots_parts (slots_of s) f)) f → Finds env addr forms (lexemes_of (slots_parts (slots_of s) f)) m f)
    → IsFilled addr m f i → IsInRange i → IsOneWord env addr (plain_lexemes name s f) i
operand_word env addr name s m f forms i n h c p o go b range =
    let r : Reads env addr s (lexemes_of (slots_parts (slots_of s) f)) f = slots_read env addr (slots_of s) f none_given h c ∙ ap Some p in
    is_one_word env addr _ m f i
    (line_read env addr name forms (lexemes_of (slots_parts (slots_of s) f)) _ n o (slots_known (slots_of s) f h) (go r))
    b.there b.word b.filled range

-- ---- second operands

imm_back : (imm : ℤ) → IsSigned 13 imm → operand_of (Given (Some (value_of imm))) ≡ Some (Imm imm)
unfolding operand_of signed_word
imm_back (pos n) h =
    let b : n < 4096 = omega (arith, ints, h.1) in
    grind (arith, nat_tests, b)
imm_back (negsuc n) h =
    let b : n < 4096 = omega (arith, ints, h.0) in
    let e : 2 ^ 64 - 1 - (2 ^ 64 - suc n) ≡ n = omega arith in
    grind (arith, nat_tests, e, b)

src_back : (src : Src) → IsSource src → operand_of (source_of src) ≡ Some src
unfolding operand_of
src_back (Reg r) h = refl
src_back (Imm imm) h = imm_back imm h

plain_there : (rd rs1 : ℕ) (src : Src) → lacks (plain_fields rd rs1 (source_of src) (Some 0)) ≡ false
plain_there rd rs1 (Reg r) = refl
plain_there rd rs1 (Imm imm) = refl

state_there : (rd rs1 : ℕ) (src : Src) (n : ℕ) → lacks (state_fields rd rs1 (source_of src) n) ≡ false
state_there rd rs1 (Reg r) n = refl
state_there rd rs1 (Imm imm) n = refl

codes_there : (rd rs1 : ℕ) (src : Src) (wide : Bool) → lacks (codes_fields rd rs1 (source_of src) wide) ≡ false
codes_there rd rs1 (Reg r) wide = refl
codes_there rd rs1 (Imm imm) wide = refl

prefetch_there : (fcn rs1 : ℕ) (mem : Mem) → lacks (prefetch_fields fcn rs1 mem) ≡ false
prefetch_there fcn rs1 (Plain (Reg r)) = refl
prefetch_there fcn rs1 (Plain (Imm imm)) = refl
prefetch_there fcn rs1 (Alt rs2 asi) = refl
prefetch_there fcn rs1 (AltReg imm) = refl

mem_there : (rd rs1 : ℕ) (mem : Mem) → lacks (plain_fields rd rs1 (mem_source mem) (mem_asi mem)) ≡ false
mem_there rd rs1 (Plain (Reg r)) = refl
mem_there rd rs1 (Plain (Imm imm)) = refl
mem_there rd rs1 (Alt rs2 asi) = refl
mem_there rd rs1 (AltReg imm) = refl

-- ---- op r, s, r

three_word : (env : Env) (addr : ℕ) (name : List ℕ) (m : Template) (forms : Forms) (rd rs1 : ℕ) (src : Src) (i : Insn) → IsMnemonic name forms
    → ((ws : List Lexeme) (f : Fields) → Reads env addr shape.Three ws f → Finds env addr forms ws m f)
    → words_of addr m (plain_fields rd rs1 (source_of src) (Some 0)) ≡ word_of addr m (plain_fields rd rs1 (source_of src) (Some 0))
    → filled addr m (plain_fields rd rs1 (source_of src) (Some 0)) ≡ Some i
    → rd < 32 → rs1 < 32 → IsSource src → IsInRange i → IsOneWord env addr (plain_lexemes name shape.Three (plain_fields rd rs1 (source_of src) (Some 0))) i
unfolding slots_of closed all_put opens slots_parts slot_parts
three_word env addr name m forms rd rs1 src i n go w p q k h range =
    operand_word env addr name shape.Three m (plain_fields rd rs1 (source_of src) (Some 0)) forms i n (three_shown (plain_fields rd rs1 (source_of src) (Some 0)) k (source_shown src h) q) refl refl refl (go _ _)
    (record { there = plain_there rd rs1 src; word = w; filled = p }) range

alu_word : (env : Env) (addr : ℕ) (op : AluOp) (cc : Bool) (rd rs1 : ℕ) (src : Src) → IsInRange (insn.Alu op cc rd rs1 src) → IsOneWord env addr (plain_lexemes (alu_text op cc) shape.Three (plain_fields rd rs1 (source_of src) (Some 0))) (insn.Alu op cc rd rs1 src)
unfolding words_of filled operated
alu_word env addr op cc rd rs1 src h = three_word env addr (alu_text op cc) (template.Alu op cc) (One (form shape.Three (template.Alu op cc))) rd rs1 src _ (alu_mnemonic op cc h.0) (λ ws f r. one_form env addr _ _ ws f r) refl (rw (src_back src (h.1.2)) refl) h.1.0 h.1.1 (h.1.2) h

shift_word : (env : Env) (addr : ℕ) (op : ShiftOp) (wide : Bool) (rd rs1 : ℕ) (src : Src) → IsInRange (insn.Shift op wide rd rs1 src) → IsOneWord env addr (plain_lexemes (shift_text op wide) shape.Three (plain_fields rd rs1 (source_of src) (Some 0))) (insn.Shift op wide rd rs1 src)
unfolding words_of filled operated
shift_word env addr op wide rd rs1 src h = three_word env addr (shift_text op wide) (template.Shift op wide) (One (form shape.Three (template.Shift op wide))) rd rs1 src _ (shift_mnemonic op wide) (λ ws f r. one_form env addr _ _ ws f r) refl (rw (src_back src (count_source wide src h.2)) refl) h.0 h.1 (count_source wide src h.2) h

movr_word : (env : Env) (addr : ℕ) (rcond rd rs1 : ℕ) (src : Src) → IsInRange (insn.Movr rcond rd rs1 src) → IsOneWord env addr (plain_lexemes (codes "movr" ++ register_condition_text rcond) shape.Three (plain_fields rd rs1 (source_of src) (Some 0))) (insn.Movr rcond rd rs1 src)
unfolding words_of filled operated
movr_word env addr rcond rd rs1 src h = three_word env addr (codes "movr" ++ register_condition_text rcond) (template.Movr rcond) (One (form shape.Three (template.Movr rcond))) rd rs1 src _ (register_move_mnemonic rcond h.0) (λ ws f r. one_form env addr _ _ ws f r) refl (rw (src_back src (signed_source 10 src (omega arith) h.3)) refl) h.1 h.2 (signed_source 10 src (omega arith) h.3) h

save_word : (env : Env) (addr : ℕ) (rd rs1 : ℕ) (src : Src) → IsInRange (insn.Save rd rs1 src) → IsOneWord env addr (plain_lexemes (codes "save") shape.Three (plain_fields rd rs1 (source_of src) (Some 0))) (insn.Save rd rs1 src)
unfolding words_of filled operated
save_word env addr rd rs1 src h = three_word env addr (codes "save") (template.Save) (Two (form shape.Three template.Save) (form shape.Nothing template.Save)) rd rs1 src _ (save_mnemonic) (λ ws f r. first_form env addr _ _ _ _ ws f r) refl (rw (src_back src (h.2)) refl) h.0 h.1 (h.2) h

restore_word : (env : Env) (addr : ℕ) (rd rs1 : ℕ) (src : Src) → IsInRange (insn.Restore rd rs1 src) → IsOneWord env addr (plain_lexemes (codes "restore") shape.Three (plain_fields rd rs1 (source_of src) (Some 0))) (insn.Restore rd rs1 src)
unfolding words_of filled operated
restore_word env addr rd rs1 src h = three_word env addr (codes "restore") (template.Restore) (Two (form shape.Three template.Restore) (form shape.Nothing template.Restore)) rd rs1 src _ (restore_mnemonic) (λ ws f r. first_form env addr _ _ _ _ ws f r) refl (rw (src_back src (h.2)) refl) h.0 h.1 (h.2) h

sethi_filled : (addr rd imm : ℕ) → imm < 2 ^ 22 → filled addr template.Sethi (plain_fields rd 0 (Register 0) (Some imm)) ≡ Some (insn.Sethi rd imm)
unfolding filled below
sethi_filled addr rd imm h = grind (arith, nat_tests)

membar_filled : (addr mask : ℕ) → mask < 128 → filled addr template.Membar (plain_fields 0 0 (Register 0) (Some mask)) ≡ Some (insn.Membar mask)
unfolding filled below
membar_filled addr mask h = grind (arith, nat_tests)

sethi_word : (env : Env) (addr : ℕ) (rd imm : ℕ) → IsInRange (insn.Sethi rd imm) → IsOneWord env addr (plain_lexemes (codes "sethi") shape.NumberRd (plain_fields rd 0 (Register 0) (Some imm))) (insn.Sethi rd imm)
unfolding slots_of closed all_put opens slots_parts slot_parts words_of filled operated
sethi_word env addr rd imm h =
    operand_word env addr (codes "sethi") shape.NumberRd (template.Sethi) (plain_fields rd 0 (Register 0) (Some imm)) (One (form shape.NumberRd template.Sethi)) (insn.Sethi rd imm) (sethi_mnemonic) (number_rd_shown (plain_fields rd 0 (Register 0) (Some imm)) (omega (arith, h.1)) h.0) refl refl refl (λ r. one_form env addr _ _ _ _ r)
    (record { there = refl; word = refl; filled = sethi_filled addr rd imm h.1 }) h

jmpl_word : (env : Env) (addr : ℕ) (rd rs1 : ℕ) (src : Src) → IsInRange (insn.Jmpl rd rs1 src) → IsOneWord env addr (plain_lexemes (codes "jmpl") shape.JumpRd (plain_fields rd rs1 (source_of src) (Some 0))) (insn.Jmpl rd rs1 src)
unfolding slots_of closed all_put opens slots_parts slot_parts words_of filled operated
jmpl_word env addr rd rs1 src h =
    operand_word env addr (codes "jmpl") shape.JumpRd (template.Jmpl) (plain_fields rd rs1 (source_of src) (Some 0)) (One (form shape.JumpRd template.Jmpl)) (insn.Jmpl rd rs1 src) (jmpl_mnemonic) (jump_rd_shown (plain_fields rd rs1 (source_of src) (Some 0)) (h.1, source_shown src h.2) h.0) refl refl refl (λ r. one_form env addr _ _ _ _ r)
    (record { there = plain_there rd rs1 src; word = refl; filled = rw (src_back src (h.2)) refl }) h

return_word : (env : Env) (addr : ℕ) (rs1 : ℕ) (src : Src) → IsInRange (insn.Return rs1 src) → IsOneWord env addr (plain_lexemes (codes "return") shape.Jump (plain_fields 0 rs1 (source_of src) (Some 0))) (insn.Return rs1 src)
unfolding slots_of closed all_put opens slots_parts slot_parts words_of filled operated
return_word env addr rs1 src h =
    operand_word env addr (codes "return") shape.Jump (template.Return) (plain_fields 0 rs1 (source_of src) (Some 0)) (One (form shape.Jump template.Return)) (insn.Return rs1 src) (return_mnemonic) (jump_shown (plain_fields 0 rs1 (source_of src) (Some 0)) (h.0, source_shown src h.1)) refl refl refl (λ r. one_form env addr _ _ _ _ r)
    (record { there = plain_there 0 rs1 src; word = refl; filled = rw (src_back src (h.1)) refl }) h

flush_word : (env : Env) (addr : ℕ) (rs1 : ℕ) (src : Src) → IsInRange (insn.Flush rs1 src) → IsOneWord env addr (plain_lexemes (codes "flush") shape.Jump (plain_fields 0 rs1 (source_of src) (Some 0))) (insn.Flush rs1 src)
unfolding slots_of closed all_put opens slots_parts slot_parts words_of filled operated
flush_word env addr rs1 src h =
    operand_word env addr (codes "flush") shape.Jump (template.Flush) (plain_fields 0 rs1 (source_of src) (Some 0)) (One (form shape.Jump template.Flush)) (insn.Flush rs1 src) (flush_mnemonic) (jump_shown (plain_fields 0 rs1 (source_of src) (Some 0)) (h.0, source_shown src h.1)) refl refl refl (λ r. one_form env addr _ _ _ _ r)
    (record { there = plain_there 0 rs1 src; word = refl; filled = rw (src_back src (h.1)) refl }) h

movcc_word : (env : Env) (addr : ℕ) (cond : ℕ) (wide : Bool) (rd : ℕ) (src : Src) → IsInRange (insn.Movcc cond wide rd src) → IsOneWord env addr (plain_lexemes (codes "mov" ++ condition_text cond) shape.MoveCodes (codes_fields rd 0 (source_of src) wide)) (insn.Movcc cond wide rd src)
unfolding slots_of closed all_put opens slots_parts slot_parts words_of filled operated
movcc_word env addr cond wide rd src h =
    operand_word env addr (codes "mov" ++ condition_text cond) shape.MoveCodes (template.Movcc cond) (codes_fields rd 0 (source_of src) wide) (One (form shape.MoveCodes (template.Movcc cond))) (insn.Movcc cond wide rd src) (move_mnemonic cond h.0) (move_codes_shown (codes_fields rd 0 (source_of src) wide) (source_shown src (signed_source 11 src (omega arith) h.2)) h.1) refl refl refl (λ r. one_form env addr _ _ _ _ r)
    (record { there = codes_there rd 0 src wide; word = refl; filled = rw (src_back src (signed_source 11 src (omega arith) h.2)) refl }) h

trap_refused : (env : Env) (here : ℕ) (wide : Bool) (ws : List Lexeme) → slots_at env here (slots_of shape.TrapIcc) none_given ((Percent, codes_text wide) ∷ ws) ≡ None
unfolding slots_of slots_at slot_at source_at source_or register_at register_in register_of expr_at sum_from step_of opener_of atom_of opened atom_added ended
trap_refused env here true ws = refl
trap_refused env here false ws = refl

trap_word : (env : Env) (addr : ℕ) (cond : ℕ) (wide : Bool) (rs1 : ℕ) (src : Src) → IsInRange (insn.Trap cond wide rs1 src) → IsOneWord env addr (plain_lexemes (codes "t" ++ condition_text cond) shape.TrapCodes (codes_fields 0 rs1 (source_of src) wide)) (insn.Trap cond wide rs1 src)
unfolding slots_of closed all_put opens slots_parts slot_parts words_of filled operated
trap_word env addr cond wide rs1 src h =
    operand_word env addr (codes "t" ++ condition_text cond) shape.TrapCodes (template.Trap cond) (codes_fields 0 rs1 (source_of src) wide) (trap_forms cond) (insn.Trap cond wide rs1 src) (trap_mnemonic cond h.0) (trap_codes_shown (codes_fields 0 rs1 (source_of src) wide) (h.1, source_shown src (number_source 8 src (omega arith) h.2))) refl refl refl (λ r. second_form env addr _ _ _ _ _ _ (trap_refused env addr wide _) r)
    (record { there = codes_there 0 rs1 src wide; word = refl; filled = rw (src_back src (number_source 8 src (omega arith) h.2)) refl }) h

membar_refused : (env : Env) (here n : ℕ) (bs : List ℕ) (ws : List Lexeme) → slots_at env here (slots_of shape.Barrier) none_given ((Number n, bs) ∷ ws) ≡ None
unfolding slots_of slots_at slot_at barriers_from barrier_in
membar_refused env here n bs ws = refl

membar_word : (env : Env) (addr : ℕ) (mask : ℕ) → IsInRange (insn.Membar mask) → IsOneWord env addr (plain_lexemes (codes "membar") shape.BarrierNumber (plain_fields 0 0 (Register 0) (Some mask))) (insn.Membar mask)
unfolding slots_of closed all_put opens slots_parts slot_parts words_of filled operated
membar_word env addr mask h =
    operand_word env addr (codes "membar") shape.BarrierNumber (template.Membar) (plain_fields 0 0 (Register 0) (Some mask)) (Two (form shape.Barrier template.Membar) (form shape.BarrierNumber template.Membar)) (insn.Membar mask) (membar_mnemonic) (barrier_number_shown (plain_fields 0 0 (Register 0) (Some mask)) (omega (arith, h))) refl refl refl (λ r. second_form env addr _ _ _ _ _ _ (membar_refused env addr _ _ _) r)
    (record { there = refl; word = refl; filled = membar_filled addr mask h }) h

rd_word : (env : Env) (addr : ℕ) (asr rd : ℕ) → IsInRange (insn.ReadAsr asr rd) → IsOneWord env addr (plain_lexemes (codes "rd") shape.ReadState (state_fields rd 0 (Register 0) asr)) (insn.ReadAsr asr rd)
unfolding slots_of closed all_put opens slots_parts slot_parts words_of filled operated
rd_word env addr asr rd h =
    operand_word env addr (codes "rd") shape.ReadState (template.ReadAsr) (state_fields rd 0 (Register 0) asr) (One (form shape.ReadState template.ReadAsr)) (insn.ReadAsr asr rd) (rd_mnemonic) (read_state_shown (state_fields rd 0 (Register 0) asr) (read_state asr h.0) h.1) refl refl refl (λ r. one_form env addr _ _ _ _ r)
    (record { there = refl; word = refl; filled = refl }) h

wr_word : (env : Env) (addr : ℕ) (asr rs1 : ℕ) (src : Src) → IsInRange (insn.WriteAsr asr rs1 src) → IsOneWord env addr (plain_lexemes (codes "wr") shape.WriteState (state_fields 0 rs1 (source_of src) asr)) (insn.WriteAsr asr rs1 src)
unfolding slots_of closed all_put opens slots_parts slot_parts words_of filled operated
wr_word env addr asr rs1 src h =
    operand_word env addr (codes "wr") shape.WriteState (template.WriteAsr) (state_fields 0 rs1 (source_of src) asr) (One (form shape.WriteState template.WriteAsr)) (insn.WriteAsr asr rs1 src) (wr_mnemonic) (write_state_shown (state_fields 0 rs1 (source_of src) asr) h.1.0 (source_shown src h.1.1) (write_state asr h.0)) refl refl refl (λ r. one_form env addr _ _ _ _ r)
    (record { there = state_there 0 rs1 src asr; word = refl; filled = rw (src_back src (h.1.1)) refl }) h

rdpr_word : (env : Env) (addr : ℕ) (reg rd : ℕ) → IsInRange (insn.ReadPr reg rd) → IsOneWord env addr (plain_lexemes (codes "rdpr") shape.ReadPrivileged (state_fields rd 0 (Register 0) reg)) (insn.ReadPr reg rd)
unfolding slots_of closed all_put opens slots_parts slot_parts words_of filled operated
rdpr_word env addr reg rd h =
    operand_word env addr (codes "rdpr") shape.ReadPrivileged (template.ReadPr) (state_fields rd 0 (Register 0) reg) (One (form shape.ReadPrivileged template.ReadPr)) (insn.ReadPr reg rd) (rdpr_mnemonic) (read_privileged_shown (state_fields rd 0 (Register 0) reg) (read_privileged reg h.0) h.1) refl refl refl (λ r. one_form env addr _ _ _ _ r)
    (record { there = refl; word = refl; filled = refl }) h

wrpr_word : (env : Env) (addr : ℕ) (reg rs1 : ℕ) (src : Src) → IsInRange (insn.WritePr reg rs1 src) → IsOneWord env addr (plain_lexemes (codes "wrpr") shape.WritePrivileged (state_fields 0 rs1 (source_of src) reg)) (insn.WritePr reg rs1 src)
unfolding slots_of closed all_put opens slots_parts slot_parts words_of filled operated
wrpr_word env addr reg rs1 src h =
    operand_word env addr (codes "wrpr") shape.WritePrivileged (template.WritePr) (state_fields 0 rs1 (source_of src) reg) (One (form shape.WritePrivileged template.WritePr)) (insn.WritePr reg rs1 src) (wrpr_mnemonic) (write_privileged_shown (state_fields 0 rs1 (source_of src) reg) h.1.0 (source_shown src h.1.1) (write_privileged reg h.0)) refl refl refl (λ r. one_form env addr _ _ _ _ r)
    (record { there = state_there 0 rs1 src reg; word = refl; filled = rw (src_back src (h.1.1)) refl }) h

-- ---- accesses

plain_mem : (rd rs1 : ℕ) (src : Src) → IsSource src → mem_of space.Plain (plain_fields rd rs1 (source_of src) (Some 0)) ≡ Some (Plain src)
unfolding mem_of
plain_mem rd rs1 src h = rw (src_back src h) refl

named_space : (rd rs1 rs2 asi : ℕ) → asi < 256 → mem_of space.Named (plain_fields rd rs1 (Register rs2) (Some asi)) ≡ Some (Alt rs2 asi)
unfolding mem_of below
named_space rd rs1 rs2 asi h = grind (arith, nat_tests)

asi_space : (rd rs1 : ℕ) (imm : ℤ) → IsSigned 13 imm → mem_of space.Asi (plain_fields rd rs1 (Given (Some (value_of imm))) (Some 0)) ≡ Some (AltReg imm)
unfolding mem_of
asi_space rd rs1 imm h = rw (imm_back imm h) refl

-- a register, and a number where a second register is wanted
pair_refused : (env : Env) (here r v w : ℕ) (t : Bool) (ss : List Slot) (g : Fields) (ps : List Part) → r < 32
    → slots_at env here (slot.Pair ∷ slot.Mark 93 ∷ ss) g (lexemes_of (register r ∷ cond t (Mark 43 ∷ number v ∷ ps) (Mark 45 ∷ number w ∷ ps))) ≡ None
unfolding slots_at slot_at pair_at register_at register_in rest_of_pair plus_register mark_at
pair_refused env here r v w true ss g ps h = rw (register_back r h) refl
pair_refused env here r v w false ss g ps h = rw (register_back r h) refl

load_refused : (env : Env) (here rd rs1 v : ℕ) (value : Option ℕ) → rs1 < 32 → Refuses env here shape.LoadNamed (lexemes_of (slots_parts (slots_of shape.LoadAsi) (plain_fields rd rs1 (Given (Some v)) value)))
unfolding slots_of slots_parts slot_parts offset slots_at slot_at mark_at
load_refused env here rd rs1 v value h = pair_refused env here rs1 v (2 ^ 64 - v) (nat_lt v (2 ^ 63)) (slot.AsiNumber ∷ slot.Mark 44 ∷ slot.Rd ∷ []) none_given (slots_parts (slot.Mark 93 ∷ slot.Asi ∷ slot.Mark 44 ∷ slot.Rd ∷ []) (plain_fields rd rs1 (Given (Some v)) value)) h

store_refused : (env : Env) (here rd rs1 v : ℕ) (value : Option ℕ) → rd < 32 → rs1 < 32 → Refuses env here shape.StoreNamed (lexemes_of (slots_parts (slots_of shape.StoreAsi) (plain_fields rd rs1 (Given (Some v)) value)))
unfolding slots_of slots_parts slot_parts offset slots_at slot_at mark_at register_at register_in
store_refused env here rd rs1 v value g h = rw (register_back rd g) (pair_refused env here rs1 v (2 ^ 64 - v) (nat_lt v (2 ^ 63)) (slot.AsiNumber ∷ []) (with_rd rd none_given) (slots_parts (slot.Mark 93 ∷ slot.Asi ∷ []) (plain_fields rd rs1 (Given (Some v)) value)) h)

fetch_refused : (env : Env) (here fcn rs1 : ℕ) (imm : ℤ) → rs1 < 32 → Refuses env here shape.FetchNamed (lexemes_of (slots_parts (slots_of shape.FetchAsi) (prefetch_fields fcn rs1 (AltReg imm))))
unfolding slots_of slots_parts slot_parts offset slots_at slot_at mark_at
fetch_refused env here fcn rs1 imm h = pair_refused env here rs1 (value_of imm) (2 ^ 64 - value_of imm) (nat_lt (value_of imm) (2 ^ 63)) (slot.AsiNumber ∷ slot.Mark 44 ∷ slot.Extra ∷ []) none_given (slots_parts (slot.Mark 93 ∷ slot.Asi ∷ slot.Mark 44 ∷ slot.Extra ∷ []) (prefetch_fields fcn rs1 (AltReg imm))) h

cas_refused : (env : Env) (here rd rs1 rs2 : ℕ) → rs1 < 32 → Refuses env here shape.ComparedNamed (lexemes_of (slots_parts (slots_of shape.ComparedAsi) (plain_fields rd rs1 (Register rs2) (Some 0))))
unfolding slots_of slots_parts slot_parts slots_at slot_at mark_at register_at register_in expr_at sum_from step_of opener_of atom_of opened atom_added ended
cas_refused env here rd rs1 rs2 h = rw (register_back rs1 h) refl

load_plain_word : (env : Env) (addr : ℕ) (kind : LoadKind) (rd rs1 : ℕ) (src : Src) → IsInRange (insn.Load kind rd rs1 (Plain src)) → IsOneWord env addr (plain_lexemes (load_text kind ++ alternate_text (Plain src)) shape.Load (plain_fields rd rs1 (source_of src) (Some 0))) (insn.Load kind rd rs1 (Plain src))
unfolding slots_of closed all_put opens slots_parts slot_parts words_of filled
load_plain_word env addr kind rd rs1 src h =
    operand_word env addr (load_text kind ++ alternate_text (Plain src)) shape.Load (template.Access (access.Load kind) space.Plain) (plain_fields rd rs1 (source_of src) (Some 0)) (access_forms (access.Load kind) (Plain src)) (insn.Load kind rd rs1 (Plain src)) (load_mnemonic kind (Plain src)) (load_shown (plain_fields rd rs1 (source_of src) (Some 0)) (h.1.1, source_shown src h.1.2) h.1.0) refl refl refl (λ r. one_form env addr _ _ _ _ r)
    (record { there = mem_there rd rs1 (Plain src); word = refl; filled = rw (plain_mem rd rs1 src h.1.2) refl }) h

load_named_word : (env : Env) (addr : ℕ) (kind : LoadKind) (rd rs1 : ℕ) (rs2 asi : ℕ) → IsInRange (insn.Load kind rd rs1 (Alt rs2 asi)) → IsOneWord env addr (plain_lexemes (load_text kind ++ alternate_text (Alt rs2 asi)) shape.LoadNamed (plain_fields rd rs1 (Register rs2) (Some asi))) (insn.Load kind rd rs1 (Alt rs2 asi))
unfolding slots_of closed all_put opens slots_parts slot_parts words_of filled
load_named_word env addr kind rd rs1 rs2 asi h =
    operand_word env addr (load_text kind ++ alternate_text (Alt rs2 asi)) shape.LoadNamed (template.Access (access.Load kind) space.Named) (plain_fields rd rs1 (Register rs2) (Some asi)) (access_forms (access.Load kind) (Alt rs2 asi)) (insn.Load kind rd rs1 (Alt rs2 asi)) (load_mnemonic kind (Alt rs2 asi)) (load_named_shown (plain_fields rd rs1 (Register rs2) (Some asi)) (h.1.1, h.1.2.0) (omega (arith, h.1.2.1)) h.1.0) refl refl refl (λ r. first_form env addr _ _ _ _ _ _ r)
    (record { there = mem_there rd rs1 (Alt rs2 asi); word = refl; filled = rw (named_space rd rs1 rs2 asi h.1.2.1) refl }) h

load_asi_word : (env : Env) (addr : ℕ) (kind : LoadKind) (rd rs1 : ℕ) (imm : ℤ) → IsInRange (insn.Load kind rd rs1 (AltReg imm)) → IsOneWord env addr (plain_lexemes (load_text kind ++ alternate_text (AltReg imm)) shape.LoadAsi (plain_fields rd rs1 (Given (Some (value_of imm))) (Some 0))) (insn.Load kind rd rs1 (AltReg imm))
unfolding slots_of closed all_put opens slots_parts slot_parts words_of filled
load_asi_word env addr kind rd rs1 imm h =
    operand_word env addr (load_text kind ++ alternate_text (AltReg imm)) shape.LoadAsi (template.Access (access.Load kind) space.Asi) (plain_fields rd rs1 (Given (Some (value_of imm))) (Some 0)) (access_forms (access.Load kind) (AltReg imm)) (insn.Load kind rd rs1 (AltReg imm)) (load_mnemonic kind (AltReg imm)) (load_asi_shown (plain_fields rd rs1 (Given (Some (value_of imm))) (Some 0)) (h.1.1, small_value imm h.1.2) h.1.0) refl refl refl (λ r. second_form env addr _ _ _ _ _ _ (load_refused env addr rd rs1 (value_of imm) (Some 0) h.1.1) r)
    (record { there = mem_there rd rs1 (AltReg imm); word = refl; filled = rw (asi_space rd rs1 imm h.1.2) refl }) h

store_plain_word : (env : Env) (addr : ℕ) (kind : StoreKind) (rd rs1 : ℕ) (src : Src) → IsInRange (insn.Store kind rd rs1 (Plain src)) → IsOneWord env addr (plain_lexemes (store_text kind ++ alternate_text (Plain src)) shape.Store (plain_fields rd rs1 (source_of src) (Some 0))) (insn.Store kind rd rs1 (Plain src))
unfolding slots_of closed all_put opens slots_parts slot_parts words_of filled
store_plain_word env addr kind rd rs1 src h =
    operand_word env addr (store_text kind ++ alternate_text (Plain src)) shape.Store (template.Access (access.Store kind) space.Plain) (plain_fields rd rs1 (source_of src) (Some 0)) (access_forms (access.Store kind) (Plain src)) (insn.Store kind rd rs1 (Plain src)) (store_mnemonic kind (Plain src)) (store_shown (plain_fields rd rs1 (source_of src) (Some 0)) h.1.0 (h.1.1, source_shown src h.1.2)) refl refl refl (λ r. one_form env addr _ _ _ _ r)
    (record { there = mem_there rd rs1 (Plain src); word = refl; filled = rw (plain_mem rd rs1 src h.1.2) refl }) h

store_named_word : (env : Env) (addr : ℕ) (kind : StoreKind) (rd rs1 : ℕ) (rs2 asi : ℕ) → IsInRange (insn.Store kind rd rs1 (Alt rs2 asi)) → IsOneWord env addr (plain_lexemes (store_text kind ++ alternate_text (Alt rs2 asi)) shape.StoreNamed (plain_fields rd rs1 (Register rs2) (Some asi))) (insn.Store kind rd rs1 (Alt rs2 asi))
unfolding slots_of closed all_put opens slots_parts slot_parts words_of filled
store_named_word env addr kind rd rs1 rs2 asi h =
    operand_word env addr (store_text kind ++ alternate_text (Alt rs2 asi)) shape.StoreNamed (template.Access (access.Store kind) space.Named) (plain_fields rd rs1 (Register rs2) (Some asi)) (access_forms (access.Store kind) (Alt rs2 asi)) (insn.Store kind rd rs1 (Alt rs2 asi)) (store_mnemonic kind (Alt rs2 asi)) (store_named_shown (plain_fields rd rs1 (Register rs2) (Some asi)) h.1.0 (h.1.1, h.1.2.0) (omega (arith, h.1.2.1))) refl refl refl (λ r. first_form env addr _ _ _ _ _ _ r)
    (record { there = mem_there rd rs1 (Alt rs2 asi); word = refl; filled = rw (named_space rd rs1 rs2 asi h.1.2.1) refl }) h

store_asi_word : (env : Env) (addr : ℕ) (kind : StoreKind) (rd rs1 : ℕ) (imm : ℤ) → IsInRange (insn.Store kind rd rs1 (AltReg imm)) → IsOneWord env addr (plain_lexemes (store_text kind ++ alternate_text (AltReg imm)) shape.StoreAsi (plain_fields rd rs1 (Given (Some (value_of imm))) (Some 0))) (insn.Store kind rd rs1 (AltReg imm))
unfolding slots_of closed all_put opens slots_parts slot_parts words_of filled
store_asi_word env addr kind rd rs1 imm h =
    operand_word env addr (store_text kind ++ alternate_text (AltReg imm)) shape.StoreAsi (template.Access (access.Store kind) space.Asi) (plain_fields rd rs1 (Given (Some (value_of imm))) (Some 0)) (access_forms (access.Store kind) (AltReg imm)) (insn.Store kind rd rs1 (AltReg imm)) (store_mnemonic kind (AltReg imm)) (store_asi_shown (plain_fields rd rs1 (Given (Some (value_of imm))) (Some 0)) h.1.0 (h.1.1, small_value imm h.1.2)) refl refl refl (λ r. second_form env addr _ _ _ _ _ _ (store_refused env addr rd rs1 (value_of imm) (Some 0) h.1.0 h.1.1) r)
    (record { there = mem_there rd rs1 (AltReg imm); word = refl; filled = rw (asi_space rd rs1 imm h.1.2) refl }) h

ldstub_plain_word : (env : Env) (addr : ℕ) (rd rs1 : ℕ) (src : Src) → IsInRange (insn.Ldstub rd rs1 (Plain src)) → IsOneWord env addr (plain_lexemes (codes "ldstub" ++ alternate_text (Plain src)) shape.Load (plain_fields rd rs1 (source_of src) (Some 0))) (insn.Ldstub rd rs1 (Plain src))
unfolding slots_of closed all_put opens slots_parts slot_parts words_of filled
ldstub_plain_word env addr rd rs1 src h =
    operand_word env addr (codes "ldstub" ++ alternate_text (Plain src)) shape.Load (template.Access access.Ldstub space.Plain) (plain_fields rd rs1 (source_of src) (Some 0)) (access_forms access.Ldstub (Plain src)) (insn.Ldstub rd rs1 (Plain src)) (ldstub_mnemonic (Plain src)) (load_shown (plain_fields rd rs1 (source_of src) (Some 0)) (h.1, source_shown src h.2) h.0) refl refl refl (λ r. one_form env addr _ _ _ _ r)
    (record { there = mem_there rd rs1 (Plain src); word = refl; filled = rw (plain_mem rd rs1 src h.2) refl }) h

ldstub_named_word : (env : Env) (addr : ℕ) (rd rs1 : ℕ) (rs2 asi : ℕ) → IsInRange (insn.Ldstub rd rs1 (Alt rs2 asi)) → IsOneWord env addr (plain_lexemes (codes "ldstub" ++ alternate_text (Alt rs2 asi)) shape.LoadNamed (plain_fields rd rs1 (Register rs2) (Some asi))) (insn.Ldstub rd rs1 (Alt rs2 asi))
unfolding slots_of closed all_put opens slots_parts slot_parts words_of filled
ldstub_named_word env addr rd rs1 rs2 asi h =
    operand_word env addr (codes "ldstub" ++ alternate_text (Alt rs2 asi)) shape.LoadNamed (template.Access access.Ldstub space.Named) (plain_fields rd rs1 (Register rs2) (Some asi)) (access_forms access.Ldstub (Alt rs2 asi)) (insn.Ldstub rd rs1 (Alt rs2 asi)) (ldstub_mnemonic (Alt rs2 asi)) (load_named_shown (plain_fields rd rs1 (Register rs2) (Some asi)) (h.1, h.2.0) (omega (arith, h.2.1)) h.0) refl refl refl (λ r. first_form env addr _ _ _ _ _ _ r)
    (record { there = mem_there rd rs1 (Alt rs2 asi); word = refl; filled = rw (named_space rd rs1 rs2 asi h.2.1) refl }) h

ldstub_asi_word : (env : Env) (addr : ℕ) (rd rs1 : ℕ) (imm : ℤ) → IsInRange (insn.Ldstub rd rs1 (AltReg imm)) → IsOneWord env addr (plain_lexemes (codes "ldstub" ++ alternate_text (AltReg imm)) shape.LoadAsi (plain_fields rd rs1 (Given (Some (value_of imm))) (Some 0))) (insn.Ldstub rd rs1 (AltReg imm))
unfolding slots_of closed all_put opens slots_parts slot_parts words_of filled
ldstub_asi_word env addr rd rs1 imm h =
    operand_word env addr (codes "ldstub" ++ alternate_text (AltReg imm)) shape.LoadAsi (template.Access access.Ldstub space.Asi) (plain_fields rd rs1 (Given (Some (value_of imm))) (Some 0)) (access_forms access.Ldstub (AltReg imm)) (insn.Ldstub rd rs1 (AltReg imm)) (ldstub_mnemonic (AltReg imm)) (load_asi_shown (plain_fields rd rs1 (Given (Some (value_of imm))) (Some 0)) (h.1, small_value imm h.2) h.0) refl refl refl (λ r. second_form env addr _ _ _ _ _ _ (load_refused env addr rd rs1 (value_of imm) (Some 0) h.1) r)
    (record { there = mem_there rd rs1 (AltReg imm); word = refl; filled = rw (asi_space rd rs1 imm h.2) refl }) h

swap_plain_word : (env : Env) (addr : ℕ) (rd rs1 : ℕ) (src : Src) → IsInRange (insn.Swap rd rs1 (Plain src)) → IsOneWord env addr (plain_lexemes (codes "swap" ++ alternate_text (Plain src)) shape.Load (plain_fields rd rs1 (source_of src) (Some 0))) (insn.Swap rd rs1 (Plain src))
unfolding slots_of closed all_put opens slots_parts slot_parts words_of filled
swap_plain_word env addr rd rs1 src h =
    operand_word env addr (codes "swap" ++ alternate_text (Plain src)) shape.Load (template.Access access.Swap space.Plain) (plain_fields rd rs1 (source_of src) (Some 0)) (access_forms access.Swap (Plain src)) (insn.Swap rd rs1 (Plain src)) (swap_mnemonic (Plain src)) (load_shown (plain_fields rd rs1 (source_of src) (Some 0)) (h.1, source_shown src h.2) h.0) refl refl refl (λ r. one_form env addr _ _ _ _ r)
    (record { there = mem_there rd rs1 (Plain src); word = refl; filled = rw (plain_mem rd rs1 src h.2) refl }) h

swap_named_word : (env : Env) (addr : ℕ) (rd rs1 : ℕ) (rs2 asi : ℕ) → IsInRange (insn.Swap rd rs1 (Alt rs2 asi)) → IsOneWord env addr (plain_lexemes (codes "swap" ++ alternate_text (Alt rs2 asi)) shape.LoadNamed (plain_fields rd rs1 (Register rs2) (Some asi))) (insn.Swap rd rs1 (Alt rs2 asi))
unfolding slots_of closed all_put opens slots_parts slot_parts words_of filled
swap_named_word env addr rd rs1 rs2 asi h =
    operand_word env addr (codes "swap" ++ alternate_text (Alt rs2 asi)) shape.LoadNamed (template.Access access.Swap space.Named) (plain_fields rd rs1 (Register rs2) (Some asi)) (access_forms access.Swap (Alt rs2 asi)) (insn.Swap rd rs1 (Alt rs2 asi)) (swap_mnemonic (Alt rs2 asi)) (load_named_shown (plain_fields rd rs1 (Register rs2) (Some asi)) (h.1, h.2.0) (omega (arith, h.2.1)) h.0) refl refl refl (λ r. first_form env addr _ _ _ _ _ _ r)
    (record { there = mem_there rd rs1 (Alt rs2 asi); word = refl; filled = rw (named_space rd rs1 rs2 asi h.2.1) refl }) h

swap_asi_word : (env : Env) (addr : ℕ) (rd rs1 : ℕ) (imm : ℤ) → IsInRange (insn.Swap rd rs1 (AltReg imm)) → IsOneWord env addr (plain_lexemes (codes "swap" ++ alternate_text (AltReg imm)) shape.LoadAsi (plain_fields rd rs1 (Given (Some (value_of imm))) (Some 0))) (insn.Swap rd rs1 (AltReg imm))
unfolding slots_of closed all_put opens slots_parts slot_parts words_of filled
swap_asi_word env addr rd rs1 imm h =
    operand_word env addr (codes "swap" ++ alternate_text (AltReg imm)) shape.LoadAsi (template.Access access.Swap space.Asi) (plain_fields rd rs1 (Given (Some (value_of imm))) (Some 0)) (access_forms access.Swap (AltReg imm)) (insn.Swap rd rs1 (AltReg imm)) (swap_mnemonic (AltReg imm)) (load_asi_shown (plain_fields rd rs1 (Given (Some (value_of imm))) (Some 0)) (h.1, small_value imm h.2) h.0) refl refl refl (λ r. second_form env addr _ _ _ _ _ _ (load_refused env addr rd rs1 (value_of imm) (Some 0) h.1) r)
    (record { there = mem_there rd rs1 (AltReg imm); word = refl; filled = rw (asi_space rd rs1 imm h.2) refl }) h

fetch_plain_filled : (addr fcn rs1 : ℕ) (src : Src) → fcn < 32 → IsSource src → filled addr (template.Prefetch space.Plain) (prefetch_fields fcn rs1 (Plain src)) ≡ Some (insn.Prefetch fcn rs1 (Plain src))
unfolding filled mem_of below
fetch_plain_filled addr fcn rs1 src g h = rw (src_back src h) (grind (arith, nat_tests))

fetch_named_filled : (addr fcn rs1 rs2 asi : ℕ) → fcn < 32 → asi < 256 → filled addr (template.Prefetch space.Named) (prefetch_fields fcn rs1 (Alt rs2 asi)) ≡ Some (insn.Prefetch fcn rs1 (Alt rs2 asi))
unfolding filled mem_of below
fetch_named_filled addr fcn rs1 rs2 asi g h = grind (arith, nat_tests)

fetch_asi_filled : (addr fcn rs1 : ℕ) (imm : ℤ) → fcn < 32 → IsSigned 13 imm → filled addr (template.Prefetch space.Asi) (prefetch_fields fcn rs1 (AltReg imm)) ≡ Some (insn.Prefetch fcn rs1 (AltReg imm))
unfolding filled mem_of below
fetch_asi_filled addr fcn rs1 imm g h = rw (imm_back imm h) (grind (arith, nat_tests))

prefetch_plain_word : (env : Env) (addr : ℕ) (fcn rs1 : ℕ) (src : Src) → IsInRange (insn.Prefetch fcn rs1 (Plain src)) → IsOneWord env addr (plain_lexemes (codes "prefetch" ++ alternate_text (Plain src)) shape.Fetch (prefetch_fields fcn rs1 (Plain src))) (insn.Prefetch fcn rs1 (Plain src))
unfolding slots_of closed all_put opens slots_parts slot_parts words_of filled
prefetch_plain_word env addr fcn rs1 src h =
    operand_word env addr (codes "prefetch" ++ alternate_text (Plain src)) shape.Fetch (template.Prefetch space.Plain) (prefetch_fields fcn rs1 (Plain src)) (prefetch_forms (Plain src)) (insn.Prefetch fcn rs1 (Plain src)) (prefetch_mnemonic (Plain src)) (fetch_shown (prefetch_fields fcn rs1 (Plain src)) (h.1, source_shown src h.2) (omega (arith, h.0))) refl refl refl (λ r. one_form env addr _ _ _ _ r)
    (record { there = prefetch_there fcn rs1 (Plain src); word = refl; filled = fetch_plain_filled addr fcn rs1 src h.0 h.2 }) h

prefetch_named_word : (env : Env) (addr : ℕ) (fcn rs1 : ℕ) (rs2 asi : ℕ) → IsInRange (insn.Prefetch fcn rs1 (Alt rs2 asi)) → IsOneWord env addr (plain_lexemes (codes "prefetch" ++ alternate_text (Alt rs2 asi)) shape.FetchNamed (prefetch_fields fcn rs1 (Alt rs2 asi))) (insn.Prefetch fcn rs1 (Alt rs2 asi))
unfolding slots_of closed all_put opens slots_parts slot_parts words_of filled
prefetch_named_word env addr fcn rs1 rs2 asi h =
    operand_word env addr (codes "prefetch" ++ alternate_text (Alt rs2 asi)) shape.FetchNamed (template.Prefetch space.Named) (prefetch_fields fcn rs1 (Alt rs2 asi)) (prefetch_forms (Alt rs2 asi)) (insn.Prefetch fcn rs1 (Alt rs2 asi)) (prefetch_mnemonic (Alt rs2 asi)) (fetch_named_shown (prefetch_fields fcn rs1 (Alt rs2 asi)) (h.1, h.2.0) (omega (arith, h.2.1)) (omega (arith, h.0))) refl refl refl (λ r. first_form env addr _ _ _ _ _ _ r)
    (record { there = prefetch_there fcn rs1 (Alt rs2 asi); word = refl; filled = fetch_named_filled addr fcn rs1 rs2 asi h.0 h.2.1 }) h

prefetch_asi_word : (env : Env) (addr : ℕ) (fcn rs1 : ℕ) (imm : ℤ) → IsInRange (insn.Prefetch fcn rs1 (AltReg imm)) → IsOneWord env addr (plain_lexemes (codes "prefetch" ++ alternate_text (AltReg imm)) shape.FetchAsi (prefetch_fields fcn rs1 (AltReg imm))) (insn.Prefetch fcn rs1 (AltReg imm))
unfolding slots_of closed all_put opens slots_parts slot_parts words_of filled
prefetch_asi_word env addr fcn rs1 imm h =
    operand_word env addr (codes "prefetch" ++ alternate_text (AltReg imm)) shape.FetchAsi (template.Prefetch space.Asi) (prefetch_fields fcn rs1 (AltReg imm)) (prefetch_forms (AltReg imm)) (insn.Prefetch fcn rs1 (AltReg imm)) (prefetch_mnemonic (AltReg imm)) (fetch_asi_shown (prefetch_fields fcn rs1 (AltReg imm)) (h.1, small_value imm h.2) (omega (arith, h.0))) refl refl refl (λ r. second_form env addr _ _ _ _ _ _ (fetch_refused env addr fcn rs1 imm h.1) r)
    (record { there = prefetch_there fcn rs1 (AltReg imm); word = refl; filled = fetch_asi_filled addr fcn rs1 imm h.0 h.2 }) h

cas_named_filled : (addr : ℕ) (wide : Bool) (rd rs1 rs2 asi : ℕ) → asi < 256 → filled addr (template.Cas wide space.Named) (plain_fields rd rs1 (Register rs2) (Some asi)) ≡ Some (insn.Cas wide rd rs1 rs2 (Some asi))
unfolding filled compare_of below
cas_named_filled addr wide rd rs1 rs2 asi h = grind (arith, nat_tests)

cas_asi_filled : (addr : ℕ) (wide : Bool) (rd rs1 rs2 : ℕ) → filled addr (template.Cas wide space.Asi) (plain_fields rd rs1 (Register rs2) (Some 0)) ≡ Some (insn.Cas wide rd rs1 rs2 None)
unfolding filled compare_of
cas_asi_filled addr wide rd rs1 rs2 = refl

cas_named_word : (env : Env) (addr : ℕ) (wide : Bool) (rd rs1 rs2 asi : ℕ) → IsInRange (insn.Cas wide rd rs1 rs2 (Some asi)) → IsOneWord env addr (plain_lexemes (cas_text wide) shape.ComparedNamed (plain_fields rd rs1 (Register rs2) (Some asi))) (insn.Cas wide rd rs1 rs2 (Some asi))
unfolding slots_of closed all_put opens slots_parts slot_parts words_of filled
cas_named_word env addr wide rd rs1 rs2 asi h =
    operand_word env addr (cas_text wide) shape.ComparedNamed (template.Cas wide space.Named) (plain_fields rd rs1 (Register rs2) (Some asi)) (cas_forms wide) (insn.Cas wide rd rs1 rs2 (Some asi)) (cas_mnemonic wide) (compared_named_shown (plain_fields rd rs1 (Register rs2) (Some asi)) h.1 (omega (arith, h.3)) h.2 h.0) refl refl refl (λ r. first_form env addr _ _ _ _ _ _ r)
    (record { there = refl; word = refl; filled = cas_named_filled addr wide rd rs1 rs2 asi h.3 }) h

cas_asi_word : (env : Env) (addr : ℕ) (wide : Bool) (rd rs1 rs2 : ℕ) → IsInRange (insn.Cas wide rd rs1 rs2 None) → IsOneWord env addr (plain_lexemes (cas_text wide) shape.ComparedAsi (plain_fields rd rs1 (Register rs2) (Some 0))) (insn.Cas wide rd rs1 rs2 None)
unfolding slots_of closed all_put opens slots_parts slot_parts words_of filled
cas_asi_word env addr wide rd rs1 rs2 h =
    operand_word env addr (cas_text wide) shape.ComparedAsi (template.Cas wide space.Asi) (plain_fields rd rs1 (Register rs2) (Some 0)) (cas_forms wide) (insn.Cas wide rd rs1 rs2 None) (cas_mnemonic wide) (compared_asi_shown (plain_fields rd rs1 (Register rs2) (Some 0)) h.1 h.2 h.0) refl refl refl (λ r. second_form env addr _ _ _ _ _ _ (cas_refused env addr rd rs1 rs2 h.1) r)
    (record { there = refl; word = refl; filled = cas_asi_filled addr wide rd rs1 rs2 }) h

-- ---- branches

small_pos : (k n : ℕ) → 2 ^ (k - 1) ≤ 2 ^ 30 → IsSigned k (pos n) → n < 2 ^ 30
small_pos k n b s = omega (arith, ints, s.1, b)

small_neg : (k n : ℕ) → 2 ^ (k - 1) ≤ 2 ^ 30 → IsSigned k (negsuc n) → n < 2 ^ 30
small_neg k n b s = omega (arith, ints, s.0, b)

target_back : (k addr : ℕ) (z : ℤ) → addr < 2 ^ 39 → 2 ^ (k - 1) ≤ 2 ^ 30 → IsSigned k z → target_value addr (Some (target_of addr z)) ≡ Some z
unfolding target_value words_away target_of
target_back k addr (pos n) h b s =
    let c : n < 2 ^ 30 = small_pos k n b s in
    let e : ((addr + 4 * n) % 2 ^ 64 + 2 ^ 64 - addr) % 2 ^ 64 ≡ 4 * n = omega arith in
    rw e (grind (arith, nat_tests))
target_back k addr (negsuc n) h b s =
    let c : n < 2 ^ 30 = small_neg k n b s in
    let e : ((addr + 2 ^ 64 - 4 * suc n) % 2 ^ 64 + 2 ^ 64 - addr) % 2 ^ 64 ≡ 2 ^ 64 - 4 * suc n = omega arith in
    let f : (2 ^ 64 - 1 - (2 ^ 64 - 4 * suc n)) / 4 ≡ n = omega arith in
    rw e (grind (arith, nat_tests, f))

-- flags, a comma and so on
abbrev flagged : Bool → Bool → List Part → List Lexeme
flagged annul taken ps = lexemes_of (annulled annul (predicted taken ps))

abbrev bicc_lexemes : Bool → ℕ → List Lexeme
bicc_lexemes annul t = flagged annul true (Space ∷ hex 16 t ∷ [])

bicc_reads : (env : Env) (here : ℕ) (annul : Bool) (t : ℕ) → t < 2 ^ 64 → Reads env here shape.BranchIcc (bicc_lexemes annul t) (branch_fields annul false true 0 t)
unfolding slots_of slots_at slot_at flag_at whole ends
bicc_reads env here true t h = rw (number_reads env here t _ [] h refl) refl
bicc_reads env here false t h = rw (number_reads env here t _ [] h refl) refl

bicc_word : (env : Env) (addr cond : ℕ) (annul : Bool) (z : ℤ) → addr < 2 ^ 39 → IsInRange (insn.Bicc cond annul z)
    → IsOneWord env addr ((Name, codes "b" ++ condition_text cond) ∷ bicc_lexemes annul (target_of addr z)) (insn.Bicc cond annul z)
unfolding words_of filled branch_of opens all_known
bicc_word env addr cond true z a h =
    is_one_word env addr _ (template.Bicc cond) (branch_fields true false true 0 (target_of addr z)) (insn.Bicc cond true z)
    (line_read env addr _ (branch_forms cond) (bicc_lexemes true (target_of addr z)) _ (branch_mnemonic cond h.0) refl refl (first_form env addr _ _ _ _ _ _ (bicc_reads env addr true (target_of addr z) (target_small addr z))))
    refl refl (rw (target_back 22 addr z a (omega arith) h.1) refl) h
bicc_word env addr cond false z a h =
    is_one_word env addr _ (template.Bicc cond) (branch_fields false false true 0 (target_of addr z)) (insn.Bicc cond false z)
    (line_read env addr _ (branch_forms cond) (bicc_lexemes false (target_of addr z)) _ (branch_mnemonic cond h.0) refl refl (first_form env addr _ _ _ _ _ _ (bicc_reads env addr false (target_of addr z) (target_small addr z))))
    refl refl (rw (target_back 22 addr z a (omega arith) h.1) refl) h

abbrev bpcc_lexemes : Bool → Bool → Bool → ℕ → List Lexeme
bpcc_lexemes annul wide taken t = flagged annul taken (Space ∷ Long Percent (codes_text wide) ∷ Mark 44 ∷ Space ∷ hex 16 t ∷ [])

bpcc_reads : (env : Env) (here : ℕ) (annul wide taken : Bool) (t : ℕ) → t < 2 ^ 64 → Reads env here shape.BranchCodes (bpcc_lexemes annul wide taken t) (branch_fields annul wide taken 0 t)
unfolding slots_of slots_at slot_at flag_at codes_at mark_at whole ends
bpcc_reads env here true true true t h = rw (number_reads env here t _ [] h refl) refl
bpcc_reads env here true true false t h = rw (number_reads env here t _ [] h refl) refl
bpcc_reads env here true false true t h = rw (number_reads env here t _ [] h refl) refl
bpcc_reads env here true false false t h = rw (number_reads env here t _ [] h refl) refl
bpcc_reads env here false true true t h = rw (number_reads env here t _ [] h refl) refl
bpcc_reads env here false true false t h = rw (number_reads env here t _ [] h refl) refl
bpcc_reads env here false false true t h = rw (number_reads env here t _ [] h refl) refl
bpcc_reads env here false false false t h = rw (number_reads env here t _ [] h refl) refl

bpcc_refused : (env : Env) (here : ℕ) (annul wide taken : Bool) (t : ℕ) → Refuses env here shape.BranchIcc (bpcc_lexemes annul wide taken t)
unfolding slots_of slots_at slot_at flag_at whole expr_at sum_from step_of opener_of atom_of opened atom_added ended
bpcc_refused env here true true true t = refl
bpcc_refused env here true true false t = refl
bpcc_refused env here true false true t = refl
bpcc_refused env here true false false t = refl
bpcc_refused env here false true true t = refl
bpcc_refused env here false true false t = refl
bpcc_refused env here false false true t = refl
bpcc_refused env here false false false t = refl

bpcc_known : (annul wide taken : Bool) (t : ℕ) → all_known (bpcc_lexemes annul wide taken t) ≡ true
unfolding all_known is_known_percent register_of
bpcc_known true true true t = refl
bpcc_known true true false t = refl
bpcc_known true false true t = refl
bpcc_known true false false t = refl
bpcc_known false true true t = refl
bpcc_known false true false t = refl
bpcc_known false false true t = refl
bpcc_known false false false t = refl

bpcc_opens : (annul wide taken : Bool) (t : ℕ) → opens (bpcc_lexemes annul wide taken t) ≡ true
unfolding opens
bpcc_opens true true true t = refl
bpcc_opens true true false t = refl
bpcc_opens true false true t = refl
bpcc_opens true false false t = refl
bpcc_opens false true true t = refl
bpcc_opens false true false t = refl
bpcc_opens false false true t = refl
bpcc_opens false false false t = refl

bpcc_word : (env : Env) (addr cond : ℕ) (annul wide taken : Bool) (z : ℤ) → addr < 2 ^ 39 → IsInRange (insn.Bpcc cond annul wide taken z)
    → IsOneWord env addr ((Name, codes "b" ++ condition_text cond) ∷ bpcc_lexemes annul wide taken (target_of addr z)) (insn.Bpcc cond annul wide taken z)
unfolding words_of filled branch_of
bpcc_word env addr cond annul wide taken z a h =
    is_one_word env addr _ (template.Bpcc cond) (branch_fields annul wide taken 0 (target_of addr z)) (insn.Bpcc cond annul wide taken z)
    (line_read env addr _ (branch_forms cond) (bpcc_lexemes annul wide taken (target_of addr z)) _ (branch_mnemonic cond h.0) (bpcc_opens annul wide taken _) (bpcc_known annul wide taken _)
    (second_form env addr _ _ _ _ _ _ (bpcc_refused env addr annul wide taken _) (bpcc_reads env addr annul wide taken (target_of addr z) (target_small addr z))))
    refl refl (rw (target_back 19 addr z a (omega arith) h.1) refl) h

abbrev bpr_lexemes : Bool → Bool → ℕ → ℕ → List Lexeme
bpr_lexemes annul taken r t = flagged annul taken (Space ∷ register r ∷ Mark 44 ∷ Space ∷ hex 16 t ∷ [])

bpr_reads : (env : Env) (here : ℕ) (annul taken : Bool) (r t : ℕ) → r < 32 → t < 2 ^ 64 → Reads env here shape.BranchRegister (bpr_lexemes annul taken r t) (branch_fields annul false taken r t)
unfolding slots_of slots_at slot_at flag_at register_at register_in mark_at whole ends
bpr_reads env here true true r t g h = rw (register_back r g, number_reads env here t _ [] h refl) refl
bpr_reads env here true false r t g h = rw (register_back r g, number_reads env here t _ [] h refl) refl
bpr_reads env here false true r t g h = rw (register_back r g, number_reads env here t _ [] h refl) refl
bpr_reads env here false false r t g h = rw (register_back r g, number_reads env here t _ [] h refl) refl

bpr_known : (annul taken : Bool) (r t : ℕ) → r < 32 → all_known (bpr_lexemes annul taken r t) ≡ true
unfolding all_known
bpr_known true true r t g = rw (known_register r g) refl
bpr_known true false r t g = rw (known_register r g) refl
bpr_known false true r t g = rw (known_register r g) refl
bpr_known false false r t g = rw (known_register r g) refl

bpr_opens : (annul taken : Bool) (r t : ℕ) → opens (bpr_lexemes annul taken r t) ≡ true
unfolding opens
bpr_opens true true r t = refl
bpr_opens true false r t = refl
bpr_opens false true r t = refl
bpr_opens false false r t = refl

bpr_word : (env : Env) (addr rcond : ℕ) (annul taken : Bool) (rs1 : ℕ) (z : ℤ) → addr < 2 ^ 39 → IsInRange (insn.Bpr rcond annul taken rs1 z)
    → IsOneWord env addr ((Name, codes "br" ++ register_condition_text rcond) ∷ bpr_lexemes annul taken rs1 (target_of addr z)) (insn.Bpr rcond annul taken rs1 z)
unfolding words_of filled branch_of
bpr_word env addr rcond annul taken rs1 z a h =
    is_one_word env addr _ (template.Bpr rcond) (branch_fields annul false taken rs1 (target_of addr z)) (insn.Bpr rcond annul taken rs1 z)
    (line_read env addr _ _ (bpr_lexemes annul taken rs1 (target_of addr z)) _ (register_branch_mnemonic rcond h.0) (bpr_opens annul taken rs1 _) (bpr_known annul taken rs1 _ h.1)
    (one_form env addr _ _ _ _ (bpr_reads env addr annul taken rs1 (target_of addr z) h.1 (target_small addr z))))
    refl refl (rw (target_back 16 addr z a (omega arith) h.2) refl) h

call_word : (env : Env) (addr : ℕ) (z : ℤ) → addr < 2 ^ 39 → IsInRange (insn.Call z)
    → IsOneWord env addr (plain_lexemes (codes "call") shape.Target (branch_fields false false true 0 (target_of addr z))) (insn.Call z)
unfolding slots_of closed all_put opens slots_parts slot_parts words_of filled branch_of
call_word env addr z a h =
    operand_word env addr (codes "call") shape.Target template.Call (branch_fields false false true 0 (target_of addr z)) (One (form shape.Target template.Call)) (insn.Call z) call_mnemonic (target_shown (branch_fields false false true 0 (target_of addr z)) (target_small addr z)) refl refl refl (λ r. one_form env addr _ _ _ _ r)
    (record { there = refl; word = refl; filled = rw (target_back 30 addr z a (omega arith) h) refl }) h

bicc_line : (env : Env) (addr cond : ℕ) (annul : Bool) (z : ℤ) → addr < 2 ^ 39 → IsInRange (insn.Bicc cond annul z)
    → IsOneWord env addr (lexemes_of (line_parts (codes "b" ++ condition_text cond) (slots_of shape.BranchIcc) (branch_fields annul false true 0 (target_of addr z)))) (insn.Bicc cond annul z)
unfolding slots_of slots_parts slot_parts
bicc_line env addr cond annul z a h = bicc_word env addr cond annul z a h

bpcc_line : (env : Env) (addr cond : ℕ) (annul wide taken : Bool) (z : ℤ) → addr < 2 ^ 39 → IsInRange (insn.Bpcc cond annul wide taken z)
    → IsOneWord env addr (lexemes_of (line_parts (codes "b" ++ condition_text cond) (slots_of shape.BranchCodes) (branch_fields annul wide taken 0 (target_of addr z)))) (insn.Bpcc cond annul wide taken z)
unfolding slots_of slots_parts slot_parts
bpcc_line env addr cond annul wide taken z a h = bpcc_word env addr cond annul wide taken z a h

bpr_line : (env : Env) (addr rcond : ℕ) (annul taken : Bool) (rs1 : ℕ) (z : ℤ) → addr < 2 ^ 39 → IsInRange (insn.Bpr rcond annul taken rs1 z)
    → IsOneWord env addr (lexemes_of (line_parts (codes "br" ++ register_condition_text rcond) (slots_of shape.BranchRegister) (branch_fields annul false taken rs1 (target_of addr z)))) (insn.Bpr rcond annul taken rs1 z)
unfolding slots_of slots_parts slot_parts
bpr_line env addr rcond annul taken rs1 z a h = bpr_word env addr rcond annul taken rs1 z a h

-- ---- mnemonics alone

bare_word : (env : Env) (addr : ℕ) (name : List ℕ) (i : Insn) → IsMnemonic name (One (form shape.Nothing (template.Fixed i))) → IsInRange i → IsOneWord env addr ((Name, name) ∷ []) i
unfolding words_of filled
bare_word env addr name i n h = is_one_word env addr _ (template.Fixed i) none_given i (bare_read env addr name i n) refl refl refl h

pub text_is_word : TextIsWord
unfolding parts_of mnemonic_of shape_of fields_of slots_of
text_is_word env addr word insn.Illegal a t s = cc
text_is_word env addr word insn.FpOff a t s = cc
text_is_word env addr word (insn.ReadHpr reg rd) a t s = cc
text_is_word env addr word (insn.WriteHpr reg rs1 src) a t s = cc
text_is_word env addr word insn.Stbar a t s = bare_word env addr (codes "stbar") insn.Stbar stbar_mnemonic s
text_is_word env addr word insn.Flushw a t s = bare_word env addr (codes "flushw") insn.Flushw flushw_mnemonic s
text_is_word env addr word insn.Saved a t s = bare_word env addr (codes "saved") insn.Saved saved_mnemonic s
text_is_word env addr word insn.Restored a t s = bare_word env addr (codes "restored") insn.Restored restored_mnemonic s
text_is_word env addr word insn.Done a t s = bare_word env addr (codes "done") insn.Done done_mnemonic s
text_is_word env addr word insn.Retry a t s = bare_word env addr (codes "retry") insn.Retry retry_mnemonic s
text_is_word env addr word (insn.Bpcc cond annul wide taken disp) a t s = bpcc_line env addr cond annul wide taken disp a s
text_is_word env addr word (insn.Bicc cond annul disp) a t s = bicc_line env addr cond annul disp a s
text_is_word env addr word (insn.Bpr rcond annul taken rs1 disp) a t s = bpr_line env addr rcond annul taken rs1 disp a s
text_is_word env addr word (insn.Sethi rd imm) a t s = sethi_word env addr rd imm s
text_is_word env addr word (insn.Call disp) a t s = call_word env addr disp a s
text_is_word env addr word (insn.Membar mask) a t s = membar_word env addr mask s
text_is_word env addr word (insn.Alu op cc rd rs1 src) a t s = alu_word env addr op cc rd rs1 src s
text_is_word env addr word (insn.Shift op wide rd rs1 src) a t s = shift_word env addr op wide rd rs1 src s
text_is_word env addr word (insn.ReadAsr asr rd) a t s = rd_word env addr asr rd s
text_is_word env addr word (insn.WriteAsr asr rs1 src) a t s = wr_word env addr asr rs1 src s
text_is_word env addr word (insn.ReadPr reg rd) a t s = rdpr_word env addr reg rd s
text_is_word env addr word (insn.WritePr reg rs1 src) a t s = wrpr_word env addr reg rs1 src s
text_is_word env addr word (insn.Movcc cond wide rd src) a t s = movcc_word env addr cond wide rd src s
text_is_word env addr word (insn.Movr rcond rd rs1 src) a t s = movr_word env addr rcond rd rs1 src s
text_is_word env addr word (insn.Jmpl rd rs1 src) a t s = jmpl_word env addr rd rs1 src s
text_is_word env addr word (insn.Return rs1 src) a t s = return_word env addr rs1 src s
text_is_word env addr word (insn.Flush rs1 src) a t s = flush_word env addr rs1 src s
text_is_word env addr word (insn.Trap cond wide rs1 src) a t s = trap_word env addr cond wide rs1 src s
text_is_word env addr word (insn.Save rd rs1 src) a t s = save_word env addr rd rs1 src s
text_is_word env addr word (insn.Restore rd rs1 src) a t s = restore_word env addr rd rs1 src s
text_is_word env addr word (insn.Load kind rd rs1 (Plain src)) a t s = load_plain_word env addr kind rd rs1 src s
text_is_word env addr word (insn.Load kind rd rs1 (Alt rs2 asi)) a t s = load_named_word env addr kind rd rs1 rs2 asi s
text_is_word env addr word (insn.Load kind rd rs1 (AltReg imm)) a t s = load_asi_word env addr kind rd rs1 imm s
text_is_word env addr word (insn.Store kind rd rs1 (Plain src)) a t s = store_plain_word env addr kind rd rs1 src s
text_is_word env addr word (insn.Store kind rd rs1 (Alt rs2 asi)) a t s = store_named_word env addr kind rd rs1 rs2 asi s
text_is_word env addr word (insn.Store kind rd rs1 (AltReg imm)) a t s = store_asi_word env addr kind rd rs1 imm s
text_is_word env addr word (insn.Ldstub rd rs1 (Plain src)) a t s = ldstub_plain_word env addr rd rs1 src s
text_is_word env addr word (insn.Ldstub rd rs1 (Alt rs2 asi)) a t s = ldstub_named_word env addr rd rs1 rs2 asi s
text_is_word env addr word (insn.Ldstub rd rs1 (AltReg imm)) a t s = ldstub_asi_word env addr rd rs1 imm s
text_is_word env addr word (insn.Swap rd rs1 (Plain src)) a t s = swap_plain_word env addr rd rs1 src s
text_is_word env addr word (insn.Swap rd rs1 (Alt rs2 asi)) a t s = swap_named_word env addr rd rs1 rs2 asi s
text_is_word env addr word (insn.Swap rd rs1 (AltReg imm)) a t s = swap_asi_word env addr rd rs1 imm s
text_is_word env addr word (insn.Prefetch fcn rs1 (Plain src)) a t s = prefetch_plain_word env addr fcn rs1 src s
text_is_word env addr word (insn.Prefetch fcn rs1 (Alt rs2 asi)) a t s = prefetch_named_word env addr fcn rs1 rs2 asi s
text_is_word env addr word (insn.Prefetch fcn rs1 (AltReg imm)) a t s = prefetch_asi_word env addr fcn rs1 imm s
text_is_word env addr word (insn.Cas wide rd rs1 rs2 (Some asi)) a t s = cas_named_word env addr wide rd rs1 rs2 asi s
text_is_word env addr word (insn.Cas wide rd rs1 rs2 None) a t s = cas_asi_word env addr wide rd rs1 rs2 s

-- ---- words without an instruction

word_reads : (env : Env) (here n : ℕ) (bs : List ℕ) → n < 2 ^ 32 → read_words env here (Some ((Name, codes ".word") ∷ (Number n, bs) ∷ [])) ≡ Ok (record { labels = []; body = Holds (Numbers Word (Some n ∷ [])) })
unfolding read_words labels_of body_of name_in behind_name mark_at statement_of directive_at exprs_from exprs_after more_exprs all_known ends
word_reads env here n bs h = rw (number_reads env here n bs [] (omega arith) refl) refl

pub text_is_itself : TextIsItself
text_is_itself env addr word h = word_reads env addr word _ h
