-- The assembler reads what a slot shows.
use Rattle.std.proofs.Common.{◌≡◌, ◌≤◌, ◌<◌, ℕ, zero, suc, ◌+◌, ◌-◌, ◌*◌, ◌^◌, ◌%◌, ◌/◌, ◌==◌, List, [], ◌∷◌, refl, ap, sym, ◌∙◌, arith, Option, Some, None, Bool, true, false, not, ◌||◌, cond, subst}
use Rattle.std.proofs.lemmas.Bool.Decides.{nat_tests}
use Rattle.std.specs.Fmt.{decimal}
use Rattle.std.specs.Prelude.{codes, nat_lt}
use Rattle.t1_lex.specs.Tokens.{Lexeme}
use Rattle.t1_lex.specs.Parts.{Part, lexemes_of}
use Rattle.t1_lex.specs.Parts.Part.{Space, Mark, Long}
use Rattle.t1_lex.specs.declared.token.TokenKind.TheVariants.{Name, Number, Text, Percent, Hash, Punct, LineEnd}
use Rattle.t1_lex.proofs.Parts.{and_true}
use Rattle.t1_expr.specs.Exprs.{Env, expr_at, sum_from, step_of, atom_of, opener_of, atom_added, opened, sum_of, ended}
use Rattle.t1_form.specs.Names.{named, register_of, bank_of, in_bank, state_of, privileged_names, is_known_percent}
use Rattle.t1_form.specs.declared.slot.Slot.{Slot}
use Rattle.t1_form.specs.declared.slot.Slot.TheVariants as slot
use Rattle.t1_operand.specs.Slots.{mark_at, register_in, register_at, whole, source_or, source_at, minus_at, rest_of_address, rest_of_offset, plus_at, rest_of_pair, plus_register, address_at, offset_at, pair_at, within_or, codes_at, asi_at, state_in, state_at, privileged_in, privileged_at, with_rd, with_rs1, with_source, with_place, with_value, with_extra, with_number, with_wide, slot_at, slots_at}
use Rattle.t1_operand.specs.declared.fields.Source.{Source}
use Rattle.t1_operand.specs.declared.fields.Source.TheVariants.{Register, Value as Given}
use Rattle.t1_operand.specs.declared.fields.Fields.{Fields}
use Rattle.t1_stmt.specs.Lines.{all_known}
use Rattle.t1_dis.specs.Names.{letter_of, register_bytes, state_text, privileged_text}
use Rattle.t1_dis.specs.Texts.{number, signed, offset, source, behind_register, address, value, target, codes_text, slot_parts, slots_parts}
use Rattle.t1_dis.proofs.Shown.{IsNumber, IsRegister, IsGiven, IsEither, IsShown, AreShown, is_open, stands_closed, closed}
use Rattle.t1_dis.proofs.Tokens.{high_half}

-- ---- registers

bank_back : (k d : ℕ) → k < 4 → d < 8 → register_of (37 ∷ letter_of k ∷ (48 + d) ∷ []) ≡ Some (8 * k + d)
unfolding register_of letter_of bank_of in_bank
bank_back zero d h g = grind (arith, nat_tests)
bank_back (suc zero) d h g = grind (arith, nat_tests)
bank_back (suc (suc zero)) d h g = grind (arith, nat_tests)
bank_back (suc (suc (suc zero))) d h g = grind (arith, nat_tests)
bank_back (suc (suc (suc (suc k)))) d h g = absurd (omega arith)

pub register_back : (r : ℕ) → r < 32 → register_of (register_bytes r) ≡ Some r
register_back r h = bank_back (r / 8) (r % 8) (omega arith) (omega arith) ∙ ap Some (omega arith)

pub known_register : (r : ℕ) → r < 32 → is_known_percent (register_bytes r) ≡ true
unfolding is_known_percent
known_register r h = rw (register_back r h) refl

-- ---- numbers

-- no expr goes on here
unfoldable pub ends : List Lexeme → Bool
ends [] = true
ends ((Punct b, x) ∷ ws) = (b == 44) || (b == 93)
ends _ = false

same_number : (n m : ℕ) → (n == m) ≡ true → n ≡ m
same_number n m e = grind (arith, nat_tests)

by_mark : (P : ℕ → Type 0) (t : Bool) (b : ℕ) → (b == 44) ≡ t → (t || (b == 93)) ≡ true → P 44 → P 93 → P b
by_mark P true b e h p q = subst P (sym (same_number b 44 e)) p
by_mark P false b e h p q = subst P (sym (same_number b 93 h)) q

number_reads_44 : (env : Env) (here n : ℕ) (bs : List ℕ) (x : List ℕ) (ws : List Lexeme) → n < 2 ^ 64 → expr_at env here ((Number n, bs) ∷ (Punct 44, x) ∷ ws) ≡ Some (Some (n), (Punct 44, x) ∷ ws)
unfolding expr_at sum_from step_of atom_of opener_of atom_added opened sum_of ended
number_reads_44 env here n bs x ws h = ap (λ v. Some (Some v, (Punct 44, x) ∷ ws)) (omega arith)

number_reads_93 : (env : Env) (here n : ℕ) (bs : List ℕ) (x : List ℕ) (ws : List Lexeme) → n < 2 ^ 64 → expr_at env here ((Number n, bs) ∷ (Punct 93, x) ∷ ws) ≡ Some (Some (n), (Punct 93, x) ∷ ws)
unfolding expr_at sum_from step_of atom_of opener_of atom_added opened sum_of ended
number_reads_93 env here n bs x ws h = ap (λ v. Some (Some v, (Punct 93, x) ∷ ws)) (omega arith)

pub number_reads : (env : Env) (here n : ℕ) (bs : List ℕ) (ws : List Lexeme) → n < 2 ^ 64 → ends ws ≡ true → expr_at env here ((Number n, bs) ∷ ws) ≡ Some (Some (n), ws)
unfolding expr_at sum_from step_of atom_of opener_of atom_added opened sum_of ended ends
number_reads env here n bs [] h e = ap (λ v. Some (Some v, [])) (omega arith)
number_reads env here n bs ((Punct b, x) ∷ ws) h e =
    by_mark (λ c. expr_at env here ((Number n, bs) ∷ (Punct c, x) ∷ ws) ≡ Some (Some (n), (Punct c, x) ∷ ws)) (b == 44) b refl e (number_reads_44 env here n bs x ws h) (number_reads_93 env here n bs x ws h)
number_reads env here n bs ((Name, x) ∷ ws) h e = cc
number_reads env here n bs ((Number k, x) ∷ ws) h e = cc
number_reads env here n bs ((Text, x) ∷ ws) h e = cc
number_reads env here n bs ((Percent, x) ∷ ws) h e = cc
number_reads env here n bs ((Hash, x) ∷ ws) h e = cc
number_reads env here n bs ((LineEnd, x) ∷ ws) h e = cc

minus_reads_44 : (env : Env) (here n : ℕ) (ds bs : List ℕ) (x : List ℕ) (ws : List Lexeme) → 0 < n → n < 2 ^ 64 → expr_at env here ((Punct 45, ds) ∷ (Number n, bs) ∷ (Punct 44, x) ∷ ws) ≡ Some (Some (2 ^ 64 - n), (Punct 44, x) ∷ ws)
unfolding expr_at sum_from step_of atom_of opener_of atom_added opened sum_of ended
minus_reads_44 env here n ds bs x ws s h = ap (λ v. Some (Some v, (Punct 44, x) ∷ ws)) (omega arith)

minus_reads_93 : (env : Env) (here n : ℕ) (ds bs : List ℕ) (x : List ℕ) (ws : List Lexeme) → 0 < n → n < 2 ^ 64 → expr_at env here ((Punct 45, ds) ∷ (Number n, bs) ∷ (Punct 93, x) ∷ ws) ≡ Some (Some (2 ^ 64 - n), (Punct 93, x) ∷ ws)
unfolding expr_at sum_from step_of atom_of opener_of atom_added opened sum_of ended
minus_reads_93 env here n ds bs x ws s h = ap (λ v. Some (Some v, (Punct 93, x) ∷ ws)) (omega arith)

pub minus_reads : (env : Env) (here n : ℕ) (ds bs : List ℕ) (ws : List Lexeme) → 0 < n → n < 2 ^ 64 → ends ws ≡ true → expr_at env here ((Punct 45, ds) ∷ (Number n, bs) ∷ ws) ≡ Some (Some (2 ^ 64 - n), ws)
unfolding expr_at sum_from step_of atom_of opener_of atom_added opened sum_of ended ends
minus_reads env here n ds bs [] s h e = ap (λ v. Some (Some v, [])) (omega arith)
minus_reads env here n ds bs ((Punct b, x) ∷ ws) s h e =
    by_mark (λ c. expr_at env here ((Punct 45, ds) ∷ (Number n, bs) ∷ (Punct c, x) ∷ ws) ≡ Some (Some (2 ^ 64 - n), (Punct c, x) ∷ ws)) (b == 44) b refl e (minus_reads_44 env here n ds bs x ws s h) (minus_reads_93 env here n ds bs x ws s h)
minus_reads env here n ds bs ((Name, x) ∷ ws) s h e = cc
minus_reads env here n ds bs ((Number k, x) ∷ ws) s h e = cc
minus_reads env here n ds bs ((Text, x) ∷ ws) s h e = cc
minus_reads env here n ds bs ((Percent, x) ∷ ws) s h e = cc
minus_reads env here n ds bs ((Hash, x) ∷ ws) s h e = cc
minus_reads env here n ds bs ((LineEnd, x) ∷ ws) s h e = cc

back_again : (v : ℕ) → 2 ^ 63 ≤ v → v < 2 ^ 64 → 2 ^ 64 - (2 ^ 64 - v) ≡ v
back_again v h k = omega arith

-- ---- operands

signed_go : (env : Env) (here v : ℕ) (t : Bool) (ps : List Part) → nat_lt v (2 ^ 63) ≡ t → v < 2 ^ 64 → ends (lexemes_of ps) ≡ true
    → source_at env here (lexemes_of (cond t (number v ∷ ps) (Mark 45 ∷ number (2 ^ 64 - v) ∷ ps))) ≡ Some (Given (Some v), lexemes_of ps)
unfolding source_at source_or register_at register_in
signed_go env here v true ps t h e = rw (number_reads env here v (decimal v) (lexemes_of ps) h e) refl
signed_go env here v false ps t h e =
    let b = high_half v t in
    rw (minus_reads env here (2 ^ 64 - v) (45 ∷ []) (decimal (2 ^ 64 - v)) (lexemes_of ps) (omega arith) (omega (arith, b)) e) (ap (λ n. Some (Given (Some n), lexemes_of ps)) (back_again v b h))

source_reads : (env : Env) (here : ℕ) (from : Source) (ps : List Part) → IsEither from → ends (lexemes_of ps) ≡ true → source_at env here (lexemes_of (source from ps)) ≡ Some (from, lexemes_of ps)
unfolding source_at source_or register_at register_in signed
source_reads env here (Register r) ps h e = rw (register_back r h) refl
source_reads env here (Given (Some v)) ps h e = signed_go env here v (nat_lt v (2 ^ 63)) ps refl h e
source_reads env here (Given None) ps h e = absurd h

taken_away : (v : ℕ) → 2 ^ 63 ≤ v → v < 2 ^ 64 → (2 ^ 64 - (2 ^ 64 - v)) % 2 ^ 64 ≡ v
taken_away v h k = omega arith

minus_value : (env : Env) (here v : ℕ) (ps : List Part) → 2 ^ 63 ≤ v → v < 2 ^ 64 → ends (lexemes_of ps) ≡ true
    → minus_at env here ((Number (2 ^ 64 - v), decimal (2 ^ 64 - v)) ∷ lexemes_of ps) ≡ Some (Given (Some v), lexemes_of ps)
unfolding minus_at sum_of
minus_value env here v ps b h e =
    rw (number_reads env here (2 ^ 64 - v) (decimal (2 ^ 64 - v)) (lexemes_of ps) (omega (arith, b)) e) (ap (λ n. Some (Given (Some n), lexemes_of ps)) (taken_away v b h))

plus_value : (env : Env) (here v : ℕ) (ps : List Part) → v < 2 ^ 64 → ends (lexemes_of ps) ≡ true
    → source_at env here ((Number v, decimal v) ∷ lexemes_of ps) ≡ Some (Given (Some v), lexemes_of ps)
unfolding source_at source_or register_at register_in
plus_value env here v ps h e = rw (number_reads env here v (decimal v) (lexemes_of ps) h e) refl

plus_number : (env : Env) (here v : ℕ) (ps : List Part) → v < 2 ^ 64 → ends (lexemes_of ps) ≡ true
    → plus_at env here ((Number v, decimal v) ∷ lexemes_of ps) ≡ Some (Given (Some v), lexemes_of ps)
unfolding plus_at
plus_number env here v ps h e = rw (number_reads env here v (decimal v) (lexemes_of ps) h e) refl

rest_go : (env : Env) (here v : ℕ) (t : Bool) (ps : List Part) → nat_lt v (2 ^ 63) ≡ t → v < 2 ^ 64 → ends (lexemes_of ps) ≡ true
    → rest_of_address env here (lexemes_of (cond t (Mark 43 ∷ number v ∷ ps) (Mark 45 ∷ number (2 ^ 64 - v) ∷ ps))) ≡ Some (Given (Some v), lexemes_of ps)
unfolding rest_of_address
rest_go env here v true ps t h e = plus_value env here v ps h e
rest_go env here v false ps t h e = minus_value env here v ps (high_half v t) h e

rest_reads : (env : Env) (here : ℕ) (from : Source) (ps : List Part) → IsEither from → ends (lexemes_of ps) ≡ true → rest_of_address env here (lexemes_of (behind_register from ps)) ≡ Some (from, lexemes_of ps)
unfolding rest_of_address source_at source_or register_at register_in offset
rest_reads env here (Register r) ps h e = rw (register_back r h) refl
rest_reads env here (Given (Some v)) ps h e = rest_go env here v (nat_lt v (2 ^ 63)) ps refl h e
rest_reads env here (Given None) ps h e = absurd h

offset_go : (env : Env) (here v : ℕ) (t : Bool) (ps : List Part) → nat_lt v (2 ^ 63) ≡ t → v < 2 ^ 64 → ends (lexemes_of ps) ≡ true
    → rest_of_offset env here (lexemes_of (cond t (Mark 43 ∷ number v ∷ ps) (Mark 45 ∷ number (2 ^ 64 - v) ∷ ps))) ≡ Some (Given (Some v), lexemes_of ps)
unfolding rest_of_offset
offset_go env here v true ps t h e = plus_number env here v ps h e
offset_go env here v false ps t h e = minus_value env here v ps (high_half v t) h e

offset_reads : (env : Env) (here : ℕ) (from : Source) (ps : List Part) → IsGiven from → ends (lexemes_of ps) ≡ true → rest_of_offset env here (lexemes_of (behind_register from ps)) ≡ Some (from, lexemes_of ps)
unfolding offset
offset_reads env here (Register r) ps h e = absurd h
offset_reads env here (Given (Some v)) ps h e = offset_go env here v (nat_lt v (2 ^ 63)) ps refl h e
offset_reads env here (Given None) ps h e = absurd h

-- ---- slots

-- the fields with what a slot takes from others
abbrev pub put : Slot → Fields → Fields → Fields
put slot.Rd f g = with_rd f.rd g
put slot.Rs1 f g = with_rs1 f.rs1 g
put slot.Rs2 f g = with_source f.source g
put slot.Operand f g = with_source f.source g
put slot.Number f g = with_value f.value g
put slot.Target f g = with_value f.value g
put slot.AsiNumber f g = with_value f.value g
put slot.Extra f g = with_extra f.extra g
put slot.Address f g = with_place f.rs1 f.source g
put slot.Within f g = with_place f.rs1 f.source g
put slot.Pair f g = with_place f.rs1 f.source g
put slot.Offset f g = with_place f.rs1 f.source g
put slot.Codes f g = with_wide f.wide g
put slot.State f g = with_number f.number g
put slot.Privileged f g = with_number f.number g
put _ f g = g

unfoldable pub all_put : List Slot → Fields → Fields → Fields
all_put [] f g = g
all_put (s ∷ ss) f g = all_put ss f (put s f g)

gap_lexemes : (t : Bool) (ps : List Part) → lexemes_of (cond t (Space ∷ ps) ps) ≡ lexemes_of ps
gap_lexemes true ps = refl
gap_lexemes false ps = refl

same_byte : (b : ℕ) → (b == b) ≡ true
same_byte b = grind (arith, nat_tests)

-- a slot reads what it shows
abbrev Reads : Env → ℕ → Slot → Fields → Fields → List Part → Type 0
Reads env here s f g ps = slot_at env here s g (lexemes_of (slot_parts s f ps)) ≡ Some (put s f g, lexemes_of ps)

abbrev Closes : Slot → List Part → Type 0
Closes s ps = is_open s ≡ true → ends (lexemes_of ps) ≡ true

value_reads : (env : Env) (here : ℕ) (v : Option ℕ) (ps : List Part) → IsNumber v → ends (lexemes_of ps) ≡ true → expr_at env here (lexemes_of (value v ps)) ≡ Some (v, lexemes_of ps)
value_reads env here (Some n) ps h e = number_reads env here n (decimal n) (lexemes_of ps) h e
value_reads env here None ps h e = absurd h

target_reads : (env : Env) (here : ℕ) (v : Option ℕ) (ps : List Part) → IsNumber v → ends (lexemes_of ps) ≡ true → expr_at env here (lexemes_of (target v ps)) ≡ Some (v, lexemes_of ps)
target_reads env here (Some n) ps h e = number_reads env here n _ (lexemes_of ps) h e
target_reads env here None ps h e = absurd h

mark_reads : (env : Env) (here b : ℕ) (f g : Fields) (ps : List Part) → Reads env here (slot.Mark b) f g ps
unfolding slot_at slot_parts mark_at
mark_reads env here b f g ps = rw (same_byte b, gap_lexemes (b == 44) ps) refl

register_source_reads : (env : Env) (here : ℕ) (from : Source) (f g : Fields) (ps : List Part) → IsRegister from → slot_at env here slot.Rs2 g (lexemes_of (source from ps)) ≡ Some (with_source from g, lexemes_of ps)
unfolding slot_at register_at register_in
register_source_reads env here (Register r) f g ps h = rw (register_back r h) refl
register_source_reads env here (Given v) f g ps h = absurd h

pair_reads : (r : ℕ) (from : Source) (ps : List Part) → r < 32 → IsRegister from → pair_at (lexemes_of (address r from ps)) ≡ Some (r, from, lexemes_of ps)
unfolding pair_at register_at register_in rest_of_pair plus_register
pair_reads r (Register q) ps g h = rw (register_back r g, register_back q h) refl
pair_reads r (Given v) ps g h = absurd h

address_reads : (env : Env) (here r : ℕ) (from : Source) (ps : List Part) → r < 32 → IsEither from → ends (lexemes_of ps) ≡ true → address_at env here (lexemes_of (address r from ps)) ≡ Some (r, from, lexemes_of ps)
unfolding address_at register_at register_in
address_reads env here r from ps g h e = rw (register_back r g, rest_reads env here from ps h e) refl

within_reads : (env : Env) (here r : ℕ) (from : Source) (ps : List Part) → r < 32 → IsEither from → ends (lexemes_of ps) ≡ true
    → within_or env here (lexemes_of (address r from ps)) (register_at (lexemes_of (address r from ps))) ≡ Some (r, from, lexemes_of ps)
unfolding within_or register_at register_in
within_reads env here r from ps g h e = rw (register_back r g, rest_reads env here from ps h e) refl

offset_at_reads : (env : Env) (here r : ℕ) (from : Source) (ps : List Part) → r < 32 → IsGiven from → ends (lexemes_of ps) ≡ true → offset_at env here (lexemes_of (address r from ps)) ≡ Some (r, from, lexemes_of ps)
unfolding offset_at register_at register_in
offset_at_reads env here r from ps g h e = rw (register_back r g, offset_reads env here from ps h e) refl

codes_reads : (wide : Bool) (ps : List Part) → codes_at (lexemes_of (Long Percent (codes_text wide) ∷ ps)) ≡ Some (wide, lexemes_of ps)
unfolding codes_at
codes_reads true ps = refl
codes_reads false ps = refl

rd_reads : (env : Env) (here r : ℕ) (g : Fields) (ps : List Part) → r < 32 → slot_at env here slot.Rd g ((Percent, register_bytes r) ∷ lexemes_of ps) ≡ Some (with_rd r g, lexemes_of ps)
unfolding slot_at register_at register_in
rd_reads env here r g ps h = rw (register_back r h) refl

rs1_reads : (env : Env) (here r : ℕ) (g : Fields) (ps : List Part) → r < 32 → slot_at env here slot.Rs1 g ((Percent, register_bytes r) ∷ lexemes_of ps) ≡ Some (with_rs1 r g, lexemes_of ps)
unfolding slot_at register_at register_in
rs1_reads env here r g ps h = rw (register_back r h) refl

asi_reads : (env : Env) (here : ℕ) (g : Fields) (ps : List Part) → slot_at env here slot.Asi g ((Percent, codes "%asi") ∷ lexemes_of ps) ≡ Some (g, lexemes_of ps)
unfolding slot_at asi_at
asi_reads env here g ps = refl

state_reads : (env : Env) (here n : ℕ) (g : Fields) (ps : List Part) → state_of (state_text n) ≡ Some n → slot_at env here slot.State g ((Percent, state_text n) ∷ lexemes_of ps) ≡ Some (with_number n g, lexemes_of ps)
unfolding slot_at state_at state_in
state_reads env here n g ps h = rw h refl

privileged_reads : (env : Env) (here n : ℕ) (g : Fields) (ps : List Part) → named (privileged_text n) privileged_names ≡ Some n → slot_at env here slot.Privileged g ((Percent, privileged_text n) ∷ lexemes_of ps) ≡ Some (with_number n g, lexemes_of ps)
unfolding slot_at privileged_at privileged_in
privileged_reads env here n g ps h = rw h refl

slot_reads : (env : Env) (here : ℕ) (s : Slot) (f g : Fields) (ps : List Part) → IsShown s f → Closes s ps → Reads env here s f g ps
unfolding slot_at slot_parts
slot_reads env here (slot.Mark b) f g ps h e = mark_reads env here b f g ps
slot_reads env here slot.Rd f g ps h e = rd_reads env here f.rd g ps h
slot_reads env here slot.Rs1 f g ps h e = rs1_reads env here f.rs1 g ps h
slot_reads env here slot.Rs2 f g ps h e = register_source_reads env here f.source f g ps h
slot_reads env here slot.Operand f g ps h e = rw (source_reads env here f.source ps h (e refl)) refl
slot_reads env here slot.Number f g ps h e = rw (value_reads env here f.value ps h (e refl)) refl
slot_reads env here slot.Target f g ps h e = rw (target_reads env here f.value ps h (e refl)) refl
slot_reads env here slot.AsiNumber f g ps h e = rw (value_reads env here f.value ps h (e refl)) refl
slot_reads env here slot.Extra f g ps h e = rw (value_reads env here f.extra ps h (e refl)) refl
slot_reads env here slot.Address f g ps h e = rw (address_reads env here f.rs1 f.source ps h.0 h.1 (e refl)) refl
slot_reads env here slot.Within f g ps h e = rw (within_reads env here f.rs1 f.source ps h.0 h.1 (e refl)) refl
slot_reads env here slot.Pair f g ps h e = rw (pair_reads f.rs1 f.source ps h.0 h.1) refl
slot_reads env here slot.Offset f g ps h e = rw (offset_at_reads env here f.rs1 f.source ps h.0 h.1 (e refl)) refl
slot_reads env here slot.Codes f g ps h e = rw (codes_reads f.wide ps) refl
slot_reads env here slot.Asi f g ps h e = asi_reads env here g ps
slot_reads env here slot.State f g ps h e = state_reads env here f.number g ps h
slot_reads env here slot.Privileged f g ps h e = privileged_reads env here f.number g ps h
slot_reads env here slot.Both f g ps h e = absurd h
slot_reads env here slot.Rs2Rd f g ps h e = absurd h
slot_reads env here slot.Annul f g ps h e = absurd h
slot_reads env here slot.Predict f g ps h e = absurd h
slot_reads env here slot.Barrier f g ps h e = absurd h
slot_reads env here slot.One f g ps h e = absurd h
slot_reads env here slot.Primary f g ps h e = absurd h

-- ---- lists of slots

closed_go : (t : Bool) (b : ℕ) (ps : List Part) → ((b == 44) || (b == 93)) ≡ true → ends (lexemes_of (Mark b ∷ cond t (Space ∷ ps) ps)) ≡ true
unfolding ends
closed_go t b ps e = e

stands_ends : (ss : List Slot) (f : Fields) → stands_closed ss ≡ true → ends (lexemes_of (slots_parts ss f)) ≡ true
unfolding slots_parts slot_parts ends
stands_ends [] f e = refl
stands_ends (slot.Mark b ∷ ss) f e = e
stands_ends (slot.Rd ∷ ss) f e = cc
stands_ends (slot.Rs1 ∷ ss) f e = cc
stands_ends (slot.Rs2 ∷ ss) f e = cc
stands_ends (slot.Operand ∷ ss) f e = cc
stands_ends (slot.Number ∷ ss) f e = cc
stands_ends (slot.Target ∷ ss) f e = cc
stands_ends (slot.AsiNumber ∷ ss) f e = cc
stands_ends (slot.Extra ∷ ss) f e = cc
stands_ends (slot.Address ∷ ss) f e = cc
stands_ends (slot.Within ∷ ss) f e = cc
stands_ends (slot.Pair ∷ ss) f e = cc
stands_ends (slot.Offset ∷ ss) f e = cc
stands_ends (slot.Codes ∷ ss) f e = cc
stands_ends (slot.Asi ∷ ss) f e = cc
stands_ends (slot.State ∷ ss) f e = cc
stands_ends (slot.Privileged ∷ ss) f e = cc
stands_ends (slot.Both ∷ ss) f e = cc
stands_ends (slot.Rs2Rd ∷ ss) f e = cc
stands_ends (slot.Annul ∷ ss) f e = cc
stands_ends (slot.Predict ∷ ss) f e = cc
stands_ends (slot.Barrier ∷ ss) f e = cc
stands_ends (slot.One ∷ ss) f e = cc
stands_ends (slot.Primary ∷ ss) f e = cc

or_true : (a b : Bool) → (not a || b) ≡ true → a ≡ true → b ≡ true
or_true true b e h = e
or_true false b e h = cc

-- the slots read what they show
pub slots_read : (env : Env) (here : ℕ) (ss : List Slot) (f g : Fields) → AreShown ss f → closed ss ≡ true → slots_at env here ss g (lexemes_of (slots_parts ss f)) ≡ Some (all_put ss f g)
unfolding slots_at slots_parts closed all_put whole
slots_read env here [] f g h e = refl
slots_read env here (s ∷ ss) f g h e =
    let p = and_true (not (is_open s) || stands_closed ss) (closed ss) e in
    rw (slot_reads env here s f g (slots_parts ss f) h.0 (λ o. stands_ends ss f (or_true (is_open s) (stands_closed ss) p.0 o))) (slots_read env here ss f (put s f g) h.1 p.1)

-- ---- each % name is known

known_state : (n : ℕ) → state_of (state_text n) ≡ Some n → is_known_percent (state_text n) ≡ true
unfolding is_known_percent
known_state n p = grind (arith, nat_tests)

known_privileged : (n : ℕ) → named (privileged_text n) privileged_names ≡ Some n → is_known_percent (privileged_text n) ≡ true
unfolding is_known_percent
known_privileged n p = grind (arith, nat_tests)

known_codes : (wide : Bool) → is_known_percent (codes_text wide) ≡ true
unfolding is_known_percent register_of bank_of in_bank
known_codes true = refl
known_codes false = refl

known_asi : is_known_percent (codes "%asi") ≡ true
unfolding is_known_percent register_of
known_asi = refl

known_signed : (t : Bool) (v w : ℕ) (ps : List Part) → all_known (lexemes_of ps) ≡ true → all_known (lexemes_of (cond t (number v ∷ ps) (Mark 45 ∷ number w ∷ ps))) ≡ true
unfolding all_known
known_signed true v w ps k = k
known_signed false v w ps k = k

known_offset : (t : Bool) (v w : ℕ) (ps : List Part) → all_known (lexemes_of ps) ≡ true → all_known (lexemes_of (cond t (Mark 43 ∷ number v ∷ ps) (Mark 45 ∷ number w ∷ ps))) ≡ true
unfolding all_known
known_offset true v w ps k = k
known_offset false v w ps k = k

known_source : (from : Source) (ps : List Part) → IsEither from → all_known (lexemes_of ps) ≡ true → all_known (lexemes_of (source from ps)) ≡ true
unfolding all_known signed
known_source (Register r) ps h k = rw (known_register r h) k
known_source (Given (Some v)) ps h k = known_signed (nat_lt v (2 ^ 63)) v (2 ^ 64 - v) ps k
known_source (Given None) ps h k = absurd h

known_behind : (from : Source) (ps : List Part) → IsEither from → all_known (lexemes_of ps) ≡ true → all_known (lexemes_of (behind_register from ps)) ≡ true
unfolding all_known offset
known_behind (Register r) ps h k = rw (known_register r h) k
known_behind (Given (Some v)) ps h k = known_offset (nat_lt v (2 ^ 63)) v (2 ^ 64 - v) ps k
known_behind (Given None) ps h k = absurd h

known_address : (r : ℕ) (from : Source) (ps : List Part) → r < 32 → IsEither from → all_known (lexemes_of ps) ≡ true → all_known (lexemes_of (address r from ps)) ≡ true
unfolding all_known
known_address r from ps g h k = rw (known_register r g) (known_behind from ps h k)

known_value : (v : Option ℕ) (ps : List Part) → all_known (lexemes_of ps) ≡ true → all_known (lexemes_of (value v ps)) ≡ true
unfolding all_known
known_value (Some n) ps k = k
known_value None ps k = k

known_target : (v : Option ℕ) (ps : List Part) → all_known (lexemes_of ps) ≡ true → all_known (lexemes_of (target v ps)) ≡ true
unfolding all_known
known_target (Some n) ps k = k
known_target None ps k = k

known_gap : (t : Bool) (ps : List Part) → all_known (lexemes_of ps) ≡ true → all_known (lexemes_of (cond t (Space ∷ ps) ps)) ≡ true
known_gap true ps k = k
known_gap false ps k = k

either_register : (from : Source) → IsRegister from → IsEither from
either_register (Register r) h = h
either_register (Given v) h = absurd h

either_given : (from : Source) → IsGiven from → IsEither from
either_given (Register r) h = absurd h
either_given (Given v) h = h

slot_known : (s : Slot) (f : Fields) (ps : List Part) → IsShown s f → all_known (lexemes_of ps) ≡ true → all_known (lexemes_of (slot_parts s f ps)) ≡ true
unfolding slot_parts all_known
slot_known (slot.Mark b) f ps h k = known_gap (b == 44) ps k
slot_known slot.Rd f ps h k = rw (known_register f.rd h) k
slot_known slot.Rs1 f ps h k = rw (known_register f.rs1 h) k
slot_known slot.Rs2 f ps h k = known_source f.source ps (either_register f.source h) k
slot_known slot.Operand f ps h k = known_source f.source ps h k
slot_known slot.Number f ps h k = known_value f.value ps k
slot_known slot.Target f ps h k = known_target f.value ps k
slot_known slot.AsiNumber f ps h k = known_value f.value ps k
slot_known slot.Extra f ps h k = known_value f.extra ps k
slot_known slot.Address f ps h k = known_address f.rs1 f.source ps h.0 h.1 k
slot_known slot.Within f ps h k = known_address f.rs1 f.source ps h.0 h.1 k
slot_known slot.Pair f ps h k = known_address f.rs1 f.source ps h.0 (either_register f.source h.1) k
slot_known slot.Offset f ps h k = known_address f.rs1 f.source ps h.0 (either_given f.source h.1) k
slot_known slot.Codes f ps h k = rw (known_codes f.wide) k
slot_known slot.Asi f ps h k = rw known_asi k
slot_known slot.State f ps h k = rw (known_state f.number h) k
slot_known slot.Privileged f ps h k = rw (known_privileged f.number h) k
slot_known slot.Both f ps h k = absurd h
slot_known slot.Rs2Rd f ps h k = absurd h
slot_known slot.Annul f ps h k = absurd h
slot_known slot.Predict f ps h k = absurd h
slot_known slot.Barrier f ps h k = absurd h
slot_known slot.One f ps h k = absurd h
slot_known slot.Primary f ps h k = absurd h

pub slots_known : (ss : List Slot) (f : Fields) → AreShown ss f → all_known (lexemes_of (slots_parts ss f)) ≡ true
unfolding slots_parts all_known
slots_known [] f h = refl
slots_known (s ∷ ss) f h = slot_known s f (slots_parts ss f) h.0 (slots_known ss f h.1)
