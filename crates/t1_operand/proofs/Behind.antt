-- Operands that are read with more names: the same form, and the same tokens behind each slot.
use Rattle.std.proofs.Common.{◌≡◌, ◌∙◌, ℕ, List, [], ◌∷◌, refl, ap, sym, Option, Some, None, Bool, true, false, cond}
use Rattle.std.specs.Prelude.{codes, option_map, option_and_then, is_some}
use Rattle.t1_lex.specs.Tokens.{Lexeme}
use Rattle.t1_expr.specs.Exprs.{Env, Value, is_punct, expr_at}
use Rattle.t1_form.specs.Shapes.{slots_of}
use Rattle.t1_operand.specs.Slots.{Place, mark_at, register_at, whole, source_or, source_at, minus_at, plus_at, rest_of_address, rest_of_offset, address_at, offset_at, pair_at, within_or, codes_at, asi_at, flag_at, state_at, privileged_at, barriers_from, none_given, with_rd, with_rs1, with_source, with_place, with_value, with_extra, with_number, with_wide, annulled, not_taken, predicted, slot_at, slots_at}
use Rattle.t1_operand.specs.Forms.{form_at, forms_at, or_else}
use Rattle.t1_operand.specs.declared.fields.Source.{Source}
use Rattle.t1_operand.specs.declared.fields.Source.TheVariants.{Register, Value as Given}
use Rattle.t1_operand.specs.declared.fields.Fields.{Fields}
use Rattle.t1_operand.specs.declared.fields.Instruction.{Instruction}
use Rattle.t1_form.specs.declared.slot.Slot.{Slot}
use Rattle.t1_form.specs.declared.slot.Slot.TheVariants as slot
use Rattle.t1_form.specs.declared.template.Template.{Template}
use Rattle.t1_form.specs.declared.form.Form.{Form}
use Rattle.t1_form.specs.declared.form.Forms.{Forms}
use Rattle.t1_form.specs.declared.form.Forms.TheVariants.{One, Two}
use Rattle.t1_expr.proofs.Growing.{Extends, Both, AreRead, both_exprs}

-- ---- what stands behind the operands does not depend on the names

abbrev behind_of : {A : Type 0} → Option (A × List Lexeme) → Option (List Lexeme)
behind_of o = option_map (λ p. p.1) o

map_pair : {P A : Type 0} (o : Option P) (g : P → A) (k : P → List Lexeme) → behind_of (option_and_then (λ m. Some (g m, k m)) o) ≡ option_map k o
map_pair None g k = refl
map_pair (Some m) g k = refl

pair_via : {P A : Type 0} (o p : Option P) (g h : P → A) (k : P → List Lexeme) → option_map k o ≡ option_map k p
    → behind_of (option_and_then (λ m. Some (g m, k m)) o) ≡ behind_of (option_and_then (λ m. Some (h m, k m)) p)
pair_via o p g h k e = map_pair o g k ∙ e ∙ sym (map_pair p h k)

behind_if : {A : Type 0} (t : Bool) (x y u v : Option (A × List Lexeme)) → behind_of x ≡ behind_of u → behind_of y ≡ behind_of v → behind_of (cond t x y) ≡ behind_of (cond t u v)
behind_if true x y u v p q = p
behind_if false x y u v p q = q

read_behind : (a b : Option (Value × List Lexeme)) → Both AreRead a b → behind_of a ≡ behind_of b
read_behind None None r = refl
read_behind (Some p) (Some q) r = ap Some r.1
read_behind None (Some q) r = absurd r
read_behind (Some p) None r = absurd r

expr_behind : (env next : Env) (here : ℕ) (ws : List Lexeme) → Extends env next → behind_of (expr_at env here ws) ≡ behind_of (expr_at next here ws)
expr_behind env next here ws e = read_behind _ _ (both_exprs env next here ws e)

given_behind : (env next : Env) (here : ℕ) (ws : List Lexeme) (g : Value → Source) → Extends env next
    → behind_of (option_and_then (λ m. Some (g m.0, m.1)) (expr_at env here ws)) ≡ behind_of (option_and_then (λ m. Some (g m.0, m.1)) (expr_at next here ws))
given_behind env next here ws g e = pair_via (expr_at env here ws) (expr_at next here ws) (λ m. g m.0) (λ m. g m.0) (λ m. m.1) (expr_behind env next here ws e)

source_or_behind : (env next : Env) (here : ℕ) (ws : List Lexeme) (o : Option (ℕ × List Lexeme)) → Extends env next → behind_of (source_or env here ws o) ≡ behind_of (source_or next here ws o)
unfolding source_or
source_or_behind env next here ws (Some r) e = refl
source_or_behind env next here ws None e = given_behind env next here ws Given e

source_behind : (env next : Env) (here : ℕ) (ws : List Lexeme) → Extends env next → behind_of (source_at env here ws) ≡ behind_of (source_at next here ws)
unfolding source_at
source_behind env next here ws e = source_or_behind env next here ws (register_at ws) e

minus_behind : (env next : Env) (here : ℕ) (ws : List Lexeme) → Extends env next → behind_of (minus_at env here ws) ≡ behind_of (minus_at next here ws)
unfolding minus_at
minus_behind env next here ws e = given_behind env next here ws _ e

plus_behind : (env next : Env) (here : ℕ) (ws : List Lexeme) → Extends env next → behind_of (plus_at env here ws) ≡ behind_of (plus_at next here ws)
unfolding plus_at
plus_behind env next here ws e = given_behind env next here ws _ e

address_rest : (env next : Env) (here : ℕ) (ws : List Lexeme) → Extends env next → behind_of (rest_of_address env here ws) ≡ behind_of (rest_of_address next here ws)
unfolding rest_of_address
address_rest env next here [] e = refl
address_rest env next here (w ∷ ws) e =
    behind_if (is_punct 43 w) _ _ _ _ (source_behind env next here ws e) (behind_if (is_punct 45 w) _ _ _ _ (minus_behind env next here ws e) refl)

offset_rest : (env next : Env) (here : ℕ) (ws : List Lexeme) → Extends env next → behind_of (rest_of_offset env here ws) ≡ behind_of (rest_of_offset next here ws)
unfolding rest_of_offset
offset_rest env next here [] e = refl
offset_rest env next here (w ∷ ws) e =
    behind_if (is_punct 43 w) _ _ _ _ (plus_behind env next here ws e) (behind_if (is_punct 45 w) _ _ _ _ (minus_behind env next here ws e) refl)

-- a place: a register, an operand and what stands behind them
abbrev behind_place : Option Place → Option (List Lexeme)
behind_place o = option_map (λ m. m.2) o

map_place : (o : Option (Source × List Lexeme)) (r : ℕ) → behind_place (option_and_then (λ s. Some (r, s.0, s.1)) o) ≡ behind_of o
map_place None r = refl
map_place (Some s) r = refl

place_via : (o p : Option (Source × List Lexeme)) (r : ℕ) → behind_of o ≡ behind_of p → behind_place (option_and_then (λ s. Some (r, s.0, s.1)) o) ≡ behind_place (option_and_then (λ s. Some (r, s.0, s.1)) p)
place_via o p r e = map_place o r ∙ e ∙ sym (map_place p r)

places : (o : Option (ℕ × List Lexeme)) (f g : List Lexeme → Option (Source × List Lexeme)) → ((ws : List Lexeme) → behind_of (f ws) ≡ behind_of (g ws))
    → behind_place (option_and_then (λ r. option_and_then (λ s. Some (r.0, s.0, s.1)) (f r.1)) o) ≡ behind_place (option_and_then (λ r. option_and_then (λ s. Some (r.0, s.0, s.1)) (g r.1)) o)
places None f g e = refl
places (Some r) f g e = place_via (f r.1) (g r.1) r.0 (e r.1)

address_place : (env next : Env) (here : ℕ) (ws : List Lexeme) → Extends env next → behind_place (address_at env here ws) ≡ behind_place (address_at next here ws)
unfolding address_at
address_place env next here ws e = places (register_at ws) (rest_of_address env here) (rest_of_address next here) (λ vs. address_rest env next here vs e)

offset_place : (env next : Env) (here : ℕ) (ws : List Lexeme) → Extends env next → behind_place (offset_at env here ws) ≡ behind_place (offset_at next here ws)
unfolding offset_at
offset_place env next here ws e = places (register_at ws) (rest_of_offset env here) (rest_of_offset next here) (λ vs. offset_rest env next here vs e)

map_zero : (o : Option (Value × List Lexeme)) → behind_place (option_and_then (λ m. Some (0, Given m.0, m.1)) o) ≡ behind_of o
map_zero None = refl
map_zero (Some m) = refl

within_place : (env next : Env) (here : ℕ) (ws : List Lexeme) (o : Option (ℕ × List Lexeme)) → Extends env next → behind_place (within_or env here ws o) ≡ behind_place (within_or next here ws o)
unfolding within_or
within_place env next here ws (Some r) e = place_via (rest_of_address env here r.1) (rest_of_address next here r.1) r.0 (address_rest env next here r.1 e)
within_place env next here ws None e = map_zero (expr_at env here ws) ∙ expr_behind env next here ws e ∙ sym (map_zero (expr_at next here ws))

annul_behind : (f g : Fields) (ws : List Lexeme) (o : Option (List Lexeme)) → (annulled f ws o).1 ≡ (annulled g ws o).1
annul_behind f g ws None = refl
annul_behind f g ws (Some r) = refl

not_taken_behind : (f g : Fields) (ws : List Lexeme) (o : Option (List Lexeme)) → (not_taken f ws o).1 ≡ (not_taken g ws o).1
not_taken_behind f g ws None = refl
not_taken_behind f g ws (Some r) = refl

predict_behind : (f g : Fields) (ws : List Lexeme) (o : Option (List Lexeme)) → (predicted f ws o).1 ≡ (predicted g ws o).1
predict_behind f g ws None = not_taken_behind f g ws (flag_at (codes "pn") ws)
predict_behind f g ws (Some r) = refl

slot_behind : (env next : Env) (here : ℕ) (s : Slot) (f g : Fields) (ws : List Lexeme) → Extends env next → behind_of (slot_at env here s f ws) ≡ behind_of (slot_at next here s g ws)
unfolding slot_at
slot_behind env next here (slot.Mark b) f g ws e = pair_via (mark_at b ws) (mark_at b ws) (λ r. f) (λ r. g) (λ r. r) refl
slot_behind env next here slot.Rd f g ws e = pair_via (register_at ws) (register_at ws) (λ r. with_rd r.0 f) (λ r. with_rd r.0 g) (λ r. r.1) refl
slot_behind env next here slot.Rs1 f g ws e = pair_via (register_at ws) (register_at ws) (λ r. with_rs1 r.0 f) (λ r. with_rs1 r.0 g) (λ r. r.1) refl
slot_behind env next here slot.Both f g ws e = pair_via (register_at ws) (register_at ws) (λ r. with_rd r.0 (with_rs1 r.0 f)) (λ r. with_rd r.0 (with_rs1 r.0 g)) (λ r. r.1) refl
slot_behind env next here slot.Rs2 f g ws e = pair_via (register_at ws) (register_at ws) (λ r. with_source (Register r.0) f) (λ r. with_source (Register r.0) g) (λ r. r.1) refl
slot_behind env next here slot.Rs2Rd f g ws e = pair_via (register_at ws) (register_at ws) (λ r. with_rd r.0 (with_source (Register r.0) f)) (λ r. with_rd r.0 (with_source (Register r.0) g)) (λ r. r.1) refl
slot_behind env next here slot.Operand f g ws e = pair_via (source_at env here ws) (source_at next here ws) (λ s. with_source s.0 f) (λ s. with_source s.0 g) (λ s. s.1) (source_behind env next here ws e)
slot_behind env next here slot.Number f g ws e = pair_via (expr_at env here ws) (expr_at next here ws) (λ s. with_value s.0 f) (λ s. with_value s.0 g) (λ s. s.1) (expr_behind env next here ws e)
slot_behind env next here slot.Target f g ws e = pair_via (expr_at env here ws) (expr_at next here ws) (λ s. with_value s.0 f) (λ s. with_value s.0 g) (λ s. s.1) (expr_behind env next here ws e)
slot_behind env next here slot.AsiNumber f g ws e = pair_via (expr_at env here ws) (expr_at next here ws) (λ s. with_value s.0 f) (λ s. with_value s.0 g) (λ s. s.1) (expr_behind env next here ws e)
slot_behind env next here slot.Extra f g ws e = pair_via (expr_at env here ws) (expr_at next here ws) (λ s. with_extra s.0 f) (λ s. with_extra s.0 g) (λ s. s.1) (expr_behind env next here ws e)
slot_behind env next here slot.Address f g ws e = pair_via (address_at env here ws) (address_at next here ws) (λ m. with_place m.0 m.1 f) (λ m. with_place m.0 m.1 g) (λ m. m.2) (address_place env next here ws e)
slot_behind env next here slot.Within f g ws e = pair_via (within_or env here ws (register_at ws)) (within_or next here ws (register_at ws)) (λ m. with_place m.0 m.1 f) (λ m. with_place m.0 m.1 g) (λ m. m.2) (within_place env next here ws (register_at ws) e)
slot_behind env next here slot.Pair f g ws e = pair_via (pair_at ws) (pair_at ws) (λ m. with_place m.0 m.1 f) (λ m. with_place m.0 m.1 g) (λ m. m.2) refl
slot_behind env next here slot.Offset f g ws e = pair_via (offset_at env here ws) (offset_at next here ws) (λ m. with_place m.0 m.1 f) (λ m. with_place m.0 m.1 g) (λ m. m.2) (offset_place env next here ws e)
slot_behind env next here slot.Codes f g ws e = pair_via (codes_at ws) (codes_at ws) (λ c. with_wide c.0 f) (λ c. with_wide c.0 g) (λ c. c.1) refl
slot_behind env next here slot.Annul f g ws e = ap Some (annul_behind f g ws (flag_at (codes "a") ws))
slot_behind env next here slot.Predict f g ws e = ap Some (predict_behind f g ws (flag_at (codes "pt") ws))
slot_behind env next here slot.Asi f g ws e = pair_via (asi_at ws) (asi_at ws) (λ r. f) (λ r. g) (λ r. r) refl
slot_behind env next here slot.State f g ws e = pair_via (state_at ws) (state_at ws) (λ r. with_number r.0 f) (λ r. with_number r.0 g) (λ r. r.1) refl
slot_behind env next here slot.Privileged f g ws e = pair_via (privileged_at ws) (privileged_at ws) (λ r. with_number r.0 f) (λ r. with_number r.0 g) (λ r. r.1) refl
slot_behind env next here slot.Barrier f g ws e = pair_via (barriers_from 0 true ws) (barriers_from 0 true ws) (λ n. with_value (Some n) f) (λ n. with_value (Some n) g) (λ n. []) refl
slot_behind env next here slot.One f g ws e = refl
slot_behind env next here slot.Primary f g ws e = refl

slots_go : (a b : Option (Fields × List Lexeme)) (h k : Fields → List Lexeme → Option Fields) → behind_of a ≡ behind_of b → ((f g : Fields) (ws : List Lexeme) → is_some (h f ws) ≡ is_some (k g ws))
    → is_some (option_and_then (λ p. h p.0 p.1) a) ≡ is_some (option_and_then (λ p. k p.0 p.1) b)
slots_go None None h k e go = refl
slots_go (Some p) (Some q) h k e go = let x : p.1 ≡ q.1 = cc in rw x (go p.0 q.0 q.1)
slots_go None (Some q) h k e go = cc
slots_go (Some p) None h k e go = cc

pub slots_same : (env next : Env) (here : ℕ) (ss : List Slot) → Extends env next → (f g : Fields) (ws : List Lexeme) → is_some (slots_at env here ss f ws) ≡ is_some (slots_at next here ss g ws)
unfolding slots_at whole
slots_same env next here [] e f g [] = refl
slots_same env next here [] e f g (w ∷ ws) = refl
slots_same env next here (s ∷ ss) e f g ws =
    slots_go (slot_at env here s f ws) (slot_at next here s g ws) (slots_at env here ss) (slots_at next here ss) (slot_behind env next here s f g ws e) (slots_same env next here ss e)

-- ---- a form is found for both

abbrev pub template_in : Option Instruction → Option Template
template_in o = option_map (λ s. s.template) o

form_template : (o p : Option Fields) (m : Template) → is_some o ≡ is_some p
    → template_in (option_and_then (λ f. Some (record { template = m; fields = f })) o) ≡ template_in (option_and_then (λ f. Some (record { template = m; fields = f })) p)
form_template None None m e = refl
form_template (Some f) (Some g) m e = refl
form_template None (Some g) m e = cc
form_template (Some f) None m e = cc

form_same : (env next : Env) (here : ℕ) (r : Form) (ws : List Lexeme) → Extends env next → template_in (form_at env here r ws) ≡ template_in (form_at next here r ws)
unfolding form_at
form_same env next here r ws e = form_template _ _ r.template (slots_same env next here (slots_of r.shape) e none_given none_given ws)

else_same : (a b c d : Option Instruction) → template_in a ≡ template_in c → template_in b ≡ template_in d → template_in (or_else a b) ≡ template_in (or_else c d)
else_same None b None d p q = q
else_same (Some s) b (Some t) d p q = p
else_same None b (Some t) d p q = cc
else_same (Some s) b None d p q = cc

pub forms_same : (env next : Env) (here : ℕ) (r : Forms) (ws : List Lexeme) → Extends env next → template_in (forms_at env here r ws) ≡ template_in (forms_at next here r ws)
unfolding forms_at
forms_same env next here (One a) ws e = form_same env next here a ws e
forms_same env next here (Two a b) ws e = else_same _ _ _ _ (form_same env next here a ws e) (form_same env next here b ws e)
