-- Lines read with more names are alike: the same form, the same values that were there.
use Rattle.std.proofs.Common.{◌≡◌, ◌++◌, ℕ, zero, suc, List, [], ◌∷◌, length, length-append, refl, arith, Option, Some, None, Bool, true, false, cond, Result, Ok, Err}
use Rattle.std.specs.Prelude.{option_and_then}
use Rattle.t1_lex.specs.Tokens.{Lexeme, cut_of, lexemes_in}
use Rattle.t1_expr.specs.Exprs.{Env, Value, is_punct}
use Rattle.t1_form.specs.Names.{named, directive_names}
use Rattle.t1_operand.specs.Slots.{mark_at, whole}
use Rattle.t1_form.specs.Options.{or_try}
use Rattle.t1_form.specs.Mnemonics.{forms_of}
use Rattle.t1_stmt.specs.Lines.{Line, Body, more_exprs, exprs_after, exprs_from, alone, text_at, name_in, name_at, directive_at, all_known, or_bad, instruction_at, statement_of, assigned, holds, behind_name, body_of, labels_of, with_labels, read_words, line_of}
use Rattle.t1_stmt.specs.Lines.Body.{Empty, Assigns, Holds}
use Rattle.t1_form.specs.declared.directive.Width.{Width}
use Rattle.t1_form.specs.declared.form.Forms.{Forms}
use Rattle.t1_operand.specs.declared.fields.Instruction.{Instruction}
use Rattle.t1_form.specs.declared.directive.Directive.{Directive}
use Rattle.t1_form.specs.declared.directive.Directive.TheVariants as directive
use Rattle.t1_stmt.specs.declared.statement.Statement.{Statement}
use Rattle.t1_stmt.specs.declared.statement.Statement.TheVariants.{Nothing, Org, Skip, Align, Numbers, Text, Insn}
use Rattle.t1_stmt.specs.declared.fault.Fault.{Fault}
use Rattle.t1_stmt.specs.declared.fault.Fault.TheVariants.{Syntax, UnknownName}
use Rattle.t1_expr.proofs.Growing.{Below, Extends, Both, AreRead, both_exprs, below_refl}
use Rattle.t1_operand.proofs.Behind.{template_in, forms_same}

-- ---- what is asked for

abbrev pub Alike : Statement → Statement → Type 0
Alike Nothing Nothing = Unit {0}
Alike (Org v) (Org w) = Below v w
Alike (Skip v) (Skip w) = Below v w
Alike (Align v) (Align w) = Below v w
Alike (Numbers k vs) (Numbers l ws) = (k ≡ l) × (length vs ≡ length ws)
Alike (Text a) (Text b) = a ≡ b
Alike (Insn s) (Insn t) = s.template ≡ t.template
Alike _ _ = ⊥

alike_refl : (a : Statement) → Alike a a
alike_refl Nothing = tt
alike_refl (Org v) = below_refl v
alike_refl (Skip v) = below_refl v
alike_refl (Align v) = below_refl v
alike_refl (Numbers k vs) = (refl, refl)
alike_refl (Text a) = refl
alike_refl (Insn s) = refl

both_alike : (o : Option Statement) → Both Alike o o
both_alike None = tt
both_alike (Some a) = alike_refl a

whole_both : (v w : Value) (ws : List Lexeme) → Below v w → Both Below (whole v ws) (whole w ws)
unfolding whole
whole_both v w [] r = r
whole_both v w (x ∷ ws) r = tt

alone_go : (a b : Option (Value × List Lexeme)) → Both AreRead a b → Both Below (option_and_then (λ e. whole e.0 e.1) a) (option_and_then (λ e. whole e.0 e.1) b)
alone_go None None r = tt
alone_go (Some p) (Some q) r = rw r.1 (whole_both p.0 q.0 q.1 r.0)
alone_go None (Some q) r = absurd r
alone_go (Some p) None r = absurd r

alone_both : (env next : Env) (here : ℕ) (ws : List Lexeme) → Extends env next → Both Below (alone env here ws) (alone next here ws)
unfolding alone
alone_both env next here ws e = alone_go _ _ (both_exprs env next here ws e)

value_both : (f : Value → Statement) (o p : Option Value) → ((v w : Value) → Below v w → Alike (f v) (f w)) → Both Below o p → Both Alike (option_and_then (λ v. Some (f v)) o) (option_and_then (λ v. Some (f v)) p)
value_both f None None go r = tt
value_both f (Some v) (Some w) go r = go v w r
value_both f None (Some w) go r = absurd r
value_both f (Some v) None go r = absurd r

abbrev pub SameLength : List Value → List Value → Type 0
SameLength vs us = length vs ≡ length us

abbrev Continues : (List Value → List Lexeme → Option (List Value)) → (List Value → List Lexeme → Option (List Value)) → Type 0
Continues f g = (vs us : List Value) (ws : List Lexeme) → SameLength vs us → Both SameLength (f vs ws) (g us ws)

if_lengths : (t : Bool) (x y u v : Option (List Value)) → Both SameLength x u → Both SameLength y v → Both SameLength (cond t x y) (cond t u v)
if_lengths true x y u v p q = p
if_lengths false x y u v p q = q

more_both : (f g : List Value → List Lexeme → Option (List Value)) (vs us : List Value) (ws : List Lexeme) → Continues f g → SameLength vs us → Both SameLength (more_exprs f vs ws) (more_exprs g us ws)
unfolding more_exprs
more_both f g vs us [] go r = r
more_both f g vs us (w ∷ ws) go r = if_lengths (is_punct 44 w) _ _ _ _ (go vs us ws r) tt

after_both : (f g : List Value → List Lexeme → Option (List Value)) (vs us : List Value) (a b : Option (Value × List Lexeme)) → Continues f g → SameLength vs us → Both AreRead a b
    → Both SameLength (exprs_after f vs a) (exprs_after g us b)
unfolding exprs_after
after_both f g vs us None None go r e = tt
after_both f g vs us (Some p) (Some q) go r e =
    rw e.1 (more_both f g (vs ++ p.0 ∷ []) (us ++ q.0 ∷ []) q.1 go (omega (arith, r, length-append vs (p.0 ∷ []), length-append us (q.0 ∷ []))))
after_both f g vs us None (Some q) go r e = absurd e
after_both f g vs us (Some p) None go r e = absurd e

exprs_both : (env next : Env) (here n : ℕ) (vs us : List Value) (ws : List Lexeme) → Extends env next → SameLength vs us → Both SameLength (exprs_from n vs env here ws) (exprs_from n us next here ws)
unfolding exprs_from
exprs_both env next here zero vs us ws e r = tt
exprs_both env next here (suc n) vs us ws e r =
    after_both (λ vs rest. exprs_from n vs env here rest) (λ us rest. exprs_from n us next here rest) vs us _ _ (λ vs us ws r. exprs_both env next here n vs us ws e r) r (both_exprs env next here ws e)

numbers_both : (width : Width) (o p : Option (List Value)) → Both SameLength o p → Both Alike (option_and_then (λ vs. Some (Numbers width vs)) o) (option_and_then (λ vs. Some (Numbers width vs)) p)
numbers_both width None None r = tt
numbers_both width (Some vs) (Some us) r = (refl, r)
numbers_both width None (Some us) r = absurd r
numbers_both width (Some vs) None r = absurd r

directive_both : (env next : Env) (here : ℕ) (d : Directive) (ws : List Lexeme) → Extends env next → Both Alike (directive_at env here d ws) (directive_at next here d ws)
unfolding directive_at
directive_both env next here directive.Org ws e = value_both Org _ _ (λ v w r. r) (alone_both env next here ws e)
directive_both env next here directive.Skip ws e = value_both Skip _ _ (λ v w r. r) (alone_both env next here ws e)
directive_both env next here directive.Align ws e = value_both Align _ _ (λ v w r. r) (alone_both env next here ws e)
directive_both env next here (directive.Numbers width) ws e = numbers_both width _ _ (exprs_both env next here (length ws) [] [] ws e refl)
directive_both env next here (directive.Text with_end) ws e = both_alike (text_at with_end ws)
directive_both env next here directive.Section ws e = both_alike (whole Nothing ws)
directive_both env next here directive.Global ws e = both_alike (name_at ws)

insn_both : (o p : Option Instruction) → template_in o ≡ template_in p → Both Alike (option_and_then (λ s. Some (Insn s)) o) (option_and_then (λ s. Some (Insn s)) p)
insn_both None None e = tt
insn_both (Some s) (Some t) e = cc
insn_both None (Some t) e = cc
insn_both (Some s) None e = cc

instruction_both : (env next : Env) (here : ℕ) (r : Forms) (ws : List Lexeme) → Extends env next → Both Alike (instruction_at env here r ws) (instruction_at next here r ws)
unfolding instruction_at
instruction_both env next here r ws e = insn_both _ _ (forms_same env next here r ws e)

-- ---- lines

-- two answers that are both there are related
abbrev pub WhereOk : {A B : Type 0} → (A → B → Type 0) → Result A Fault → Result B Fault → Type 0
WhereOk R (Ok a) (Ok b) = R a b
WhereOk R _ _ = Unit {0}

where_try : {P A B : Type 0} (R : A → B → Type 0) (o : Option P) (f : P → Result A Fault) (g : P → Result B Fault) (x : Result A Fault) (y : Result B Fault)
    → ((p : P) → WhereOk R (f p) (g p)) → WhereOk R x y → WhereOk R (or_try o f x) (or_try o g y)
where_try R None f g x y go e = e
where_try R (Some p) f g x y go e = go p

where_known : {A B : Type 0} (R : A → B → Type 0) (t : Bool) (x : Result A Fault) (y : Result B Fault) → WhereOk R x y → WhereOk R (cond t x (Err UnknownName)) (cond t y (Err UnknownName))
where_known R true x y e = e
where_known R false x y e = tt

where_bad : {A B : Type 0} (R : A → B → Type 0) (o : Option A) (p : Option B) → Both R o p → WhereOk R (or_bad o) (or_bad p)
where_bad R None None e = tt
where_bad R (Some a) (Some b) e = e
where_bad R None (Some b) e = absurd e
where_bad R (Some a) None e = absurd e

statement_alike : (env next : Env) (here : ℕ) (name : List ℕ) (ws : List Lexeme) → Extends env next → WhereOk Alike (statement_of env here name ws) (statement_of next here name ws)
unfolding statement_of
statement_alike env next here name ws e =
    where_try Alike (named name directive_names) _ _ _ _ (λ d. where_known Alike (all_known ws) _ _ (where_bad Alike _ _ (directive_both env next here d ws e)))
    (where_try Alike (forms_of name) _ _ _ _ (λ r. where_known Alike (all_known ws) _ _ (where_bad Alike _ _ (instruction_both env next here r ws e))) tt)

abbrev pub BodiesAlike : Body → Body → Type 0
BodiesAlike Empty Empty = Unit {0}
BodiesAlike (Assigns name v) (Assigns other w) = Unit {0}
BodiesAlike (Holds a) (Holds b) = Alike a b
BodiesAlike _ _ = ⊥

assigned_alike : (name : List ℕ) (o p : Option Value) → WhereOk BodiesAlike (assigned name o) (assigned name p)
assigned_alike name None None = tt
assigned_alike name None (Some w) = tt
assigned_alike name (Some v) None = tt
assigned_alike name (Some v) (Some w) = tt

holds_alike : (r q : Result Statement Fault) → WhereOk Alike r q → WhereOk BodiesAlike (holds r) (holds q)
holds_alike (Ok a) (Ok b) e = e
holds_alike (Ok a) (Err k) e = tt
holds_alike (Err k) (Ok b) e = tt
holds_alike (Err k) (Err l) e = tt

behind_name_alike : (env next : Env) (here : ℕ) (name : List ℕ) (ws : List Lexeme) → Extends env next → WhereOk BodiesAlike (behind_name env here name ws) (behind_name next here name ws)
unfolding behind_name
behind_name_alike env next here name ws e =
    where_try BodiesAlike (mark_at 61 ws) _ _ _ _ (λ rest. assigned_alike name (alone env here rest) (alone next here rest)) (holds_alike _ _ (statement_alike env next here name ws e))

body_alike : (env next : Env) (here : ℕ) (ws : List Lexeme) → Extends env next → WhereOk BodiesAlike (body_of env here ws) (body_of next here ws)
unfolding body_of
body_alike env next here [] e = tt
body_alike env next here (w ∷ ws) e = where_try BodiesAlike (name_in w) _ _ (Err Syntax) (Err Syntax) (λ name. behind_name_alike env next here name ws e) tt

abbrev pub LinesAlike : Line → Line → Type 0
LinesAlike l m = BodiesAlike l.body m.body

labels_alike : (labels : List (List ℕ)) (r q : Result Body Fault) → WhereOk BodiesAlike r q → WhereOk LinesAlike (with_labels labels r) (with_labels labels q)
labels_alike labels (Ok a) (Ok b) e = e
labels_alike labels (Ok a) (Err k) e = tt
labels_alike labels (Err k) (Ok b) e = tt
labels_alike labels (Err k) (Err l) e = tt

words_alike : (env next : Env) (here : ℕ) (o : Option (List Lexeme)) → Extends env next → WhereOk LinesAlike (read_words env here o) (read_words next here o)
unfolding read_words
words_alike env next here None e = tt
words_alike env next here (Some ws) e = labels_alike (labels_of ws).0 _ _ (body_alike env next here (labels_of ws).1 e)

pub line_alike : (env next : Env) (here : ℕ) (bytes : List ℕ) → Extends env next → WhereOk LinesAlike (line_of env here bytes) (line_of next here bytes)
unfolding line_of
line_alike env next here bytes e = words_alike env next here (lexemes_in (cut_of bytes)) e
