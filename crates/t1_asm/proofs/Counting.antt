-- How many chunks a text has.
use Rattle.std.proofs.Common.{◌++◌, ◌≡◌, ◌≤◌, ◌+◌, ◌*◌, ℕ, suc, List, [], ◌∷◌, length, refl, ap, sym, arith, length-append, Some, None, Bool, true, false, cond, Result, Ok, Err, min, ◌∙◌, subst}
use Rattle.std.proofs.lemmas.Bool.Decides.{nat_tests}
use Rattle.std.specs.Prelude.{nat_lt, unwrap_or}
use Rattle.std.specs.Int.{bytes_high_first}
use Rattle.t1_stmt.specs.Faults.{then_do}
use Rattle.t1_expr.specs.Exprs.{Env, Value}
use Rattle.t1_stmt.specs.Templates.{Pair, instruction_words}
use Rattle.t1_stmt.specs.Lines.{Body, line_of, lines_of}
use Rattle.t1_stmt.specs.Lines.Body.{Empty, Assigns, Holds}
use Rattle.t1_form.specs.declared.directive.Width.{Width}
use Rattle.t1_stmt.specs.declared.statement.Statement.TheVariants.{Nothing, Org, Skip, Align, Numbers, Text, Insn}
use Rattle.t1_stmt.specs.declared.fault.Fault.{Fault}
use Rattle.t1_stmt.specs.declared.fault.Fault.TheVariants as fault
use Rattle.t1_elf.specs.declared.object.Chunk.{Chunk}
use Rattle.t1_elf.specs.declared.object.Object.{Object}
use Rattle.t1_asm.specs.declared.error.AsmError.{AsmError}
use Rattle.std.specs.Prelude.{IfOk}
use Rattle.t1_asm.specs.Passes.{State, Out, location, appended, opened, kept, some_missing, width_bytes, fitted, number_onto, numbers_onto, words_onto, written, second_step, placed, first_step, pass, at_line, then_go, finished, assembled, state_from, none_named, first_out, IsAnswer}

-- ---- what an Ok comes from

pub do_ok : {A B : Type 0} (r : Result A Fault) (f : A → Result B Fault) (b : B) → then_do r f ≡ Ok b → (a : A) × (r ≡ Ok a) × (f a ≡ Ok b)
do_ok (Ok a) f b e = (a, refl, e)
do_ok (Err k) f b e = cc

pub go_ok : {A B : Type 0} (r : Result A (ℕ × Fault)) (f : A → Result B (ℕ × Fault)) (b : B) → then_go r f ≡ Ok b → (a : A) × (r ≡ Ok a) × (f a ≡ Ok b)
go_ok (Ok a) f b e = (a, refl, e)
go_ok (Err k) f b e = cc

pub line_ok : {A : Type 0} (n : ℕ) (r : Result A Fault) (a : A) → at_line n r ≡ Ok a → r ≡ Ok a
line_ok n (Ok b) a e = cc
line_ok n (Err k) a e = cc

abbrev pub ok_in : (A E : Type 0) → A → Result A E
ok_in A E a = Ok a

pub same_ok : {A E : Type 0} (a b : A) → ok_in A E a ≡ ok_in A E b → a ≡ b
same_ok a b e = cc

-- ---- the second pass

-- twice the chunks that are done, and one where the open one has bytes
abbrev weight : Out → ℕ
weight out = 2 * length out.done + min 1 (length out.bytes)

kept_few : (done : List Chunk) (addr : ℕ) (bs : List ℕ) → length (kept done addr bs) ≤ length done + min 1 (length bs)
kept_few done addr [] = omega arith
kept_few done addr (b ∷ bs) = omega (arith, length-append done ((record { addr = addr; bytes = b ∷ bs; zeros = 0 }) ∷ []))

number_done : (width : Width) (v : Value) (out next : Out) → number_onto width v out ≡ Ok next → next.done ≡ out.done
unfolding number_onto
number_done width v out next e =
    let d = do_ok (fitted (8 * width_bytes width) v) (λ n. Ok (appended out (bytes_high_first (width_bytes width) n))) next e in
    ap (λ o. o.done) (sym (same_ok _ _ d.2))

numbers_done : (width : Width) (vs : List Value) (out next : Out) → numbers_onto width vs out ≡ Ok next → next.done ≡ out.done
unfolding numbers_onto
numbers_done width [] out next e = ap (λ o. o.done) (sym (same_ok _ _ e))
numbers_done width (v ∷ vs) out next e =
    let d = do_ok (number_onto width v out) (λ o. numbers_onto width vs o) next e in
    numbers_done width vs d.0 next d.2 ∙ number_done width v out d.0 d.1

words_done : (p : Pair) (out : Out) → (words_onto p out).done ≡ out.done
words_done (a, None) out = refl
words_done (a, Some b) out = refl

same_done : (out next : Out) → next.done ≡ out.done → weight next ≤ weight out + 1
same_done out next e = omega (arith, ap length e)

pub missing_ok : (t : Bool) (r : Result Out Fault) (next : Out) → cond t (Err fault.MissingLabel) r ≡ Ok next → r ≡ Ok next
missing_ok true r next e = cc
missing_ok false r next e = e

written_weight : (out next : Out) (body : Body) → written out body ≡ Ok next → weight next ≤ weight out + 1
unfolding written
written_weight out next Empty e = same_done out next (ap (λ o. o.done) (sym (same_ok _ _ e)))
written_weight out next (Assigns name v) e = same_done out next (ap (λ o. o.done) (sym (same_ok _ _ e)))
written_weight out next (Holds Nothing) e = same_done out next (ap (λ o. o.done) (sym (same_ok _ _ e)))
written_weight out next (Holds (Org v)) e =
    let f : opened out (unwrap_or v 0) ≡ next = same_ok _ _ e in
    omega (arith, kept_few out.done out.addr out.bytes, ap (λ o. length o.done) f, ap (λ o. length o.bytes) f)
written_weight out next (Holds (Skip v)) e = same_done out next (ap (λ o. o.done) (sym (same_ok _ _ e)))
written_weight out next (Holds (Align v)) e = same_done out next (ap (λ o. o.done) (sym (same_ok _ _ e)))
written_weight out next (Holds (Numbers width vs)) e = same_done out next (numbers_done width vs out next (missing_ok (some_missing vs) (numbers_onto width vs out) next e))
written_weight out next (Holds (Text bs)) e = same_done out next (ap (λ o. o.done) (sym (same_ok _ _ e)))
written_weight out next (Holds (Insn s)) e =
    let d = do_ok (instruction_words (location out) s) (λ p. Ok (words_onto p out)) next e in
    same_done out next (ap (λ o. o.done) (sym (same_ok _ _ d.2)) ∙ words_done d.0 out)

second_weight : (env : Env) (n : ℕ) (out next : Out) (line : List ℕ) → second_step env n out line ≡ Ok next → weight next ≤ weight out + 1
unfolding second_step
second_weight env n out next line e =
    let d = do_ok (line_of env (location out) line) (λ l. written out l.body) next e in
    written_weight out next d.0.body d.2

pass_weight : (env : Env) (n : ℕ) (out last : Out) (lines : List (List ℕ)) → pass (second_step env) n out lines ≡ Ok last → weight last ≤ weight out + length lines
unfolding pass
pass_weight env n out last [] e = omega (arith, ap weight (same_ok _ _ e))
pass_weight env n out last (l ∷ ls) e =
    let d = go_ok (at_line n (second_step env n out l)) (λ next. pass (second_step env) (n + 1) next ls) last e in
    let a : weight d.0 ≤ weight out + 1 = second_weight env n out d.0 l (line_ok n (second_step env n out l) d.0 d.1) in
    let b : weight last ≤ weight d.0 + length ls = pass_weight env (n + 1) d.0 last ls d.2 in
    omega (arith, a, b)

-- ---- chunks have no zeros behind their bytes

abbrev pub AreWhole : List Chunk → Type 0
AreWhole [] = Unit {0}
AreWhole (c ∷ cs) = (c.zeros ≡ 0) × AreWhole cs

whole_one_more : (cs : List Chunk) (c : Chunk) → AreWhole cs → c.zeros ≡ 0 → AreWhole (cs ++ c ∷ [])
whole_one_more [] c h e = (e, tt)
whole_one_more (d ∷ cs) c h e = (h.0, whole_one_more cs c h.1 e)

pub kept_whole : (done : List Chunk) (addr : ℕ) (bs : List ℕ) → AreWhole done → AreWhole (kept done addr bs)
kept_whole done addr [] h = h
kept_whole done addr (b ∷ bs) h = whole_one_more done _ h refl

whole_still : (out next : Out) → next.done ≡ out.done → AreWhole out.done → AreWhole next.done
whole_still out next e h = subst AreWhole (sym e) h

written_whole : (out next : Out) (body : Body) → written out body ≡ Ok next → AreWhole out.done → AreWhole next.done
unfolding written
written_whole out next Empty e h = whole_still out next (ap (λ o. o.done) (sym (same_ok _ _ e))) h
written_whole out next (Assigns name v) e h = whole_still out next (ap (λ o. o.done) (sym (same_ok _ _ e))) h
written_whole out next (Holds Nothing) e h = whole_still out next (ap (λ o. o.done) (sym (same_ok _ _ e))) h
written_whole out next (Holds (Org v)) e h =
    let f : opened out (unwrap_or v 0) ≡ next = same_ok _ _ e in
    subst AreWhole (ap (λ (o : Out). o.done) f) (kept_whole out.done out.addr out.bytes h)
written_whole out next (Holds (Skip v)) e h = whole_still out next (ap (λ o. o.done) (sym (same_ok _ _ e))) h
written_whole out next (Holds (Align v)) e h = whole_still out next (ap (λ o. o.done) (sym (same_ok _ _ e))) h
written_whole out next (Holds (Numbers width vs)) e h = whole_still out next (numbers_done width vs out next (missing_ok (some_missing vs) (numbers_onto width vs out) next e)) h
written_whole out next (Holds (Text bs)) e h = whole_still out next (ap (λ o. o.done) (sym (same_ok _ _ e))) h
written_whole out next (Holds (Insn s)) e h =
    let d = do_ok (instruction_words (location out) s) (λ p. Ok (words_onto p out)) next e in
    whole_still out next (ap (λ o. o.done) (sym (same_ok _ _ d.2)) ∙ words_done d.0 out) h

second_whole : (env : Env) (n : ℕ) (out next : Out) (line : List ℕ) → second_step env n out line ≡ Ok next → AreWhole out.done → AreWhole next.done
unfolding second_step
second_whole env n out next line e h =
    let d = do_ok (line_of env (location out) line) (λ l. written out l.body) next e in
    written_whole out next d.0.body d.2 h

whole_after : (env : Env) (n : ℕ) (out last : Out) (lines : List (List ℕ)) → pass (second_step env) n out lines ≡ Ok last → AreWhole out.done → AreWhole last.done
unfolding pass
whole_after env n out last [] e h = subst (λ (o : Out). AreWhole o.done) (same_ok _ _ e) h
whole_after env n out last (l ∷ ls) e h =
    let d = go_ok (at_line n (second_step env n out l)) (λ next. pass (second_step env) (n + 1) next ls) last e in
    whole_after env (n + 1) d.0 last ls d.2 (second_whole env n out d.0 l (line_ok n (second_step env n out l) d.0 d.1) h)

-- ---- the first pass

long_ok : (t : Bool) (r : Result State Fault) (next : State) → cond t (Err fault.TooLong) r ≡ Ok next → t ≡ false
long_ok true r next e = cc
long_ok false r next e = refl

first_number : (n : ℕ) (s next : State) (line : List ℕ) → first_step n s line ≡ Ok next → n ≤ 65536
unfolding first_step
first_number n s next line e =
    let t : nat_lt 65536 n ≡ false = long_ok (nat_lt 65536 n) (then_do (line_of s.env s.here line) (placed s)) next e in
    grind (arith, nat_tests)

pub few_lines : (n : ℕ) (s last : State) (lines : List (List ℕ)) → n ≤ 65537 → pass first_step n s lines ≡ Ok last → n + length lines ≤ 65537
unfolding pass
few_lines n s last [] h e = omega arith
few_lines n s last (l ∷ ls) h e =
    let d = go_ok (at_line n (first_step n s l)) (λ next. pass first_step (n + 1) next ls) last e in
    let a : n ≤ 65536 = first_number n s d.0 l (line_ok n (first_step n s l) d.0 d.1) in
    let b : n + 1 + length ls ≤ 65537 = few_lines (n + 1) d.0 last ls (omega (arith, a)) d.2 in
    omega (arith, b)

-- ---- both

pub few_chunks : (text : List ℕ) (o : Object) → assembled text ≡ Ok o → length o.chunks ≤ 32768
unfolding assembled finished
few_chunks text o e =
    let d = go_ok (pass first_step 1 (state_from none_named) (lines_of text)) (λ s. then_go (pass (second_step s.env) 1 first_out (lines_of text)) (λ out. Ok (finished s out))) o e in
    let f = go_ok (pass (second_step d.0.env) 1 first_out (lines_of text)) (λ out. Ok (finished d.0 out)) o d.2 in
    let a : 1 + length (lines_of text) ≤ 65537 = few_lines 1 (state_from none_named) d.0 (lines_of text) (omega arith) d.1 in
    let b : weight f.0 ≤ weight first_out + length (lines_of text) = pass_weight d.0.env 1 first_out f.0 (lines_of text) f.1 in
    let g : finished d.0 f.0 ≡ o = same_ok _ _ f.2 in
    omega (arith, a, b, kept_few f.0.done f.0.addr f.0.bytes, ap (λ o. length o.chunks) g)

pub whole_chunks : (text : List ℕ) (o : Object) → assembled text ≡ Ok o → AreWhole o.chunks
unfolding assembled finished
whole_chunks text o e =
    let d = go_ok (pass first_step 1 (state_from none_named) (lines_of text)) (λ s. then_go (pass (second_step s.env) 1 first_out (lines_of text)) (λ out. Ok (finished s out))) o e in
    let f = go_ok (pass (second_step d.0.env) 1 first_out (lines_of text)) (λ out. Ok (finished d.0 out)) o d.2 in
    let g : finished d.0 f.0 ≡ o = same_ok _ _ f.2 in
    subst (λ (x : Object). AreWhole x.chunks) g (kept_whole f.0.done f.0.addr f.0.bytes (whole_after d.0.env 1 first_out f.0 (lines_of text) f.1 tt))

pub answer_few : (r : Result Object AsmError) (text : List ℕ) → IsAnswer r (assembled text) → IfOk r (λ o. length o.chunks ≤ 32768)
answer_few (Ok o) text e = few_chunks text o e
answer_few (Err e) text h = tt
