-- The bytes of the second pass are those that the first pass counted.
use Rattle.std.proofs.Common.{◌≡◌, ◌∙◌, ◌≤◌, ◌+◌, ◌*◌, ◌^◌, ◌%◌, ◌++◌, ℕ, zero, suc, List, [], ◌∷◌, length, length-append, refl, ap, sym, arith, Option, Some, None, Bool, true, false, cond, subst, Result, Ok, Err}
use Rattle.std.proofs.lemmas.List.{length-replicate}
use Rattle.std.proofs.lemmas.Slice.Eq.{bytes_eq-Decides}
use Rattle.std.proofs.lemmas.Bool.Decides.{nat_tests}
use Rattle.std.specs.Prelude.{nat_lt, unwrap_or, replicate, is_some, option_and_then, IfOk}
use Rattle.std.specs.Str.{bytes_eq}
use Rattle.std.specs.Int.{bytes_high_first}
use Rattle.t1_stmt.specs.Faults.{then_do}
use Rattle.t1_expr.specs.Exprs.{Env, Value}
use Rattle.t1_stmt.specs.Templates.{Pair, is_missing, lacks, in_range, instruction_words, instruction_size, below, set_of, word_of, words_of, filled}
use Rattle.t1_encode.specs.Words.{encoded}
use Rattle.t1_insn.specs.declared.instruction.Insn.TheVariants as insn
use Rattle.t1_insn.specs.declared.operation.AluOp.TheVariants as alu
use Rattle.t1_insn.specs.declared.operand.Src.TheVariants.{Imm}
use Rattle.std.specs.Prelude.{pos, ◌/◌}
use Rattle.t1_form.specs.Options.{or_try}
use Rattle.t1_stmt.specs.Lines.{Line, Body, line_of, lines_of}
use Rattle.t1_stmt.specs.Lines.Body.{Empty, Assigns, Holds}
use Rattle.t1_form.specs.declared.template.Template.{Template}
use Rattle.t1_form.specs.declared.template.Template.TheVariants as template
use Rattle.t1_operand.specs.declared.fields.Fields.{Fields}
use Rattle.t1_operand.specs.declared.fields.Instruction.{Instruction}
use Rattle.t1_form.specs.declared.directive.Width.{Width}
use Rattle.t1_form.specs.declared.directive.Width.TheVariants.{Byte, Half, Word, Xword}
use Rattle.t1_stmt.specs.declared.statement.Statement.TheVariants.{Nothing, Org, Skip, Align, Numbers, Text, Insn}
use Rattle.t1_stmt.specs.declared.fault.Fault.{Fault}
use Rattle.t1_stmt.specs.declared.fault.Fault.TheVariants as fault
use Rattle.t1_elf.specs.declared.object.Object.{Object}
use Rattle.t1_elf.specs.declared.object.Chunk.{Chunk}
use Rattle.t1_asm.specs.declared.error.AsmError.{AsmError}
use Rattle.t1_asm.specs.Passes.{State, Out, bytes_of_chunks, location, appended, opened, kept, padding, some_missing, width_bytes, size_of, start_of, early_value, is_outside, defined, labelled, assigned_in, named_by, fitted, number_onto, numbers_onto, words_onto, written, second_step, placed, first_step, pass, at_line, then_go, finished, assembled, state_from, none_named, first_out, IsAnswer}
use Rattle.t1_asm.proofs.Counting.{do_ok, go_ok, line_ok, same_ok, missing_ok}
use Rattle.t1_asm.proofs.Places.{stays}
use Rattle.t1_expr.proofs.Growing.{Below, Extends, below_refl, below_trans}
use Rattle.t1_stmt.proofs.Alike.{BodiesAlike, LinesAlike, WhereOk, line_alike}

-- ---- names only grow

none_there : (v : Value) → is_some v ≡ false → v ≡ None
none_there None e = refl
none_there (Some a) e = cc

defined_go : (env : Env) (name q : List ℕ) (value : ℕ) (t : Bool) → env name ≡ None → (t ≡ true → name ≡ q) → Below (env q) (cond t (Some value) (env q))
defined_go env name q value false e f = below_refl (env q)
defined_go env name q value true e f = rw (← f refl, e) tt

defined_extends : (env : Env) (name : List ℕ) (value : ℕ) → is_some (env name) ≡ false → Extends env (defined env name value)
defined_extends env name value e q = defined_go env name q value (bytes_eq name q) (none_there (env name) e) (λ f. (bytes_eq-Decides name q).0 f)

if_some : {A : Type 0} (t : Bool) (o : Option A) (a : A) → cond t None o ≡ Some a → (t ≡ false) × (o ≡ Some a)
if_some true o a e = cc
if_some false o a e = (refl, e)

extends_trans : (a b c : Env) → Extends a b → Extends b c → Extends a c
extends_trans a b c p q n = below_trans (a n) (b n) (c n) (p n) (q n)

extends_refl : (a : Env) → Extends a a
extends_refl a n = below_refl (a n)

same_some : {A : Type 0} (a b : A) → Some a ≡ Some b → a ≡ b
same_some a b e = cc

labelled_extends : (env next : Env) (here : ℕ) (ns : List (List ℕ)) → labelled env here ns ≡ Some next → Extends env next
unfolding labelled
labelled_extends env next here [] e = subst (λ (x : Env). Extends env x) (same_some _ _ e) (extends_refl env)
labelled_extends env next here (n ∷ ns) e =
    let d = if_some (is_some (env n)) (labelled (defined env n here) here ns) next e in
    extends_trans env (defined env n here) next (defined_extends env n here d.0) (labelled_extends (defined env n here) next here ns d.1)

assigned_extends : (env next : Env) (b : Body) → assigned_in env b ≡ Some next → Extends env next
unfolding assigned_in
assigned_extends env next Empty e = subst (λ (x : Env). Extends env x) (same_some _ _ e) (extends_refl env)
assigned_extends env next (Holds a) e = subst (λ (x : Env). Extends env x) (same_some _ _ e) (extends_refl env)
assigned_extends env next (Assigns name v) e =
    let d = if_some (is_some (env name)) (Some (defined env name (unwrap_or v 0))) next e in
    subst (λ (x : Env). Extends env x) (same_some _ _ d.1) (defined_extends env name (unwrap_or v 0) d.0)

then_some : {A B : Type 0} (o : Option A) (f : A → Option B) (b : B) → option_and_then f o ≡ Some b → (a : A) × (o ≡ Some a) × (f a ≡ Some b)
then_some None f b e = cc
then_some (Some a) f b e = (a, refl, e)

named_extends : (env next : Env) (here : ℕ) (l : Line) → named_by env here l ≡ Some next → Extends env next
unfolding named_by
named_extends env next here l e =
    let d = then_some (labelled env here l.labels) (λ x. assigned_in x l.body) next e in
    extends_trans env d.0 next (labelled_extends env d.0 here l.labels d.1) (assigned_extends d.0 next l.body d.2)

-- ---- what an Ok comes from

try_ok : {A B : Type 0} (o : Option A) (f : A → Result B Fault) (k : Fault) (b : B) → or_try o f (Err k) ≡ Ok b → (a : A) × (o ≡ Some a) × (f a ≡ Ok b)
try_ok None f k b e = cc
try_ok (Some a) f k b e = (a, refl, e)

if_ok : {B : Type 0} (t : Bool) (k : Fault) (r : Result B Fault) (b : B) → cond t (Err k) r ≡ Ok b → (t ≡ false) × (r ≡ Ok b)
if_ok true k r b e = cc
if_ok false k r b e = (refl, e)

-- ---- sizes

length_bytes : (k n : ℕ) → length (bytes_high_first k n) ≡ k
length_bytes zero n = refl
length_bytes (suc k) n = ap suc (length_bytes k n)

abbrev bytes_out : Out → ℕ
bytes_out out = bytes_of_chunks out.done + length out.bytes

abbrev end_of : Out → ℕ
end_of out = out.addr + length out.bytes

bytes_append : (cs ds : List Chunk) → bytes_of_chunks (cs ++ ds) ≡ bytes_of_chunks cs + bytes_of_chunks ds
bytes_append [] ds = omega arith
bytes_append (c ∷ cs) ds = omega (arith, bytes_append cs ds)

pub kept_bytes : (done : List Chunk) (addr : ℕ) (bs : List ℕ) → bytes_of_chunks (kept done addr bs) ≡ bytes_of_chunks done + length bs
kept_bytes done addr [] = omega arith
kept_bytes done addr (b ∷ bs) = omega (arith, bytes_append done ((record { addr = addr; bytes = b ∷ bs; zeros = 0 }) ∷ []))

-- n more bytes
record Grows (out next : Out) (n : ℕ) : Type 0 where
  more : bytes_out next ≡ bytes_out out + n
  stop : end_of next ≡ end_of out + n

grows_by : (out : Out) (bs : List ℕ) → Grows out (appended out bs) (length bs)
grows_by out bs = record { more = omega (arith, length-append out.bytes bs); stop = omega (arith, length-append out.bytes bs) }

grows_then : (out mid next : Out) (a b : ℕ) → Grows out mid a → Grows mid next b → Grows out next (a + b)
grows_then out mid next a b p q = record { more = omega (arith, p.more, q.more); stop = omega (arith, p.stop, q.stop) }

number_grows : (width : Width) (v : Value) (out next : Out) → number_onto width v out ≡ Ok next → Grows out next (width_bytes width)
unfolding number_onto
number_grows width v out next e =
    let d = do_ok (fitted (8 * width_bytes width) v) (λ n. Ok (appended out (bytes_high_first (width_bytes width) n))) next e in
    subst (λ (o : Out). Grows out o (width_bytes width)) (same_ok _ _ d.2)
    (subst (λ (n : ℕ). Grows out (appended out (bytes_high_first (width_bytes width) d.0)) n) (length_bytes (width_bytes width) d.0) (grows_by out (bytes_high_first (width_bytes width) d.0)))

no_growth : (out : Out) → Grows out out 0
no_growth out = record { more = omega arith; stop = omega arith }

numbers_grow : (width : Width) (vs : List Value) (out next : Out) → numbers_onto width vs out ≡ Ok next → Grows out next (width_bytes width * length vs)
unfolding numbers_onto
numbers_grow width [] out next e = subst (λ (n : ℕ). Grows out next n) (omega arith) (subst (λ (o : Out). Grows out o 0) (same_ok _ _ e) (no_growth out))
numbers_grow width (v ∷ vs) out next e =
    let d = do_ok (number_onto width v out) (λ o. numbers_onto width vs o) next e in
    let g = grows_then out d.0 next (width_bytes width) (width_bytes width * length vs) (number_grows width v out d.0 d.1) (numbers_grow width vs d.0 next d.2) in
    subst (λ (n : ℕ). Grows out next n) (times width (length vs)) g
  where
    times : (w : Width) (n : ℕ) → width_bytes w + width_bytes w * n ≡ width_bytes w * suc n
    times Byte n = omega arith
    times Half n = omega arith
    times Word n = omega arith
    times Xword n = omega arith

-- ---- the words of a statement

abbrev pair_size : Pair → ℕ
pair_size (a, None) = 4
pair_size (a, Some b) = 8

words_grow : (p : Pair) (out : Out) → Grows out (words_onto p out) (pair_size p)
words_grow (a, None) out = subst (λ (n : ℕ). Grows out (appended out (bytes_high_first 4 a)) n) (length_bytes 4 a) (grows_by out (bytes_high_first 4 a))
words_grow (a, Some b) out =
    let x : Out = appended out (bytes_high_first 4 a) in
    let g = grows_then out (appended out (bytes_high_first 4 a)) (words_onto (a, Some b) out) (length (bytes_high_first 4 a)) (length (bytes_high_first 4 b)) (grows_by out (bytes_high_first 4 a)) (grows_by (appended out (bytes_high_first 4 a)) (bytes_high_first 4 b)) in
    subst (λ (n : ℕ). Grows out (words_onto (a, Some b) out) n) (omega (arith, length_bytes 4 a, length_bytes 4 b)) g

abbrev HasSize : ℕ → Option Pair → Type 0
HasSize n None = Unit {0}
HasSize n (Some p) = pair_size p ≡ n

one_sized : (o : Option ℕ) → HasSize 4 (option_and_then (λ w. Some (w, None)) o)
one_sized None = tt
one_sized (Some w) = refl

then_sized : {A : Type 0} (n : ℕ) (o : Option A) (f : A → Option Pair) → ((a : A) → HasSize n (f a)) → HasSize n (option_and_then f o)
then_sized n None f go = tt
then_sized n (Some a) f go = go a

word_sized : (here : ℕ) (m : Template) (f : Fields) → HasSize 4 (word_of here m f)
unfolding word_of
word_sized here m f = then_sized 4 (filled here m f) _ (λ i. one_sized (encoded i))

two_sized : (o p : Option ℕ) → HasSize 8 (option_and_then (λ high. option_and_then (λ low. Some (high, Some low)) p) o)
two_sized None p = tt
two_sized (Some a) None = tt
two_sized (Some a) (Some b) = refl

set_sized : (rd n : ℕ) → HasSize 8 (set_of rd n)
unfolding set_of
set_sized rd n = two_sized (encoded (insn.Sethi rd (n / 2 ^ 10))) (encoded (insn.Alu alu.Or false rd rd (Imm (pos (n % 2 ^ 10)))))

words_sized : (here : ℕ) (m : Template) (f : Fields) → HasSize (instruction_size m) (words_of here m f)
unfolding words_of
words_sized here template.Set f = then_sized 8 (below (2 ^ 32) f.value) (λ n. set_of f.rd n) (λ n. set_sized f.rd n)
words_sized here template.Illtrap f = one_sized (below (2 ^ 22) f.value)
words_sized here (template.Fixed i) f = word_sized here (template.Fixed i) f
words_sized here (template.Alu op cc) f = word_sized here (template.Alu op cc) f
words_sized here (template.Shift op wide) f = word_sized here (template.Shift op wide) f
words_sized here template.Save f = word_sized here template.Save f
words_sized here template.Restore f = word_sized here template.Restore f
words_sized here template.Sethi f = word_sized here template.Sethi f
words_sized here (template.Bicc c) f = word_sized here (template.Bicc c) f
words_sized here (template.Bpcc c) f = word_sized here (template.Bpcc c) f
words_sized here (template.Bpr c) f = word_sized here (template.Bpr c) f
words_sized here template.Call f = word_sized here template.Call f
words_sized here template.Jmpl f = word_sized here template.Jmpl f
words_sized here template.Return f = word_sized here template.Return f
words_sized here template.Flush f = word_sized here template.Flush f
words_sized here (template.Trap c) f = word_sized here (template.Trap c) f
words_sized here (template.Movcc c) f = word_sized here (template.Movcc c) f
words_sized here (template.Movr c) f = word_sized here (template.Movr c) f
words_sized here (template.Access a space) f = word_sized here (template.Access a space) f
words_sized here (template.Prefetch space) f = word_sized here (template.Prefetch space) f
words_sized here (template.Cas w space) f = word_sized here (template.Cas w space) f
words_sized here template.ReadAsr f = word_sized here template.ReadAsr f
words_sized here template.WriteAsr f = word_sized here template.WriteAsr f
words_sized here template.ReadPr f = word_sized here template.ReadPr f
words_sized here template.WritePr f = word_sized here template.WritePr f
words_sized here template.Membar f = word_sized here template.Membar f

range_size : (n : ℕ) (o : Option Pair) (p : Pair) → HasSize n o → in_range o ≡ Ok p → pair_size p ≡ n
range_size n None p h e = cc
range_size n (Some q) p h e = ap pair_size (sym (same_ok _ _ e)) ∙ h

instruction_sized : (here : ℕ) (s : Instruction) (p : Pair) → instruction_words here s ≡ Ok p → pair_size p ≡ instruction_size s.template
unfolding instruction_words
instruction_sized here s p e = range_size (instruction_size s.template) (words_of here s.template s.fields) p (words_sized here s.template s.fields) (if_ok (lacks s.fields) fault.MissingLabel (in_range (words_of here s.template s.fields)) p e).1

-- ---- a line

abbrev IsThere : Value → Type 0
IsThere v = is_missing v ≡ false

there_same : (v w : Value) → IsThere v → Below v w → w ≡ v
there_same None w e r = cc
there_same (Some a) w e r = r

-- what a line writes, where it stands at the location of the first pass
record Writes (out next : Out) (here : ℕ) (b : Body) : Type 0 where
  more : bytes_out next ≡ bytes_out out + size_of here b
  stop : end_of next ≡ start_of here b + size_of here b

grown_writes : (out next : Out) (here : ℕ) (b : Body) → end_of out ≡ here → start_of here b ≡ here → Grows out next (size_of here b) → Writes out next here b
grown_writes out next here b e s g = record { more = g.more; stop = omega (arith, g.stop, e, s) }

same_writes : (out next : Out) (here : ℕ) (b : Body) → end_of out ≡ here → start_of here b ≡ here → size_of here b ≡ 0 → out ≡ next → Writes out next here b
same_writes out next here b e s z f = record { more = omega (arith, z, ap bytes_out f); stop = omega (arith, s, z, e, ap end_of f) }

at_location : (out : Out) (here : ℕ) → end_of out ≡ here → here ≤ 2 ^ 39 → location out ≡ here
at_location out here e h = omega (arith, e)

written_writes : (out next : Out) (here : ℕ) (b c : Body) → end_of out ≡ here → here ≤ 2 ^ 39 → IsThere (early_value b) → BodiesAlike b c → written out c ≡ Ok next → Writes out next here b
unfolding written early_value start_of size_of
written_writes out next here Empty Empty e h t r w = same_writes out next here Empty e refl refl (same_ok _ _ w)
written_writes out next here (Assigns n v) (Assigns m x) e h t r w = same_writes out next here (Assigns n v) e refl refl (same_ok _ _ w)
written_writes out next here (Holds Nothing) (Holds Nothing) e h t r w = same_writes out next here (Holds Nothing) e refl refl (same_ok _ _ w)
written_writes out next here (Holds (Org v)) (Holds (Org x)) e h t r w =
    let f : opened out (unwrap_or x 0) ≡ next = same_ok _ _ w in
    let y : x ≡ v = there_same v x t r in
    record {
      more = omega (arith, kept_bytes out.done out.addr out.bytes, ap bytes_out f);
      stop = omega (arith, ap end_of f, ap (λ z. unwrap_or z 0) y);
    }
written_writes out next here (Holds (Skip v)) (Holds (Skip x)) e h t r w =
    let y : x ≡ v = there_same v x t r in
    let f : appended out (replicate (unwrap_or x 0) 0) ≡ next = same_ok _ _ w in
    grown_writes out next here (Holds (Skip v)) e refl
    (subst (λ (o : Out). Grows out o (unwrap_or v 0)) f
    (subst (λ (n : ℕ). Grows out (appended out (replicate (unwrap_or x 0) 0)) n) (length-replicate (unwrap_or x 0) 0 ∙ ap (λ z. unwrap_or z 0) y) (grows_by out (replicate (unwrap_or x 0) 0))))
written_writes out next here (Holds (Align v)) (Holds (Align x)) e h t r w =
    let y : x ≡ v = there_same v x t r in
    let n : ℕ = padding (location out) (unwrap_or x 0) in
    let f : appended out (replicate (padding (location out) (unwrap_or x 0)) 0) ≡ next = same_ok _ _ w in
    let k : padding (location out) (unwrap_or x 0) ≡ padding here (unwrap_or v 0) = ap (λ l. padding l (unwrap_or x 0)) (at_location out here e h) ∙ ap (λ z. padding here (unwrap_or z 0)) y in
    grown_writes out next here (Holds (Align v)) e refl
    (subst (λ (o : Out). Grows out o (padding here (unwrap_or v 0))) f
    (subst (λ (n : ℕ). Grows out (appended out (replicate (padding (location out) (unwrap_or x 0)) 0)) n) (length-replicate (padding (location out) (unwrap_or x 0)) 0 ∙ k) (grows_by out (replicate (padding (location out) (unwrap_or x 0)) 0))))
written_writes out next here (Holds (Numbers k vs)) (Holds (Numbers l us)) e h t r w =
    let g : Grows out next (width_bytes l * length us) = numbers_grow l us out next (missing_ok (some_missing us) (numbers_onto l us out) next w) in
    grown_writes out next here (Holds (Numbers k vs)) e refl (subst (λ (n : ℕ). Grows out next n) (sym (ap (λ x. width_bytes x * length vs) r.0 ∙ ap (λ n. width_bytes l * n) r.1)) g)
written_writes out next here (Holds (Text bs)) (Holds (Text cs)) e h t r w =
    let f : appended out cs ≡ next = same_ok _ _ w in
    grown_writes out next here (Holds (Text bs)) e refl (subst (λ (o : Out). Grows out o (length bs)) f (subst (λ (n : ℕ). Grows out (appended out cs) n) (sym (ap (λ l. length l) r)) (grows_by out cs)))
written_writes out next here (Holds (Insn s)) (Holds (Insn u)) e h t r w =
    let d = do_ok (instruction_words (location out) u) (λ p. Ok (words_onto p out)) next w in
    let f : words_onto d.0 out ≡ next = same_ok _ _ d.2 in
    let n : pair_size d.0 ≡ instruction_size s.template = instruction_sized (location out) u d.0 d.1 ∙ ap instruction_size (sym r) in
    grown_writes out next here (Holds (Insn s)) e refl (subst (λ (o : Out). Grows out o (instruction_size s.template)) f (subst (λ (k : ℕ). Grows out (words_onto d.0 out) k) n (words_grow d.0 out)))
written_writes out next here Empty (Assigns m x) e h t r w = absurd r
written_writes out next here Empty (Holds a) e h t r w = absurd r
written_writes out next here (Assigns n v) Empty e h t r w = absurd r
written_writes out next here (Assigns n v) (Holds a) e h t r w = absurd r
written_writes out next here (Holds a) Empty e h t r w = absurd r
written_writes out next here (Holds a) (Assigns m x) e h t r w = absurd r
written_writes out next here (Holds Nothing) (Holds (Org x)) e h t r w = absurd r
written_writes out next here (Holds Nothing) (Holds (Skip x)) e h t r w = absurd r
written_writes out next here (Holds Nothing) (Holds (Align x)) e h t r w = absurd r
written_writes out next here (Holds Nothing) (Holds (Numbers l us)) e h t r w = absurd r
written_writes out next here (Holds Nothing) (Holds (Text cs)) e h t r w = absurd r
written_writes out next here (Holds Nothing) (Holds (Insn u)) e h t r w = absurd r
written_writes out next here (Holds (Org v)) (Holds Nothing) e h t r w = absurd r
written_writes out next here (Holds (Org v)) (Holds (Skip x)) e h t r w = absurd r
written_writes out next here (Holds (Org v)) (Holds (Align x)) e h t r w = absurd r
written_writes out next here (Holds (Org v)) (Holds (Numbers l us)) e h t r w = absurd r
written_writes out next here (Holds (Org v)) (Holds (Text cs)) e h t r w = absurd r
written_writes out next here (Holds (Org v)) (Holds (Insn u)) e h t r w = absurd r
written_writes out next here (Holds (Skip v)) (Holds Nothing) e h t r w = absurd r
written_writes out next here (Holds (Skip v)) (Holds (Org x)) e h t r w = absurd r
written_writes out next here (Holds (Skip v)) (Holds (Align x)) e h t r w = absurd r
written_writes out next here (Holds (Skip v)) (Holds (Numbers l us)) e h t r w = absurd r
written_writes out next here (Holds (Skip v)) (Holds (Text cs)) e h t r w = absurd r
written_writes out next here (Holds (Skip v)) (Holds (Insn u)) e h t r w = absurd r
written_writes out next here (Holds (Align v)) (Holds Nothing) e h t r w = absurd r
written_writes out next here (Holds (Align v)) (Holds (Org x)) e h t r w = absurd r
written_writes out next here (Holds (Align v)) (Holds (Skip x)) e h t r w = absurd r
written_writes out next here (Holds (Align v)) (Holds (Numbers l us)) e h t r w = absurd r
written_writes out next here (Holds (Align v)) (Holds (Text cs)) e h t r w = absurd r
written_writes out next here (Holds (Align v)) (Holds (Insn u)) e h t r w = absurd r
written_writes out next here (Holds (Numbers k vs)) (Holds Nothing) e h t r w = absurd r
written_writes out next here (Holds (Numbers k vs)) (Holds (Org x)) e h t r w = absurd r
written_writes out next here (Holds (Numbers k vs)) (Holds (Skip x)) e h t r w = absurd r
written_writes out next here (Holds (Numbers k vs)) (Holds (Align x)) e h t r w = absurd r
written_writes out next here (Holds (Numbers k vs)) (Holds (Text cs)) e h t r w = absurd r
written_writes out next here (Holds (Numbers k vs)) (Holds (Insn u)) e h t r w = absurd r
written_writes out next here (Holds (Text bs)) (Holds Nothing) e h t r w = absurd r
written_writes out next here (Holds (Text bs)) (Holds (Org x)) e h t r w = absurd r
written_writes out next here (Holds (Text bs)) (Holds (Skip x)) e h t r w = absurd r
written_writes out next here (Holds (Text bs)) (Holds (Align x)) e h t r w = absurd r
written_writes out next here (Holds (Text bs)) (Holds (Numbers l us)) e h t r w = absurd r
written_writes out next here (Holds (Text bs)) (Holds (Insn u)) e h t r w = absurd r
written_writes out next here (Holds (Insn s)) (Holds Nothing) e h t r w = absurd r
written_writes out next here (Holds (Insn s)) (Holds (Org x)) e h t r w = absurd r
written_writes out next here (Holds (Insn s)) (Holds (Skip x)) e h t r w = absurd r
written_writes out next here (Holds (Insn s)) (Holds (Align x)) e h t r w = absurd r
written_writes out next here (Holds (Insn s)) (Holds (Numbers l us)) e h t r w = absurd r
written_writes out next here (Holds (Insn s)) (Holds (Text cs)) e h t r w = absurd r

-- ---- what the first pass knows of a line

record Placed (s next : State) (b : Body) : Type 0 where
  extends : Extends s.env next.env
  there : IsThere (early_value b)
  here : next.here ≡ start_of s.here b + size_of s.here b
  total : next.total ≡ s.total + size_of s.here b
  most : next.total ≤ 16777216
  low : s.here ≤ 2 ^ 39 → next.here ≤ 2 ^ 39

placed_ok : (s next : State) (l : Line) → placed s l ≡ Ok next → Placed s next l.body
unfolding placed
placed_ok s next l e =
    let a = if_ok (nat_lt 16777216 (s.total + size_of s.here l.body)) fault.TooLong _ next e in
    let b = try_ok (named_by s.env s.here l) _ fault.DuplicateLabel next a.1 in
    let c = if_ok (is_missing (early_value l.body)) fault.MissingLabel _ next b.2 in
    let d = if_ok (is_outside s.here l.body) fault.OutOfRange _ next c.1 in
    let f = same_ok _ _ d.1 in
    let m : s.total + size_of s.here l.body ≤ 16777216 = most_of (s.total + size_of s.here l.body) a.0 in
    record {
      extends = subst (λ (n : State). Extends s.env n.env) f (named_extends s.env b.0 s.here l b.1);
      there = c.0;
      here = ap (λ (n : State). n.here) (sym f);
      total = ap (λ (n : State). n.total) (sym f);
      most = omega (arith, m, ap (λ (n : State). n.total) f);
      low = λ h. omega (arith, stays s.here l.body h d.0, ap (λ (n : State). n.here) f);
    }
  where
    most_of : (n : ℕ) → nat_lt 16777216 n ≡ false → n ≤ 16777216
    most_of n e = grind (arith, nat_tests)

record Stepped (s next : State) (line : List ℕ) : Type 0 where
  body : Body
  placed : Placed s next body
  alike : (env : Env) → Extends s.env env → (l : Line) → line_of env s.here line ≡ Ok l → BodiesAlike body l.body

where_both : (r q : Result Line Fault) (a b : Line) → WhereOk LinesAlike r q → r ≡ Ok a → q ≡ Ok b → BodiesAlike a.body b.body
where_both (Ok x) (Ok y) a b w e f = subst (λ (l : Line). BodiesAlike l.body b.body) (same_ok _ _ e) (subst (λ (m : Line). BodiesAlike x.body m.body) (same_ok _ _ f) w)
where_both (Ok x) (Err k) a b w e f = cc
where_both (Err k) q a b w e f = cc

step_ok : (n : ℕ) (s next : State) (line : List ℕ) → first_step n s line ≡ Ok next → Stepped s next line
unfolding first_step
step_ok n s next line e =
    let a = if_ok (nat_lt 65536 n) fault.TooLong (then_do (line_of s.env s.here line) (placed s)) next e in
    let b = do_ok (line_of s.env s.here line) (placed s) next a.1 in
    record {
      body = b.0.body;
      placed = placed_ok s next b.0 b.2;
      alike = λ env x l f. where_both (line_of s.env s.here line) (line_of env s.here line) b.0 l (line_alike s.env env s.here line x) b.1 f;
    }

-- ---- both passes side by side

pass_extends : (n : ℕ) (s last : State) (lines : List (List ℕ)) → pass first_step n s lines ≡ Ok last → Extends s.env last.env
unfolding pass
pass_extends n s last [] e = subst (λ (x : State). Extends s.env x.env) (same_ok _ _ e) (extends_refl s.env)
pass_extends n s last (l ∷ ls) e =
    let d = go_ok (at_line n (first_step n s l)) (λ next. pass first_step (n + 1) next ls) last e in
    let a = step_ok n s d.0 l (line_ok n (first_step n s l) d.0 d.1) in
    extends_trans s.env d.0.env last.env a.placed.extends (pass_extends (n + 1) d.0 last ls d.2)

passes_agree : (n : ℕ) (s last : State) (out end : Out) (lines : List (List ℕ)) → pass first_step n s lines ≡ Ok last → pass (second_step last.env) n out lines ≡ Ok end
    → end_of out ≡ s.here → bytes_out out ≡ s.total → s.here ≤ 2 ^ 39 → s.total ≤ 16777216 → bytes_out end ≤ 16777216
unfolding pass second_step
passes_agree n s last out end [] e f h t low most = omega (arith, t, most, ap bytes_out (same_ok _ _ f))
passes_agree n s last out end (l ∷ ls) e f h t low most =
    let d = go_ok (at_line n (first_step n s l)) (λ next. pass first_step (n + 1) next ls) last e in
    let a = step_ok n s d.0 l (line_ok n (first_step n s l) d.0 d.1) in
    let x = extends_trans s.env d.0.env last.env a.placed.extends (pass_extends (n + 1) d.0 last ls d.2) in
    let g = go_ok (at_line n (second_step last.env n out l)) (λ next. pass (second_step last.env) (n + 1) next ls) end f in
    let k : then_do (line_of last.env (location out) l) (λ line. written out line.body) ≡ Ok g.0 = line_ok n (second_step last.env n out l) g.0 g.1 in
    let m = do_ok (line_of last.env (location out) l) (λ line. written out line.body) g.0 k in
    let p : line_of last.env s.here l ≡ Ok m.0 = ap (λ z. line_of last.env z l) (sym (at_location out s.here h low)) ∙ m.1 in
    let w = written_writes out g.0 s.here a.body m.0.body h low a.placed.there (a.alike last.env x m.0 p) m.2 in
    passes_agree (n + 1) d.0 last g.0 end ls d.2 g.2 (w.stop ∙ sym a.placed.here) (omega (arith, w.more, t, a.placed.total)) (a.placed.low low) a.placed.most

-- the bytes of all chunks are no more than the limit of a text
pub few_bytes : (text : List ℕ) (o : Object) → assembled text ≡ Ok o → bytes_of_chunks o.chunks ≤ 16777216
unfolding assembled finished
few_bytes text o e =
    let d = go_ok (pass first_step 1 (state_from none_named) (lines_of text)) (λ s. then_go (pass (second_step s.env) 1 first_out (lines_of text)) (λ out. Ok (finished s out))) o e in
    let f = go_ok (pass (second_step d.0.env) 1 first_out (lines_of text)) (λ out. Ok (finished d.0 out)) o d.2 in
    let b : bytes_out f.0 ≤ 16777216 = passes_agree 1 (state_from none_named) d.0 first_out f.0 (lines_of text) d.1 f.1 refl refl (omega arith) (omega arith) in
    let g : finished d.0 f.0 ≡ o = same_ok _ _ f.2 in
    omega (arith, b, kept_bytes f.0.done f.0.addr f.0.bytes, ap (λ o. bytes_of_chunks o.chunks) g)

pub answer_small : (r : Result Object AsmError) (text : List ℕ) → IsAnswer r (assembled text) → IfOk r (λ o. bytes_of_chunks o.chunks ≤ 16777216)
answer_small (Ok o) text e = few_bytes text o e
answer_small (Err e) text h = tt
