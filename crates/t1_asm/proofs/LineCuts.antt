-- Lines of a text, and passes over them.
use Rattle.std.proofs.Common.{◌≡◌, ◌≤◌, ◌<◌, ℕ, suc, ◌+◌, ◌==◌, List, [], ◌∷◌, ◌++◌, length, take, drop, refl, ap, sym, ◌∙◌, arith, append-nil, append_assoc, length-append, Bool, true, false, not, cond, min, Result, Ok, Err}
use Rattle.std.proofs.lemmas.List.{drop-drop}
use Rattle.t1_lex.specs.Bytes.{is_in_line}
use Rattle.t1_lex.specs.Pieces.{run_of}
use Rattle.t1_stmt.specs.Faults.{Answers}
use Rattle.t1_stmt.specs.Lines.{lines_from, last_line, lines_of}
use Rattle.t1_asm.specs.Passes.{pass, then_go, at_line, FailsAt}
use Rattle.t1_stmt.specs.declared.fault.Fault.{Fault}
use Rattle.t1_stmt.specs.declared.fault.Halt.{Halt}
use Rattle.t1_stmt.specs.declared.fault.Halt.TheVariants as halt

some_last : (l : List ℕ) → 0 < length l → last_line l ≡ l ∷ []
some_last [] h = absurd (omega arith)
some_last (b ∷ bs) h = refl

cut_byte : (t : Bool) (n : ℕ) (acc : List ℕ) (b : ℕ) (bs : List ℕ)
    → lines_from (acc ++ b ∷ []) bs ≡ ((acc ++ b ∷ []) ++ take n bs) ∷ lines_from [] (drop (n + 1) bs)
    → cond t (acc ∷ lines_from [] bs) (lines_from (acc ++ b ∷ []) bs)
    ≡ (acc ++ take (cond (not t) (n + 1) 0) (b ∷ bs)) ∷ lines_from [] (drop (cond (not t) (n + 1) 0 + 1) (b ∷ bs))
cut_byte true n acc b bs h = ap (λ l. l ∷ lines_from [] bs) (sym (append-nil acc))
cut_byte false n acc b bs h =
    let e : suc n ≡ n + 1 = omega arith in
    let f : suc (n + 1) ≡ n + 1 + 1 = omega arith in
    h
    ∙ ap (λ l. l ∷ lines_from [] (drop (n + 1) bs)) (append_assoc acc (b ∷ []) (take n bs))
    ∙ ap (λ m. (acc ++ take m (b ∷ bs)) ∷ lines_from [] (drop (n + 1) bs)) e
    ∙ ap (λ m. (acc ++ take (n + 1) (b ∷ bs)) ∷ lines_from [] (drop m (b ∷ bs))) f

pub cut_line : (acc bs : List ℕ) → 0 < length acc + length bs
    → lines_from acc bs ≡ (acc ++ take (run_of is_in_line bs) bs) ∷ lines_from [] (drop (run_of is_in_line bs + 1) bs)
unfolding lines_from run_of is_in_line
cut_line acc [] h = some_last acc (omega arith) ∙ ap (λ l. l ∷ []) (sym (append-nil acc))
cut_line acc (b ∷ bs) h = cut_byte (b == 10) (run_of is_in_line bs) acc b bs (cut_line (acc ++ b ∷ []) bs (omega (arith, length-append acc (b ∷ []))))

pub dropped_one : (l : List ℕ) → drop (min (length l) 1) l ≡ drop 1 l
dropped_one [] = refl
dropped_one (b ∷ bs) = let e : min (suc (length bs)) 1 ≡ 1 = omega arith in ap (λ m. drop m (b ∷ bs)) e

-- the line at the front, and the others
pub first_line : (rest line more : List ℕ) → 0 < length rest → line ≡ take (run_of is_in_line rest) rest → more ≡ drop (run_of is_in_line rest) rest
    → lines_of rest ≡ line ∷ lines_of (drop (min (length more) 1) more)
first_line rest line more h a b =
    cut_line [] rest (omega arith)
    ∙ ap (λ l. l ∷ lines_of (drop (run_of is_in_line rest + 1) rest)) (sym a)
    ∙ ap (λ l. line ∷ lines_of l) (sym (dropped_one more ∙ ap (drop 1) b ∙ drop-drop 1 (run_of is_in_line rest) rest))

pub pass_on : {S : Type 0} (step : ℕ → S → List ℕ → Result S Fault) (number : ℕ) (s next : S) (rest line others : List ℕ) → lines_of rest ≡ line ∷ lines_of others
    → step number s line ≡ Ok next → pass step number s (lines_of rest) ≡ pass step (number + 1) next (lines_of others)
unfolding pass
pass_on step number s next rest line others e h =
    ap (pass step number s) e ∙ ap (λ r. then_go (at_line number r) (λ next. pass step (number + 1) next (lines_of others))) h

pub pass_fails : {S X : Type 0} (view : X → S) (step : ℕ → S → List ℕ → Result S Fault) (number : ℕ) (s : S) (rest line others : List ℕ) (h : Halt) → lines_of rest ≡ line ∷ lines_of others
    → Answers view (Err h) (step number s line) → FailsAt number h (pass step number s (lines_of rest))
unfolding pass
pass_fails view step number s rest line others halt.Memory e g = tt
pass_fails view step number s rest line others (halt.Fault k) e g =
    ap (pass step number s) e ∙ ap (λ r. then_go (at_line number r) (λ next. pass step (number + 1) next (lines_of others))) g

pub pass_whole : {S : Type 0} (step : ℕ → S → List ℕ → Result S Fault) (number : ℕ) (s : S) (rest : List ℕ) → length rest ≤ 0 → pass step number s (lines_of rest) ≡ Ok s
unfolding pass lines_from
pass_whole step number s [] h = refl
pass_whole step number s (b ∷ bs) h = absurd (omega arith)
