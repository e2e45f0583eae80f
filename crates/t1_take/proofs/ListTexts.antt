-- Lines of lists, one more at the end.
use Rattle.std.proofs.Common.{◌≡◌, ℕ, suc, ◌+◌, ◌++◌, ◌∷◌, List, [], length, All, refl, sym, ap, subst, ◌∙◌, append_assoc, append-nil, arith}
use Rattle.t1_log.specs.Texts.{lines_from}
use Rattle.t1_take.specs.Taken.{Reads}
use Rattle.t1_take.proofs.Taking.{reads_then}

pub lines_last : {A : Type 0} (f : ℕ → A → List ℕ) (n : ℕ) (xs : List A) (x : A) → lines_from f n (xs ++ x ∷ []) ≡ lines_from f n xs ++ f (n + length xs) x
unfolding lines_from
lines_last f n [] x = append-nil (f n x) ∙ (let e : n ≡ n + 0 = omega arith in ap (λ m. f m x) e)
lines_last f n (y ∷ ys) x =
    let e : n + 1 + length ys ≡ n + suc (length ys) = omega arith in
    ap (λ r. f n y ++ r) (lines_last f (n + 1) ys x ∙ ap (λ m. lines_from f (n + 1) ys ++ f m x) e)
    ∙ sym (append_assoc (f n y) (lines_from f (n + 1) ys) (f (n + suc (length ys)) x))

pub none_read : {A : Type 0} (text : List ℕ) (at : ℕ) (f : ℕ → A → List ℕ) → Reads text at at (lines_from f 0 [])
unfolding lines_from
none_read text at f = refl

pub one_more_read : {A : Type 0} (text : List ℕ) (start mid end : ℕ) (f : ℕ → A → List ℕ) (xs : List A) (x : A) (number : ℕ) (ys : List A)
    → Reads text start mid (lines_from f 0 xs) → number ≡ length xs → Reads text mid end (f number x) → ys ≡ xs ++ x ∷ [] → Reads text start end (lines_from f 0 ys)
one_more_read text start mid end f xs x number ys before e here longer =
    let piece : lines_from f 0 xs ++ f number x ≡ lines_from f 0 ys =
    (let n : number ≡ 0 + length xs = omega (arith, e) in ap (λ m. lines_from f 0 xs ++ f m x) n) ∙ (sym (lines_last f 0 xs x) ∙ ap (lines_from f 0) (sym longer)) in
    subst (Reads text start end) piece (reads_then text start mid end (lines_from f 0 xs) (f number x) before here)

-- the same at places that are called otherwise
pub reads_between : (text p : List ℕ) (a b m n : ℕ) → a ≡ m → b ≡ n → Reads text a b p → Reads text m n p
reads_between text p a b m n e f r = subst (λ (k : ℕ). Reads text m k p) f (subst (λ (k : ℕ). Reads text k b p) e r)

pub all_none : {A : Type 0} (P : A → Type 0) (xs : List A) → xs ≡ [] → All P xs
all_none P xs e = subst (All P) (sym e) (λ k d l. absurd (omega (arith, l)))

pub start_read : {A : Type 0} (text : List ℕ) (at : ℕ) (f : ℕ → A → List ℕ) (xs : List A) → xs ≡ [] → Reads text at at (lines_from f 0 xs)
start_read text at f xs e = subst (λ ys. Reads text at at (lines_from f 0 ys)) (sym e) (none_read text at f)
