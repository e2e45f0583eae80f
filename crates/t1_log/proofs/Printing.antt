-- Texts that follow one another, and what a sink holds of them.
use Rattle.std.proofs.Common.{◌≡◌, ℕ, suc, ◌+◌, ◌<◌, List, [], ◌∷◌, ◌++◌, length, take, drop, get_or, ap, sym, ◌∙◌, append_assoc, append-nil, arith, Option}
use Rattle.std.proofs.lemmas.List.{take_more, take-append-drop, length-take}
use Rattle.std.specs.Prelude.{Result, Ok, Err, OnOk, OnErr}
use Rattle.t1_io.specs.Held.{Grew, GrewPart}
use Rattle.t1_io.proofs.Growth.{Grew-append, GrewPart-append, GrewPart-longer}
use Rattle.t1_log.specs.Texts.{lines_from}

-- the numbers go on over two lists
pub lines_from-append : {A : Type 0} (f : ℕ → A → List ℕ) (n : ℕ) (xs ys : List A)
    → lines_from f n (xs ++ ys) ≡ lines_from f n xs ++ lines_from f (n + length xs) ys
unfolding lines_from
lines_from-append f n [] ys = ap (λ m. lines_from f m ys) (omega arith)
lines_from-append f n (x ∷ xs) ys =
    ap (λ text. f n x ++ text) (lines_from-append f (n + 1) xs ys ∙ ap (λ m. lines_from f (n + 1) xs ++ lines_from f m ys) (omega arith))
    ∙ sym (append_assoc (f n x) (lines_from f (n + 1) xs) (lines_from f (n + suc (length xs)) ys))

-- one more text
pub lines_from-more : {A : Type 0} (f : ℕ → A → List ℕ) (xs : List A) (i : ℕ) (d : A) → i < length xs
    → lines_from f 0 (take (i + 1) xs) ≡ lines_from f 0 (take i xs) ++ f i (get_or xs i d)
unfolding lines_from
lines_from-more f xs i d h =
    let n : 0 + length (take i xs) ≡ i = simp length-take (omega arith) in
    ap (lines_from f 0) (take_more xs i d h)
    ∙ lines_from-append f 0 (take i xs) (get_or xs i d ∷ [])
    ∙ ap (λ m. lines_from f 0 (take i xs) ++ (f m (get_or xs i d) ++ [])) n
    ∙ ap (λ text. lines_from f 0 (take i xs) ++ text) (append-nil _)

-- the texts before one, that text, and the others
pub lines_from-around : {A : Type 0} (f : ℕ → A → List ℕ) (xs : List A) (i : ℕ) (d : A) → i < length xs
    → lines_from f 0 xs ≡ (lines_from f 0 (take i xs) ++ f i (get_or xs i d)) ++ lines_from f (i + 1) (drop (i + 1) xs)
lines_from-around f xs i d h =
    let n : 0 + length (take (i + 1) xs) ≡ i + 1 = simp length-take (omega arith) in
    ap (lines_from f 0) (sym (take-append-drop (i + 1) xs))
    ∙ lines_from-append f 0 (take (i + 1) xs) (drop (i + 1) xs)
    ∙ ap (λ m. lines_from f 0 (take (i + 1) xs) ++ lines_from f m (drop (i + 1) xs)) n
    ∙ ap (λ text. text ++ lines_from f (i + 1) (drop (i + 1) xs)) (lines_from-more f xs i d h)

-- a sink that holds the texts before one, and then that text
pub Grew-more : {A : Type 0} (f : ℕ → A → List ℕ) (xs : List A) (i : ℕ) (d : A) (old mid new : Option (List ℕ)) → i < length xs
    → Grew old mid (lines_from f 0 (take i xs)) → Grew mid new (f i (get_or xs i d)) → Grew old new (lines_from f 0 (take (i + 1) xs))
Grew-more f xs i d old mid new h before next =
    rw (lines_from-more f xs i d h) (Grew-append old mid new (lines_from f 0 (take i xs)) (f i (get_or xs i d)) before next)

-- a sink that holds the texts before one, and then a part of that text
pub GrewPart-more : {A : Type 0} (f : ℕ → A → List ℕ) (xs : List A) (i : ℕ) (d : A) (old mid new : Option (List ℕ)) → i < length xs
    → Grew old mid (lines_from f 0 (take i xs)) → GrewPart mid new (f i (get_or xs i d)) → GrewPart old new (lines_from f 0 xs)
GrewPart-more f xs i d old mid new h before next =
    rw (lines_from-around f xs i d h)
    (GrewPart-longer old new (lines_from f 0 (take i xs) ++ f i (get_or xs i d)) (lines_from f (i + 1) (drop (i + 1) xs))
    (GrewPart-append old mid new (lines_from f 0 (take i xs)) (f i (get_or xs i d)) before next))

-- what stands at an error, where it stands in any case
pub on_err : {T E : Type 0} (P : Type 0) (result : Result T E) → P → OnErr result P
on_err P (Ok value) p = tt
on_err P (Err error) p = p

-- the last text, after others: at the end, and at an error
pub Grew-last : {T E : Type 0} (result : Result T E) (old mid new : Option (List ℕ)) (xs ys : List ℕ)
    → Grew old mid xs → OnOk result (Grew mid new ys) → OnOk result (Grew old new (xs ++ ys))
Grew-last (Ok value) old mid new xs ys before last = Grew-append old mid new xs ys before last
Grew-last (Err error) old mid new xs ys before last = tt

pub GrewPart-last : {T E : Type 0} (result : Result T E) (old mid new : Option (List ℕ)) (xs ys : List ℕ)
    → Grew old mid xs → OnErr result (GrewPart mid new ys) → OnErr result (GrewPart old new (xs ++ ys))
GrewPart-last (Ok value) old mid new xs ys before last = tt
GrewPart-last (Err error) old mid new xs ys before last = GrewPart-append old mid new xs ys before last
