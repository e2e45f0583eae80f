-- Lists whose lines are told from what follows them.
use Rattle.std.proofs.Common.{◌≡◌, ℕ, suc, ◌+◌, ◌<◌, List, [], ◌∷◌, ◌++◌, length, All, Some, refl, sym, subst, ◌∙◌, append_assoc, arith}
use Rattle.std.specs.List.{slice_get}
use Rattle.t1_num.specs.MemoryLaws.{AreBytes}
use Rattle.t1_log.specs.Texts.{lines_from}

-- ---- what holds of each element, at its number

abbrev pub Each : {A : Type 0} → (ℕ → A → Type 0) → ℕ → List A → Type 0
Each P n [] = Unit {0}
Each P n (x ∷ xs) = P n x × Each P (n + 1) xs

pub each_all : {A : Type 0} (P : A → Type 0) (n : ℕ) (xs : List A) → All P xs → Each (λ (k : ℕ) (x : A). P x) n xs
each_all P n [] a = tt
each_all P n (x ∷ xs) a = (a 0 x (omega arith), each_all P (n + 1) xs (λ k d l. a (suc k) d (omega (arith, l))))

pub each_byte : (n : ℕ) (xs : List ℕ) → AreBytes xs → Each (λ (k byte : ℕ). byte < 256) n xs
each_byte n [] a = tt
each_byte n (x ∷ xs) a = (a 0, each_byte (n + 1) xs (λ i. a (suc i)))

each_at : {A : Type 0} (P : ℕ → A → Type 0) (n : ℕ) (xs : List A) → ((i : ℕ) (x : A) → slice_get xs i ≡ Some x → P (n + i) x) → Each P n xs
each_at P n [] f = tt
each_at {A = A} P n (x ∷ xs) f = (
  (let z : n + 0 ≡ n = omega arith in subst (λ (k : ℕ). P k x) z (f 0 x refl)),
  each_at P (n + 1) xs (λ i y e. (let s : n + suc i ≡ n + 1 + i = omega arith in subst (λ (k : ℕ). P k y) s (f (suc i) y e))),
)

pub each_numbered : {A : Type 0} (P : ℕ → A → Type 0) (xs : List A) → ((i : ℕ) (x : A) → slice_get xs i ≡ Some x → P i x) → Each P 0 xs
each_numbered P xs f = each_at P 0 xs (λ i x e. (let z : i ≡ 0 + i = omega arith in subst (λ (k : ℕ). P k x) z (f i x e)))

pub each_both : {A : Type 0} (P Q : ℕ → A → Type 0) (n : ℕ) (xs : List A) → Each P n xs → Each Q n xs → Each (λ (k : ℕ) (x : A). P k x × Q k x) n xs
each_both P Q n [] p q = tt
each_both P Q n (x ∷ xs) p q = ((p.0, q.0), each_both P Q (n + 1) xs p.1 q.1)

-- ---- cuts

-- two elements of one text, and what follows them, are one
abbrev pub Cuts : {A : Type 0} → (ℕ → A → List ℕ) → (ℕ → A → Type 0) → Type 0
Cuts {A = A} line P = (n : ℕ) (a b : A) (x y : List ℕ) → P n a → P n b → line n a ++ x ≡ line n b ++ y → (a ≡ b) × (x ≡ y)

-- a text at which the elements end
abbrev pub Parts : {A : Type 0} → (ℕ → A → List ℕ) → (List ℕ → Type 0) → Type 0
Parts {A = A} line Stops = (n : ℕ) (a : A) (x : List ℕ) → Stops (line n a ++ x) → ⊥

-- lists of elements that are told from what follows
pub lists_cut : {A : Type 0} (line : ℕ → A → List ℕ) (P : ℕ → A → Type 0) (Stops : List ℕ → Type 0) → Cuts line P → Parts line Stops → (n : ℕ) (xs ys : List A) (x y : List ℕ)
    → Each P n xs → Each P n ys → Stops x → Stops y → lines_from line n xs ++ x ≡ lines_from line n ys ++ y → (xs ≡ ys) × (x ≡ y)
unfolding lines_from
lists_cut line P Stops cuts parts n [] [] x y p q s t e = (refl, e)
lists_cut line P Stops cuts parts n (a ∷ xs) [] x y p q s t e = absurd (parts n a (lines_from line (n + 1) xs ++ x) (subst Stops (sym e ∙ append_assoc (line n a) (lines_from line (n + 1) xs) x) t))
lists_cut line P Stops cuts parts n [] (b ∷ ys) x y p q s t e = absurd (parts n b (lines_from line (n + 1) ys ++ y) (subst Stops (e ∙ append_assoc (line n b) (lines_from line (n + 1) ys) y) s))
lists_cut line P Stops cuts parts n (a ∷ xs) (b ∷ ys) x y p q s t e =
    let one = cuts n a b (lines_from line (n + 1) xs ++ x) (lines_from line (n + 1) ys ++ y) p.0 q.0
    (sym (append_assoc (line n a) (lines_from line (n + 1) xs) x) ∙ (e ∙ append_assoc (line n b) (lines_from line (n + 1) ys) y)) in
    let rest = lists_cut line P Stops cuts parts (n + 1) xs ys x y p.1 q.1 s t one.1 in
    (λ i. one.0 i ∷ rest.0 i, rest.1)

-- lists of one length
pub counted_cut : {A : Type 0} (line : ℕ → A → List ℕ) (P : ℕ → A → Type 0) → Cuts line P → (n : ℕ) (xs ys : List A) (x y : List ℕ)
    → Each P n xs → Each P n ys → length xs ≡ length ys → lines_from line n xs ++ x ≡ lines_from line n ys ++ y → (xs ≡ ys) × (x ≡ y)
unfolding lines_from
counted_cut line P cuts n [] [] x y p q l e = (refl, e)
counted_cut line P cuts n (a ∷ xs) [] x y p q l e = absurd (omega (arith, l))
counted_cut line P cuts n [] (b ∷ ys) x y p q l e = absurd (omega (arith, l))
counted_cut line P cuts n (a ∷ xs) (b ∷ ys) x y p q l e =
    let one = cuts n a b (lines_from line (n + 1) xs ++ x) (lines_from line (n + 1) ys ++ y) p.0 q.0
    (sym (append_assoc (line n a) (lines_from line (n + 1) xs) x) ∙ (e ∙ append_assoc (line n b) (lines_from line (n + 1) ys) y)) in
    let rest = counted_cut line P cuts (n + 1) xs ys x y p.1 q.1 (omega (arith, l)) one.1 in
    (λ i. one.0 i ∷ rest.0 i, rest.1)
