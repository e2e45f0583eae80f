-- Two lists of lines in one text are one, or one of them goes on where the other ends.
use Rattle.std.proofs.Common.{◌≡◌, ℕ, ◌+◌, List, [], ◌∷◌, ◌++◌, length, refl, sym, ◌∙◌, append_assoc, arith}
use Rattle.t1_log.specs.Texts.{lines_from}
use Rattle.t1_one_text.proofs.Lists.{Each, Cuts}

-- the second list has an element more than the first, and its line stands behind the first
pub record GoesOn {A : Type 0} (line : ℕ → A → List ℕ) (P : ℕ → A → Type 0) (n : ℕ) (xs ys : List A) (x y : List ℕ) : Type 0 where
  pub one : A
  pub more : List A
  pub number : ℕ
  pub number_is : number ≡ n + length xs
  pub all_is : ys ≡ xs ++ one ∷ more
  pub good : P number one
  pub rest_is : x ≡ line number one ++ (lines_from line (number + 1) more ++ y)

pub data ListsCompared {A : Type 0} (line : ℕ → A → List ℕ) (P : ℕ → A → Type 0) (n : ℕ) (xs ys : List A) (x y : List ℕ) : Type 0 where
  Same : xs ≡ ys → x ≡ y → ListsCompared line P n xs ys x y
  Longer : GoesOn line P n xs ys x y → ListsCompared line P n xs ys x y
  Shorter : GoesOn line P n ys xs y x → ListsCompared line P n xs ys x y

-- from the first element on
first_more : {A : Type 0} (line : ℕ → A → List ℕ) (P : ℕ → A → Type 0) (n : ℕ) (b : A) (ys : List A) (x y : List ℕ) → P n b → x ≡ (line n b ++ lines_from line (n + 1) ys) ++ y → GoesOn line P n [] (b ∷ ys) x y
first_more line P n b ys x y p e = record {
  one = b;
  more = ys;
  number = n;
  number_is = omega arith;
  all_is = refl;
  good = p;
  rest_is = e ∙ append_assoc (line n b) (lines_from line (n + 1) ys) y;
}

-- behind one element of both
behind_one : {A : Type 0} (line : ℕ → A → List ℕ) (P : ℕ → A → Type 0) (n : ℕ) (a b : A) (xs ys : List A) (x y : List ℕ) → a ≡ b → GoesOn line P (n + 1) xs ys x y → GoesOn line P n (a ∷ xs) (b ∷ ys) x y
behind_one line P n a b xs ys x y same g = record {
  one = g.one;
  more = g.more;
  number = g.number;
  number_is = (let m = g.number_is in omega (arith, m));
  all_is = λ i. sym same i ∷ g.all_is i;
  good = g.good;
  rest_is = g.rest_is;
}

compared_more : {A : Type 0} (line : ℕ → A → List ℕ) (P : ℕ → A → Type 0) (n : ℕ) (a b : A) (xs ys : List A) (x y : List ℕ) → a ≡ b → ListsCompared line P (n + 1) xs ys x y → ListsCompared line P n (a ∷ xs) (b ∷ ys) x y
compared_more line P n a b xs ys x y same (Same rest e) = Same (λ i. same i ∷ rest i) e
compared_more line P n a b xs ys x y same (Longer g) = Longer (behind_one line P n a b xs ys x y same g)
compared_more line P n a b xs ys x y same (Shorter g) = Shorter (behind_one line P n b a ys xs y x (sym same) g)

pub compared : {A : Type 0} (line : ℕ → A → List ℕ) (P : ℕ → A → Type 0) → Cuts line P → (n : ℕ) (xs ys : List A) (x y : List ℕ) → Each P n xs → Each P n ys → lines_from line n xs ++ x ≡ lines_from line n ys ++ y
    → ListsCompared line P n xs ys x y
unfolding lines_from
compared line P cuts n [] [] x y p q e = Same refl e
compared line P cuts n [] (b ∷ ys) x y p q e = Longer (first_more line P n b ys x y q.0 e)
compared line P cuts n (a ∷ xs) [] x y p q e = Shorter (first_more line P n a xs y x p.0 (sym e))
compared line P cuts n (a ∷ xs) (b ∷ ys) x y p q e =
    let one = cuts n a b (lines_from line (n + 1) xs ++ x) (lines_from line (n + 1) ys ++ y) p.0 q.0
    (sym (append_assoc (line n a) (lines_from line (n + 1) xs) x) ∙ (e ∙ append_assoc (line n b) (lines_from line (n + 1) ys) y)) in
    compared_more line P n a b xs ys x y one.0 (compared line P cuts (n + 1) xs ys x y p.1 q.1 one.1)
