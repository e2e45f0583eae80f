-- The first line of a text is one.
use Rattle.std.proofs.Common.{◌≡◌, ℕ, suc, ◌+◌, eqb, List, [], ◌∷◌, ◌++◌, drop, get_or, refl, sym, ap, ◌∙◌, inl, inr, arith}
use Rattle.std.proofs.lemmas.Bool.{cases_Bool, eq-eqb}
use Rattle.t1_read.specs.Faults.{feeds}

feeds_both : (xs ys : List ℕ) → feeds (xs ++ ys) ≡ feeds xs + feeds ys
feeds_both [] ys = omega arith
feeds_both (x ∷ xs) ys =
    elim (cases_Bool (eqb x 10)) [
      | inl e ↦ rw e (let n = feeds_both xs ys in omega (arith, n))
      | inr e ↦ rw e (feeds_both xs ys)
    ]

feed_counts : (x : ℕ) (xs : List ℕ) → x ≡ 10 → feeds (x ∷ xs) ≡ 0 → ⊥
feed_counts x xs e none = (let some : suc (feeds xs) ≡ 0 = rw (eq-eqb x 10 e) at none in omega (arith, some))

later_none : (x : ℕ) (xs : List ℕ) → feeds (x ∷ xs) ≡ 0 → feeds xs ≡ 0
later_none x xs none =
    elim (cases_Bool (eqb x 10)) [
      | inl e ↦ absurd (let some : suc (feeds xs) ≡ 0 = rw e at none in omega (arith, some))
      | inr e ↦ (let rest : feeds xs ≡ 0 = rw e at none in rest)
    ]

abbrev byte : List ℕ → ℕ
byte xs = get_or xs 0 0

pub first_cut : (a b x y : List ℕ) → feeds a ≡ 0 → feeds b ≡ 0 → a ++ 10 ∷ x ≡ b ++ 10 ∷ y → (a ≡ b) × (x ≡ y)
first_cut [] [] x y f g e = (refl, ap (drop 1) e)
first_cut [] (c ∷ b) x y f g e = absurd (feed_counts c b (sym (ap byte e)) g)
first_cut (c ∷ a) [] x y f g e = absurd (feed_counts c a (ap byte e) f)
first_cut (c ∷ a) (d ∷ b) x y f g e =
    let rest = first_cut a b x y (later_none c a f) (later_none d b g) (ap (drop 1) e) in
    let same : c ≡ d = ap byte e in
    (λ i. same i ∷ rest.0 i, rest.1)

-- a text that has a whole line has a line feed
pub whole_line : (text first after : List ℕ) → feeds text ≡ 0 → text ≡ first ++ 10 ∷ after → ⊥
whole_line text first after none e = (let n = sym none ∙ (ap feeds e ∙ feeds_both first (10 ∷ after)) in omega (arith, n))
