-- What the first crossing is.
use Rattle.std.proofs.Common.{◌≡◌, ℕ, zero, suc, ◌+◌, ◌-◌, ◌^◌, ◌<◌, ◌≤◌, min, Bool, true, false, ltb, cond, List, [], ◌∷◌, length, get_or, drop, Option, Some, None, refl, sym, ap, subst, arith}
use Rattle.std.proofs.lemmas.Bool.{ltb-false, ltb-true}
use Rattle.std.proofs.lemmas.List.{drop_more, get_or-drop, length-drop}
use Rattle.std.specs.Option.{MatchOption}
use Rattle.t1_check.specs.Crossing.{least, crossed_from, IsUncrossed, IsCrossedAt}

least-le : (gs : List ℕ) (j : ℕ) → j < length gs → least gs ≤ get_or gs j 0
least-le [] j h = absurd (omega (arith, h))
least-le (g ∷ gs) zero h = omega arith
least-le (g ∷ gs) (suc j) h = let i = least-le gs j (omega (arith, h)) in omega (arith, i)

le-least : (gs : List ℕ) (b : ℕ) → b ≤ 2 ^ 64 - 1 → ((j : ℕ) → j < length gs → b ≤ get_or gs j 0) → b ≤ least gs
le-least [] b m h = m
le-least (g ∷ gs) b m h =
    let i = le-least gs b m (λ j l. h (suc j) (omega (arith, l))) in
    let o : b ≤ g = h 0 (omega arith) in
    omega (arith, i, o)

none_go : (k b g : ℕ) (bs gs : List ℕ) (t : Bool) → ltb (least gs) b ≡ t → (crossed_from (suc k) bs gs ≡ None → IsUncrossed bs gs)
    → cond t (Some k) (crossed_from (suc k) bs gs) ≡ None → IsUncrossed (b ∷ bs) (g ∷ gs)
none_go k b g bs gs true is more e i j l w = let bad : ◌≡◌ {A = Option ℕ} (Some k) None = e in absurd cc
none_go k b g bs gs false is more e zero zero l w = absurd (omega (arith, l))
none_go k b g bs gs false is more e zero (suc j) l w =
    let a = least-le gs j (omega (arith, w)) in
    let o = ltb-false _ _ is in
    omega (arith, a, o)
none_go k b g bs gs false is more e (suc i) zero l w = absurd (omega (arith, l))
none_go k b g bs gs false is more e (suc i) (suc j) l w = more e i j (omega (arith, l)) (omega (arith, w))

crossed_none : (k : ℕ) (bs gs : List ℕ) → length bs ≡ length gs → crossed_from k bs gs ≡ None → IsUncrossed bs gs
crossed_none k [] gs len e = λ i j l w. absurd (omega (arith, len, w))
crossed_none k (b ∷ bs) [] len e = λ i j l w. absurd (omega (arith, w))
crossed_none k (b ∷ bs) (g ∷ gs) len e = none_go k b g bs gs (ltb (least gs) b) refl (crossed_none (suc k) bs gs (omega (arith, len))) e

-- the first crossing of lists whose places are counted from k
record IsCrossedFrom (k : ℕ) (bs gs : List ℕ) (i : ℕ) : Type 0 where
  n : ℕ
  is : i ≡ k + n
  within : n < length gs
  low : least (drop (suc n) gs) < get_or bs n 0
  first : (i j : ℕ) → i < n → i < j → j < length gs → get_or bs i 0 ≤ get_or gs j 0

some_later : (b g : ℕ) (bs gs : List ℕ) (n : ℕ) → ltb (least gs) b ≡ false → ((i j : ℕ) → i < n → i < j → j < length gs → get_or bs i 0 ≤ get_or gs j 0)
    → (i j : ℕ) → i < suc n → i < j → j < length (g ∷ gs) → get_or (b ∷ bs) i 0 ≤ get_or (g ∷ gs) j 0
some_later b g bs gs n is h zero zero a l w = absurd (omega (arith, l))
some_later b g bs gs n is h zero (suc j) a l w =
    let x = least-le gs j (omega (arith, w)) in
    let o = ltb-false _ _ is in
    omega (arith, x, o)
some_later b g bs gs n is h (suc i) zero a l w = absurd (omega (arith, l))
some_later b g bs gs n is h (suc i) (suc j) a l w = h i j (omega (arith, a)) (omega (arith, l)) (omega (arith, w))

some_go : (k b g : ℕ) (bs gs : List ℕ) (i : ℕ) (t : Bool) → ltb (least gs) b ≡ t → (crossed_from (suc k) bs gs ≡ Some i → IsCrossedFrom (suc k) bs gs i)
    → cond t (Some k) (crossed_from (suc k) bs gs) ≡ Some i → IsCrossedFrom k (b ∷ bs) (g ∷ gs) i
some_go k b g bs gs i true is more e =
    let same : k ≡ i = cc in
    record { n = 0; is = omega (arith, same); within = omega arith; low = ltb-true _ _ is; first = λ i j a. absurd (omega (arith, a)) }
some_go k b g bs gs i false is more e =
    let r = more e in
    record { n = suc r.n; is = omega (arith, r.is); within = omega (arith, r.within); low = r.low; first = some_later b g bs gs r.n is r.first }

crossed_some : (k : ℕ) (bs gs : List ℕ) (i : ℕ) → crossed_from k bs gs ≡ Some i → IsCrossedFrom k bs gs i
crossed_some k [] gs i e = let bad : ◌≡◌ {A = Option ℕ} None (Some i) = e in absurd cc
crossed_some k (b ∷ bs) [] i e = let bad : ◌≡◌ {A = Option ℕ} None (Some i) = e in absurd cc
crossed_some k (b ∷ bs) (g ∷ gs) i e = some_go k b g bs gs i (ltb (least gs) b) refl (crossed_some (suc k) bs gs i) e

pub crossed_means : (bs gs : List ℕ) → length bs ≡ length gs → (r : Option ℕ) → r ≡ crossed_from 0 bs gs → MatchOption r (IsUncrossed bs gs) (λ i. IsCrossedAt bs gs i)
crossed_means bs gs len None e = crossed_none 0 bs gs len (sym e)
crossed_means bs gs len (Some i) e =
    let r = crossed_some 0 bs gs i (sym e) in
    let same : r.n ≡ i = omega (arith, r.is) in
    let next : suc r.n ≡ i + 1 = omega (arith, r.is) in
    record {
      within = omega (arith, same, r.within);
      low = subst (λ (n : ℕ). least (drop n gs) < get_or bs i 0) next (subst (λ (n : ℕ). least (drop (suc r.n) gs) < get_or bs n 0) same r.low);
      first = λ a j l. r.first a j (omega (arith, same, l));
    }

-- one place more at the front
pub crossed_step : (k : ℕ) (bs gs : List ℕ) → k < length bs → k < length gs
    → crossed_from k (drop k bs) (drop k gs) ≡ cond (ltb (least (drop (k + 1) gs)) (get_or bs k 0)) (Some k) (crossed_from (k + 1) (drop (k + 1) bs) (drop (k + 1) gs))
crossed_step k bs gs h l = rw (drop_more bs k 0 h, drop_more gs k 0 l) (let e : suc k ≡ k + 1 = omega arith in ap (λ n. cond (ltb (least (drop (k + 1) gs)) (get_or bs k 0)) (Some k) (crossed_from n (drop (k + 1) bs) (drop (k + 1) gs))) e)

pub least_step : (k : ℕ) (gs : List ℕ) → k < length gs → least (drop k gs) ≡ min (least (drop (k + 1) gs)) (get_or gs k 0)
least_step k gs l = ap least (drop_more gs k 0 l)

-- where the least goal from a place on lies below a bound, some goal there does
pub some_below : (gs : List ℕ) (start bound : ℕ) → bound ≤ 2 ^ 64 - 1 → least (drop start gs) < bound → ((j : ℕ) → start ≤ j → j < length gs → bound ≤ get_or gs j 0) → ⊥
some_below gs start bound m l h =
    let a = le-least (drop start gs) bound m (λ j w. rw (get_or-drop start gs j 0) (h (start + j) (omega arith) (omega (arith, w, length-drop start gs)))) in
    omega (arith, a, l)
