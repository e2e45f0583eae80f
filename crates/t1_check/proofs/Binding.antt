-- What bounds and goals say of what has to stand before what.
use Rattle.std.proofs.Common.{◌≡◌, ℕ, zero, suc, ◌-◌, ◌^◌, ◌<◌, ◌≤◌, max, Bool, true, false, cond, List, length, get_or, refl, sym, ap, subst, ◌∙◌, inl, inr, ◌⊎◌, arith, bit_and, eqb, Option, Some, None}
use Rattle.std.proofs.lemmas.Bool.{cases_lt, cases_eq, ne_eqb}
use Rattle.std.specs.Option.{MatchOption}
use Rattle.t1_event.specs.declared.item.Item.{Item}
use Rattle.t1_event.specs.declared.item.ItemKind.{ItemKind}
use Rattle.t1_event.specs.declared.item.ItemKind.TheVariants.{Fetch, Load, Store, Atomic, Membar, Flush}
use Rattle.t1_event.specs.Kinds.{is_read, is_write, is_access, IsWrite}
use Rattle.t1_check.specs.declared.rules.Rule.{Rule}
use Rattle.t1_check.specs.declared.rules.Rule.TheVariants.{LoadOp, StoreStore, Barrier}
use Rattle.t1_check.specs.Crossing.{IsUncrossed, IsFirstCrossing}
use Rattle.t1_check.specs.Positions.{item_of}
use Rattle.t1_check.specs.Bounds.{is_barrier, bound_of, goal_of, high_at, AreBounds, AreGoals}
use Rattle.t1_check.specs.Rules.{Binds, IsCross, IsObeyed, IsFirstCross}

barrier_true : (k : ItemKind) (mask : ℕ) → (k ≡ Flush) ⊎ ((k ≡ Membar) × (bit_and mask 0x62 ≡ 0 → ⊥)) → is_barrier k mask ≡ true
barrier_true k mask (inl e) = ap (λ (q : ItemKind). is_barrier q mask) e
barrier_true k mask (inr p) = ap (λ (q : ItemKind). is_barrier q mask) p.0 ∙ (let f : eqb (bit_and mask 0x62) 0 ≡ false = ne_eqb _ _ p.1 in rw f refl)

true_barrier : (k : ItemKind) (mask : ℕ) → is_barrier k mask ≡ true → (k ≡ Flush) ⊎ ((k ≡ Membar) × (bit_and mask 0x62 ≡ 0 → ⊥))
true_barrier Flush mask e = inl refl
true_barrier Membar mask e = inr (refl, λ z. let f : is_barrier Membar mask ≡ false = rw z refl in absurd (let bad : true ≡ false = sym e ∙ f in cc))
true_barrier Fetch mask e = cc
true_barrier Load mask e = cc
true_barrier Store mask e = cc
true_barrier (Atomic w) mask e = cc

-- a number above 0, or below the greatest, passed its test
above : (b : Bool) (x n : ℕ) → n < cond b x 0 → (b ≡ true) × (cond b x 0 ≡ x)
above true x n l = (refl, refl)
above false x n l = absurd (omega (arith, l))

under : (b : Bool) (x n : ℕ) → n ≤ 2 ^ 64 - 1 → cond b x (2 ^ 64 - 1) < n → (b ≡ true) × (cond b x (2 ^ 64 - 1) ≡ x)
under true x n m l = (refl, refl)
under false x n m l = absurd (omega (arith, l, m))

-- ---- the greatest position of an earlier write

high_go : (h p : ℕ) (b : Bool) → h ≤ cond b (max h p) h
high_go h p true = omega arith
high_go h p false = omega arith

high_up : (items : List Item) (row : List ℕ) (i w : ℕ) → w < i → IsWrite (item_of items w).kind → get_or row w 0 ≤ high_at items row i
high_up items row zero w l a = absurd (omega (arith, l))
high_up items row (suc i) w l a =
    elim (cases_eq w i) [
      | inl e ↦
          let t : is_write (item_of items i).kind ≡ true = subst (λ (n : ℕ). IsWrite (item_of items n).kind) e a in
          let q : get_or row w 0 ≡ get_or row i 0 = ap (λ (n : ℕ). get_or row n 0) e in
          rw t (omega (arith, q))
      | inr e ↦
          let before = high_up items row i w (omega (arith, l, e)) a in
          let more = high_go (high_at items row i) (get_or row i 0) (is_write (item_of items i).kind) in
          omega (arith, before, more)
    ]

record IsHigh (items : List Item) (row : List ℕ) (i v : ℕ) : Type 0 where
  w : ℕ
  below : w < i
  write : IsWrite (item_of items w).kind
  is : get_or row w 0 ≡ v

high_step : (items : List Item) (row : List ℕ) (i : ℕ) (b : Bool) → is_write (item_of items i).kind ≡ b → (0 < high_at items row i → IsHigh items row i (high_at items row i))
    → 0 < cond b (max (high_at items row i) (get_or row i 0)) (high_at items row i) → IsHigh items row (suc i) (cond b (max (high_at items row i) (get_or row i 0)) (high_at items row i))
high_step items row i false e before l = let r = before l in record { w = r.w; below = omega (arith, r.below); write = r.write; is = r.is }
high_step items row i true e before l =
    elim (cases_lt (high_at items row i) (get_or row i 0)) [
      | inl lt ↦ record { w = i; below = omega arith; write = e; is = omega (arith, lt) }
      | inr le ↦ let r = before (omega (arith, le, l)) in record { w = r.w; below = omega (arith, r.below); write = r.write; is = omega (arith, r.is, le) }
    ]

high_down : (items : List Item) (row : List ℕ) (i : ℕ) → 0 < high_at items row i → IsHigh items row i (high_at items row i)
high_down items row zero l = absurd (omega (arith, l))
high_down items row (suc i) l = high_step items row i (is_write (item_of items i).kind) refl (high_down items row i) l

-- ---- a rule, and its numbers

bound_up : (rule : Rule) (items : List Item) (row : List ℕ) (w i j : ℕ) → Binds rule items w i j → get_or row w 0 ≤ bound_of rule (high_at items row i) (item_of items i) (get_or row i 0)
bound_up LoadOp items row w i j b = rw b.1 (let q : get_or row w 0 ≡ get_or row i 0 = ap (λ (n : ℕ). get_or row n 0) b.0 in omega (arith, q))
bound_up StoreStore items row w i j b = rw b.1 (let q : get_or row w 0 ≡ get_or row i 0 = ap (λ (n : ℕ). get_or row n 0) b.0 in omega (arith, q))
bound_up Barrier items row w i j b = rw (barrier_true _ _ b.2) (high_up items row i w b.0 b.1)

goal_up : (rule : Rule) (items : List Item) (row : List ℕ) (w i j : ℕ) → Binds rule items w i j → goal_of rule (item_of items j) (get_or row j 0) ≡ get_or row j 0
goal_up LoadOp items row w i j b = rw b.2 refl
goal_up StoreStore items row w i j b = rw b.2 refl
goal_up Barrier items row w i j b = rw b.3 refl

-- where a goal lies below a bound, an item stands wrong
record IsBound (rule : Rule) (items : List Item) (row : List ℕ) (i j : ℕ) : Type 0 where
  w : ℕ
  binds : Binds rule items w i j
  bound : get_or row w 0 ≡ bound_of rule (high_at items row i) (item_of items i) (get_or row i 0)
  goal : goal_of rule (item_of items j) (get_or row j 0) ≡ get_or row j 0

bound_down : (rule : Rule) (items : List Item) (row : List ℕ) (i j : ℕ) → bound_of rule (high_at items row i) (item_of items i) (get_or row i 0) ≤ 2 ^ 64 - 1
    → goal_of rule (item_of items j) (get_or row j 0) < bound_of rule (high_at items row i) (item_of items i) (get_or row i 0) → IsBound rule items row i j
bound_down LoadOp items row i j m l =
    let a = above (is_read (item_of items i).kind) (get_or row i 0) (goal_of LoadOp (item_of items j) (get_or row j 0)) l in
    let g = under (is_access (item_of items j).kind) (get_or row j 0) (bound_of LoadOp (high_at items row i) (item_of items i) (get_or row i 0)) m l in
    record { w = i; binds = (refl, a.0, g.0); bound = sym a.1; goal = g.1 }
bound_down StoreStore items row i j m l =
    let a = above (is_write (item_of items i).kind) (get_or row i 0) (goal_of StoreStore (item_of items j) (get_or row j 0)) l in
    let g = under (is_write (item_of items j).kind) (get_or row j 0) (bound_of StoreStore (high_at items row i) (item_of items i) (get_or row i 0)) m l in
    record { w = i; binds = (refl, a.0, g.0); bound = sym a.1; goal = g.1 }
bound_down Barrier items row i j m l =
    let a = above (is_barrier (item_of items i).kind (item_of items i).size) (high_at items row i) (goal_of Barrier (item_of items j) (get_or row j 0)) l in
    let g = under (is_read (item_of items j).kind) (get_or row j 0) (bound_of Barrier (high_at items row i) (item_of items i) (get_or row i 0)) m l in
    let h = high_down items row i (omega (arith, a.1, l)) in
    record { w = h.w; binds = (h.below, h.write, true_barrier _ _ a.0, g.0); bound = h.is ∙ sym a.1; goal = g.1 }

-- ---- bounds are numbers of 64 bits

fits_go : (h p : ℕ) (b : Bool) → h ≤ 2 ^ 64 - 1 → p ≤ 2 ^ 64 - 1 → cond b (max h p) h ≤ 2 ^ 64 - 1
fits_go h p true a q = omega (arith, a, q)
fits_go h p false a q = a

high_fits : (items : List Item) (row : List ℕ) → ((i : ℕ) → get_or row i 0 ≤ 2 ^ 64 - 1) → (i : ℕ) → high_at items row i ≤ 2 ^ 64 - 1
high_fits items row f zero = omega arith
high_fits items row f (suc i) = fits_go (high_at items row i) (get_or row i 0) (is_write (item_of items i).kind) (high_fits items row f i) (f i)

cond_fits : (b : Bool) (x : ℕ) → x ≤ 2 ^ 64 - 1 → cond b x 0 ≤ 2 ^ 64 - 1
cond_fits true x l = l
cond_fits false x l = omega arith

bound_fits : (rule : Rule) (items : List Item) (row : List ℕ) → ((i : ℕ) → get_or row i 0 ≤ 2 ^ 64 - 1) → (i : ℕ) → bound_of rule (high_at items row i) (item_of items i) (get_or row i 0) ≤ 2 ^ 64 - 1
bound_fits LoadOp items row f i = cond_fits (is_read (item_of items i).kind) (get_or row i 0) (f i)
bound_fits StoreStore items row f i = cond_fits (is_write (item_of items i).kind) (get_or row i 0) (f i)
bound_fits Barrier items row f i = cond_fits (is_barrier (item_of items i).kind (item_of items i).size) (high_at items row i) (high_fits items row f i)

-- ---- the first crossing is the first fault

pub record AreNumbers (rule : Rule) (items : List Item) (row bounds goals : List ℕ) : Type 0 where
  pub bounds_len : length bounds ≡ length items
  pub goals_len : length goals ≡ length items
  pub each_bound : AreBounds rule items row bounds (length items)
  pub each_goal : AreGoals rule items row goals (length items)
  pub fits : (i : ℕ) → get_or row i 0 ≤ 2 ^ 64 - 1

cross_up : (rule : Rule) (items : List Item) (row bs gs : List ℕ) (n : AreNumbers rule items row bs gs) (i j : ℕ) → IsCross rule items row i j → get_or gs j 0 < get_or bs i 0
cross_up rule items row bs gs n i j c =
    let b = n.each_bound i (omega (arith, c.later, c.within)) in
    let g = n.each_goal j c.within in
    let up = bound_up rule items row c.w i j c.binds in
    let to = goal_up rule items row c.w i j c.binds in
    omega (arith, b, g, up, to, c.below)

cross_down : (rule : Rule) (items : List Item) (row bs gs : List ℕ) (n : AreNumbers rule items row bs gs) (i j : ℕ) → i < j → j < length items → get_or gs j 0 < get_or bs i 0 → IsCross rule items row i j
cross_down rule items row bs gs n i j o l below =
    let b = n.each_bound i (omega (arith, o, l)) in
    let g = n.each_goal j l in
    let r = bound_down rule items row i j (bound_fits rule items row n.fits i) (omega (arith, b, g, below)) in
    record { w = r.w; later = o; within = l; binds = r.binds; below = omega (arith, r.bound, r.goal, b, g, below) }

obeyed : (rule : Rule) (items : List Item) (row bs gs : List ℕ) → AreNumbers rule items row bs gs → IsUncrossed bs gs → IsObeyed rule items row
obeyed rule items row bs gs n u i j c =
    let up = cross_up rule items row bs gs n i j c in
    let no = u i j c.later (omega (arith, n.goals_len, c.within)) in
    omega (arith, up, no)

first_cross : (rule : Rule) (items : List Item) (row bs gs : List ℕ) → AreNumbers rule items row bs gs → (i j : ℕ) → IsFirstCrossing bs gs i j → IsFirstCross rule items row i j
first_cross rule items row bs gs n i j f = record {
  cross = cross_down rule items row bs gs n i j (omega (arith, f.goal.after)) (omega (arith, f.goal.within, n.goals_len)) f.goal.below;
  least = λ a b l c. (
      let up = cross_up rule items row bs gs n a b c in
      let no = f.least a b l c.later (omega (arith, n.goals_len, c.within)) in
      omega (arith, up, no)
      );
  next = λ b l c. (
      let up = cross_up rule items row bs gs n i b c in
      let no = f.goal.first b (omega (arith, c.later)) l in
      omega (arith, up, no)
      );
}

pub strand_means : (rule : Rule) (items : List Item) (row bs gs : List ℕ) → AreNumbers rule items row bs gs → (r : Option (ℕ × ℕ))
    → MatchOption r (IsUncrossed bs gs) (λ p. IsFirstCrossing bs gs p.0 p.1) → MatchOption r (IsObeyed rule items row) (λ p. IsFirstCross rule items row p.0 p.1)
strand_means rule items row bs gs n None h = obeyed rule items row bs gs n h
strand_means rule items row bs gs n (Some p) h = first_cross rule items row bs gs n p.0 p.1 h
