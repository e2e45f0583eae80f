-- Positions say what stands before what.
use Rattle.std.proofs.Common.{◌≡◌, ℕ, zero, suc, ◌<◌, List, [], length, get_or, Some, refl, sym, ap, subst, ◌∙◌, inl, inr, arith}
use Rattle.std.proofs.lemmas.Bool.{cases_order, cases_lt}
use Rattle.std.proofs.lemmas.Option.{slice_get_within, slice_get-get_or, get_or_from_slice_get, same_Some}
use Rattle.std.proofs.lemmas.List.{get_or_past}
use Rattle.std.specs.List.{slice_get}
use Rattle.t1_event.specs.declared.item.Item.{Item}
use Rattle.t1_event.specs.declared.item.ItemKind.{ItemKind}
use Rattle.t1_event.specs.declared.item.ItemKind.TheVariants.{Fetch, Load, Store, Atomic, Membar, Flush}
use Rattle.t1_event.specs.declared.report.Place.{Place}
use Rattle.t1_event.specs.Kinds.{IsAccess, IsRead, IsWrite, IsChanging}
use Rattle.t1_event.specs.Items.{IsBarrier}
use Rattle.t1_event.specs.Order.{Act, place_of, Before, IsListing}
use Rattle.t1_check.specs.declared.rules.Rule.{Rule}
use Rattle.t1_check.specs.declared.rules.Rule.TheVariants as rule
use Rattle.t1_check.specs.Table.{cell}
use Rattle.t1_check.specs.Positions.{item_of, no_item, IsTold}
use Rattle.t1_check.specs.Rules.{AreObeyed, IsCross, IsFaultAt}
use Rattle.t1_check.specs.Verdicts.{RuleHolds, IsCrossed, IsFirstCrossed}

pub read_access : (k : ItemKind) → IsRead k → IsAccess k
read_access Fetch a = refl
read_access Load a = refl
read_access (Atomic w) a = refl
read_access Store a = cc
read_access Membar a = cc
read_access Flush a = cc

pub write_access : (k : ItemKind) → IsWrite k → IsAccess k
write_access Store a = refl
write_access (Atomic w) a = refl
write_access Fetch a = cc
write_access Load a = cc
write_access Membar a = cc
write_access Flush a = cc

pub changing_access : (k : ItemKind) → IsChanging k → IsAccess k
changing_access Store a = refl
changing_access (Atomic w) a = refl
changing_access Fetch a = cc
changing_access Load a = cc
changing_access Membar a = cc
changing_access Flush a = cc

pub strand_within : (traces : List (List Item)) (s i : ℕ) (x : Item) → slice_get (get_or traces s []) i ≡ Some x → s < length traces
strand_within traces s i x e =
    elim (cases_lt s (length traces)) [
      | inl l ↦ l
      | inr l ↦ absurd (
          let none : length (get_or traces s []) ≡ 0 = ap length (get_or_past traces s [] l) in
          let here = slice_get_within (get_or traces s []) i x e in
          omega (arith, none, here)
          )
    ]

-- the position of an act, and its line
pub record IsAt {traces : List (List Item)} (order : List Place) (table : List (List ℕ)) (x : Act traces) : Type 0 where
  pub line : ℕ
  pub within : line < length order
  pub is : slice_get order line ≡ Some (place_of x)
  pub told : cell table x.strand x.number ≡ suc line

-- an item as the rules name it
abbrev pub act_of : {traces : List (List Item)} (s i : ℕ) → i < length (get_or traces s []) → Act traces
act_of {traces} s i l = record { strand = s; number = i; item = item_of (get_or traces s []) i; stands = slice_get-get_or (get_or traces s []) i no_item l }

module _ (traces : List (List Item)) (order : List Place) (table : List (List ℕ)) (t : IsTold traces order table) where
  pub told_at : (x : Act traces) (k : ℕ) → slice_get order k ≡ Some (place_of x) → cell table x.strand x.number ≡ suc k
  told_at x k e = t.marked.kept k (place_of x) (slice_get_within order k (place_of x) e) e

  at_go : (x : Act traces) (n : ℕ) → cell table x.strand x.number ≡ n → (n ≡ 0 → ⊥) → IsAt order table x
  at_go x zero e h = absurd (h refl)
  at_go x (suc k) e h =
      let f = t.marked.found x.strand x.number k e in
      record { line = k; within = f.0; is = f.1; told = e }

  pub is_at : (x : Act traces) → IsAccess x.item.kind → IsAt order table x
  is_at x a =
      at_go x (cell table x.strand x.number) refl
      (λ z. t.placed x.strand (strand_within traces x.strand x.number x.item x.stands) x.number x.item (slice_get_within _ x.number x.item x.stands) x.stands a z)

  pub before_cell : (x y : Act traces) → Before order x y → cell table x.strand x.number < cell table y.strand y.number
  before_cell x y b = omega (arith, told_at x b.first b.at_first, told_at y b.second b.at_second, b.ascends)

  pub cell_before : (x y : Act traces) → IsAccess x.item.kind → IsAccess y.item.kind → cell table x.strand x.number < cell table y.strand y.number → Before order x y
  cell_before x y ax ay l =
      let p = is_at x ax in
      let q = is_at y ay in
      record { first = p.line; second = q.line; ascends = omega (arith, p.told, q.told, l); at_first = p.is; at_second = q.is }

  pub same_cell : (x y : Act traces) → IsAccess x.item.kind → IsAccess y.item.kind → cell table x.strand x.number ≡ cell table y.strand y.number → place_of x ≡ place_of y
  same_cell x y ax ay e =
      let p = is_at x ax in
      let q = is_at y ay in
      let k : p.line ≡ q.line = omega (arith, p.told, q.told, e) in
      same_Some (place_of x) (place_of y) (sym p.is ∙ (ap (λ (n : ℕ). slice_get order n) k ∙ q.is))

  pub listing : IsListing traces order
  listing = record {
    all = λ x a. (let p = is_at x a in (p.line, p.is));
    only = λ k p e. t.marked.access k p (slice_get_within order k p e) e;
    once = λ j k p e f. (
        let a = t.marked.kept j p (slice_get_within order j p e) e in
        let b = t.marked.kept k p (slice_get_within order k p f) f in
        omega (arith, a, b)
        );
  }

  -- the item of an act, as the rules name it
  pub named : (x : Act traces) → item_of (get_or traces x.strand []) x.number ≡ x.item
  named x = get_or_from_slice_get (get_or traces x.strand []) x.number x.item no_item x.stands

  -- of an earlier item of the same strand
  kind_of : (P : Item → Type 0) (x y : Act traces) → x.strand ≡ y.strand → P x.item → P (item_of (get_or traces y.strand []) x.number)
  kind_of P x y s p = subst (λ (n : ℕ). P (item_of (get_or traces n []) x.number)) s (subst P (sym (named x)) p)

  -- an access that does not stand before a later one of its strand stands behind it
  behind : (w y : Act traces) → w.strand ≡ y.strand → w.number < y.number → IsAccess w.item.kind → IsAccess y.item.kind → (Before order w y → ⊥)
      → cell table y.strand y.number < cell table y.strand w.number
  behind w y s l aw ay never =
      elim (cases_order (cell table w.strand w.number) (cell table y.strand y.number)) [
        | inl e ↦ absurd (let p = same_cell w y aw ay e in let q : w.number ≡ y.number = ap (λ (r : Place). r.item) p in omega (arith, q, l))
        | inr (inl lt) ↦ absurd (never (cell_before w y aw ay lt))
        | inr (inr gt) ↦ subst (λ (n : ℕ). cell table y.strand y.number < cell table n w.number) s gt
      ]

  not_both : (x y : Act traces) → cell table y.strand y.number < cell table x.strand x.number → Before order x y → ⊥
  not_both x y l b = let c = before_cell x y b in omega (arith, c, l)

  -- a pair that is crossed, by positions
  pub cross_of : (r : Rule) (x y : Act traces) → IsCrossed r order x y → IsCross r (get_or traces y.strand []) (get_or table y.strand []) x.number y.number
  cross_of rule.LoadOp x y c = record {
    w = x.number;
    later = c.0.number;
    within = slice_get_within _ y.number y.item y.stands;
    binds = (refl, kind_of (λ i. IsRead i.kind) x y c.0.strand c.1, subst (λ (i : Item). IsAccess i.kind) (sym (named y)) c.2);
    below = behind x y c.0.strand c.0.number (read_access x.item.kind c.1) c.2 c.3;
  }
  cross_of rule.StoreStore x y c = record {
    w = x.number;
    later = c.0.number;
    within = slice_get_within _ y.number y.item y.stands;
    binds = (refl, kind_of (λ i. IsWrite i.kind) x y c.0.strand c.1, subst (λ (i : Item). IsWrite i.kind) (sym (named y)) c.2);
    below = behind x y c.0.strand c.0.number (write_access x.item.kind c.1) (write_access y.item.kind c.2) c.3;
  }
  cross_of rule.Barrier x y c =
      let w = c.3.0 in
      let s : w.strand ≡ y.strand = c.3.1.strand ∙ c.0.strand in
      record {
        w = w.number;
        later = c.0.number;
        within = slice_get_within _ y.number y.item y.stands;
        binds = (c.3.1.number, kind_of (λ i. IsWrite i.kind) w y s c.3.2, kind_of (λ i. IsBarrier i) x y c.0.strand c.1, subst (λ (i : Item). IsRead i.kind) (sym (named y)) c.2);
        below = behind w y s (omega (arith, c.3.1.number, c.0.number)) (write_access w.item.kind c.3.2) (read_access y.item.kind c.2) c.3.3;
      }

  first_of : (r : Rule) (s i j : ℕ) (c : IsCross r (get_or traces s []) (get_or table s []) i j) → Act traces
  first_of r s i j c = act_of s i (omega (arith, c.later, c.within))

  -- and the other way round
  crossed_of : (r : Rule) (s i j : ℕ) (c : IsCross r (get_or traces s []) (get_or table s []) i j) (li : i < length (get_or traces s [])) (lj : j < length (get_or traces s []))
      → IsCrossed r order (act_of s i li) (act_of s j lj)
  crossed_of rule.LoadOp s i j c li lj = (
    record { strand = refl; number = c.later },
    c.binds.1,
    c.binds.2,
    not_both (act_of s i li) (act_of s j lj) (subst (λ (n : ℕ). cell table s j < cell table s n) c.binds.0 c.below),
  )
  crossed_of rule.StoreStore s i j c li lj = (
    record { strand = refl; number = c.later },
    c.binds.1,
    c.binds.2,
    not_both (act_of s i li) (act_of s j lj) (subst (λ (n : ℕ). cell table s j < cell table s n) c.binds.0 c.below),
  )
  crossed_of rule.Barrier s i j c li lj = (
    record { strand = refl; number = c.later },
    c.binds.2,
    c.binds.3,
    (act_of s c.w (omega (arith, c.binds.0, li)), record { strand = refl; number = c.binds.0 }, c.binds.1, not_both (act_of s c.w (omega (arith, c.binds.0, li))) (act_of s j lj) c.below),
  )

  -- ---- a rule that each strand obeys holds

  never_crossed : (r : Rule) → AreObeyed r traces table (length traces) → (x y : Act traces) → IsCrossed r order x y → ⊥
  never_crossed r o x y c = o y.strand (strand_within traces y.strand y.number y.item y.stands) x.number y.number (cross_of r x y c)

  -- two accesses of which the first cannot fail to stand before the second
  stands_before : (x y : Act traces) → x.strand ≡ y.strand → x.number < y.number → IsAccess x.item.kind → IsAccess y.item.kind → ((Before order x y → ⊥) → ⊥) → Before order x y
  stands_before x y s l ax ay h =
      elim (cases_order (cell table x.strand x.number) (cell table y.strand y.number)) [
        | inl e ↦ absurd (let p = same_cell x y ax ay e in let q : x.number ≡ y.number = ap (λ (r : Place). r.item) p in omega (arith, q, l))
        | inr (inl lt) ↦ cell_before x y ax ay lt
        | inr (inr gt) ↦ absurd (h (not_both x y gt))
      ]

  pub rule_holds : (r : Rule) → AreObeyed r traces table (length traces) → RuleHolds r traces order
  rule_holds rule.LoadOp o = λ x y e r a. stands_before x y e.strand e.number (read_access x.item.kind r) a (λ n. never_crossed rule.LoadOp o x y (e, r, a, n))
  rule_holds rule.StoreStore o = λ x y e v w. stands_before x y e.strand e.number (write_access x.item.kind v) (write_access y.item.kind w) (λ n. never_crossed rule.StoreStore o x y (e, v, w, n))
  rule_holds rule.Barrier o = λ x b y e f wx fb ry.
      stands_before x y (e.strand ∙ f.strand) (omega (arith, e.number, f.number)) (write_access x.item.kind wx) (read_access y.item.kind ry)
      (λ n. never_crossed rule.Barrier o b y (f, fb, ry, (x, e, wx, n)))

  -- ---- the first fault by positions is the first that is crossed

  pub first_crossed : (r : Rule) (p q : Place) → IsFaultAt r traces table p q → IsFirstCrossed r traces order p q
  first_crossed r p q f =
      let c = f.fault.here.cross in
      let li : p.item < length (get_or traces p.strand []) = omega (arith, c.later, c.within) in
      record {
        x = act_of p.strand p.item li;
        y = act_of p.strand q.item c.within;
        first_is = refl;
        second_is = ap (λ (s : ℕ). record { strand = s; item = q.item }) (sym f.strand);
        crossed = crossed_of r p.strand p.item q.item c li c.within;
        least = λ v w below cr. (
            let d = cross_of r v w cr in
            let s : v.strand ≡ w.strand = same_strand r v w cr in
            elim below [
              | inl l ↦ f.fault.before w.strand (omega (arith, s, l)) v.number w.number d
              | inr e ↦ f.fault.here.least v.number w.number e.1 (subst (λ (n : ℕ). IsCross r (get_or traces n []) (get_or table n []) v.number w.number) (sym s ∙ e.0) d)
            ]
            );
        next = λ w l cr. (
            let d = cross_of r (act_of p.strand p.item li) w cr in
            let s : p.strand ≡ w.strand = same_strand r (act_of p.strand p.item li) w cr in
            f.fault.here.next w.number l (subst (λ (n : ℕ). IsCross r (get_or traces n []) (get_or table n []) p.item w.number) (sym s) d)
            );
      }
    where
      same_strand : (r : Rule) (v w : Act traces) → IsCrossed r order v w → v.strand ≡ w.strand
      same_strand rule.LoadOp v w c = c.0.strand
      same_strand rule.StoreStore v w c = c.0.strand
      same_strand rule.Barrier v w c = c.0.strand
