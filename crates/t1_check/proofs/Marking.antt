-- Lines of an order are marked one after another.
use Rattle.std.proofs.Common.{◌≡◌, ℕ, zero, suc, ◌+◌, ◌<◌, ◌≤◌, List, [], length, get_or, set, Some, None, refl, sym, ap, ◌∙◌, subst, inl, inr, ◌⊎◌, arith, Bool, false, true}
use Rattle.std.proofs.lemmas.Bool.{cases_eq, cases_lt}
use Rattle.std.proofs.lemmas.List.{length-set, get_or_past}
use Rattle.std.proofs.lemmas.Option.{slice_get_within, same_Some, none-some}
use Rattle.std.specs.Bool.{MatchBool}
use Rattle.std.specs.List.{slice_get}
use Rattle.t1_event.specs.declared.item.Item.{Item}
use Rattle.t1_event.specs.declared.report.Place.{Place}
use Rattle.t1_event.specs.Kinds.{is_access, IsAccess}
use Rattle.t1_event.specs.Order.{Act}
use Rattle.t1_check.specs.Table.{cell}
use Rattle.t1_check.specs.Places.{NamesAccess, IsBadLine, IsFirstBadLine, IsMissing, IsLeastMissing, IsUnlisted}
use Rattle.t1_check.specs.Positions.{HasCells, IsBlank, IsMarked, IsFirstMissing}
use Rattle.t1_check.proofs.Tables.{cell_set, row_length, zeros_at, zeros_length}

-- ---- places and the accesses that they name

-- the item of a place that names an access
pub names : (traces : List (List Item)) (p : Place) → NamesAccess traces p → (x : Item) × (slice_get (get_or traces p.strand []) p.item ≡ Some x) × IsAccess x.kind
names traces p n =
    let s : n.0.strand ≡ p.strand = ap (λ (r : Place). r.strand) n.2 in
    let i : n.0.number ≡ p.item = ap (λ (r : Place). r.item) n.2 in
    (n.0.item, rw (← s, ← i) n.0.stands, n.1)

pub named : (traces : List (List Item)) (p : Place) (x : Item) → slice_get (get_or traces p.strand []) p.item ≡ Some x → IsAccess x.kind → NamesAccess traces p
named traces p x e a = (record { strand = p.strand; number = p.item; item = x; stands = e }, a, refl)

pub unnamed_none : (traces : List (List Item)) (p : Place) → slice_get (get_or traces p.strand []) p.item ≡ None → NamesAccess traces p → ⊥
unnamed_none traces p e n = let f = names traces p n in none-some f.0 (sym e ∙ f.1)

pub unnamed_other : (traces : List (List Item)) (p : Place) (x : Item) → slice_get (get_or traces p.strand []) p.item ≡ Some x → is_access x.kind ≡ false → NamesAccess traces p → ⊥
unnamed_other traces p x e f n =
    let g = names traces p n in
    let same : x ≡ g.0 = same_Some x g.0 (sym e ∙ g.1) in
    absurd (let bad : false ≡ true = sym f ∙ (ap (λ (y : Item). is_access y.kind) same ∙ g.2) in cc)

pub names_bool : (traces : List (List Item)) (p : Place) (x : Item) (b : Bool) → slice_get (get_or traces p.strand []) p.item ≡ Some x → b ≡ is_access x.kind
    → MatchBool b (NamesAccess traces p) (NamesAccess traces p → ⊥)
names_bool traces p x true e f = named traces p x e (sym f)
names_bool traces p x false e f = unnamed_other traces p x e (sym f)

-- ---- one line more

pub marked_more : (traces : List (List Item)) (order : List Place) (k : ℕ) (t : List (List ℕ)) (p : Place)
    → IsMarked traces order k t → slice_get order k ≡ Some p → NamesAccess traces p
    → p.strand < length t → p.item < length (get_or t p.strand []) → cell t p.strand p.item ≡ 0
    → IsMarked traces order (k + 1) (set t p.strand (set (get_or t p.strand []) p.item (k + 1)))
marked_more traces order k t p m is access hs hi free = record {
  has = record {
    rows = length-set t p.strand (set (get_or t p.strand []) p.item (k + 1)) ∙ m.has.rows;
    cells = λ s. row_length t p.strand p.item (k + 1) s hs ∙ m.has.cells s;
  };
  found = λ s i j e. elim (cell_set t p.strand p.item (k + 1) s i hs hi) [
    | inl c ↦
        let j-is : j ≡ k = omega (arith, c.2, e) in
        let q : record { strand = s; item = i } ≡ p = ap (λ (a : ℕ). record { strand = a; item = i }) c.0 ∙ ap (λ (b : ℕ). record { strand = p.strand; item = b }) c.1 in
        (omega (arith, j-is), ap (λ (n : ℕ). slice_get order n) j-is ∙ (is ∙ ap (λ (r : Place). Some r) (sym q)))
    | inr c ↦ let f = m.found s i j (sym c.1 ∙ e) in (omega (arith, f.0), f.1)
  ];
  kept = λ j q l e. elim (cases_eq j k) [
    | inl same ↦
        let q-is : p ≡ q = same_Some p q (sym is ∙ (ap (λ (n : ℕ). slice_get order n) (sym same) ∙ e)) in
        elim (cell_set t p.strand p.item (k + 1) q.strand q.item hs hi) [
          | inl c ↦ omega (arith, c.2, same)
          | inr c ↦ absurd (c.0 (ap (λ (r : Place). r.strand) (sym q-is), ap (λ (r : Place). r.item) (sym q-is)))
        ]
    | inr other ↦
        let kept = m.kept j q (omega (arith, l, other)) e in
        elim (cell_set t p.strand p.item (k + 1) q.strand q.item hs hi) [
          | inl c ↦
              let zero-is : cell t q.strand q.item ≡ 0 = rw (c.0, c.1) free in
              absurd (omega (arith, kept, zero-is))
          | inr c ↦ c.1 ∙ kept
        ]
  ];
  access = λ j q l e. elim (cases_eq j k) [
    | inl same ↦
        let q-is : p ≡ q = same_Some p q (sym is ∙ (ap (λ (n : ℕ). slice_get order n) (sym same) ∙ e)) in
        subst (λ (r : Place). NamesAccess traces r) q-is access
    | inr other ↦ m.access j q (omega (arith, l, other)) e
  ];
}

-- the cell of a place that names an access
pub within_cells : (traces : List (List Item)) (t : List (List ℕ)) (p : Place) → HasCells traces t → NamesAccess traces p
    → (p.strand < length t) × (p.item < length (get_or t p.strand []))
within_cells traces t p has n =
    let f = names traces p n in
    let here : p.item < length (get_or traces p.strand []) = slice_get_within _ _ _ f.1 in
    let inner : p.item < length (get_or t p.strand []) = omega (arith, has.cells p.strand, here) in
    elim (cases_lt p.strand (length t)) [
      | inl l ↦ (l, inner)
      | inr l ↦ absurd (let none : length (get_or t p.strand []) ≡ 0 = ap length (get_or_past t p.strand [] l) in omega (arith, none, inner))
    ]

repeats_go : (traces : List (List Item)) (order : List Place) (k : ℕ) (t : List (List ℕ)) (p : Place) → IsMarked traces order k t → (c : ℕ) → cell t p.strand p.item ≡ c → (c ≡ 0 → ⊥)
    → (j : ℕ) × (j < k) × (slice_get order j ≡ Some p)
repeats_go traces order k t p m zero e n = absurd (n refl)
repeats_go traces order k t p m (suc j) e n = let f = m.found p.strand p.item j e in (j, f.0, f.1)

-- a place that has a position already
pub repeats : (traces : List (List Item)) (order : List Place) (k : ℕ) (t : List (List ℕ)) (p : Place) → IsMarked traces order k t → (cell t p.strand p.item ≡ 0 → ⊥)
    → (j : ℕ) × (j < k) × (slice_get order j ≡ Some p)
repeats traces order k t p m n = repeats_go traces order k t p m (cell t p.strand p.item) refl n

pub blank_marked : (traces : List (List Item)) (order : List Place) (t : List (List ℕ)) → IsBlank traces t (length traces) → IsMarked traces order 0 t
blank_marked traces order t b = record {
  has = record { rows = b.rows; cells = λ s. cells s (cases_lt s (length traces)) };
  found = λ s i j f. absurd (let z = zero_at s i (cases_lt s (length traces)) in omega (arith, z, f));
  kept = λ j p l. absurd (omega (arith, l));
  access = λ j p l. absurd (omega (arith, l));
}
  where
    cells : (s : ℕ) → (s < length traces) ⊎ (length traces ≤ s) → length (get_or t s []) ≡ length (get_or traces s [])
    cells s (inl l) = ap length (b.zeros s l) ∙ zeros_length (length (get_or traces s []))
    cells s (inr l) = ap length (get_or_past t s [] (omega (arith, b.rows, l))) ∙ sym (ap length (get_or_past traces s [] l))

    zero_at : (s i : ℕ) → (s < length traces) ⊎ (length traces ≤ s) → cell t s i ≡ 0
    zero_at s i (inl l) = ap (λ (r : List ℕ). get_or r i 0) (b.zeros s l) ∙ zeros_at (length (get_or traces s [])) i
    zero_at s i (inr l) = ap (λ (r : List ℕ). get_or r i 0) (get_or_past t s [] (omega (arith, b.rows, l)))

-- ---- bad lines

-- no line that is marked is bad
pub marked_good : (traces : List (List Item)) (order : List Place) (k : ℕ) (t : List (List ℕ)) → IsMarked traces order k t → (j : ℕ) → j < k → IsBadLine traces order j → ⊥
marked_good traces order k t m j l b =
    elim b.bad [
      | inl n ↦ n (m.access j b.place l b.is)
      | inr r ↦
          let first = m.kept r.0 b.place (omega (arith, r.1, l)) r.2 in
          let second = m.kept j b.place l b.is in
          omega (arith, first, second, r.1)
    ]

pub first_bad : (traces : List (List Item)) (order : List Place) (k : ℕ) (t : List (List ℕ)) (p : Place) → IsMarked traces order k t → slice_get order k ≡ Some p
    → IsBadLine traces order k → IsFirstBadLine traces order p
first_bad traces order k t p m is bad = record {
  line = k;
  bad = bad;
  is = same_Some bad.place p (sym bad.is ∙ is);
  first = marked_good traces order k t m;
}

-- ---- missing accesses

strand_within : (traces : List (List Item)) (s i : ℕ) (x : Item) → slice_get (get_or traces s []) i ≡ Some x → s < length traces
strand_within traces s i x e =
    elim (cases_lt s (length traces)) [
      | inl l ↦ l
      | inr l ↦ absurd (
          let none : length (get_or traces s []) ≡ 0 = ap length (get_or_past traces s [] l) in
          let here = slice_get_within (get_or traces s []) i x e in
          omega (arith, none, here)
          )
    ]

missing_cell : (traces : List (List Item)) (order : List Place) (t : List (List ℕ)) → IsMarked traces order (length order) t
    → (x : Act traces) → IsMissing order x → cell t x.strand x.number ≡ 0
missing_cell traces order t m x miss = go (cell t x.strand x.number) refl
  where
    go : (c : ℕ) → cell t x.strand x.number ≡ c → cell t x.strand x.number ≡ 0
    go zero e = e
    go (suc j) e = absurd (miss.nowhere j (m.found x.strand x.number j e).1)

-- the least access without a position is the least that is missing
pub least_missing : (traces : List (List Item)) (order : List Place) (t : List (List ℕ)) (p : Place) → IsMarked traces order (length order) t → IsFirstMissing traces t p
    → IsLeastMissing traces order p
least_missing traces order t p m f = record {
  act = record { strand = p.strand; number = p.item; item = f.here.item; stands = f.here.is };
  is = refl;
  missing = record {
    access = f.here.access;
    nowhere = λ j e. (let c = m.kept j p (slice_get_within order j p e) e in omega (arith, c, f.here.none));
  };
  least = λ x below miss. (
      let z = missing_cell traces order t m x miss in
      elim below [
        | inl l ↦ f.before x.strand l x.number x.item (slice_get_within _ x.number x.item x.stands) x.stands miss.access z
        | inr r ↦
            f.here.first x.number x.item r.1 (subst (λ (s : ℕ). slice_get (get_or traces s []) x.number ≡ Some x.item) r.0 x.stands) miss.access
            (subst (λ (s : ℕ). cell t s x.number ≡ 0) r.0 z)
      ]
      );
}

pub unlisted : (traces : List (List Item)) (order : List Place) (t : List (List ℕ)) (p : Place) → IsMarked traces order (length order) t → IsFirstMissing traces t p → IsUnlisted traces order p
unlisted traces order t p m f = inr (λ j b. marked_good traces order (length order) t m j (slice_get_within order j b.place b.is) b, least_missing traces order t p m f)
