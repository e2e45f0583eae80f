-- What the tags and pointers keep, through their changes.
use Rattle.std.proofs.Common.{length-append, ◌≡◌, ℕ, zero, suc, ◌*◌, ◌/◌, ◌%◌, ◌^◌, ◌<◌, ◌≤◌, List, [], ◌∷◌, length, get_or, set, replicate, Option, Some, None, refl, ap, sym, ◌∙◌, subst, inl, inr, arith}
use Rattle.std.proofs.lemmas.List.{get_or-set_same, get_or-set_other, length-set, set_past, length-replicate}
use Rattle.std.proofs.lemmas.Bool.{cases_eq, cases_lt}
use Rattle.t1_shape.specs.Shapes.{Shape}
use Rattle.t1_shape.specs.Numbers.{banks, l2_ways, most_l2_sets, place_in_bank}
use Rattle.t1_shape.specs.Slots.{first_slot, InSet, scan}
use Rattle.t1_shape.proofs.Numbers.{l2_ways_are, line_from_place}
use Rattle.t1_shape.proofs.Slots.{scan_some, scan_none, Found}
use Rattle.t1_shape.proofs.Once.{set_read, left_by, none_at}
use Rattle.t1_l2.specs.Array.{ArrayState, l2_layout, layout_of, place_of, slot_in, IsAbsent, line_of_bank, lines_of_bank, array_start}
use Rattle.t1_l2.specs.Overlay.{IsL2, AreApart, NoneAt, overlay}
use Rattle.t1_l2.proofs.Overlaid.{put_none}

module _ (shape : Shape) (bank n count : ℕ) (tags : List (Option ℕ)) (pointers : List ℕ) (is : IsL2 shape bank n count tags pointers) where
  -- two lines of one bank at one place are one line
  pub apart : AreApart (banks shape) tags
  apart i k l m e f g =
      let p = is.mine i l e in
      let q = is.mine k m f in
      let same : m ≡ l = line_from_place shape m l (q ∙ sym p) (sym g) in
      is.once i k l e (subst (λ (x : ℕ). get_or tags k None ≡ Some x) same f)

  pub none_here : (line : ℕ) → line % banks shape ≡ bank → IsAbsent tags line → NoneAt (banks shape) tags (place_in_bank shape line)
  none_here line m a k l e g =
      let p = is.mine k l e in
      let same : l ≡ line = line_from_place shape l line (p ∙ sym m) g in
      a k (subst (λ (x : ℕ). get_or tags k None ≡ Some x) same e)

  pub emptied : (slot : ℕ) → IsL2 shape bank n count (set tags slot None) pointers
  emptied slot = record {
    some = is.some;
    few = is.few;
    bank_is = is.bank_is;
    room = is.room;
    size = length-set tags slot None ∙ is.size;
    counts = is.counts;
    low = is.low;
    own = λ k l e. is.own k l (left_by tags slot k l e);
    mine = λ k l e. is.mine k l (left_by tags slot k l e);
    within = λ k l e. is.within k l (left_by tags slot k l e);
    once = λ i k l e f. is.once i k l (left_by tags slot i l e) (left_by tags slot k l f);
  }

  pointed : (s way i : ℕ) → way < l2_ways shape → get_or (set pointers s way) i 0 < l2_ways shape
  pointed s way i below =
      elim (cases_eq i s) [
        | inl e ↦ elim (cases_lt s (length pointers)) [
          | inl f ↦
              let g : get_or (set pointers s way) i 0 ≡ way = ap (λ (j : ℕ). get_or (set pointers s way) j 0) e ∙ get_or-set_same pointers s way 0 f in omega (arith, g, below)
          | inr f ↦ let g : get_or (set pointers s way) i 0 ≡ get_or pointers i 0 = ap (λ (xs : List ℕ). get_or xs i 0) (set_past pointers s way f) in omega (arith, g, is.low i)
        ]
        | inr ne ↦ let g : get_or (set pointers s way) i 0 ≡ get_or pointers i 0 = get_or-set_other pointers s i way 0 ne in omega (arith, g, is.low i)
      ]

  -- a line of this bank, which is absent, put into a slot of its set
  pub taken : (line slot s way : ℕ) → InSet (l2_layout shape n) (place_in_bank shape line) slot → line % banks shape ≡ bank → place_in_bank shape line < count
      → IsAbsent tags line → way < l2_ways shape → IsL2 shape bank n count (set tags slot (Some line)) (set pointers s way)
  taken line slot s way at m fits absent below = record {
    some = is.some;
    few = is.few;
    bank_is = is.bank_is;
    room = is.room;
    size = length-set tags slot (Some line) ∙ is.size;
    counts = length-set pointers s way ∙ is.counts;
    low = λ i. pointed s way i below;
    own = λ k l e. elim (set_read tags slot (Some line) k l e) [
      | inl p ↦
          let q : line ≡ l = cc (p.1) in
          subst (λ (i : ℕ). InSet (l2_layout shape n) (place_in_bank shape i) k) q (subst (λ (i : ℕ). InSet (l2_layout shape n) (place_in_bank shape line) i) (sym p.0) at)
      | inr p ↦ is.own k l p.1
    ];
    mine = λ k l e. elim (set_read tags slot (Some line) k l e) [
      | inl p ↦ let q : line ≡ l = cc (p.1) in subst (λ (i : ℕ). i % banks shape ≡ bank) q m
      | inr p ↦ is.mine k l p.1
    ];
    within = λ k l e. elim (set_read tags slot (Some line) k l e) [
      | inl p ↦ let q : line ≡ l = cc (p.1) in subst (λ (i : ℕ). place_in_bank shape i < count) q fits
      | inr p ↦ is.within k l p.1
    ];
    once = λ i k l e f.
        elim (set_read tags slot (Some line) i l e) [
          | inl p ↦ elim (set_read tags slot (Some line) k l f) [
            | inl q ↦ p.0 ∙ sym q.0
            | inr q ↦ let same : l ≡ line = cc (p.1) in absurd (absent k (subst (λ (x : ℕ). get_or tags k None ≡ Some x) same q.1))
          ]
          | inr p ↦ elim (set_read tags slot (Some line) k l f) [
            | inl q ↦ let same : l ≡ line = cc (q.1) in absurd (absent i (subst (λ (x : ℕ). get_or tags i None ≡ Some x) same p.1))
            | inr q ↦ is.once i k l p.1 q.1
          ]
        ];
  }

-- ---- where a line is found

pub slot_in_is : (a : ArrayState) (line : ℕ) → slot_in a line ≡ scan a.tags line (first_slot (layout_of a) (place_of a line)) (l2_ways a.shape)
unfolding slot_in
slot_in_is a line = refl

pub slot_found : (a : ArrayState) (line j : ℕ) → slot_in a line ≡ Some j → Found a.tags line (first_slot (layout_of a) (place_of a line)) (l2_ways a.shape) j
unfolding slot_in
slot_found a line j e = scan_some a.tags line (first_slot (layout_of a) (place_of a line)) (l2_ways a.shape) j e

pub none_found : (a : ArrayState) (count line : ℕ) → IsL2 a.shape a.bank a.sets count a.tags a.pointers → slot_in a line ≡ None → IsAbsent a.tags line
unfolding slot_in
none_found a count line is e k f =
    let at = is.own k line f in
    scan_none a.tags line (first_slot (layout_of a) (place_of a line)) (l2_ways a.shape) k e at.above at.below f

-- a slot that holds the line is the slot of it
pub slot_held : (a : ArrayState) (count line j : ℕ) → IsL2 a.shape a.bank a.sets count a.tags a.pointers → get_or a.tags j None ≡ Some line → slot_in a line ≡ Some j
slot_held a count line j is held = go (slot_in a line) refl
  where
    go : (o : Option ℕ) → slot_in a line ≡ o → slot_in a line ≡ Some j
    go None e = absurd (none_found a count line is e j held)
    go (Some i) e = e ∙ ap (λ (n : ℕ). Some n) (is.once i j line (slot_found a line i e).is held)

-- ---- the start

zeros : (shape : Shape) (m s : ℕ) → get_or (replicate m 0) s 0 < l2_ways shape
zeros shape zero s = (l2_ways_are shape).0
zeros shape (suc m) zero = (l2_ways_are shape).0
zeros shape (suc m) (suc s) = zeros shape m s

pub start_kept : (shape : Shape) (bank n count : ℕ) → bank < banks shape → 0 < n → n ≤ most_l2_sets shape → count < 2 ^ 40
    → IsL2 shape bank n count (replicate (l2_ways shape * n) None) (replicate n 0)
start_kept shape bank n count below some few room = record {
  some = some;
  few = few;
  bank_is = below;
  room = room;
  size = length-replicate (l2_ways shape * n) None;
  counts = length-replicate n 0;
  low = λ s. zeros shape n s;
  own = λ k l e. absurd (none_at (l2_ways shape * n) k l e);
  mine = λ k l e. absurd (none_at (l2_ways shape * n) k l e);
  within = λ k l e. absurd (none_at (l2_ways shape * n) k l e);
  once = λ i k l e f. absurd (none_at (l2_ways shape * n) i l e);
}

pub start_is : (shape : Shape) (bank n : ℕ) (image : List ℕ) (tags : List (Option ℕ)) (pointers : List ℕ) (lines ram : List (List ℕ))
    → tags ≡ replicate (l2_ways shape * n) None → pointers ≡ replicate n 0 → ram ≡ lines_of_bank shape bank image (length image / 64 / banks shape)
    → ◌≡◌ {A = ArrayState} (record { shape = shape; bank = bank; sets = n; tags = tags; pointers = pointers; memory = overlay (banks shape) tags lines ram })
    (array_start shape bank n image)
start_is shape bank n image tags pointers lines ram e f g =
    let m : overlay (banks shape) tags lines ram ≡ lines_of_bank shape bank image (length image / 64 / banks shape) =
    ap (λ (xs : List (Option ℕ)). overlay (banks shape) xs lines ram) e ∙ (put_none (banks shape) (l2_ways shape * n) lines ram ∙ g) in
    cc (e, f, m)

pub length-lines_of_bank : (shape : Shape) (bank : ℕ) (image : List ℕ) (n : ℕ) → length (lines_of_bank shape bank image n) ≡ n
length-lines_of_bank shape bank image zero = refl
length-lines_of_bank shape bank image (suc n) =
    length-append (lines_of_bank shape bank image n) (line_of_bank shape bank image n ∷ []) ∙ (let e = length-lines_of_bank shape bank image n in omega (arith, e))
