-- What the marks rule out, and how they stay right.
use Rattle.std.proofs.Common.{◌≡◌, ◌≢◌, ℕ, zero, suc, ◌+◌, ◌*◌, ◌/◌, ◌%◌, ◌<◌, ◌≤◌, ◌⊎◌, eqb, false, true, List, [], length, get_or, set, replicate, Option, Some, None, refl, ap, sym, ◌∙◌, inl, inr, arith}
use Rattle.std.specs.List.{list_any}
use Rattle.std.proofs.lemmas.List.{get_or-set_same, get_or-set_other, length-set, length-replicate, get_or_past}
use Rattle.std.proofs.lemmas.List.Folds.{list_any_at}
use Rattle.std.proofs.lemmas.Bool.{cases_lt, cases_eq, eq-eqb}
use Rattle.t1_num.specs.declared.chip.ChipKind.TheVariants.{T1, T2}
use Rattle.t1_shape.specs.Shapes.{Shape}
use Rattle.t1_shape.specs.Slots.{Layout, slot_of, InSet, first_slot}
use Rattle.t1_shape.proofs.Slots.{slot_some}
use Rattle.t1_shape.proofs.Once.{set_read, none_at}
use Rattle.t1_packet.specs.declared.cache.Cache.{Cache}
use Rattle.t1_packet.specs.declared.cache.Cache.TheVariants.{Dcache, Icache}
use Rattle.t1_packet.specs.Caches.{layout}
use Rattle.t1_dir.specs.Directory.{row_with}
use Rattle.t1_dir.specs.Marks.{mark_of, mark_index, mark_at, marked_with, IsFreeRow, IsFreeRowBut, AreRows, IsUnmarked, IsUnmarkedBut, AreMarked}

-- the slots of a cache's sets stand so
pub layout_rows : (shape : Shape) (cache : Cache) → AreRows (layout shape cache).ways (layout shape cache).sets
layout_rows T1 Dcache = inl (refl, refl)
layout_rows T1 Icache = inl (refl, refl)
layout_rows T2 Dcache = inl (refl, refl)
layout_rows T2 Icache = inr (refl, refl)

-- a layout by its numbers
pub layout_is : (ways sets : ℕ) (g : Layout) → ways ≡ g.ways → sets ≡ g.sets → ◌≡◌ {A = Layout} (record { ways = ways; sets = sets }) g
layout_is ways sets g e f =
    ap (λ (n : ℕ). (let l : Layout = record { ways = n; sets = sets } in l)) e ∙ ap (λ (n : ℕ). (let l : Layout = record { ways = g.ways; sets = n } in l)) f

-- a core that shows a line is one of eight
there : (tags : List (List (Option ℕ))) (marks : List (List ℕ)) (core line j : ℕ) → AreMarked tags marks → get_or (get_or tags core []) j None ≡ Some line → core < 8
there tags marks core line j m is = elim (cases_lt core (length tags)) [
  | inl l ↦ omega (arith, l, m.few)
  | inr p ↦
      let gone : get_or tags core [] ≡ [] = get_or_past tags core [] p in
      let clash : ◌≡◌ {A = Option ℕ} None (Some line) = sym (ap (λ (ts : List (Option ℕ)). get_or ts j None) gone) ∙ is in absurd cc
]

-- no core, or none but one, shows the line
abbrev pub IsHiddenIn : Layout → List (List (Option ℕ)) → ℕ → Type 0
IsHiddenIn g tags line = (core : ℕ) → slot_of g (get_or tags core []) line ≡ None

abbrev pub IsHiddenButIn : Layout → List (List (Option ℕ)) → ℕ → ℕ → Type 0
IsHiddenButIn g tags own line = (core : ℕ) → (core ≡ own → ⊥) → slot_of g (get_or tags core []) line ≡ None

pub hidden : (g : Layout) (tags : List (List (Option ℕ))) (marks : List (List ℕ)) (line : ℕ) → AreMarked tags marks → IsUnmarked g marks line
    → (core : ℕ) → slot_of g (get_or tags core []) line ≡ None
hidden g tags marks line m none core = go (slot_of g (get_or tags core []) line) refl
  where
    go : (o : Option ℕ) → slot_of g (get_or tags core []) line ≡ o → slot_of g (get_or tags core []) line ≡ None
    go None e = e
    go (Some j) e =
        let f = slot_some g (get_or tags core []) line j e in
        absurd (none core j (there tags marks core line j m f.is) (record { above = f.above; below = f.below }) (m.marked core j line f.is))

pub hidden_but : (g : Layout) (tags : List (List (Option ℕ))) (marks : List (List ℕ)) (own line : ℕ) → AreMarked tags marks → IsUnmarkedBut g marks own line
    → (core : ℕ) → (core ≡ own → ⊥) → slot_of g (get_or tags core []) line ≡ None
hidden_but g tags marks own line m none core ne = go (slot_of g (get_or tags core []) line) refl
  where
    go : (o : Option ℕ) → slot_of g (get_or tags core []) line ≡ o → slot_of g (get_or tags core []) line ≡ None
    go None e = e
    go (Some j) e =
        let f = slot_some g (get_or tags core []) line j e in
        absurd (none core j (there tags marks core line j m f.is) (record { above = f.above; below = f.below }) ne (m.marked core j line f.is))

-- a mark that is in a row is found
pub not_among : (row : List ℕ) (mark : ℕ) → list_any (λ x. eqb x mark) row ≡ false → (i : ℕ) → i < length row → get_or row i 0 ≡ mark → ⊥
not_among row mark off i low e =
    let found : list_any (λ x. eqb x mark) row ≡ true = list_any_at (λ x. eqb x mark) row i 0 low (eq-eqb (get_or row i 0) mark e) in
    let clash : true ≡ false = sym found ∙ off in cc

-- ---- changes

-- a slot of a core after one slot of one core was changed
row_read : (tags : List (List (Option ℕ))) (core slot : ℕ) (v : Option ℕ) (c s line : ℕ) → get_or (get_or (row_with tags core slot v) c []) s None ≡ Some line
    → ((c ≡ core) × (s ≡ slot) × (v ≡ Some line)) ⊎ ((((c ≡ core) × (s ≡ slot)) → ⊥) × (get_or (get_or tags c []) s None ≡ Some line))
row_read tags core slot v c s line e =
    elim (cases_eq c core) [
      | inr ne ↦ inr (λ p. ne p.0, sym (ap (λ (ts : List (Option ℕ)). get_or ts s None) (get_or-set_other tags core c (set (get_or tags core []) slot v) [] ne)) ∙ e)
      | inl same ↦ elim (cases_lt core (length tags)) [
        | inl fits ↦
            let now : get_or (row_with tags core slot v) c [] ≡ set (get_or tags core []) slot v =
            ap (λ (k : ℕ). get_or (row_with tags core slot v) k []) same ∙ get_or-set_same tags core (set (get_or tags core []) slot v) [] fits in
            elim (set_read (get_or tags core []) slot v s line (sym (ap (λ (ts : List (Option ℕ)). get_or ts s None) now) ∙ e)) [
              | inl p ↦ inl (same, p.0, p.1)
              | inr p ↦ inr (λ q. p.0 q.1, ap (λ (k : ℕ). get_or (get_or tags k []) s None) same ∙ p.1)
            ]
        | inr past ↦
            let long = length-set tags core (set (get_or tags core []) slot v) in
            let gone : get_or (row_with tags core slot v) c [] ≡ [] = get_or_past (row_with tags core slot v) c [] (omega (arith, past, same, long)) in
            let clash : ◌≡◌ {A = Option ℕ} None (Some line) = sym (ap (λ (ts : List (Option ℕ)). get_or ts s None) gone) ∙ e in absurd cc
      ]
    ]

pub cleared_marks : (tags : List (List (Option ℕ))) (marks : List (List ℕ)) (core slot : ℕ) → AreMarked tags marks → AreMarked (row_with tags core slot None) marks
cleared_marks tags marks core slot m = record {
  few = let e = length-set tags core (set (get_or tags core []) slot None) in omega (arith, e, m.few);
  sets = m.sets;
  marked = λ c s line e. elim (row_read tags core slot None c s line e) [
    | inl p ↦ absurd (let clash : ◌≡◌ {A = Option ℕ} None (Some line) = p.2 in cc)
    | inr p ↦ m.marked c s line p.1
  ];
}

-- a mark is read where it was put, and the others stay
mark_here : (marks : List (List ℕ)) (core slot line : ℕ) → core < 8 → slot / 4 < length marks → length (get_or marks (slot / 4) []) ≡ 32
    → mark_at (marked_with marks core slot line) core slot ≡ mark_of line
mark_here marks core slot line there low wide =
    ap (λ (row : List ℕ). get_or row (mark_index core slot) 0) (get_or-set_same marks (slot / 4) (set (get_or marks (slot / 4) []) (mark_index core slot) (mark_of line)) [] low)
    ∙ get_or-set_same (get_or marks (slot / 4) []) (mark_index core slot) (mark_of line) 0 (omega (arith, there, wide))

mark_apart : (marks : List (List ℕ)) (core slot line c s : ℕ) → slot / 4 < length marks → (((c ≡ core) × (s ≡ slot)) → ⊥) → mark_at (marked_with marks core slot line) c s ≡ mark_at marks c s
mark_apart marks core slot line c s low ne =
    let row : List ℕ = set (get_or marks (slot / 4) []) (mark_index core slot) (mark_of line) in
    elim (cases_eq (s / 4) (slot / 4)) [
      | inr off ↦ ap (λ (r : List ℕ). get_or r (mark_index c s) 0) (get_or-set_other marks (slot / 4) (s / 4) row [] off)
      | inl on ↦
          let off : mark_index c s ≢ mark_index core slot = λ e. ne (omega (arith, on, e), omega (arith, on, e)) in
          ap (λ (k : ℕ). get_or (get_or (set marks (slot / 4) row) k []) (mark_index c s) 0) on
          ∙ (ap (λ (r : List ℕ). get_or r (mark_index c s) 0) (get_or-set_same marks (slot / 4) row [] low)
          ∙ (get_or-set_other (get_or marks (slot / 4) []) (mark_index core slot) (mark_index c s) (mark_of line) 0 off
          ∙ ap (λ (k : ℕ). get_or (get_or marks k []) (mark_index c s) 0) (sym on)))
    ]

pub shown_marks : (tags : List (List (Option ℕ))) (marks : List (List ℕ)) (core slot line : ℕ) → core < 8 → slot < 512 → length (get_or marks (slot / 4) []) ≡ 32 → AreMarked tags marks
    → AreMarked (row_with tags core slot (Some line)) (marked_with marks core slot line)
shown_marks tags marks core slot line there low wide m =
    let fits : slot / 4 < length marks = omega (arith, low, m.sets) in
    record {
      few = let e = length-set tags core (set (get_or tags core []) slot (Some line)) in omega (arith, e, m.few);
      sets = length-set marks (slot / 4) (set (get_or marks (slot / 4) []) (mark_index core slot) (mark_of line)) ∙ m.sets;
      marked = λ c s l e. elim (row_read tags core slot (Some line) c s l e) [
        | inl p ↦
            let same : line ≡ l = cc (p.2) in
            ap (λ (k : ℕ). mark_at (marked_with marks core slot line) k s) p.0
            ∙ (ap (λ (k : ℕ). mark_at (marked_with marks core slot line) core k) p.1
            ∙ (mark_here marks core slot line there fits wide ∙ ap mark_of same))
        | inr p ↦ mark_apart marks core slot line c s fits p.0 ∙ m.marked c s l p.1
      ];
    }

-- nothing is shown at first
pub start_marks : (cores : ℕ) (marks : List (List ℕ)) → cores ≤ 8 → length marks ≡ 128 → AreMarked (replicate {A = List (Option ℕ)} cores (replicate {A = Option ℕ} 512 None)) marks
start_marks cores marks few sets = record {
  few = let e = length-replicate {A = List (Option ℕ)} cores (replicate {A = Option ℕ} 512 None) in omega (arith, e, few);
  sets = sets;
  marked = λ c s line e. absurd (empty cores c s line e);
}
  where
    empty : (n c s line : ℕ) → get_or (get_or (replicate {A = List (Option ℕ)} n (replicate {A = Option ℕ} 512 None)) c []) s None ≡ Some line → ⊥
    empty zero c s line e = let clash : ◌≡◌ {A = Option ℕ} None (Some line) = e in cc
    empty (suc n) zero s line e = none_at 512 s line e
    empty (suc n) (suc c) s line e = empty n c s line e
