-- Tags in which each line stands once, through a fill.
use Rattle.std.proofs.Common.{◌≡◌, ◌≢◌, ℕ, zero, suc, ◌+◌, ◌<◌, List, length, get_or, set, replicate, Option, Some, None, ap, sym, ◌∙◌, subst, inl, inr, ◌⊎◌, arith}
use Rattle.std.proofs.lemmas.List.{get_or-set_same, get_or-set_other, set_past, get_or_past}
use Rattle.std.proofs.lemmas.Bool.{cases_lt, cases_eq}
use Rattle.t1_shape.specs.Slots.{Layout, first_slot, InSet, slot_of, IsOnce}
use Rattle.t1_shape.proofs.Slots.{way_in_set, slot_some, slot_none}

-- what a slot holds after a write
pub set_read : {A : Type 0} (xs : List (Option A)) (i : ℕ) (v : Option A) (k : ℕ) (l : A) → get_or (set xs i v) k None ≡ Some l
    → ((k ≡ i) × (v ≡ Some l)) ⊎ ((k ≢ i) × (get_or xs k None ≡ Some l))
set_read {A} xs i v k l e =
    elim (cases_eq k i) [
      | inl same ↦ elim (cases_lt i (length xs)) [
        | inl fits ↦ inl (same, sym (get_or-set_same xs i v None fits) ∙ (ap (λ (n : ℕ). get_or (set xs i v) n None) (sym same) ∙ e))
        | inr past ↦
            let none : get_or (set xs i v) k None ≡ None = ap (λ (ys : List (Option A)). get_or ys k None) (set_past xs i v past) ∙ get_or_past xs k None (omega arith) in
            let clash : ◌≡◌ {A = Option A} None (Some l) = sym none ∙ e in cc
      ]
      | inr apart ↦ inr (apart, sym (get_or-set_other xs i k v None apart) ∙ e)
    ]

-- an emptied slot holds nothing, the others what they held
pub left_by : {A : Type 0} (xs : List (Option A)) (i k : ℕ) (l : A) → get_or (set xs i None) k None ≡ Some l → get_or xs k None ≡ Some l
left_by {A} xs i k l e = elim (set_read xs i None k l e) [
  | inl p ↦ absurd (let clash : ◌≡◌ {A = Option A} None (Some l) = p.1 in cc)
  | inr p ↦ p.1
]

pub none_at : {A : Type 0} (n k : ℕ) (l : A) → get_or (replicate n None) k None ≡ Some l → ⊥
none_at zero k l e = cc
none_at (suc n) zero l e = cc
none_at (suc n) (suc k) l e = none_at n k l e

-- the slot that a fill of this line takes: its own where it stands, else any of its set
abbrev pub FillsAt : Layout → Option ℕ → ℕ → ℕ → Type 0
FillsAt g (Some j) line way = first_slot g line + way ≡ j
FillsAt g None line way = way < g.ways

-- where the fill goes: the line stands nowhere else
pub record IsFree (g : Layout) (tags : List (Option ℕ)) (line way : ℕ) : Type 0 where
  pub small : way < g.ways
  pub only : (k : ℕ) → get_or tags k None ≡ Some line → k ≡ first_slot g line + way

pub free_from : (g : Layout) (tags : List (Option ℕ)) (line way : ℕ) → IsOnce g tags → (s : Option ℕ) → slot_of g tags line ≡ s → FillsAt g s line way → IsFree g tags line way
free_from g tags line way o None e f = record {
  small = f;
  only = λ k is. absurd (slot_none g tags line k e (o.own k line is) is);
}
free_from g tags line way o (Some j) e f =
    let found = slot_some g tags line j e in
    record {
      small = omega (arith, f, found.below);
      only = λ k is. o.once k j line is found.is ∙ sym f;
    }

-- a fill of a line that stands nowhere else, after slots were emptied
pub once_set : (g : Layout) (tags left : List (Option ℕ)) (line way : ℕ) → IsFree g tags line way → IsOnce g left
    → ((k l : ℕ) → get_or left k None ≡ Some l → get_or tags k None ≡ Some l)
    → IsOnce g (set left (first_slot g line + way) (Some line))
once_set g tags left line way free o below = record {
  own = λ k l e. elim (set_read left (first_slot g line + way) (Some line) k l e) [
    | inl p ↦ let q : line ≡ l = cc (p.1) in subst (λ (n : ℕ). InSet g n k) q (subst (InSet g line) (sym p.0) (way_in_set g line way free.small))
    | inr p ↦ o.own k l p.1
  ];
  once = λ i k l e f.
      elim (set_read left (first_slot g line + way) (Some line) i l e) [
        | inl p ↦ elim (set_read left (first_slot g line + way) (Some line) k l f) [
          | inl q ↦ p.0 ∙ sym q.0
          | inr q ↦
              let same : l ≡ line = cc (p.1) in
              absurd (q.0 (free.only k (subst (λ (n : ℕ). get_or tags k None ≡ Some n) same (below k l q.1))))
        ]
        | inr p ↦ elim (set_read left (first_slot g line + way) (Some line) k l f) [
          | inl q ↦
              let same : l ≡ line = cc (q.1) in
              absurd (p.0 (free.only i (subst (λ (n : ℕ). get_or tags i None ≡ Some n) same (below i l p.1))))
          | inr q ↦ o.once i k l p.1 q.1
        ]
      ];
}

pub once_start : (g : Layout) (n : ℕ) → IsOnce g (replicate n None)
once_start g n = record {
  own = λ k l e. absurd (none_at n k l e);
  once = λ i k l e f. absurd (none_at n i l e);
}
