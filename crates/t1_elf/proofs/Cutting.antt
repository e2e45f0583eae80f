-- The gaps of a memory after a part of the last one below an address is taken out.
use Rattle.std.proofs.Common.{◌≡◌, ◌≢◌, ℕ, ◌<◌, ◌≤◌, ◌⊎◌, inl, inr, Option, Some, IsSome, refl, ap, sym, ◌∙◌, subst, arith}
use Rattle.std.proofs.lemmas.Bool.{cases_lt, cases_eq}
use Rattle.t1_elf.specs.Gaps.{AreGaps, LiesInGap, IsCut}

-- of the last gap that begins below the address `high`, the part from one address to another
pub record CutsGap (gaps gaps' : ℕ → Option ℕ) (end : ℕ) : Type 0 where
  pub start : ℕ
  pub behind : ℕ
  pub from : ℕ
  pub to : ℕ
  pub high : ℕ
  pub were : AreGaps gaps end
  pub gap : gaps start ≡ Some behind
  pub last : (q : ℕ) → q < high → IsSome (gaps q) → q ≤ start
  pub cut : IsCut gaps gaps' (start, behind) from to
  pub from_start : start ≤ from
  pub some : from < to
  pub to_behind : to ≤ behind
  pub to_high : to < behind → high ≤ to

module _ (gaps gaps' : ℕ → Option ℕ) (end : ℕ) (p : CutsGap gaps gaps' end) where
  -- a gap afterwards stands before the part, or behind it, or was another one
  abbrev pub GapCase : ℕ → ℕ → Type 0
  GapCase q f =
      ((q ≡ p.start) × (f ≡ p.from) × (p.start < p.from))
      ⊎ (((q ≡ p.to) × (f ≡ p.behind) × (p.to < p.behind)) ⊎ ((q ≢ p.start) × (gaps q ≡ Some f)))

  pub gap_case : (q f : ℕ) → gaps' q ≡ Some f → GapCase q f
  gap_case q f is = elim (cases_eq q p.start) [
    | inl same ↦ elim (cases_lt p.start p.from) [
      | inl less ↦ inl (same, (let e = p.cut.front less in let s = ap gaps' same in cc), less)
      | inr past ↦ absurd (let e = p.cut.no_front past in let s = ap gaps' same in cc)
    ]
    | inr other ↦ elim (cases_eq q p.to) [
      | inl same ↦ elim (cases_lt p.to p.behind) [
        | inl less ↦ inr (inl (same, (let e = p.cut.back less in let s = ap gaps' same in cc), less))
        | inr past ↦ inr (inr (other, (let e = p.cut.no_back past in let s = ap gaps' same in let t = ap gaps same in cc)))
      ]
      | inr apart ↦ inr (inr (other, sym (p.cut.others q other apart) ∙ is))
    ]
  ]

  -- another gap lies before the one that was cut, or behind it and behind the address
  pub other_place : (q f : ℕ) → q ≢ p.start → gaps q ≡ Some f → (f ≤ p.start) ⊎ ((p.behind ≤ q) × (p.high ≤ q))
  other_place q f other is = elim (cases_lt q p.start) [
    | inl less ↦ inl (p.were.apart q f p.start p.behind is p.gap less)
    | inr past ↦
        let more : p.start < q = omega (arith, past, other) in
        inr (
          p.were.apart p.start p.behind q f p.gap is more,
          elim (cases_lt q p.high) [
            | inl low ↦ absurd (omega (arith, more, p.last q low (subst IsSome (sym is) refl)))
            | inr high ↦ high
          ],
        )
  ]

  gaps_within : (q f : ℕ) → gaps' q ≡ Some f → (q < f) × (f ≤ end)
  gaps_within q f is =
      let old = p.were.within p.start p.behind p.gap in
      elim (gap_case q f is) [
        | inl front ↦ (omega (arith, front.0, front.1, front.2), omega (arith, front.1, old.1, p.some, p.to_behind))
        | inr (inl back) ↦ (omega (arith, back.0, back.1, back.2), omega (arith, back.1, old.1))
        | inr (inr other) ↦ p.were.within q f other.1
      ]

  gaps_apart : (q f r g : ℕ) → gaps' q ≡ Some f → gaps' r ≡ Some g → q < r → f ≤ r
  gaps_apart q f r g is_q is_r less = elim (gap_case q f is_q) [
    | inl front ↦ elim (gap_case r g is_r) [
      | inl front_r ↦ absurd (omega (arith, front.0, front_r.0, less))
      | inr (inl back_r) ↦ omega (arith, front.1, back_r.0, p.some)
      | inr (inr other_r) ↦ elim (other_place r g other_r.0 other_r.1) [
        | inl before ↦ absurd (omega (arith, front.0, less, before, (p.were.within r g other_r.1).0))
        | inr after ↦ omega (arith, front.1, after.0, p.some, p.to_behind)
      ]
    ]
    | inr (inl back) ↦ elim (gap_case r g is_r) [
      | inl front_r ↦ absurd (omega (arith, back.0, front_r.0, less, p.from_start, p.some))
      | inr (inl back_r) ↦ absurd (omega (arith, back.0, back_r.0, less))
      | inr (inr other_r) ↦ elim (other_place r g other_r.0 other_r.1) [
        | inl before ↦ absurd (omega (arith, back.0, less, before, p.from_start, p.some, (p.were.within r g other_r.1).0))
        | inr after ↦ omega (arith, back.1, after.0)
      ]
    ]
    | inr (inr other) ↦ elim (gap_case r g is_r) [
      | inl front_r ↦ p.were.apart q f r p.behind other.1 (ap gaps front_r.0 ∙ p.gap) less
      | inr (inl back_r) ↦ elim (other_place q f other.0 other.1) [
        | inl before ↦ omega (arith, back_r.0, before, p.from_start, p.some)
        | inr after ↦ absurd (omega (arith, back_r.0, after.0, less, p.to_behind))
      ]
      | inr (inr other_r) ↦ p.were.apart q f r g other.1 other_r.1 less
    ]
  ]

  pub gaps_after : AreGaps gaps' end
  gaps_after = record { within = gaps_within; apart = gaps_apart }

  -- ---- the bytes of the gaps

  lies_before : (j : ℕ) → p.start ≤ j → j < p.from → LiesInGap gaps' j
  lies_before j low high =
      record { start = p.start; behind = p.from; is = p.cut.front (omega (arith, low, high)); above = low; below = high }

  lies_behind : (j : ℕ) → p.to ≤ j → j < p.behind → LiesInGap gaps' j
  lies_behind j low high =
      record { start = p.to; behind = p.behind; is = p.cut.back (omega (arith, low, high)); above = low; below = high }

  gap_stays : (q : ℕ) → q ≢ p.start → (q ≡ p.to → p.behind ≤ p.to) → gaps' q ≡ gaps q
  gap_stays q other apart = elim (cases_eq q p.to) [
    | inl same ↦ ap gaps' same ∙ p.cut.no_back (apart same) ∙ ap gaps (sym same)
    | inr unlike ↦ p.cut.others q other unlike
  ]

  -- a byte of a gap, outside of the part, lies in a gap still
  pub lies_still : (j : ℕ) → (j < p.from) ⊎ (p.to ≤ j) → LiesInGap gaps j → LiesInGap gaps' j
  lies_still j side g = elim (cases_eq g.start p.start) [
    | inl same ↦
        let ends : g.behind ≡ p.behind = (let e = p.gap in let h = g.is in let s = ap gaps same in cc) in
        elim side [
          | inl less ↦ lies_before j (omega (arith, same, g.above)) less
          | inr past ↦ lies_behind j past (omega (arith, ends, g.below))
        ]
    | inr other ↦
        let apart : g.start ≡ p.to → p.behind ≤ p.to = λ same. elim (other_place g.start g.behind other g.is) [
          | inl before ↦ absurd (omega (arith, same, before, p.from_start, p.some, g.above, g.below))
          | inr after ↦ omega (arith, same, after.0)
        ] in
        record { start = g.start; behind = g.behind; is = gap_stays g.start other apart ∙ g.is; above = g.above; below = g.below }
  ]

-- where the last gap that begins below an address ends at another one or below it, no gap has a byte between them
pub none_between : (gaps : ℕ → Option ℕ) (end low high s e : ℕ) → AreGaps gaps end → gaps s ≡ Some e
    → ((q : ℕ) → q < high → IsSome (gaps q) → q ≤ s) → e ≤ low
    → (j : ℕ) → low ≤ j → j < high → LiesInGap gaps j → ⊥
none_between gaps end low high s e were is last ends j above below g = elim (cases_eq g.start s) [
  | inl same ↦
      let behind : g.behind ≡ e = (let h = g.is in let t = ap gaps same in cc) in
      omega (arith, behind, ends, above, g.below)
  | inr other ↦
      let first : g.start ≤ s = last g.start (omega (arith, g.above, below)) (subst IsSome (sym g.is) refl) in
      let before : g.behind ≤ s = were.apart g.start g.behind s e g.is is (omega (arith, first, other)) in
      omega (arith, before, ends, above, g.below, (were.within s e is).0)
]
