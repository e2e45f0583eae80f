-- A part of a chunk, laid in a gap under all that was laid before.
use Rattle.std.proofs.Common.{◌≡◌, ℕ, ◌+◌, ◌-◌, ◌<◌, ◌≤◌, ◌⊎◌, inl, inr, List, length, get_or, Option, Some, ap, sym, ◌∙◌, subst, arith}
use Rattle.std.proofs.lemmas.Bool.{cases_lt}
use Rattle.std.proofs.lemmas.List.{get_or_past, get_or-replicate, ext_get_or}
use Rattle.t1_elf.specs.Gaps.{AreGaps, LiesInGap, IsPartlyLaid}
use Rattle.t1_elf.specs.Images.{zeros_of, with_bytes_at}
use Rattle.t1_elf.proofs.Cutting.{CutsGap, gap_case, other_place, gaps_after, lies_still}
use Rattle.t1_elf.proofs.Laying.{length-with_bytes_at, byte_before, byte_inside, byte_behind}

-- what stands under all that was laid is put from one address of a gap to another, where the memory has zeros
pub record LaysPart (gaps gaps' : ℕ → Option ℕ) (memory memory' image under under' : List ℕ) : Type 0 where
  pub cuts : CutsGap gaps gaps' (length memory)
  pub was : IsPartlyLaid gaps memory image under
  pub part : List ℕ
  pub put : memory' ≡ with_bytes_at memory cuts.from part
  pub short : cuts.from + length part ≤ cuts.to
  pub bytes : (j : ℕ) → cuts.from ≤ j → j < cuts.to → get_or under j 0 ≡ get_or part (j - cuts.from) 0
  pub before : (j : ℕ) → j < cuts.from → get_or under' j 0 ≡ get_or under j 0
  pub after : (j : ℕ) → cuts.high ≤ j → get_or under' j 0 ≡ get_or under j 0
  pub len : length under' ≡ length under

module _ (gaps gaps' : ℕ → Option ℕ) (memory memory' image under under' : List ℕ) (p : LaysPart gaps gaps' memory memory' image under under') where
  within : p.cuts.to ≤ length memory
  within = omega (arith, p.cuts.to_behind, (p.cuts.were.within p.cuts.start p.cuts.behind p.cuts.gap).1)

  from_within : p.cuts.from ≤ length memory
  from_within = omega (arith, within, p.cuts.some)

  memory_len : length memory' ≡ length memory
  memory_len = ap length p.put ∙ length-with_bytes_at memory p.cuts.from p.part (omega (arith, p.short, within))

  -- ---- bytes of the part, and others

  in_part : (j : ℕ) → p.cuts.from ≤ j → j < p.cuts.to
      → (get_or memory j 0 ≡ 0) × (get_or image j 0 ≡ get_or under j 0)
  in_part j low high =
      p.was.in_gap p.cuts.start p.cuts.behind j p.cuts.gap (omega (arith, p.cuts.from_start, low)) (omega (arith, p.cuts.to_behind, high))

  inside : (j : ℕ) → p.cuts.from ≤ j → j < p.cuts.to → get_or memory' j 0 ≡ get_or under j 0
  inside j low high =
      ap (λ m. get_or m j 0) p.put
      ∙ elim (cases_lt j (p.cuts.from + length p.part)) [
        | inl less ↦ byte_inside memory p.cuts.from p.part j from_within low less ∙ sym (p.bytes j low high)
        | inr past ↦
            byte_behind memory p.cuts.from p.part j from_within past
            ∙ (in_part j low high).0
            ∙ sym (get_or_past p.part (j - p.cuts.from) 0 (omega (arith, past)))
            ∙ sym (p.bytes j low high)
      ]

  outside : (j : ℕ) → (j < p.cuts.from) ⊎ (p.cuts.to ≤ j) → get_or memory' j 0 ≡ get_or memory j 0
  outside j (inl less) = ap (λ m. get_or m j 0) p.put ∙ byte_before memory p.cuts.from p.part j from_within less
  outside j (inr past) =
      ap (λ m. get_or m j 0) p.put ∙ byte_behind memory p.cuts.from p.part j from_within (omega (arith, p.short, past))

  -- ---- bytes of gaps

  abbrev GapByte : ℕ → Type 0
  GapByte j = (get_or memory' j 0 ≡ 0) × (get_or image j 0 ≡ get_or under' j 0)

  byte_of_front : (q f j : ℕ) → gaps q ≡ Some f → q ≤ j → j < f → j < p.cuts.from → GapByte j
  byte_of_front q f j is low high less =
      let was = p.was.in_gap q f j is low high in (outside j (inl less) ∙ was.0, was.1 ∙ sym (p.before j less))

  byte_of_back : (q f j : ℕ) → gaps q ≡ Some f → q ≤ j → j < f → p.cuts.to ≤ j → p.cuts.high ≤ j → GapByte j
  byte_of_back q f j is low high past above =
      let was = p.was.in_gap q f j is low high in (outside j (inr past) ∙ was.0, was.1 ∙ sym (p.after j above))

  in_gap : (q f j : ℕ) → gaps' q ≡ Some f → q ≤ j → j < f → GapByte j
  in_gap q f j is low high = elim (gap_case gaps gaps' (length memory) p.cuts q f is) [
    | inl front ↦
        byte_of_front p.cuts.start p.cuts.behind j p.cuts.gap (omega (arith, front.0, low))
        (omega (arith, front.1, high, p.cuts.some, p.cuts.to_behind)) (omega (arith, front.1, high))
    | inr (inl back) ↦
        byte_of_back p.cuts.start p.cuts.behind j p.cuts.gap (omega (arith, back.0, low, p.cuts.from_start, p.cuts.some))
        (omega (arith, back.1, high)) (omega (arith, back.0, low)) (omega (arith, back.0, low, p.cuts.to_high back.2))
    | inr (inr other) ↦ elim (other_place gaps gaps' (length memory) p.cuts q f other.0 other.1) [
      | inl before ↦ byte_of_front q f j other.1 low high (omega (arith, before, high, p.cuts.from_start))
      | inr after ↦
          byte_of_back q f j other.1 low high (omega (arith, after.0, low, p.cuts.to_behind)) (omega (arith, after.1, low))
    ]
  ]

  -- ---- all bytes

  outside_byte : (j : ℕ) → j < length memory → (j < p.cuts.from) ⊎ (p.cuts.to ≤ j)
      → LiesInGap gaps' j ⊎ (get_or memory' j 0 ≡ get_or image j 0)
  outside_byte j less side = elim (p.was.laid j less) [
    | inl g ↦ inl (lies_still gaps gaps' (length memory) p.cuts j side g)
    | inr same ↦ inr (outside j side ∙ same)
  ]

  laid : (j : ℕ) → j < length memory' → LiesInGap gaps' j ⊎ (get_or memory' j 0 ≡ get_or image j 0)
  laid j less =
      let old : j < length memory = omega (arith, less, memory_len) in
      elim (cases_lt j p.cuts.from) [
        | inl before ↦ outside_byte j old (inl before)
        | inr low ↦ elim (cases_lt j p.cuts.to) [
          | inl high ↦ inr (inside j low high ∙ sym ((in_part j low high).1))
          | inr past ↦ outside_byte j old (inr past)
        ]
      ]

  pub part_is_laid : IsPartlyLaid gaps' memory' image under'
  part_is_laid =
      let P : ℕ → Type 0 = λ n. AreGaps gaps' n in
      record {
        gaps_are = subst P (sym memory_len) (gaps_after gaps gaps' (length memory) p.cuts);
        image_len = p.was.image_len ∙ sym memory_len;
        under_len = p.len ∙ p.was.under_len ∙ sym memory_len;
        in_gap = in_gap;
        laid = laid;
      }

-- where no gap has a byte at which it matters, something else may stand under all that was laid
pub laid_over : (gaps : ℕ → Option ℕ) (memory image under under' : List ℕ) → IsPartlyLaid gaps memory image under
    → length under' ≡ length under
    → ((s e j : ℕ) → gaps s ≡ Some e → s ≤ j → j < e → get_or under j 0 ≡ get_or under' j 0)
    → IsPartlyLaid gaps memory image under'
laid_over gaps memory image under under' was len same = record {
  gaps_are = was.gaps_are;
  image_len = was.image_len;
  under_len = len ∙ was.under_len;
  in_gap = λ s e j is low high. ((was.in_gap s e j is low high).0, (was.in_gap s e j is low high).1 ∙ same s e j is low high);
  laid = was.laid;
}

-- where only zeros stand under all that was laid, the memory is the image
pub laid_whole : (gaps : ℕ → Option ℕ) (memory image : List ℕ) → IsPartlyLaid gaps memory image (zeros_of (length memory)) → memory ≡ image
laid_whole gaps memory image was = ext_get_or 0 memory image (sym was.image_len) (λ j less. elim (was.laid j less) [
  | inl g ↦
      let holds = was.in_gap g.start g.behind j g.is g.above g.below in
      holds.0 ∙ sym (get_or-replicate (length memory) j 0 0 less) ∙ sym holds.1
  | inr same ↦ same
])
