-- A memory in which chunks are laid from the last to the first. Its gaps are where nothing was laid yet: each is named
-- by its first byte, and has the byte behind it.
use Rattle.std.specs.BTreeMap.{get}
use Rattle.std.specs.Ordering.{nat_cmp}
use Rattle.std.specs.Prelude.{ℕ, ◌≡◌, ◌≢◌, ◌<◌, ◌≤◌, List, length, Option, None, Some, ◌⊎◌, slice_index}
use Rattle.t1_elf.specs.declared.coverage.Coverage.{Coverage}

-- gaps below an end, which do not overlap
pub record AreGaps (gaps : ℕ → Option ℕ) (end : ℕ) : Type 0 where
  pub within : (s e : ℕ) → gaps s ≡ Some e → (s < e) × (e ≤ end)
  pub apart : (s e t f : ℕ) → gaps s ≡ Some e → gaps t ≡ Some f → s < t → e ≤ t

-- a byte lies in a gap
pub record LiesInGap (gaps : ℕ → Option ℕ) (j : ℕ) : Type 0 where
  pub start : ℕ
  pub behind : ℕ
  pub is : gaps start ≡ Some behind
  pub above : start ≤ j
  pub below : j < behind

-- the gaps after a part of one of them is taken out: what stands before the part and what stands behind it are gaps
pub record IsCut (old new : ℕ → Option ℕ) (gap : ℕ × ℕ) (from to : ℕ) : Type 0 where
  pub others : (q : ℕ) → q ≢ gap.0 → q ≢ to → new q ≡ old q
  pub front : gap.0 < from → new gap.0 ≡ Some from
  pub no_front : from ≤ gap.0 → new gap.0 ≡ None
  pub back : to < gap.1 → new to ≡ Some gap.1
  pub no_back : gap.1 ≤ to → new to ≡ old to

-- every byte of the memory is laid, and is the byte of the image, or lies in a gap, where the memory has a zero and the
-- image what stands under all that was laid
pub record IsPartlyLaid (gaps : ℕ → Option ℕ) (memory image under : List ℕ) : Type 0 where
  pub gaps_are : AreGaps gaps (length memory)
  pub image_len : length image ≡ length memory
  pub under_len : length under ≡ length memory
  pub in_gap : (s e j : ℕ) → gaps s ≡ Some e → s ≤ j → j < e → (slice_index memory j ≡ 0) × (slice_index image j ≡ slice_index under j)
  pub laid : (j : ℕ) → j < length memory → LiesInGap gaps j ⊎ (slice_index memory j ≡ slice_index image j)

-- the same of a coverage, whose map has each gap at its first byte
abbrev pub gaps_of : Coverage → ℕ → Option ℕ
gaps_of coverage = get nat_cmp coverage.gaps

abbrev pub Covers : Coverage → List ℕ → List ℕ → Type 0
Covers coverage image under = IsPartlyLaid (gaps_of coverage) coverage.memory.items image under
