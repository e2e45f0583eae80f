-- A chunk under all that was laid before, from its end down to an address.
use Rattle.std.proofs.Common.{◌≡◌, ℕ, ◌+◌, ◌-◌, ◌<◌, ◌≤◌, inl, inr, min, max, List, ◌++◌, length, take, drop, get_or, Option, Some, IsSome, refl, ap, sym, ◌∙◌, arith}
use Rattle.std.proofs.lemmas.Bool.{cases_lt}
use Rattle.std.proofs.lemmas.List.{length-take, length-replicate, get_or-take, get_or-drop, get_or_append_left, get_or-append_right, get_or-replicate, get_or_past}
use Rattle.t1_elf.specs.Gaps.{AreGaps, LiesInGap, IsCut, IsPartlyLaid}
use Rattle.t1_elf.specs.Images.{zeros_of, with_bytes_at}
use Rattle.t1_elf.proofs.Cutting.{CutsGap}
use Rattle.t1_elf.proofs.Covering.{part_is_laid, laid_over}
use Rattle.t1_elf.proofs.Laying.{length-with_bytes_at, byte_before, byte_inside, byte_behind}

-- zeros behind bytes are what is read there anyway
zeros_behind : (bytes : List ℕ) (n k : ℕ) → get_or (bytes ++ zeros_of n) k 0 ≡ get_or bytes k 0
zeros_behind bytes n k = elim (cases_lt k (length bytes)) [
  | inl less ↦ get_or_append_left bytes (zeros_of n) 0 k less
  | inr past ↦
      get_or-append_right bytes (zeros_of n) (length bytes) k 0 refl past
      ∙ zero_at (k - length bytes)
      ∙ sym (get_or_past bytes k 0 past)
]
  where
    zero_at : (i : ℕ) → get_or (zeros_of n) i 0 ≡ 0
    zero_at i = elim (cases_lt i n) [
      | inl less ↦ get_or-replicate n i 0 0 less
      | inr past ↦ get_or_past (zeros_of n) i 0 (omega (arith, past, length-replicate {A = ℕ} n 0))
    ]

-- a part of the last gap with a byte between the addresses `addr` and `high` is cut out: what lies between them
abbrev pub cuts : (gaps gaps' : ℕ → Option ℕ) (end s e from to addr high : ℕ) → AreGaps gaps end → gaps s ≡ Some e
    → ((q : ℕ) → q < high → IsSome (gaps q) → q ≤ s) → IsCut gaps gaps' (s, e) from to
    → from ≡ max s addr → to ≡ min e high → (s < high) × (addr < e) × (addr < high) → CutsGap gaps gaps' end
cuts gaps gaps' end s e from to addr high were is last cut from_is to_is between = record {
  start = s;
  behind = e;
  from = from;
  to = to;
  high = high;
  were = were;
  gap = is;
  last = last;
  cut = cut;
  from_start = omega (arith, from_is);
  some = omega (arith, from_is, to_is, between.0, between.1, between.2, (were.within s e is).0);
  to_behind = omega (arith, to_is);
  to_high = λ less. omega (arith, less, to_is);
}

-- ---- a chunk of this content, of which what lies below an address is not laid yet

module _ (base content : List ℕ) (addr : ℕ) (within : addr + length content ≤ length base) where
  abbrev pub under : ℕ → List ℕ
  under high = with_bytes_at base addr (take (high - addr) content)

  low_within : addr ≤ length base
  low_within = omega (arith, within)

  length-under : (high : ℕ) → length (under high) ≡ length base
  length-under high =
      length-with_bytes_at base addr (take (high - addr) content) (omega (arith, within, length-take (high - addr) content))

  under_below : (high j : ℕ) → j < addr → get_or (under high) j 0 ≡ get_or base j 0
  under_below high j less = byte_before base addr (take (high - addr) content) j low_within less

  under_inside : (high j : ℕ) → addr ≤ j → j < high → high ≤ addr + length content
      → get_or (under high) j 0 ≡ get_or content (j - addr) 0
  under_inside high j low less most =
      byte_inside base addr (take (high - addr) content) j low_within low (omega (arith, low, less, most, length-take (high - addr) content))
      ∙ get_or-take (high - addr) content (j - addr) 0 (omega (arith, low, less))

  under_above : (high j : ℕ) → addr ≤ high → high ≤ j → get_or (under high) j 0 ≡ get_or base j 0
  under_above high j low past =
      byte_behind base addr (take (high - addr) content) j low_within (omega (arith, low, past, length-take (high - addr) content))

  before_both : (from high j : ℕ) → addr ≤ from → from ≤ high → high ≤ addr + length content → j < from
      → get_or (under from) j 0 ≡ get_or (under high) j 0
  before_both from high j low less most before = elim (cases_lt j addr) [
    | inl first ↦ under_below from j first ∙ sym (under_below high j first)
    | inr next ↦
        under_inside from j next before (omega (arith, less, most)) ∙ sym (under_inside high j next (omega (arith, before, less)) most)
  ]

  after_both : (from high j : ℕ) → addr ≤ from → from ≤ high → high ≤ j → get_or (under from) j 0 ≡ get_or (under high) j 0
  after_both from high j low less past =
      under_above from j low (omega (arith, less, past)) ∙ sym (under_above high j (omega (arith, low, less)) past)

  -- no gap has a byte of what is not laid yet
  pub all_laid : (gaps : ℕ → Option ℕ) (memory image : List ℕ) (high : ℕ) → addr ≤ high → IsPartlyLaid gaps memory image (under high)
      → ((j : ℕ) → addr ≤ j → j < high → LiesInGap gaps j → ⊥) → IsPartlyLaid gaps memory image base
  all_laid gaps memory image high low was none =
      laid_over gaps memory image (under high) base was (sym (length-under high)) (λ s e j is above below. elim (cases_lt j addr) [
        | inl first ↦ under_below high j first
        | inr next ↦ elim (cases_lt j high) [
          | inl inside ↦ absurd (none j next inside (record { start = s; behind = e; is = is; above = above; below = below }))
          | inr past ↦ under_above high j low past
        ]
      ])

-- ---- the bytes of a chunk, and zeros behind them

-- where a gap has bytes of what is not laid yet, they are laid
pub more_is_laid : (gaps gaps' : ℕ → Option ℕ) (memory memory' image base bytes : List ℕ) (zeros addr high : ℕ)
    → addr + length (bytes ++ zeros_of zeros) ≤ length base → high ≤ addr + length (bytes ++ zeros_of zeros)
    → (c : CutsGap gaps gaps' (length memory)) → c.high ≡ high → addr ≤ c.from → c.from ≤ high → c.to ≤ high
    → memory' ≡ with_bytes_at memory c.from (take (c.to - c.from) (drop (c.from - addr) bytes))
    → IsPartlyLaid gaps memory image (with_bytes_at base addr (take (high - addr) (bytes ++ zeros_of zeros)))
    → IsPartlyLaid gaps' memory' image (with_bytes_at base addr (take (c.from - addr) (bytes ++ zeros_of zeros)))
more_is_laid gaps gaps' memory memory' image base bytes zeros addr high within most c high_is low less to_high put was =
    let content : List ℕ = bytes ++ zeros_of zeros in
    let part : List ℕ = take (c.to - c.from) (drop (c.from - addr) bytes) in
    part_is_laid gaps gaps' memory memory' image (under base content addr within high) (under base content addr within c.from) (record {
      cuts = c;
      was = was;
      part = part;
      put = put;
      short = omega (arith, c.some, length-take (c.to - c.from) (drop (c.from - addr) bytes));
      bytes = λ j above below.
          let place : c.from - addr + (j - c.from) ≡ j - addr = omega (arith, low, above) in
          under_inside base content addr within high j (omega (arith, low, above)) (omega (arith, below, to_high)) most
          ∙ zeros_behind bytes zeros (j - addr)
          ∙ ap (λ k. get_or bytes k 0) (sym place)
          ∙ sym (get_or-drop (c.from - addr) bytes (j - c.from) 0)
          ∙ sym (get_or-take (c.to - c.from) (drop (c.from - addr) bytes) (j - c.from) 0 (omega (arith, above, below)));
      before = λ j before. before_both base content addr within c.from high j low less most before;
      after = λ j past. after_both base content addr within c.from high j low less (omega (arith, past, high_is));
      len = length-under base content addr within c.from ∙ sym (length-under base content addr within high);
    })
