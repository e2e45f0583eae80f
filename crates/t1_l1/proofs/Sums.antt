-- Places within a cache and within a line.
use Rattle.std.proofs.Common.{◌≡◌, ◌+◌, ◌-◌, ◌*◌, ◌/◌, ◌%◌, ◌<◌, ◌≤◌, ◌⊎◌, inl, inr, ℕ, zero, suc, List, set, subst, sym, ap, ◌∙◌, arith, mul-suc}
use Rattle.std.proofs.lemmas.Nat.{mul-le}
use Rattle.t1_num.specs.Memory.{IsSize, with_number_at}
use Rattle.t1_l1.specs.Layouts.{IsWays, IsSets, IsWidth}

pub sets_few : (sets : ℕ) → IsSets sets → sets ≤ 128
sets_few sets is = elim is [
  | inl a ↦ omega (arith, a)
  | inr b ↦ elim b [
    | inl a ↦ omega (arith, a)
    | inr b ↦ elim b [
      | inl a ↦ omega (arith, a)
      | inr b ↦ elim b [
        | inl a ↦ omega (arith, a)
        | inr b ↦ elim b [
          | inl a ↦ omega (arith, a)
          | inr b ↦ elim b [
            | inl a ↦ omega (arith, a)
            | inr b ↦ elim b [
              | inl a ↦ omega (arith, a)
              | inr b ↦ omega (arith, b)
            ]
          ]
        ]
      ]
    ]
  ]
]

-- a row of ways ends within the cache
pub row_fits : (ways sets s : ℕ) → s < sets → ways * s + ways ≤ ways * sets
row_fits ways sets s h =
    let more : ways * s + ways ≡ ways * suc s = omega (arith, mul-suc ways s) in
    let most : ways * suc s ≤ ways * sets = mul-le ways (suc s) ways sets (omega arith) (omega arith) in
    omega (arith, more, most)

pub rows_few : (ways sets : ℕ) → ways ≤ 8 → IsSets sets → ways * sets ≤ 1024
rows_few ways sets h is = let few : sets ≤ 128 = sets_few sets is in mul-le ways sets 8 128 h few

-- an aligned access lies within its line
in_16 : (addr size : ℕ) → IsSize size → addr % size ≡ 0 → addr % 16 + size ≤ 16
in_16 addr size is a = elim is [
  | inl one ↦ omega (arith, one)
  | inr b ↦ elim b [
    | inl two ↦ (let e : addr % 2 ≡ 0 = subst (λ (n : ℕ). addr % n ≡ 0) two a in omega (arith, two, e))
    | inr b ↦ elim b [
      | inl four ↦ (let e : addr % 4 ≡ 0 = subst (λ (n : ℕ). addr % n ≡ 0) four a in omega (arith, four, e))
      | inr eight ↦ (let e : addr % 8 ≡ 0 = subst (λ (n : ℕ). addr % n ≡ 0) eight a in omega (arith, eight, e))
    ]
  ]
]

in_32 : (addr size : ℕ) → IsSize size → addr % size ≡ 0 → addr % 32 + size ≤ 32
in_32 addr size is a = elim is [
  | inl one ↦ omega (arith, one)
  | inr b ↦ elim b [
    | inl two ↦ (let e : addr % 2 ≡ 0 = subst (λ (n : ℕ). addr % n ≡ 0) two a in omega (arith, two, e))
    | inr b ↦ elim b [
      | inl four ↦ (let e : addr % 4 ≡ 0 = subst (λ (n : ℕ). addr % n ≡ 0) four a in omega (arith, four, e))
      | inr eight ↦ (let e : addr % 8 ≡ 0 = subst (λ (n : ℕ). addr % n ≡ 0) eight a in omega (arith, eight, e))
    ]
  ]
]

pub in_line : (width addr size : ℕ) → IsWidth width → IsSize size → addr % size ≡ 0 → addr % width + size ≤ width
in_line width addr size w is a = elim w [
  | inl e ↦ subst (λ (n : ℕ). addr % n + size ≤ n) (sym e) (in_16 addr size is a)
  | inr e ↦ subst (λ (n : ℕ). addr % n + size ≤ n) (sym e) (in_32 addr size is a)
]

-- which numbers an empty cache begins with
pub ways_some : (ways : ℕ) → IsWays ways → 0 < ways
ways_some ways is = elim is [ inl a ↦ omega (arith, a) | inr a ↦ omega (arith, a) ]

pub ways_few : (ways : ℕ) → IsWays ways → ways ≤ 8
ways_few ways is = elim is [ inl a ↦ omega (arith, a) | inr a ↦ omega (arith, a) ]

pub width_some : (width : ℕ) → IsWidth width → 0 < width
width_some width is = elim is [ inl a ↦ omega (arith, a) | inr a ↦ omega (arith, a) ]

-- the bytes of a number are put one after another, the lowest last
pub put_none : (m : List ℕ) (at size value : ℕ) → size ≡ 0 → with_number_at m at size value ≡ m
unfolding with_number_at
put_none m at size value e = ap (λ (n : ℕ). with_number_at m at n value) e

pub put_more : (m : List ℕ) (at size value : ℕ) → 0 < size
    → set (with_number_at m at (size - 1) (value / 256)) (at + size - 1) (value % 256) ≡ with_number_at m at size value
unfolding with_number_at
put_more m at zero value h = absurd (omega arith)
put_more m at (suc n) value h =
    let less : suc n - 1 ≡ n = omega arith in
    let place : at + suc n - 1 ≡ at + n = omega arith in
    ap (λ (k : ℕ). set (with_number_at m at k (value / 256)) (at + suc n - 1) (value % 256)) less
    ∙ ap (λ (k : ℕ). set (with_number_at m at n (value / 256)) k (value % 256)) place
