-- Two memories in one text are one, or a block stands behind one of them that ascends.
use Rattle.std.proofs.Common.{◌≡◌, ℕ, zero, suc, ◌+◌, ◌*◌, ◌-◌, ◌/◌, ◌%◌, ◌^◌, ◌<◌, ◌≤◌, true, false, List, ◌++◌, length, take, drop, get_or, sym, ap, ◌∙◌, inl, inr, arith}
use Rattle.std.proofs.lemmas.Bool.{cases_Bool, cases_lt}
use Rattle.std.proofs.lemmas.List.{length-take, length-drop, nil_from_length, get_or-take, get_or-drop}
use Rattle.t1_num.specs.MemoryLaws.{AreBytes}
use Rattle.t1_log.specs.Lines.{block_line_of}
use Rattle.t1_log.specs.Texts.{is_blank, image_lines_of}
use Rattle.t1_read.proofs.ImageFound.{bytes_take, bytes_drop, bytes_none, blank_zero}
use Rattle.t1_one_text.proofs.Images.{lines_at, blank_front, some_front, none_at, block_cut, addr_same, blank_same, joined}

-- a block of a number from this one on stands next, and the memory holds zeros from there on
pub record IsBlockNext (n : ℕ) (xs x : List ℕ) : Type 0 where
  pub number : ℕ
  pub block : List ℕ
  pub more : List ℕ
  pub low : n ≤ number
  pub high : 32 * number < 32 * n + length xs
  pub count : length block ≡ 32
  pub bytes : AreBytes block
  pub some : is_blank block ≡ false
  pub zeros : (at : ℕ) → 32 * number ≤ 32 * n + at → get_or xs at 0 ≡ 0
  pub rest_is : x ≡ block_line_of (32 * number) block ++ more

pub data ImagesCompared (n : ℕ) (xs ys x y : List ℕ) : Type 0 where
  SameImage : xs ≡ ys → x ≡ y → ImagesCompared n xs ys x y
  LongerImage : IsBlockNext n xs x → ImagesCompared n xs ys x y
  ShorterImage : IsBlockNext n ys y → ImagesCompared n xs ys x y

-- ---- zeros

behind_block : (xs : List ℕ) (at : ℕ) → 32 ≤ at → get_or (drop 32 xs) (at - 32) 0 ≡ get_or xs at 0
behind_block xs at l = (let e : 32 + (at - 32) ≡ at = omega (arith, l) in get_or-drop 32 xs (at - 32) 0 ∙ ap (λ (n : ℕ). get_or xs n 0) e)

abbrev AllZeros : List ℕ → Type 0
AllZeros xs = (at : ℕ) → get_or xs at 0 ≡ 0

zeros_joined : (xs : List ℕ) → is_blank (take 32 xs) ≡ true → AllZeros (drop 32 xs) → AllZeros xs
zeros_joined xs blank rest at = elim (cases_lt at 32) [
  | inl l ↦ sym (get_or-take 32 xs at 0 l) ∙ blank_zero (take 32 xs) blank at
  | inr l ↦ sym (behind_block xs at l) ∙ rest (at - 32)
]

zeros_none : (xs : List ℕ) → length xs ≡ 0 → AllZeros xs
zeros_none xs l at = ap (λ (t : List ℕ). get_or t at 0) (nil_from_length xs l) ∙ bytes_none at

-- ---- blocks

-- where a block of a lower number stands, the memory holds zeros, and the block stands behind it
pub record IsBehind (xs x line : List ℕ) : Type 0 where
  pub zeros : AllZeros xs
  pub rest_is : x ≡ line

only_behind : (k n m : ℕ) (xs b x y : List ℕ) → m < n → 32 * (n + k) ≤ 2 ^ 40 → length xs ≡ 32 * k → lines_at n k xs ++ x ≡ block_line_of (32 * m) b ++ y → IsBehind xs x (block_line_of (32 * m) b ++ y)
only_behind zero n m xs b x y l room size e = record { zeros = zeros_none xs (omega (arith, size)); rest_is = sym (none_at n xs x) ∙ e }
only_behind (suc k) n m xs b x y l room size e =
    let d = length-drop 32 xs in
    elim (cases_Bool (is_blank (take 32 xs))) [
      | inl z ↦
          let rest = only_behind k (n + 1) m (drop 32 xs) b x y (omega (arith, l)) (omega (arith, room)) (omega (arith, d, size)) (sym (blank_front n k xs x z) ∙ e) in
          record { zeros = zeros_joined xs z rest.zeros; rest_is = rest.rest_is }
      | inr z ↦ absurd (
          let same = addr_same (32 * n) (32 * m) (take 32 xs) b (lines_at (n + 1) k (drop 32 xs) ++ x) y (omega (arith, room)) (omega (arith, room, l)) (sym (some_front n k xs x z) ∙ e) in
          omega (arith, same, l)
          )
    ]

-- this memory holds zeros from here on, and the other a block
blank_here : (k n : ℕ) (xs ys x y : List ℕ) → 32 * (n + suc k) ≤ 2 ^ 40 → length xs ≡ 32 * suc k → length ys ≡ 32 * suc k → AreBytes ys → is_blank (take 32 xs) ≡ true → is_blank (take 32 ys) ≡ false
    → lines_at n (suc k) xs ++ x ≡ lines_at n (suc k) ys ++ y → IsBlockNext n xs x
blank_here k n xs ys x y room l m b z w e =
    let p = length-drop 32 xs in
    let g = length-take 32 ys in
    let behind = only_behind k (n + 1) n (drop 32 xs) (take 32 ys) x (lines_at (n + 1) k (drop 32 ys) ++ y) (omega arith) (omega (arith, room)) (omega (arith, p, l))
    (sym (blank_front n k xs x z) ∙ (e ∙ some_front n k ys y w)) in
    record {
      number = n;
      block = take 32 ys;
      more = lines_at (n + 1) k (drop 32 ys) ++ y;
      low = omega arith;
      high = omega (arith, l);
      count = omega (arith, g, m);
      bytes = bytes_take 32 ys b;
      some = w;
      zeros = λ at _. zeros_joined xs z behind.zeros at;
      rest_is = behind.rest_is;
    }

-- behind one block
later : (n : ℕ) (xs x : List ℕ) → 32 ≤ length xs → IsBlockNext (n + 1) (drop 32 xs) x → IsBlockNext n xs x
later n xs x long f =
    let d = length-drop 32 xs in
    let low = f.low in
    let high = f.high in
    record {
      number = f.number;
      block = f.block;
      more = f.more;
      low = omega (arith, low);
      high = omega (arith, high, d, long);
      count = f.count;
      bytes = f.bytes;
      some = f.some;
      zeros = λ at l. sym (behind_block xs at (omega (arith, l, low))) ∙ f.zeros (at - 32) (omega (arith, l, low));
      rest_is = f.rest_is;
    }

later_both : (n : ℕ) (xs ys x y : List ℕ) → 32 ≤ length xs → 32 ≤ length ys → take 32 xs ≡ take 32 ys → ImagesCompared (n + 1) (drop 32 xs) (drop 32 ys) x y → ImagesCompared n xs ys x y
later_both n xs ys x y l m first (SameImage rest e) = SameImage (joined xs ys first rest) e
later_both n xs ys x y l m first (LongerImage f) = LongerImage (later n xs x l f)
later_both n xs ys x y l m first (ShorterImage f) = ShorterImage (later n ys y m f)

blocks_compared : (k n : ℕ) (xs ys x y : List ℕ) → length xs ≡ 32 * k → length ys ≡ 32 * k → 32 * (n + k) ≤ 2 ^ 40 → AreBytes xs → AreBytes ys → lines_at n k xs ++ x ≡ lines_at n k ys ++ y → ImagesCompared n xs ys x y
blocks_compared zero n xs ys x y l m room a b e =
    SameImage (nil_from_length xs (omega (arith, l)) ∙ sym (nil_from_length ys (omega (arith, m)))) (sym (none_at n xs x) ∙ (e ∙ none_at n ys y))
blocks_compared (suc k) n xs ys x y l m room a b e =
    let p = length-drop 32 xs in
    let q = length-drop 32 ys in
    let f = length-take 32 xs in
    let g = length-take 32 ys in
    let rest = blocks_compared k (n + 1) (drop 32 xs) (drop 32 ys) x y (omega (arith, p, l)) (omega (arith, q, m)) (omega (arith, room)) (bytes_drop 32 xs a) (bytes_drop 32 ys b) in
    let long = later_both n xs ys x y (omega (arith, l)) (omega (arith, m)) in
    elim (cases_Bool (is_blank (take 32 xs))) [
      | inl z ↦ elim (cases_Bool (is_blank (take 32 ys))) [
        | inl w ↦ long (blank_same (take 32 xs) (take 32 ys) (omega (arith, f, g, l, m)) z w) (rest (sym (blank_front n k xs x z) ∙ (e ∙ blank_front n k ys y w)))
        | inr w ↦ LongerImage (blank_here k n xs ys x y room l m b z w e)
      ]
      | inr z ↦ elim (cases_Bool (is_blank (take 32 ys))) [
        | inl w ↦ ShorterImage (blank_here k n ys xs y x room m l a w z (sym e))
        | inr w ↦
            let one = block_cut (32 * n) (take 32 xs) (take 32 ys) (lines_at (n + 1) k (drop 32 xs) ++ x) (lines_at (n + 1) k (drop 32 ys) ++ y) (bytes_take 32 xs a) (bytes_take 32 ys b)
            (sym (some_front n k xs x z) ∙ (e ∙ some_front n k ys y w)) in
            long one.0 (rest one.1)
      ]
    ]

-- memories of one length
pub images_compared : (xs ys x y : List ℕ) → length xs ≡ length ys → length xs % 32 ≡ 0 → length xs ≤ 2 ^ 40 → AreBytes xs → AreBytes ys → image_lines_of xs ++ x ≡ image_lines_of ys ++ y → ImagesCompared 0 xs ys x y
images_compared xs ys x y same whole most a b e =
    let k : ℕ = length xs / 32 in
    let n : length ys / 32 ≡ k = omega (arith, same) in
    blocks_compared k 0 xs ys x y (omega (arith, whole)) (omega (arith, same, whole)) (omega (arith, most)) a b (e ∙ ap (λ (j : ℕ). lines_at 0 j ys ++ y) n)
