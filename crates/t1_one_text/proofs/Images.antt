-- The lines of images are cut in one way.
use Rattle.std.proofs.Common.{◌≡◌, ℕ, zero, suc, ◌+◌, ◌*◌, ◌/◌, ◌%◌, ◌^◌, ◌<◌, ◌≤◌, true, false, List, [], ◌∷◌, ◌++◌, length, take, drop, get_or, codes, refl, sym, ap, ◌∙◌, append_assoc, inl, inr, arith}
use Rattle.std.proofs.lemmas.Bool.{cases_Bool, and_parts, eqb-true}
use Rattle.std.proofs.lemmas.List.{length-take, length-drop, take-append-drop, nil_from_length}
use Rattle.t1_num.specs.MemoryLaws.{AreBytes}
use Rattle.t1_log.specs.Hex.{hex_of, hex_of_bytes}
use Rattle.t1_log.specs.Lines.{block_line_of}
use Rattle.t1_log.specs.Texts.{lines_from, blocks_from, is_blank, block_lines_of, image_lines_of}
use Rattle.t1_read.specs.Exact.{NextIsNot}
use Rattle.t1_take.proofs.ImageTexts.{blank_lines, some_lines}
use Rattle.t1_read.proofs.ImageFound.{bytes_take, bytes_drop, block_first}
use Rattle.t1_one_text.proofs.Fields.{past, digits_cut}
use Rattle.t1_one_text.proofs.Lists.{each_byte}
use Rattle.t1_one_text.proofs.Bytes.{bytes_cut}

-- ---- one block

pub block_cut : (addr : ℕ) (a b x y : List ℕ) → AreBytes a → AreBytes b → block_line_of addr a ++ x ≡ block_line_of addr b ++ y → (a ≡ b) × (x ≡ y)
unfolding block_line_of
block_cut addr a b x y f g e =
    let after = past (hex_of 10 addr) _ _ x y (ap (drop 2) e) in
    bytes_cut 0 a b x y (each_byte 0 a f) (each_byte 0 b g)
    (sym (append_assoc (hex_of_bytes a) (codes "\n") x) ∙ (ap (drop 1) after ∙ append_assoc (hex_of_bytes b) (codes "\n") y))

-- the address says which block it is
pub addr_same : (addr other : ℕ) (a b x y : List ℕ) → addr < 2 ^ 40 → other < 2 ^ 40 → block_line_of addr a ++ x ≡ block_line_of other b ++ y → addr ≡ other
unfolding block_line_of
addr_same addr other a b x y l m e = (digits_cut 10 addr other _ _ x y l m (ap (drop 2) e)).0

-- two blocks of zeros
pub blank_same : (xs ys : List ℕ) → length xs ≡ length ys → is_blank xs ≡ true → is_blank ys ≡ true → xs ≡ ys
blank_same [] [] l f g = refl
blank_same (x ∷ xs) [] l f g = absurd (omega (arith, l))
blank_same [] (y ∷ ys) l f g = absurd (omega (arith, l))
blank_same (x ∷ xs) (y ∷ ys) l f g =
    let p = and_parts _ _ f in
    let q = and_parts _ _ g in
    let first : x ≡ y = eqb-true x 0 p.0 ∙ sym (eqb-true y 0 q.0) in
    let rest = blank_same xs ys (omega (arith, l)) p.1 q.1 in
    λ i. first i ∷ rest i

-- ---- so many blocks of a memory

-- from a number on
abbrev pub lines_at : ℕ → ℕ → List ℕ → List ℕ
lines_at n k xs = lines_from block_lines_of n (blocks_from k xs)

pub blank_front : (n k : ℕ) (xs x : List ℕ) → is_blank (take 32 xs) ≡ true → lines_at n (suc k) xs ++ x ≡ lines_at (n + 1) k (drop 32 xs) ++ x
unfolding lines_from blocks_from
blank_front n k xs x e = ap (λ (t : List ℕ). (t ++ lines_at (n + 1) k (drop 32 xs)) ++ x) (blank_lines n (take 32 xs) e)

pub some_front : (n k : ℕ) (xs x : List ℕ) → is_blank (take 32 xs) ≡ false → lines_at n (suc k) xs ++ x ≡ block_line_of (32 * n) (take 32 xs) ++ (lines_at (n + 1) k (drop 32 xs) ++ x)
unfolding lines_from blocks_from
some_front n k xs x e =
    ap (λ (t : List ℕ). (t ++ lines_at (n + 1) k (drop 32 xs)) ++ x) (some_lines n (take 32 xs) e)
    ∙ append_assoc (block_line_of (32 * n) (take 32 xs)) (lines_at (n + 1) k (drop 32 xs)) x

pub none_at : (n : ℕ) (xs x : List ℕ) → lines_at n 0 xs ++ x ≡ x
unfolding lines_from blocks_from
none_at n xs x = refl

-- no later block has the address of this one
not_later : (k n m : ℕ) (xs b x y : List ℕ) → m < n → 32 * (n + k) ≤ 2 ^ 40 → NextIsNot 109 x → lines_at n k xs ++ x ≡ block_line_of (32 * m) b ++ y → ⊥
not_later zero n m xs b x y l room s e = s.other (ap (λ (t : List ℕ). get_or t 0 0) (sym (none_at n xs x) ∙ e) ∙ block_first (32 * m) b y)
not_later (suc k) n m xs b x y l room s e =
    elim (cases_Bool (is_blank (take 32 xs))) [
      | inl z ↦ not_later k (n + 1) m (drop 32 xs) b x y (omega (arith, l)) (omega (arith, room)) s (sym (blank_front n k xs x z) ∙ e)
      | inr z ↦ (
          let same = addr_same (32 * n) (32 * m) (take 32 xs) b (lines_at (n + 1) k (drop 32 xs) ++ x) y (omega (arith, room)) (omega (arith, room, l)) (sym (some_front n k xs x z) ∙ e) in
          omega (arith, same, l)
          )
    ]

pub joined : (xs ys : List ℕ) → take 32 xs ≡ take 32 ys → drop 32 xs ≡ drop 32 ys → xs ≡ ys
joined xs ys first more = (
    let both : take 32 xs ++ drop 32 xs ≡ take 32 ys ++ drop 32 ys = λ i. first i ++ more i in
    sym (take-append-drop 32 xs) ∙ (both ∙ take-append-drop 32 ys)
    )

blocks_cut : (k n : ℕ) (xs ys x y : List ℕ) → length xs ≡ 32 * k → length ys ≡ 32 * k → 32 * (n + k) ≤ 2 ^ 40 → AreBytes xs → AreBytes ys → NextIsNot 109 x → NextIsNot 109 y
    → lines_at n k xs ++ x ≡ lines_at n k ys ++ y → (xs ≡ ys) × (x ≡ y)
blocks_cut zero n xs ys x y l m room a b s t e = (
  nil_from_length xs (omega (arith, l)) ∙ sym (nil_from_length ys (omega (arith, m))),
  sym (none_at n xs x) ∙ (e ∙ none_at n ys y),
)
blocks_cut (suc k) n xs ys x y l m room a b s t e =
    let p = length-drop 32 xs in
    let q = length-drop 32 ys in
    let f = length-take 32 xs in
    let g = length-take 32 ys in
    let rest = blocks_cut k (n + 1) (drop 32 xs) (drop 32 ys) x y (omega (arith, p, l)) (omega (arith, q, m)) (omega (arith, room)) (bytes_drop 32 xs a) (bytes_drop 32 ys b) s t in
    elim (cases_Bool (is_blank (take 32 xs))) [
      | inl z ↦ elim (cases_Bool (is_blank (take 32 ys))) [
        | inl w ↦
            let more = rest (sym (blank_front n k xs x z) ∙ (e ∙ blank_front n k ys y w)) in
            (joined xs ys (blank_same (take 32 xs) (take 32 ys) (omega (arith, f, g, l, m)) z w) more.0, more.1)
        | inr w ↦ absurd (not_later k (n + 1) n (drop 32 xs) (take 32 ys) x (lines_at (n + 1) k (drop 32 ys) ++ y) (omega arith) (omega (arith, room)) s (sym (blank_front n k xs x z) ∙ (e ∙ some_front n k ys y w)))
      ]
      | inr z ↦ elim (cases_Bool (is_blank (take 32 ys))) [
        | inl w ↦ absurd (not_later k (n + 1) n (drop 32 ys) (take 32 xs) y (lines_at (n + 1) k (drop 32 xs) ++ x) (omega arith) (omega (arith, room)) t (sym (blank_front n k ys y w) ∙ (sym e ∙ some_front n k xs x z)))
        | inr w ↦
            let one = block_cut (32 * n) (take 32 xs) (take 32 ys) (lines_at (n + 1) k (drop 32 xs) ++ x) (lines_at (n + 1) k (drop 32 ys) ++ y) (bytes_take 32 xs a) (bytes_take 32 ys b)
            (sym (some_front n k xs x z) ∙ (e ∙ some_front n k ys y w)) in
            let more = rest one.1 in
            (joined xs ys one.0 more.0, more.1)
      ]
    ]

-- memories of one length
pub images_cut : (xs ys x y : List ℕ) → length xs ≡ length ys → length xs % 32 ≡ 0 → length xs ≤ 2 ^ 40 → AreBytes xs → AreBytes ys → NextIsNot 109 x → NextIsNot 109 y
    → image_lines_of xs ++ x ≡ image_lines_of ys ++ y → (xs ≡ ys) × (x ≡ y)
images_cut xs ys x y same whole most a b s t e =
    let k : ℕ = length xs / 32 in
    let n : length ys / 32 ≡ k = omega (arith, same) in
    blocks_cut k 0 xs ys x y (omega (arith, whole)) (omega (arith, same, whole)) (omega (arith, most)) a b s t (e ∙ ap (λ (j : ℕ). lines_at 0 j ys ++ y) n)
