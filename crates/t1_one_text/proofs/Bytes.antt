-- The bytes of memories and consoles, block by block.
use Rattle.std.proofs.Common.{◌≡◌, ℕ, zero, suc, ◌+◌, ◌*◌, ◌/◌, ◌%◌, ◌^◌, ◌<◌, ◌≤◌, List, [], ◌∷◌, ◌++◌, length, take, drop, codes, refl, sym, ap, ◌∙◌, append_assoc, arith}
use Rattle.std.proofs.lemmas.List.{length-drop, take-append-drop}
use Rattle.t1_num.specs.MemoryLaws.{AreBytes}
use Rattle.t1_log.specs.Hex.{digit_of, hex_of, hex_of_bytes}
use Rattle.t1_log.specs.Log.{console_line_of, console_lines_of}
use Rattle.t1_log.specs.Texts.{blocks_from}
use Rattle.t1_read.specs.Exact.{NextIsNot}
use Rattle.t1_take.proofs.Finding.{digit_high}
use Rattle.t1_read.proofs.ImageFound.{bytes_take, bytes_drop}
use Rattle.t1_one_text.proofs.Fields.{letter, digits_cut}
use Rattle.t1_one_text.proofs.Lists.{Each, Cuts, each_byte, lists_cut}

-- ---- bytes before a line feed

no_feed : (byte : ℕ) (x y : List ℕ) → hex_of 2 byte ++ x ≡ codes "\n" ++ y → ⊥
unfolding hex_of
no_feed byte x y e = (
    let first : digit_of (byte / 2 ^ 4 % 16) ≡ 10 = letter 0 e in
    let high = digit_high (byte / 2 ^ 4 % 16) in
    omega (arith, first, high)
    )

pub bytes_cut : (n : ℕ) (us vs : List ℕ) (x y : List ℕ) → Each (λ (i byte : ℕ). byte < 256) n us → Each (λ (i byte : ℕ). byte < 256) n vs
    → hex_of_bytes us ++ (codes "\n" ++ x) ≡ hex_of_bytes vs ++ (codes "\n" ++ y) → (us ≡ vs) × (x ≡ y)
unfolding hex_of_bytes
bytes_cut n [] [] x y f g e = (refl, ap (drop 1) e)
bytes_cut n (a ∷ us) [] x y f g e = absurd (no_feed a (hex_of_bytes us ++ (codes "\n" ++ x)) y (sym (append_assoc (hex_of 2 a) (hex_of_bytes us) (codes "\n" ++ x)) ∙ e))
bytes_cut n [] (b ∷ vs) x y f g e = absurd (no_feed b (hex_of_bytes vs ++ (codes "\n" ++ y)) x (sym (append_assoc (hex_of 2 b) (hex_of_bytes vs) (codes "\n" ++ y)) ∙ sym e))
bytes_cut n (a ∷ us) (b ∷ vs) x y f g e =
    let one = digits_cut 2 a b (hex_of_bytes us) (hex_of_bytes vs) (codes "\n" ++ x) (codes "\n" ++ y) (let l = f.0 in omega (arith, l)) (let l = g.0 in omega (arith, l)) e in
    let rest = bytes_cut (n + 1) us vs x y f.1 g.1 one.1 in
    (λ i. one.0 i ∷ rest.0 i, rest.1)

-- ---- blocks

-- the bytes of so many blocks
pub blocks_all : (k : ℕ) (xs ys : List ℕ) → length xs ≤ 32 * k → length ys ≤ 32 * k → blocks_from k xs ≡ blocks_from k ys → xs ≡ ys
unfolding blocks_from
blocks_all zero [] [] l m e = refl
blocks_all zero (x ∷ xs) ys l m e = absurd (omega (arith, l))
blocks_all zero [] (y ∷ ys) l m e = absurd (omega (arith, m))
blocks_all (suc k) xs ys l m e =
    let first : take 32 xs ≡ take 32 ys = ap head_of e in
    let rest : blocks_from k (drop 32 xs) ≡ blocks_from k (drop 32 ys) = ap (λ (t : List (List ℕ)). drop 1 t) e in
    let n = length-drop 32 xs in
    let p = length-drop 32 ys in
    let more = blocks_all k (drop 32 xs) (drop 32 ys) (omega (arith, n, l)) (omega (arith, p, m)) rest in
    let both : take 32 xs ++ drop 32 xs ≡ take 32 ys ++ drop 32 ys = λ i. first i ++ more i in
    sym (take-append-drop 32 xs) ∙ (both ∙ take-append-drop 32 ys)
  where
    head_of : List (List ℕ) → List ℕ
    head_of [] = []
    head_of (b ∷ vs) = b

length_blocks : (k : ℕ) (xs : List ℕ) → length (blocks_from k xs) ≡ k
unfolding blocks_from
length_blocks zero xs = refl
length_blocks (suc k) xs = ap (λ (n : ℕ). suc n) (length_blocks k (drop 32 xs))

-- ---- the console

each_block : (n k : ℕ) (xs : List ℕ) → AreBytes xs → Each (λ (i : ℕ) (block : List ℕ). AreBytes block) n (blocks_from k xs)
unfolding blocks_from
each_block n zero xs a = tt
each_block n (suc k) xs a = (bytes_take 32 xs a, each_block (n + 1) k (drop 32 xs) (bytes_drop 32 xs a))

pub runs_cut : Cuts console_line_of (λ (i : ℕ) (block : List ℕ). AreBytes block)
unfolding console_line_of
runs_cut n a b x y f g e =
    bytes_cut 0 a b x y (each_byte 0 a f) (each_byte 0 b g)
    (sym (append_assoc (hex_of_bytes a) (codes "\n") x) ∙ (ap (drop 2) e ∙ append_assoc (hex_of_bytes b) (codes "\n") y))

runs_part : (n : ℕ) (a x : List ℕ) → NextIsNot 107 (console_line_of n a ++ x) → ⊥
unfolding console_line_of
runs_part n a x s = s.other refl

pub console_cut : (xs ys x y : List ℕ) → AreBytes xs → AreBytes ys → NextIsNot 107 x → NextIsNot 107 y → console_lines_of xs ++ x ≡ console_lines_of ys ++ y → xs ≡ ys
console_cut xs ys x y a b s t e =
    let j : ℕ = (length xs + 31) / 32 in
    let k : ℕ = (length ys + 31) / 32 in
    let blocks = lists_cut console_line_of (λ (i : ℕ) (block : List ℕ). AreBytes block) (NextIsNot 107) runs_cut runs_part 0 (blocks_from j xs) (blocks_from k ys) x y (each_block 0 j xs a) (each_block 0 k ys b) s t e in
    let same : j ≡ k = sym (length_blocks j xs) ∙ (ap (λ (t : List (List ℕ)). length t) blocks.0 ∙ length_blocks k ys) in
    let low : length xs ≤ 32 * j = omega arith in
    let high : length ys ≤ 32 * j = omega (arith, same) in
    blocks_all j xs ys low high (blocks.0 ∙ ap (λ (n : ℕ). blocks_from n ys) (sym same))
