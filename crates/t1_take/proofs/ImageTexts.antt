-- The lines of an image, block by block.
use Rattle.std.proofs.Common.{◌≡◌, ℕ, zero, suc, ◌+◌, ◌*◌, ◌-◌, ◌/◌, ◌%◌, ◌<◌, ◌≤◌, ◌++◌, ◌∷◌, true, false, leb, ltb, eqb, List, [], length, take, drop, get_or, refl, sym, ap, subst, ◌∙◌, append-nil, codes, arith}
use Rattle.std.proofs.lemmas.Bool.{eq-eqb, le-leb, lt-leb, lt-ltb, le-ltb}
use Rattle.std.proofs.lemmas.List.{length-take, length-drop, get_or-take, get_or-drop, drop-drop, ext_get_or}
use Rattle.t1_log.specs.Hex.{hex_of, hex_of_bytes}
use Rattle.t1_log.specs.Lines.{block_line_of}
use Rattle.t1_log.specs.Texts.{lines_from, blocks_from, is_blank, block_lines_of, image_lines_of}
use Rattle.t1_take.specs.Taken.{Reads}
use Rattle.t1_take.specs.Image.{IsWritten}
use Rattle.t1_take.proofs.Taking.{reads_then}
use Rattle.t1_take.proofs.ListTexts.{lines_last}

-- one block more at the end
blocks_last : (k : ℕ) (xs : List ℕ) → blocks_from (suc k) xs ≡ blocks_from k xs ++ take 32 (drop (32 * k) xs) ∷ []
unfolding blocks_from
blocks_last zero xs = refl
blocks_last (suc k) xs =
    let e : 32 + 32 * k ≡ 32 * suc k = omega arith in
    ap (λ b. take 32 xs ∷ b) (blocks_last k (drop 32 xs) ∙ ap (λ d. blocks_from k (drop 32 xs) ++ take 32 d ∷ []) (drop-drop (32 * k) 32 xs ∙ ap (λ n. drop n xs) e))

-- the blocks up to a place are those of the bytes below it
blocks_same : (k : ℕ) (xs ys : List ℕ) → ((i : ℕ) → i < 32 * k → get_or xs i 0 ≡ get_or ys i 0) → length xs ≡ length ys → blocks_from k xs ≡ blocks_from k ys
unfolding blocks_from
blocks_same zero xs ys h e = refl
blocks_same (suc k) xs ys h e =
    let first : take 32 xs ≡ take 32 ys =
    ext_get_or 0 (take 32 xs) (take 32 ys) (omega (arith, length-take 32 xs, length-take 32 ys, e))
    (λ i l. (let low : i < 32 = omega (arith, l, length-take 32 xs) in get_or-take 32 xs i 0 low ∙ (h i (omega (arith, low)) ∙ sym (get_or-take 32 ys i 0 low)))) in
    ap (λ b. b ∷ blocks_from k (drop 32 xs)) first
    ∙ ap (λ r. take 32 ys ∷ r)
    (blocks_same k (drop 32 xs) (drop 32 ys) (λ i l. get_or-drop 32 xs i 0 ∙ (h (32 + i) (omega (arith, l)) ∙ sym (get_or-drop 32 ys i 0))) (omega (arith, length-drop 32 xs, length-drop 32 ys, e)))

all_zero : (xs : List ℕ) → ((i : ℕ) → i < length xs → get_or xs i 0 ≡ 0) → is_blank xs ≡ true
all_zero [] h = refl
all_zero (x ∷ xs) h =
    let first : eqb x 0 ≡ true = eq-eqb x 0 (h 0 (omega arith)) in
    rw first (all_zero xs (λ i l. h (suc i) (omega (arith, l))))

-- the lines of the first blocks
abbrev pub lines_up_to : ℕ → List ℕ → List ℕ
lines_up_to k ram = lines_from block_lines_of 0 (blocks_from k ram)

length_blocks : (k : ℕ) (xs : List ℕ) → length (blocks_from k xs) ≡ k
unfolding blocks_from
length_blocks zero xs = refl
length_blocks (suc k) xs = ap (λ (n : ℕ). suc n) (length_blocks k (drop 32 xs))

lines_more : (k : ℕ) (ram : List ℕ) → lines_up_to (suc k) ram ≡ lines_up_to k ram ++ block_lines_of k (take 32 (drop (32 * k) ram))
lines_more k ram =
    let n : 0 + length (blocks_from k ram) ≡ k = omega (arith, length_blocks k ram) in
    ap (lines_from block_lines_of 0) (blocks_last k ram)
    ∙ (lines_last block_lines_of 0 (blocks_from k ram) (take 32 (drop (32 * k) ram)) ∙ ap (λ m. lines_up_to k ram ++ block_lines_of m (take 32 (drop (32 * k) ram))) n)

pub blank_lines : (k : ℕ) (block : List ℕ) → is_blank block ≡ true → block_lines_of k block ≡ []
unfolding block_lines_of
blank_lines k block e = rw e refl

pub some_lines : (k : ℕ) (block : List ℕ) → is_blank block ≡ false → block_lines_of k block ≡ block_line_of (32 * k) block
unfolding block_lines_of
some_lines k block e = rw e refl

-- blocks of zeros have no lines
pub blank_more : (j k : ℕ) (ram : List ℕ) → ((at : ℕ) → 32 * k ≤ at → get_or ram at 0 ≡ 0) → lines_up_to (j + k) ram ≡ lines_up_to k ram
blank_more zero k ram h = let e : zero + k ≡ k = omega arith in ap (λ n. lines_up_to n ram) e
blank_more (suc j) k ram h =
    let e : suc j + k ≡ suc (j + k) = omega arith in
    let block : List ℕ = take 32 (drop (32 * (j + k)) ram) in
    let blank : is_blank block ≡ true =
    all_zero block
    (λ i l. (
    let low : i < 32 = omega (arith, l, length-take 32 (drop (32 * (j + k)) ram)) in
    get_or-take 32 (drop (32 * (j + k)) ram) i 0 low ∙ (get_or-drop (32 * (j + k)) ram i 0 ∙ h (32 * (j + k) + i) (omega arith))
    )) in
    ap (λ n. lines_up_to n ram) e
    ∙ (lines_more (j + k) ram ∙ (ap (λ l. lines_up_to (j + k) ram ++ l) (blank_lines (j + k) block blank) ∙ (append-nil (lines_up_to (j + k) ram) ∙ blank_more j k ram h)))

-- what was read of an image so far: the blocks below a place, from which on all bytes are zeros
pub record IsImageSoFar (text : List ℕ) (start at : ℕ) (ram : List ℕ) (least : ℕ) : Type 0 where
  pub whole : least % 32 ≡ 0
  pub within : least ≤ length ram
  pub zeros : (byte : ℕ) → least ≤ byte → get_or ram byte 0 ≡ 0
  pub reads : Reads text start at (lines_up_to (least / 32) ram)

pub image_start : (text : List ℕ) (at : ℕ) (ram : List ℕ) → ((byte : ℕ) → get_or ram byte 0 ≡ 0) → IsImageSoFar text at at ram 0
unfolding lines_from blocks_from
image_start text at ram zeros = record { whole = refl; within = omega arith; zeros = λ byte _. zeros byte; reads = refl }

pub image_end : (text : List ℕ) (start at : ℕ) (ram : List ℕ) (least : ℕ) → length ram % 32 ≡ 0 → IsImageSoFar text start at ram least → Reads text start at (image_lines_of ram)
image_end text start at ram least blocks so =
    let q : ℕ = least / 32 in
    let n : ℕ = length ram / 32 in
    let low : 32 * q ≡ least = omega (arith, so.whole) in
    let all : n - q + q ≡ n = omega (arith, so.within, so.whole) in
    let same : lines_up_to n ram ≡ lines_up_to q ram =
    ap (λ m. lines_up_to m ram) (sym all) ∙ blank_more (n - q) q ram (λ byte l. so.zeros byte (omega (arith, l, low))) in
    subst (Reads text start at) (sym same) so.reads

pub block_more : (text : List ℕ) (start mid end : ℕ) (old new : List ℕ) (least addr : ℕ) → length new ≡ length old → IsImageSoFar text start mid old least → IsWritten text mid end least old new addr
    → IsImageSoFar text start end new (addr + 32)
block_more text start mid end old new least addr len so w =
    let k : ℕ = addr / 32 in
    let q : ℕ = least / 32 in
    let at : 32 * k ≡ addr = omega (arith, w.place) in
    let low : 32 * q ≡ least = omega (arith, so.whole) in
    let all : k - q + q ≡ k = omega (arith, w.above, at, low) in
    let gap : lines_up_to k old ≡ lines_up_to q old =
    ap (λ m. lines_up_to m old) (sym all) ∙ blank_more (k - q) q old (λ byte l. so.zeros byte (omega (arith, l, low))) in
    let front : lines_up_to k new ≡ lines_up_to k old =
    ap (lines_from block_lines_of 0)
    (blocks_same k new old (λ i l. w.bytes i ∙ (let out : leb addr i ≡ false = lt-leb addr i (omega (arith, l, at)) in rw out refl)) len) in
    let here : take 32 (drop (32 * k) new) ≡ w.block =
    ext_get_or 0 (take 32 (drop (32 * k) new)) w.block
    (omega (arith, length-take 32 (drop (32 * k) new), length-drop (32 * k) new, len, w.within, at, w.count))
    (λ i l. (
    let small : i < 32 = omega (arith, l, length-take 32 (drop (32 * k) new)) in
    let from : leb addr (32 * k + i) ≡ true = le-leb addr (32 * k + i) (omega (arith, at)) in
    let to : ltb (32 * k + i) (addr + 32) ≡ true = lt-ltb (32 * k + i) (addr + 32) (omega (arith, at, small)) in
    let off : 32 * k + i - addr ≡ i = omega (arith, at) in
    get_or-take 32 (drop (32 * k) new) i 0 small ∙ (get_or-drop (32 * k) new i 0 ∙ (w.bytes (32 * k + i) ∙ (rw (from, to) (ap (λ n. get_or w.block n 0) off))))
    )) in
    let line : block_lines_of k (take 32 (drop (32 * k) new)) ≡ block_line_of addr w.block =
    ap (block_lines_of k) here ∙ (some_lines k w.block w.some ∙ ap (λ n. block_line_of n w.block) at) in
    let next : (addr + 32) / 32 ≡ suc k = omega (arith, at) in
    let lines : lines_up_to q old ++ block_line_of addr w.block ≡ lines_up_to ((addr + 32) / 32) new =
    ap (λ l. l ++ block_line_of addr w.block) (sym (front ∙ gap))
    ∙ (ap (λ l. lines_up_to k new ++ l) (sym line) ∙ (sym (lines_more k new) ∙ ap (λ n. lines_up_to n new) (sym next))) in
    record {
      whole = omega (arith, w.place);
      within = omega (arith, w.within, len);
      zeros = λ byte l. (
          let out : ltb byte (addr + 32) ≡ false = le-ltb byte (addr + 32) l in
          let in_ : leb addr byte ≡ true = le-leb addr byte (omega (arith, l)) in
          w.bytes byte ∙ (rw (in_, out) (so.zeros byte (omega (arith, l, w.above))))
          );
      reads = subst (Reads text start end) lines (reads_then text start mid end (lines_up_to q old) (block_line_of addr w.block) so.reads w.reads);
    }

pub block_text : (addr : ℕ) (block : List ℕ) → codes "m " ++ (hex_of 10 addr ++ (codes " " ++ (hex_of_bytes block ++ codes "\n"))) ≡ block_line_of addr block
unfolding block_line_of
block_text addr block = refl
