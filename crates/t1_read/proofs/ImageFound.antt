-- An image that stands in a text is read.
use Rattle.std.proofs.Common.{◌≡◌, ℕ, zero, suc, ◌+◌, ◌*◌, ◌-◌, ◌/◌, ◌%◌, ◌^◌, ◌<◌, ◌≤◌, ◌⊎◌, true, false, List, [], ◌∷◌, ◌++◌, length, take, drop, get_or, refl, sym, ap, subst, ◌∙◌, append_assoc, inl, inr, arith}
use Rattle.std.proofs.lemmas.Bool.{cases_Bool, cases_lt, and_parts, eqb-true, le-leb, lt-leb, lt-ltb}
use Rattle.std.proofs.lemmas.List.{length-take, length-drop, get_or-take, get_or-drop, drop-drop, ext_get_or}
use Rattle.t1_num.specs.MemoryLaws.{AreBytes}
use Rattle.t1_log.specs.Lines.{block_line_of}
use Rattle.t1_log.specs.Texts.{lines_from, blocks_from, is_blank, block_lines_of, image_lines_of}
use Rattle.t1_take.specs.Image.{IsBlockAt, HasBlock}
use Rattle.t1_take.proofs.ImageTexts.{blank_lines, some_lines, IsImageSoFar}

-- ---- bytes

pub bytes_drop : (n : ℕ) (xs : List ℕ) → AreBytes xs → AreBytes (drop n xs)
bytes_drop n xs a i = subst (λ (k : ℕ). k < 256) (sym (get_or-drop n xs i 0)) (a (n + i))

pub bytes_none : (i : ℕ) → get_or {A = ℕ} [] i 0 ≡ 0
bytes_none zero = refl
bytes_none (suc i) = refl

pub bytes_take : (n : ℕ) (xs : List ℕ) → AreBytes xs → AreBytes (take n xs)
bytes_take zero xs a i = (let z = bytes_none i in omega (arith, z))
bytes_take (suc n) [] a i = (let z = bytes_none i in omega (arith, z))
bytes_take (suc n) (x ∷ xs) a zero = a 0
bytes_take (suc n) (x ∷ xs) a (suc i) = bytes_take n xs (λ k. a (suc k)) i

pub blank_zero : (xs : List ℕ) → is_blank xs ≡ true → (i : ℕ) → get_or xs i 0 ≡ 0
blank_zero [] e i = bytes_none i
blank_zero (x ∷ xs) e zero = eqb-true x 0 (and_parts _ _ e).0
blank_zero (x ∷ xs) e (suc i) = blank_zero xs (and_parts _ _ e).1 i

-- ---- the next block that is not blank

-- the lines of so many blocks of a memory, from a block on
abbrev pub lines_of : List ℕ → ℕ → ℕ → List ℕ
lines_of all start k = lines_from block_lines_of start (blocks_from k (drop (32 * start) all))

abbrev pub block_of : List ℕ → ℕ → List ℕ
block_of all number = take 32 (drop (32 * number) all)

pub record NoBlock (all : List ℕ) (start k : ℕ) : Type 0 where
  pub zeros : (i : ℕ) → 32 * start ≤ i → i < 32 * (start + k) → get_or all i 0 ≡ 0
  pub text_is : lines_of all start k ≡ []

pub record FoundBlock (all : List ℕ) (start k : ℕ) : Type 0 where
  pub number : ℕ
  pub low : start ≤ number
  pub high : number < start + k
  pub zeros : (i : ℕ) → 32 * start ≤ i → i < 32 * number → get_or all i 0 ≡ 0
  pub some : is_blank (block_of all number) ≡ false
  pub text_is : lines_of all start k ≡ block_line_of (32 * number) (block_of all number) ++ lines_of all (number + 1) (start + k - (number + 1))

-- of one block more
lines_front : (all : List ℕ) (start k : ℕ) → lines_of all start (suc k) ≡ block_lines_of start (block_of all start) ++ lines_of all (start + 1) k
unfolding lines_from blocks_from
lines_front all start k =
    let e : 32 * start + 32 ≡ 32 * (start + 1) = omega arith in
    ap (λ (xs : List ℕ). block_lines_of start (block_of all start) ++ lines_from block_lines_of (start + 1) (blocks_from k xs)) (drop-drop 32 (32 * start) all ∙ ap (λ (n : ℕ). drop n all) e)

lines_none : (all : List ℕ) (start : ℕ) → lines_of all start 0 ≡ []
unfolding lines_from blocks_from
lines_none all start = refl

blank_bytes : (all : List ℕ) (start : ℕ) → is_blank (block_of all start) ≡ true → (i : ℕ) → 32 * start ≤ i → i < 32 * (start + 1) → get_or all i 0 ≡ 0
blank_bytes all start e i l h =
    let at : 32 * start + (i - 32 * start) ≡ i = omega (arith, l) in
    ap (λ (n : ℕ). get_or all n 0) (sym at)
    ∙ (sym (get_or-drop (32 * start) all (i - 32 * start) 0)
    ∙ (sym (get_or-take 32 (drop (32 * start) all) (i - 32 * start) 0 (omega (arith, l, h))) ∙ blank_zero (block_of all start) e (i - 32 * start)))

find_block : (all : List ℕ) (k start : ℕ) → NoBlock all start k ⊎ FoundBlock all start k
find_block all zero start = inl (record { zeros = λ i l h. absurd (omega (arith, l, h)); text_is = lines_none all start })
find_block all (suc k) start =
    elim (cases_Bool (is_blank (block_of all start))) [
      | inl e ↦
          let front = lines_front all start k ∙ ap (λ (t : List ℕ). t ++ lines_of all (start + 1) k) (blank_lines start (block_of all start) e) in
          elim (find_block all k (start + 1)) [
            | inl none ↦ inl (record {
              zeros = λ i l h. elim (cases_lt i (32 * (start + 1))) [ inl p ↦ blank_bytes all start e i l p | inr p ↦ none.zeros i p (omega (arith, h)) ];
              text_is = front ∙ none.text_is;
            })
            | inr f ↦
                let n : start + 1 + k - (f.number + 1) ≡ start + suc k - (f.number + 1) = omega arith in
                inr (record {
                  number = f.number;
                  low = (let l = f.low in omega (arith, l));
                  high = (let h = f.high in omega (arith, h));
                  zeros = λ i l h. elim (cases_lt i (32 * (start + 1))) [ inl p ↦ blank_bytes all start e i l p | inr p ↦ f.zeros i p h ];
                  some = f.some;
                  text_is = front ∙ (f.text_is ∙ ap (λ (m : ℕ). block_line_of (32 * f.number) (block_of all f.number) ++ lines_of all (f.number + 1) m) n);
                })
          ]
      | inr e ↦
          let n : k ≡ start + suc k - (start + 1) = omega arith in
          inr (record {
            number = start;
            low = omega arith;
            high = omega arith;
            zeros = λ i l h. absurd (omega (arith, l, h));
            some = e;
            text_is = lines_front all start k
                ∙ (ap (λ (t : List ℕ). t ++ lines_of all (start + 1) k) (some_lines start (block_of all start) e) ∙ ap (λ (m : ℕ). block_line_of (32 * start) (block_of all start) ++ lines_of all (start + 1) m) n);
          })
    ]

-- ---- an image so far

pub record ImageLeft (text : List ℕ) (at : ℕ) (ram : List ℕ) (least : ℕ) (all rest : List ℕ) : Type 0 where
  pub below : (i : ℕ) → i < least → get_or ram i 0 ≡ get_or all i 0
  pub rest_is : drop at text ≡ lines_of all (least / 32) (length all / 32 - least / 32) ++ rest

pub image_begun : (text : List ℕ) (at : ℕ) (ram all rest : List ℕ) → drop at text ≡ image_lines_of all ++ rest → ImageLeft text at ram 0 all rest
image_begun text at ram all rest e = record { below = λ i l. absurd (omega (arith, l)); rest_is = e ∙ ap (λ (n : ℕ). lines_of all 0 n ++ rest) (let n : length all / 32 ≡ length all / 32 - 0 = omega arith in n) }

-- all of it was read
image_done : (text : List ℕ) (start at : ℕ) (ram : List ℕ) (least : ℕ) (all rest : List ℕ) → length all ≡ length ram → length ram % 32 ≡ 0 → IsImageSoFar text start at ram least → ImageLeft text at ram least all rest
    → NoBlock all (least / 32) (length all / 32 - least / 32) → (ram ≡ all) × (drop at text ≡ rest)
image_done text start at ram least all rest size blocks so left none =
    let within = so.within in
    let whole = so.whole in (
      ext_get_or 0 ram all (sym size) (λ i l. elim (cases_lt i least) [
        | inl p ↦ left.below i p
        | inr p ↦ so.zeros i p ∙ sym (none.zeros i (omega (arith, p, whole)) (omega (arith, l, size, blocks, whole, within)))
      ]),
      left.rest_is ∙ ap (λ (t : List ℕ). t ++ rest) none.text_is,
    )

-- the next block is one that a reader takes
block_next : (text : List ℕ) (start at : ℕ) (ram : List ℕ) (least : ℕ) (all : List ℕ) → length all ≡ length ram → length all ≤ 2 ^ 40 → length ram % 32 ≡ 0 → AreBytes all → IsImageSoFar text start at ram least
    → (f : FoundBlock all (least / 32) (length all / 32 - least / 32)) → IsBlockAt least (length ram) (32 * f.number) (block_of all f.number)
block_next text start at ram least all size most blocks bytes so f =
    let within = so.within in
    let whole = so.whole in
    let low = f.low in
    let high = f.high in
    let room : 32 * f.number + 32 ≤ length all = omega (arith, low, high, size, within, whole) in
    record {
      count = (let n = length-take 32 (drop (32 * f.number) all) in let m = length-drop (32 * f.number) all in omega (arith, n, m, room));
      are_bytes = bytes_take 32 (drop (32 * f.number) all) (bytes_drop (32 * f.number) all bytes);
      some = f.some;
      place = omega arith;
      above = omega (arith, low, whole);
      within = omega (arith, room, size);
      digits = omega (arith, room, most);
    }

-- a block stands next, which a reader takes
pub record IsBlockNext (text : List ℕ) (at : ℕ) (ram : List ℕ) (least : ℕ) (all rest : List ℕ) : Type 0 where
  pub block : FoundBlock all (least / 32) (length all / 32 - least / 32)
  pub good : IsBlockAt least (length ram) (32 * block.number) (block_of all block.number)
  pub after : List ℕ
  pub after_is : after ≡ lines_of all (block.number + 1) (least / 32 + (length all / 32 - least / 32) - (block.number + 1)) ++ rest
  pub reads : drop at text ≡ block_line_of (32 * block.number) (block_of all block.number) ++ after

pub image_cases : (text : List ℕ) (start at : ℕ) (ram : List ℕ) (least : ℕ) (all rest : List ℕ) → length all ≡ length ram → length all ≤ 2 ^ 40 → length ram % 32 ≡ 0 → AreBytes all → IsImageSoFar text start at ram least
    → ImageLeft text at ram least all rest → ((ram ≡ all) × (drop at text ≡ rest)) ⊎ IsBlockNext text at ram least all rest
image_cases text start at ram least all rest size most blocks bytes so left =
    elim (find_block all (length all / 32 - least / 32) (least / 32)) [
      | inl none ↦ inl (image_done text start at ram least all rest size blocks so left none)
      | inr f ↦
          let more : List ℕ = lines_of all (f.number + 1) (least / 32 + (length all / 32 - least / 32) - (f.number + 1)) in
          let line : List ℕ = block_line_of (32 * f.number) (block_of all f.number) in
          inr (record {
            block = f;
            good = block_next text start at ram least all size most blocks bytes so f;
            after = more ++ rest;
            after_is = refl;
            reads = left.rest_is ∙ (ap (λ (t : List ℕ). t ++ rest) f.text_is ∙ append_assoc line more rest);
          })
    ]

block_byte : (all : List ℕ) (number i : ℕ) → 32 * number ≤ i → i < 32 * number + 32 → get_or (block_of all number) (i - 32 * number) 0 ≡ get_or all i 0
block_byte all number i l h =
    let at : 32 * number + (i - 32 * number) ≡ i = omega (arith, l) in
    get_or-take 32 (drop (32 * number) all) (i - 32 * number) 0 (omega (arith, l, h))
    ∙ (get_or-drop (32 * number) all (i - 32 * number) 0 ∙ ap (λ (n : ℕ). get_or all n 0) at)

written_at : (old new : List ℕ) (addr : ℕ) (block : List ℕ) (i : ℕ) → HasBlock old new addr block → addr ≤ i → i < addr + 32 → get_or new i 0 ≡ get_or block (i - addr) 0
written_at old new addr block i h l m = h i ∙ rw (le-leb addr i l, lt-ltb i (addr + 32) m) refl

kept_at : (old new : List ℕ) (addr : ℕ) (block : List ℕ) (i : ℕ) → HasBlock old new addr block → i < addr → get_or new i 0 ≡ get_or old i 0
kept_at old new addr block i h l = h i ∙ rw (lt-leb addr i l) refl

pub image_more : (text : List ℕ) (start at next : ℕ) (old new : List ℕ) (least after : ℕ) (all rest : List ℕ) → length all ≡ length old → IsImageSoFar text start at old least → ImageLeft text at old least all rest
    → (f : FoundBlock all (least / 32) (length all / 32 - least / 32)) → HasBlock old new (32 * f.number) (block_of all f.number) → after ≡ 32 * f.number + 32
    → drop next text ≡ lines_of all (f.number + 1) (least / 32 + (length all / 32 - least / 32) - (f.number + 1)) ++ rest → ImageLeft text next new after all rest
image_more text start at next old new least after all rest size so left f has is d =
    let whole = so.whole in
    let within = so.within in
    let low = f.low in
    let number : after / 32 ≡ f.number + 1 = omega (arith, is) in
    let count : least / 32 + (length all / 32 - least / 32) - (f.number + 1) ≡ length all / 32 - after / 32 = omega (arith, is, size, within, whole) in
    record {
      below = λ i l. elim (cases_lt i (32 * f.number)) [
        | inl p ↦ kept_at old new (32 * f.number) (block_of all f.number) i has p ∙ elim (cases_lt i least) [
          | inl q ↦ left.below i q
          | inr q ↦ so.zeros i q ∙ sym (f.zeros i (omega (arith, q, whole)) p)
        ]
        | inr p ↦ written_at old new (32 * f.number) (block_of all f.number) i has p (omega (arith, l, is)) ∙ block_byte all f.number i p (omega (arith, l, is))
      ];
      rest_is = d ∙ (ap (λ (m : ℕ). lines_of all (f.number + 1) m ++ rest) count ∙ ap (λ (n : ℕ). lines_of all n (length all / 32 - after / 32) ++ rest) (sym number));
    }

pub block_first : (addr : ℕ) (block rest : List ℕ) → get_or (block_line_of addr block ++ rest) 0 0 ≡ 109
unfolding block_line_of
block_first addr block rest = refl

pub block_some : (addr : ℕ) (block : List ℕ) → 0 < length (block_line_of addr block)
unfolding block_line_of
block_some addr block = omega arith
