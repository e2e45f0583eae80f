-- A console that stands in a text is read.
use Rattle.std.proofs.Common.{◌≡◌, ℕ, suc, ◌+◌, ◌/◌, ◌<◌, ◌≤◌, ◌⊎◌, Bool, true, false, eqb, List, [], ◌∷◌, ◌++◌, length, take, drop, get_or, refl, sym, ap, subst, ◌∙◌, append_assoc, append-nil, inl, inr, arith}
use Rattle.std.proofs.lemmas.Bool.{cases_lt, eq-eqb}
use Rattle.std.proofs.lemmas.List.{length-take, length-drop, take-append-drop, nil_from_length}
use Rattle.t1_num.specs.MemoryLaws.{AreBytes}
use Rattle.t1_log.specs.Texts.{lines_from, blocks_from}
use Rattle.t1_log.specs.Log.{console_line_of, console_lines_of}
use Rattle.t1_take.proofs.ConsoleTexts.{no_console, unnumbered}
use Rattle.t1_read.proofs.ImageFound.{bytes_take}

renumber : (n m : ℕ) (bs : List (List ℕ)) → lines_from console_line_of n bs ≡ lines_from console_line_of m bs
unfolding lines_from
renumber n m [] = refl
renumber n m (b ∷ bs) =
    ap (λ (t : List ℕ). t ++ lines_from console_line_of (n + 1) bs) (unnumbered n b ∙ sym (unnumbered m b)) ∙ ap (λ (t : List ℕ). console_line_of m b ++ t) (renumber (n + 1) (m + 1) bs)

pub console_front : (xs : List ℕ) → 1 ≤ length xs → console_lines_of xs ≡ console_line_of 0 (take 32 xs) ++ console_lines_of (drop 32 xs)
unfolding lines_from blocks_from
console_front xs some =
    let k : ℕ = (length (drop 32 xs) + 31) / 32 in
    let n : (length xs + 31) / 32 ≡ suc k = (let d = length-drop 32 xs in omega (arith, d, some)) in
    ap (λ (m : ℕ). lines_from console_line_of 0 (blocks_from m xs)) n ∙ ap (λ (t : List ℕ). console_line_of 0 (take 32 xs) ++ t) (renumber (0 + 1) 0 (blocks_from k (drop 32 xs)))

-- what is left after the bytes that were read; after a short line nothing
pub record ConsoleLeft (text : List ℕ) (at : ℕ) (done all rest : List ℕ) (full : Bool) : Type 0 where
  pub left : List ℕ
  pub all_is : all ≡ done ++ left
  pub rest_is : drop at text ≡ console_lines_of left ++ rest
  pub ended : full ≡ false → left ≡ []

pub record ConsoleNext (text : List ℕ) (at : ℕ) (done all rest : List ℕ) : Type 0 where
  pub left : List ℕ
  pub some : 1 ≤ length left
  pub all_is : all ≡ done ++ left
  pub rest_is : drop at text ≡ console_line_of 0 (take 32 left) ++ (console_lines_of (drop 32 left) ++ rest)

pub console_start : (text : List ℕ) (at : ℕ) (done all rest : List ℕ) → done ≡ [] → drop at text ≡ console_lines_of all ++ rest → ConsoleLeft text at done all rest true
console_start text at done all rest e d = record { left = all; all_is = ap (λ xs. xs ++ all) (sym e); rest_is = d; ended = λ f. absurd (let bad : true ≡ false = f in cc) }

pub console_cases : (text : List ℕ) (at : ℕ) (done all rest : List ℕ) (full : Bool) → ConsoleLeft text at done all rest full → ((all ≡ done) × (drop at text ≡ rest)) ⊎ ConsoleNext text at done all rest
console_cases text at done all rest full s = by s.left s.all_is s.rest_is
  where
    by : (left : List ℕ) → all ≡ done ++ left → drop at text ≡ console_lines_of left ++ rest → ((all ≡ done) × (drop at text ≡ rest)) ⊎ ConsoleNext text at done all rest
    by [] e d = inl (e ∙ append-nil done, d ∙ ap (λ (t : List ℕ). t ++ rest) (no_console [] refl))
    by (x ∷ xs) e d =
        let some : 1 ≤ length (x ∷ xs) = omega arith in
        inr (record {
          left = x ∷ xs;
          some = some;
          all_is = e;
          rest_is = d ∙ (ap (λ (t : List ℕ). t ++ rest) (console_front (x ∷ xs) some) ∙ append_assoc (console_line_of 0 (take 32 (x ∷ xs))) (console_lines_of (drop 32 (x ∷ xs))) rest);
        })

pub console_over : (text : List ℕ) (at : ℕ) (done all rest : List ℕ) (full : Bool) → ConsoleLeft text at done all rest full → full ≡ false → (all ≡ done) × (drop at text ≡ rest)
console_over text at done all rest full s f =
    let none = s.ended f in (
      s.all_is ∙ (ap (λ (xs : List ℕ). done ++ xs) none ∙ append-nil done),
      s.rest_is ∙ (ap (λ (xs : List ℕ). console_lines_of xs ++ rest) none ∙ ap (λ (t : List ℕ). t ++ rest) (no_console [] refl)),
    )

pub console_next : (text : List ℕ) (at next : ℕ) (done longer all rest bytes : List ℕ) (count : ℕ) (s : ConsoleNext text at done all rest) → bytes ≡ take 32 s.left → longer ≡ done ++ bytes → count ≡ length bytes
    → drop next text ≡ console_lines_of (drop 32 s.left) ++ rest → ConsoleLeft text next longer all rest (eqb count 32)
console_next text at next done longer all rest bytes count s b l n d = record {
  left = drop 32 s.left;
  all_is = s.all_is
      ∙ (ap (λ (xs : List ℕ). done ++ xs) (sym (take-append-drop 32 s.left))
      ∙ (sym (append_assoc done (take 32 s.left) (drop 32 s.left)) ∙ ap (λ (xs : List ℕ). xs ++ drop 32 s.left) (ap (λ (xs : List ℕ). done ++ xs) (sym b) ∙ sym l)));
  rest_is = d;
  ended = λ f. elim (cases_lt (length s.left) 32) [
    | inl p ↦ nil_from_length (drop 32 s.left) (let m = length-drop 32 s.left in omega (arith, m, p))
    | inr p ↦ absurd (
        let m : count ≡ 32 = (let t = length-take 32 s.left in let k = ap length b in omega (arith, n, k, t, p)) in
        let bad : true ≡ false = sym (eq-eqb count 32 m) ∙ f in
        cc
        )
  ];
}

pub console_bytes : (done left all : List ℕ) → AreBytes all → all ≡ done ++ left → AreBytes (take 32 left)
console_bytes done left all a e = bytes_take 32 left (right done (subst AreBytes e a))
  where
    right : (xs : List ℕ) → AreBytes (xs ++ left) → AreBytes left
    right [] b = b
    right (x ∷ xs) b = right xs (λ i. b (suc i))

pub console_few : (left : List ℕ) → 1 ≤ length left → (1 ≤ length (take 32 left)) × (length (take 32 left) ≤ 32)
console_few left some = (let n = length-take 32 left in (omega (arith, n, some), omega (arith, n)))

pub console_first : (bytes rest : List ℕ) → get_or (console_line_of 0 bytes ++ rest) 0 0 ≡ 107
unfolding console_line_of
console_first bytes rest = refl

pub console_some : (bytes : List ℕ) → 0 < length (console_line_of 0 bytes)
unfolding console_line_of
console_some bytes = omega arith
