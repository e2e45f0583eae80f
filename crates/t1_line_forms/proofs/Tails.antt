-- How lines end: kills one after another, bytes.
use Rattle.std.proofs.Common.{◌≡◌, ℕ, zero, suc, ◌/◌, ◌%◌, ◌<◌, ◌≤◌, inl, inr, Bool, true, false, List, [], length, eqb, sym, ap, subst, ◌∙◌, arith}
use Rattle.std.specs.Bool.{MatchBool}
use Rattle.std.specs.List.{list_all}
use Rattle.std.proofs.lemmas.Bool.{eqb-true, eqb-false}
use Rattle.std.proofs.lemmas.List.{nil_from_length}
use Rattle.t1_line_forms.specs.Digits.{is_hex_digit}
use Rattle.t1_line_forms.specs.Fields.{Leads}
use Rattle.t1_line_forms.specs.Forms.{kill_fields, AreKills, AreByteDigits}

-- ---- kills

pub no_kills : (most : ℕ) (text : List ℕ) → text ≡ [] → AreKills most text
unfolding AreKills
no_kills zero text e = e
no_kills (suc most) text e = inl e

pub one_more_kill : (most : ℕ) (text rest : List ℕ) → Leads [] kill_fields text rest → AreKills most rest → AreKills (suc most) text
unfolding AreKills
one_more_kill most text rest first others = inr (rest, first, others)

pub record FirstKill (most : ℕ) (text : List ℕ) : Type 0 where
  pub rest : List ℕ
  pub first : Leads [] kill_fields text rest
  pub others : AreKills most rest

pub first_kill : (most : ℕ) (text : List ℕ) → (text ≡ [] → ⊥) → AreKills (suc most) text → FirstKill most text
unfolding AreKills
first_kill most text some (inl none) = absurd (some none)
first_kill most text some (inr k) = record { rest = k.0; first = k.1; others = k.2 }

pub same_kills : (most : ℕ) (a b : List ℕ) → a ≡ b → AreKills most b → AreKills most a
same_kills most a b e kills = subst (AreKills most) {x = b} (sym e) kills

no_more : (text : List ℕ) → AreKills 0 text → text ≡ []
unfolding AreKills
no_more text e = e

pub kills_decided : (r : Bool) (rest : List ℕ) (All : Type 0) (left : ℕ) → left ≡ 0 → r ≡ eqb (length rest) 0 → (AreKills left rest → All) → (All → AreKills left rest) → MatchBool r All (All → ⊥)
kills_decided true rest All left z e back forth = back (no_kills left rest (nil_from_length rest (eqb-true (length rest) 0 (sym e))))
kills_decided false rest All left z e back forth = λ all.
    eqb-false (length rest) 0 (sym e) (ap (λ (t : List ℕ). length t) (no_more rest (subst (λ (n : ℕ). AreKills n rest) z (forth all))))

-- ---- bytes

pub bytes_decided : (r : Bool) (text : List ℕ) → r ≡ list_all is_hex_digit text → 0 < length text → length text ≤ 64 → length text % 2 ≡ 0 → MatchBool r (AreByteDigits text) (AreByteDigits text → ⊥)
bytes_decided true text e some few even = (length text / 2, omega (arith, few), record { are_digits = sym e; many = omega (arith, even); some = omega (arith, some, even) })
bytes_decided false text e some few even = λ b. (let bad : false ≡ true = e ∙ b.2.are_digits in cc)
