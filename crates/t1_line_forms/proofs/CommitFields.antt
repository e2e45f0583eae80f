-- The fields of printed commits.
use Rattle.std.proofs.Common.{◌≡◌, ℕ, zero, suc, ◌≤◌, inl, inr, List, [], ◌∷◌, ◌++◌, length, codes, Option, None, Some, refl, sym, subst, append_assoc, arith}
use Rattle.std.specs.Fmt.{decimal}
use Rattle.std.specs.List.{All}
use Rattle.std.proofs.lemmas.List.Elements.{All-head, All-tail}
use Rattle.t1_packet.specs.Data.{KillData}
use Rattle.t1_log.specs.Hex.{hex_of}
use Rattle.t1_log.specs.Log.{kill_field_of, kill_fields_of, way_field_of, evicted_field_of}
use Rattle.t1_line_forms.specs.Digits.{EndsDecimal}
use Rattle.t1_line_forms.specs.Fields.{Leads}
use Rattle.t1_line_forms.specs.Forms.{AreKills, IsForm, IsOneOf, kill_fields, commit_form, commit_forms}
use Rattle.t1_line_forms.specs.Words.{IsWord, AreKillWords}
use Rattle.t1_line_forms.proofs.Numerals.{hex_is}
use Rattle.t1_line_forms.proofs.Parts.{Part, Text, Decimal, Digits, Letter, fields_of, text_of, AreFit, parts_lead}
use Rattle.t1_line_forms.proofs.Tails.{no_kills, one_more_kill}

-- ---- kills

kills_end : (kills : List KillData) → EndsDecimal (kill_fields_of kills)
unfolding kill_fields_of kill_field_of
kills_end [] = tt
kills_end (kill ∷ kills) = refl

kill_leads : (kill : KillData) (rest : List ℕ) → AreKillWords kill → EndsDecimal rest → Leads [] kill_fields (kill_field_of kill ++ rest) rest
unfolding kill_field_of
kill_leads kill rest words ends =
    let parts : List Part = Text (codes " ") ∷ Decimal kill.core ∷ Text (codes ".") ∷ Letter kill.cache ∷ Text (codes ".") ∷ Decimal kill.set ∷ Text (codes ".") ∷ Decimal kill.way ∷ [] in
    let text_is : kill_field_of kill ++ rest ≡ text_of parts rest = simp append_assoc in
    subst (λ (t : List ℕ). Leads [] kill_fields t rest) (sym text_is) (parts_lead parts rest (words.core, refl, (words.set, refl, (words.way, ends, tt))))

pub kills_are : (most : ℕ) (kills : List KillData) → length kills ≤ most → All AreKillWords kills → AreKills most (kill_fields_of kills)
unfolding kill_fields_of
kills_are most [] few words = no_kills most [] refl
kills_are zero (kill ∷ kills) few words = absurd (omega (arith, few))
kills_are (suc most) (kill ∷ kills) few words =
    one_more_kill most (kill_field_of kill ++ kill_fields_of kills) (kill_fields_of kills) (kill_leads kill (kill_fields_of kills) (All-head AreKillWords kill kills words) (kills_end kills))
    (kills_are most kills (omega (arith, few)) (All-tail AreKillWords kill kills words))

-- ---- commits

abbrev front : ℕ → ℕ → ℕ → List Part → List Part
front dest strand item filled = Decimal dest ∷ Text (codes " ") ∷ Decimal strand ∷ Text (codes " ") ∷ Decimal item ∷ Text (codes " ") ∷ filled

goes_on : (filled : List Part) (dest strand item : ℕ) (kills : List ℕ) → IsWord dest → IsWord strand → IsWord item → AreFit filled kills → AreKills 64 kills
    → IsForm (commit_form (fields_of filled)) (text_of (front dest strand item filled) kills)
goes_on filled dest strand item kills d s i fit are = record { rest = kills; leads = parts_lead (front dest strand item filled) kills (d, refl, (s, refl, (i, refl, fit))); ends = are }

pub commit_goes_on : (way evicted : Option ℕ) (dest strand item : ℕ) (kills : List ℕ) → IsWord dest → IsWord strand → IsWord item → ((w : ℕ) → way ≡ Some w → IsWord w) → AreKills 64 kills
    → IsOneOf commit_forms (decimal dest ++ (codes " " ++ (decimal strand ++ (codes " " ++ (decimal item ++ (codes " " ++ (way_field_of way ++ (codes " " ++ (evicted_field_of evicted ++ kills)))))))))
commit_goes_on (Some way) (Some addr) dest strand item kills d s i w are =
    inl (goes_on (Decimal way ∷ Text (codes " ") ∷ Digits 10 (hex_of 10 addr) ∷ []) dest strand item kills d s i (w way refl, refl, (hex_is 10 addr (omega arith), tt)) are)
commit_goes_on (Some way) None dest strand item kills d s i w are = inr (inl (goes_on (Decimal way ∷ Text (codes " -") ∷ []) dest strand item kills d s i (w way refl, refl, tt) are))
commit_goes_on None (Some addr) dest strand item kills d s i w are =
    inr (inr (inl (goes_on (Text (codes "- ") ∷ Digits 10 (hex_of 10 addr) ∷ []) dest strand item kills d s i (hex_is 10 addr (omega arith), tt) are)))
commit_goes_on None None dest strand item kills d s i w are = inr (inr (inr (inl (goes_on (Text (codes "- -") ∷ []) dest strand item kills d s i tt are))))
