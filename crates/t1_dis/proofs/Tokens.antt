-- The parts of texts are tokens.
use Rattle.std.proofs.Common.{◌≡◌, ◌≤◌, ◌<◌, ℕ, ◌-◌, ◌^◌, ◌==◌, List, [], ◌∷◌, refl, ap, arith, Option, Some, None, Bool, true, false, not, ◌||◌, cond}
use Rattle.std.proofs.lemmas.Bool.Decides.{nat_tests}
use Rattle.std.specs.Prelude.{nat_lt}
use Rattle.t1_lex.specs.Bytes.{is_digit, is_letter, starts_name, is_name_byte}
use Rattle.t1_lex.specs.Parts.{Part, bytes_of, stops, AreParts}
use Rattle.t1_lex.specs.Parts.Part.{Space, Mark}
use Rattle.t1_lex.proofs.Parts.{and_true}
use Rattle.t1_lex.proofs.Numbers.{decimal_long}
use Rattle.t1_form.specs.declared.slot.Slot.{Slot}
use Rattle.t1_form.specs.declared.slot.Slot.TheVariants as slot
use Rattle.t1_operand.specs.declared.fields.Source.{Source}
use Rattle.t1_operand.specs.declared.fields.Source.TheVariants.{Register, Value}
use Rattle.t1_operand.specs.declared.fields.Fields.{Fields}
use Rattle.t1_dis.specs.Texts.{number, signed, offset, source, address, value, target, slot_parts, slots_parts}
use Rattle.t1_dis.proofs.Numbers.{hex_long}
use Rattle.t1_dis.proofs.NameTokens.{register_long, codes_percent, asi_percent, state_percent, privileged_percent}
use Rattle.t1_dis.proofs.Shown.{IsNumber, IsRegister, IsGiven, IsEither, IsShown, AreShown, is_mark_slot, begins_digit, begins, tidy, dash_mark, plus_mark}

-- what follows a token is no name byte
abbrev pub Stops : List Part → Type 0
Stops ps = stops is_name_byte (bytes_of ps) ≡ true

pub low_half : (v : ℕ) → nat_lt v (2 ^ 63) ≡ true → v < 2 ^ 63
low_half v e = grind (arith, nat_tests)

pub high_half : (v : ℕ) → nat_lt v (2 ^ 63) ≡ false → 2 ^ 63 ≤ v
high_half v e = grind (arith, nat_tests)

signed_go : (v : ℕ) (t : Bool) (ps : List Part) → nat_lt v (2 ^ 63) ≡ t → v < 2 ^ 64 → Stops ps → AreParts ps → AreParts (cond t (number v ∷ ps) (Mark 45 ∷ number (2 ^ 64 - v) ∷ ps))
signed_go v true ps e h s p = (decimal_long v h, s, p)
signed_go v false ps e h s p = (dash_mark, (decimal_long (2 ^ 64 - v) (omega (arith, high_half v e)), s, p))

signed_parts : (v : ℕ) (ps : List Part) → v < 2 ^ 64 → Stops ps → AreParts ps → AreParts (signed v ps)
unfolding signed
signed_parts v ps h s p = signed_go v (nat_lt v (2 ^ 63)) ps refl h s p

offset_go : (v : ℕ) (t : Bool) (ps : List Part) → nat_lt v (2 ^ 63) ≡ t → v < 2 ^ 64 → Stops ps → AreParts ps → AreParts (cond t (Mark 43 ∷ number v ∷ ps) (Mark 45 ∷ number (2 ^ 64 - v) ∷ ps))
offset_go v true ps e h s p = (plus_mark, (decimal_long v h, s, p))
offset_go v false ps e h s p = (dash_mark, (decimal_long (2 ^ 64 - v) (omega (arith, high_half v e)), s, p))

offset_parts : (v : ℕ) (ps : List Part) → v < 2 ^ 64 → Stops ps → AreParts ps → AreParts (offset v ps)
unfolding offset
offset_parts v ps h s p = offset_go v (nat_lt v (2 ^ 63)) ps refl h s p

offset_starts : (v : ℕ) (t : Bool) (ps : List Part) → Stops (cond t (Mark 43 ∷ number v ∷ ps) (Mark 45 ∷ number (2 ^ 64 - v) ∷ ps))
unfolding stops is_name_byte starts_name is_letter is_digit
offset_starts v true ps = refl
offset_starts v false ps = refl

source_parts : (from : Source) (ps : List Part) → IsEither from → Stops ps → AreParts ps → AreParts (source from ps)
source_parts (Register r) ps h s p = (register_long r h, s, p)
source_parts (Value (Some v)) ps h s p = signed_parts v ps h s p
source_parts (Value None) ps h s p = absurd h

register_source : (from : Source) → IsRegister from → IsEither from
register_source (Register r) h = h
register_source (Value v) h = absurd h

given_source : (from : Source) → IsGiven from → IsEither from
given_source (Register r) h = absurd h
given_source (Value v) h = h

address_parts : (r : ℕ) (from : Source) (ps : List Part) → r < 32 → IsEither from → Stops ps → AreParts ps → AreParts (address r from ps)
unfolding offset stops is_name_byte starts_name is_letter is_digit
address_parts r (Register q) ps g h s p = (register_long r g, refl, (plus_mark, (register_long q h, s, p)))
address_parts r (Value (Some v)) ps g h s p = (register_long r g, offset_starts v (nat_lt v (2 ^ 63)) ps, offset_parts v ps h s p)
address_parts r (Value None) ps g h s p = absurd h

value_parts : (v : Option ℕ) (ps : List Part) → IsNumber v → Stops ps → AreParts ps → AreParts (value v ps)
value_parts (Some n) ps h s p = (decimal_long n h, s, p)
value_parts None ps h s p = absurd h

target_parts : (v : Option ℕ) (ps : List Part) → IsNumber v → Stops ps → AreParts ps → AreParts (target v ps)
target_parts (Some n) ps h s p = (hex_long 15 n h h, s, p)
target_parts None ps h s p = absurd h

gap_parts : (t : Bool) (ps : List Part) → AreParts ps → AreParts (cond t (Space ∷ ps) ps)
gap_parts true ps p = p
gap_parts false ps p = p

-- a slot's parts are tokens where what follows them are
slot_tokens : (s : Slot) (f : Fields) (ps : List Part) → IsShown s f → (is_mark_slot s ≡ false → Stops ps) → AreParts ps → AreParts (slot_parts s f ps)
unfolding slot_parts
slot_tokens (slot.Mark b) f ps h s p = (h.mark, gap_parts (b == 44) ps p)
slot_tokens slot.Rd f ps h s p = (register_long f.rd h, s refl, p)
slot_tokens slot.Rs1 f ps h s p = (register_long f.rs1 h, s refl, p)
slot_tokens slot.Rs2 f ps h s p = source_parts f.source ps (register_source f.source h) (s refl) p
slot_tokens slot.Operand f ps h s p = source_parts f.source ps h (s refl) p
slot_tokens slot.Number f ps h s p = value_parts f.value ps h (s refl) p
slot_tokens slot.Target f ps h s p = target_parts f.value ps h (s refl) p
slot_tokens slot.AsiNumber f ps h s p = value_parts f.value ps h (s refl) p
slot_tokens slot.Extra f ps h s p = value_parts f.extra ps h (s refl) p
slot_tokens slot.Address f ps h s p = address_parts f.rs1 f.source ps h.0 h.1 (s refl) p
slot_tokens slot.Within f ps h s p = address_parts f.rs1 f.source ps h.0 h.1 (s refl) p
slot_tokens slot.Pair f ps h s p = address_parts f.rs1 f.source ps h.0 (register_source f.source h.1) (s refl) p
slot_tokens slot.Offset f ps h s p = address_parts f.rs1 f.source ps h.0 (given_source f.source h.1) (s refl) p
slot_tokens slot.Codes f ps h s p = ((codes_percent f.wide).long, s refl, p)
slot_tokens slot.Asi f ps h s p = (asi_percent.long, s refl, p)
slot_tokens slot.State f ps h s p = ((state_percent f.number).long, s refl, p)
slot_tokens slot.Privileged f ps h s p = ((privileged_percent f.number).long, s refl, p)
slot_tokens slot.Both f ps h s p = absurd h
slot_tokens slot.Rs2Rd f ps h s p = absurd h
slot_tokens slot.Annul f ps h s p = absurd h
slot_tokens slot.Predict f ps h s p = absurd h
slot_tokens slot.Barrier f ps h s p = absurd h
slot_tokens slot.One f ps h s p = absurd h
slot_tokens slot.Primary f ps h s p = absurd h

register_source_stops : (from : Source) (ps : List Part) → IsRegister from → Stops (source from ps)
unfolding stops is_name_byte starts_name is_letter is_digit
register_source_stops (Register r) ps h = refl
register_source_stops (Value v) ps h = absurd h

-- a slot's text begins with no name byte, where it begins with no digit
slot_stops : (s : Slot) (f : Fields) (ps : List Part) → IsShown s f → begins_digit s ≡ false → Stops (slot_parts s f ps)
unfolding slot_parts stops is_name_byte starts_name is_letter is_digit
slot_stops (slot.Mark b) f ps h e = ap not h.outside
slot_stops slot.Rd f ps h e = refl
slot_stops slot.Rs1 f ps h e = refl
slot_stops slot.Rs2 f ps h e = register_source_stops f.source ps h
slot_stops slot.Operand f ps h e = cc
slot_stops slot.Number f ps h e = cc
slot_stops slot.Target f ps h e = cc
slot_stops slot.AsiNumber f ps h e = refl
slot_stops slot.Extra f ps h e = cc
slot_stops slot.Address f ps h e = refl
slot_stops slot.Within f ps h e = refl
slot_stops slot.Pair f ps h e = refl
slot_stops slot.Offset f ps h e = refl
slot_stops slot.Codes f ps h e = (codes_percent f.wide).stops (bytes_of ps)
slot_stops slot.Asi f ps h e = refl
slot_stops slot.State f ps h e = (state_percent f.number).stops (bytes_of ps)
slot_stops slot.Privileged f ps h e = (privileged_percent f.number).stops (bytes_of ps)
slot_stops slot.Both f ps h e = absurd h
slot_stops slot.Rs2Rd f ps h e = absurd h
slot_stops slot.Annul f ps h e = absurd h
slot_stops slot.Predict f ps h e = absurd h
slot_stops slot.Barrier f ps h e = absurd h
slot_stops slot.One f ps h e = absurd h
slot_stops slot.Primary f ps h e = absurd h

slots_stop : (ss : List Slot) (f : Fields) → AreShown ss f → begins ss ≡ false → Stops (slots_parts ss f)
unfolding slots_parts stops
slots_stop [] f h e = refl
slots_stop (s ∷ ss) f h e = slot_stops s f (slots_parts ss f) h.0 e

or_false : (a b : Bool) → (a || not b) ≡ true → a ≡ false → b ≡ false
or_false true b e f = cc
or_false false true e f = cc
or_false false false e f = refl

pub slots_tokens : (ss : List Slot) (f : Fields) → AreShown ss f → tidy ss ≡ true → AreParts (slots_parts ss f)
unfolding slots_parts tidy
slots_tokens [] f h e = tt
slots_tokens (s ∷ ss) f h e =
    let p = and_true (is_mark_slot s || not (begins ss)) (tidy ss) e in
    slot_tokens s f (slots_parts ss f) h.0 (λ m. slots_stop ss f h.1 (or_false (is_mark_slot s) (begins ss) p.0 m)) (slots_tokens ss f h.1 p.1)
