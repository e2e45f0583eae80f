-- Texts in a row.
use Rattle.std.proofs.Common.{◌≡◌, ◌≤◌, ◌<◌, ◌^◌, ℕ, List, [], ◌∷◌, ◌++◌, append_assoc, append-nil, ap, sym, refl, length, arith, Bool, true, false, cond, Option, Some, None, ◌==◌}
use Rattle.std.proofs.lemmas.Fmt.{length-decimal-le}
use Rattle.std.specs.Fmt.{decimal}
use Rattle.std.specs.Prelude.{nat_lt, ◌-◌}
use Rattle.t1_lex.specs.Parts.{Part, bytes_of}
use Rattle.t1_lex.specs.Parts.Part.{Mark, Space}
use Rattle.t1_form.specs.declared.slot.Slot.{Slot}
use Rattle.t1_form.specs.declared.slot.Slot.TheVariants as slot
use Rattle.t1_operand.specs.declared.fields.Source.{Source}
use Rattle.t1_operand.specs.declared.fields.Source.TheVariants.{Register, Value}
use Rattle.t1_operand.specs.declared.fields.Fields.{Fields}
use Rattle.t1_dis.specs.Hex.{hex_of}
use Rattle.t1_dis.specs.Names.{register_bytes, state_text, privileged_text}
use Rattle.t1_dis.specs.Texts.{number, codes_text, signed, offset, source, behind_register, value, target, slot_parts, annulled, predicted}

pub regroup : (a b c : List ℕ) → (a ++ b) ++ c ≡ a ++ (b ++ c)
regroup a b c = append_assoc a b c

pub decimal_short : (n : ℕ) → n < 2 ^ 64 → length (decimal n) ≤ 20
decimal_short n h = length-decimal-le 20 n (omega arith) (omega arith) h

pub decimal_end : (n : ℕ) → decimal n ++ [] ≡ decimal n
decimal_end n = append-nil (decimal n)

joined : (n : ℕ) (bs : List ℕ) → decimal n ++ bs ≡ (decimal n ++ []) ++ bs
joined n bs = ap (λ l. l ++ bs) (sym (append-nil (decimal n)))

signed_go : (t : Bool) (v w : ℕ) (ps : List Part) → bytes_of (cond t (number v ∷ ps) (Mark 45 ∷ number w ∷ ps)) ≡ bytes_of (cond t (number v ∷ []) (Mark 45 ∷ number w ∷ [])) ++ bytes_of ps
signed_go true v w ps = joined v (bytes_of ps)
signed_go false v w ps = ap (λ l. 45 ∷ l) (joined w (bytes_of ps))

signed_then : (v : ℕ) (ps : List Part) → bytes_of (signed v ps) ≡ bytes_of (signed v []) ++ bytes_of ps
unfolding signed
signed_then v ps = signed_go (nat_lt v (2 ^ 63)) v (2 ^ 64 - v) ps

offset_go : (t : Bool) (v w : ℕ) (ps : List Part) → bytes_of (cond t (Mark 43 ∷ number v ∷ ps) (Mark 45 ∷ number w ∷ ps)) ≡ bytes_of (cond t (Mark 43 ∷ number v ∷ []) (Mark 45 ∷ number w ∷ [])) ++ bytes_of ps
offset_go true v w ps = ap (λ l. 43 ∷ l) (joined v (bytes_of ps))
offset_go false v w ps = ap (λ l. 45 ∷ l) (joined w (bytes_of ps))

offset_then : (v : ℕ) (ps : List Part) → bytes_of (offset v ps) ≡ bytes_of (offset v []) ++ bytes_of ps
unfolding offset
offset_then v ps = offset_go (nat_lt v (2 ^ 63)) v (2 ^ 64 - v) ps

source_then : (s : Source) (ps : List Part) → bytes_of (source s ps) ≡ bytes_of (source s []) ++ bytes_of ps
source_then (Register r) ps = refl
source_then (Value (Some v)) ps = signed_then v ps
source_then (Value None) ps = refl

behind_then : (s : Source) (ps : List Part) → bytes_of (behind_register s ps) ≡ bytes_of (behind_register s []) ++ bytes_of ps
behind_then (Register r) ps = refl
behind_then (Value (Some v)) ps = offset_then v ps
behind_then (Value None) ps = refl

value_then : (v : Option ℕ) (ps : List Part) → bytes_of (value v ps) ≡ bytes_of (value v []) ++ bytes_of ps
value_then (Some n) ps = joined n (bytes_of ps)
value_then None ps = refl

target_then : (v : Option ℕ) (ps : List Part) → bytes_of (target v ps) ≡ bytes_of (target v []) ++ bytes_of ps
target_then (Some n) ps = ap (λ l. 48 ∷ 120 ∷ l) (ap (λ l. l ++ bytes_of ps) (sym (append-nil (hex_of 16 n))))
target_then None ps = refl

gap_go : (t : Bool) (ps : List Part) → bytes_of (cond t (Space ∷ ps) ps) ≡ bytes_of (cond t (Space ∷ []) []) ++ bytes_of ps
gap_go true ps = refl
gap_go false ps = refl

-- what a slot shows, and what follows it
pub slot_then : (s : Slot) (f : Fields) (ps : List Part) → bytes_of (slot_parts s f ps) ≡ bytes_of (slot_parts s f []) ++ bytes_of ps
unfolding slot_parts
slot_then (slot.Mark b) f ps = ap (λ l. b ∷ l) (gap_go (b == 44) ps)
slot_then slot.Rd f ps = refl
slot_then slot.Rs1 f ps = refl
slot_then slot.Rs2 f ps = source_then f.source ps
slot_then slot.Operand f ps = source_then f.source ps
slot_then slot.Number f ps = value_then f.value ps
slot_then slot.Target f ps = target_then f.value ps
slot_then slot.AsiNumber f ps = ap (λ l. 32 ∷ l) (value_then f.value ps)
slot_then slot.Extra f ps = value_then f.extra ps
slot_then slot.Address f ps = ap (λ l. register_bytes f.rs1 ++ l) (behind_then f.source ps)
slot_then slot.Within f ps = ap (λ l. register_bytes f.rs1 ++ l) (behind_then f.source ps)
slot_then slot.Pair f ps = ap (λ l. register_bytes f.rs1 ++ l) (behind_then f.source ps)
slot_then slot.Offset f ps = ap (λ l. register_bytes f.rs1 ++ l) (behind_then f.source ps)
slot_then slot.Codes f ps = ap (λ l. l ++ bytes_of ps) (sym (append-nil (codes_text f.wide)))
slot_then slot.Asi f ps = refl
slot_then slot.State f ps = ap (λ l. l ++ bytes_of ps) (sym (append-nil (state_text f.number)))
slot_then slot.Privileged f ps = ap (λ l. l ++ bytes_of ps) (sym (append-nil (privileged_text f.number)))
slot_then slot.Both f ps = refl
slot_then slot.Rs2Rd f ps = refl
slot_then slot.Annul f ps = refl
slot_then slot.Predict f ps = refl
slot_then slot.Barrier f ps = refl
slot_then slot.One f ps = refl
slot_then slot.Primary f ps = refl

-- the flags of a branch, and what follows them
pub flags_then : (annul taken : Bool) (ps : List Part) → bytes_of (annulled annul (predicted taken ps)) ≡ bytes_of (annulled annul (predicted taken [])) ++ bytes_of ps
flags_then true true ps = refl
flags_then true false ps = refl
flags_then false true ps = refl
flags_then false false ps = refl
