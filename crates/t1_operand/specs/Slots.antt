-- The operands of forms, slot by slot.
use Rattle.std.specs.Prelude.{ℕ, bit_or, ◌&&◌, if◌then◌else◌, Bool, true, false, List, [], ◌∷◌, Option, Some, None, codes}
use Rattle.std.specs.Str.{bytes_eq}
use Rattle.t1_lex.specs.Tokens.{Lexeme}
use Rattle.t1_lex.specs.declared.token.TokenKind.TheVariants.{Name, Percent, Hash}
use Rattle.t1_form.specs.Options.{◌>>=◌}
use Rattle.t1_form.specs.Names.{named, register_of, state_of, privileged_names, barrier_names}
use Rattle.t1_expr.specs.Exprs.{Env, Value, is_punct, sum_of, expr_at}
use Rattle.t1_operand.specs.declared.fields.Source.{Source}
use Rattle.t1_operand.specs.declared.fields.Source.TheVariants.{Register, Value as Given}
use Rattle.t1_operand.specs.declared.fields.Fields.{Fields}
use Rattle.t1_form.specs.declared.slot.Slot.{Slot}
use Rattle.t1_form.specs.declared.slot.Slot.TheVariants.{Mark, Rd, Rs1, Both, Rs2, Rs2Rd, Operand, Number, Target, AsiNumber, Extra, Address, Within, Pair, Offset, Codes, Annul, Predict, Asi, State, Privileged, Barrier, One, Primary}

-- behind a mark
unfoldable pub mark_at : ℕ → List Lexeme → Option (List Lexeme)
mark_at b [] = None
mark_at b (w ∷ ws) = if is_punct b w then Some ws else None

unfoldable pub register_in : Lexeme → Option ℕ
register_in (Percent, bytes) = register_of bytes
register_in _ = None

unfoldable pub register_at : List Lexeme → Option (ℕ × List Lexeme)
register_at [] = None
register_at (w ∷ ws) = do
  r ← register_in w
  Some (r, ws)

-- nothing stands behind the operands
unfoldable pub whole : {A : Type 0} → A → List Lexeme → Option A
whole a [] = Some a
whole a (w ∷ ws) = None

-- a register or an expr
unfoldable pub source_or : Env → ℕ → List Lexeme → Option (ℕ × List Lexeme) → Option (Source × List Lexeme)
source_or env here ws (Some found) = Some (Register found.0, found.1)
source_or env here ws None = do
  e ← expr_at env here ws
  Some (Given e.0, e.1)

unfoldable pub source_at : Env → ℕ → List Lexeme → Option (Source × List Lexeme)
source_at env here ws = source_or env here ws (register_at ws)

-- an offset that is subtracted whole
unfoldable pub minus_at : Env → ℕ → List Lexeme → Option (Source × List Lexeme)
minus_at env here ws = do
  e ← expr_at env here ws
  Some (Given (sum_of true (Some 0) e.0), e.1)

-- an offset that is an expr
unfoldable pub plus_at : Env → ℕ → List Lexeme → Option (Source × List Lexeme)
plus_at env here ws = do
  e ← expr_at env here ws
  Some (Given e.0, e.1)

-- behind the register of an address: +r, +expr, -expr or nothing
unfoldable pub rest_of_address : Env → ℕ → List Lexeme → Option (Source × List Lexeme)
rest_of_address env here [] = Some (Register 0, [])
rest_of_address env here (w ∷ ws) =
    if is_punct 43 w then source_at env here ws else
    if is_punct 45 w then minus_at env here ws else
    Some (Register 0, w ∷ ws)

-- the same without +r
unfoldable pub rest_of_offset : Env → ℕ → List Lexeme → Option (Source × List Lexeme)
rest_of_offset env here [] = Some (Given (Some 0), [])
rest_of_offset env here (w ∷ ws) =
    if is_punct 43 w then plus_at env here ws else
    if is_punct 45 w then minus_at env here ws else
    Some (Given (Some 0), w ∷ ws)

unfoldable pub plus_register : List Lexeme → Option (Source × List Lexeme)
plus_register ws = do
  r ← register_at ws
  Some (Register r.0, r.1)

-- the same with +r alone
unfoldable pub rest_of_pair : List Lexeme → Option (Source × List Lexeme)
rest_of_pair [] = Some (Register 0, [])
rest_of_pair (w ∷ ws) = if is_punct 43 w then plus_register ws else Some (Register 0, w ∷ ws)

abbrev pub Place : Type 0
Place = ℕ × Source × List Lexeme

unfoldable pub address_at : Env → ℕ → List Lexeme → Option Place
address_at env here ws = do
  r ← register_at ws
  s ← rest_of_address env here r.1
  Some (r.0, s.0, s.1)

unfoldable pub offset_at : Env → ℕ → List Lexeme → Option Place
offset_at env here ws = do
  r ← register_at ws
  s ← rest_of_offset env here r.1
  Some (r.0, s.0, s.1)

unfoldable pub pair_at : List Lexeme → Option Place
pair_at ws = do
  r ← register_at ws
  s ← rest_of_pair r.1
  Some (r.0, s.0, s.1)

-- an address, or an expr with register 0
unfoldable pub within_or : Env → ℕ → List Lexeme → Option (ℕ × List Lexeme) → Option Place
within_or env here ws (Some r) = do
  s ← rest_of_address env here r.1
  Some (r.0, s.0, s.1)
within_or env here ws None = do
  e ← expr_at env here ws
  Some (0, Given e.0, e.1)

-- this % name
abbrev pub is_percent : List ℕ → Lexeme → Bool
is_percent name (Percent, bytes) = bytes_eq bytes name
is_percent name _ = false

abbrev pub is_name : List ℕ → Lexeme → Bool
is_name name (Name, bytes) = bytes_eq bytes name
is_name name _ = false

-- %icc, or %xcc
unfoldable pub codes_at : List Lexeme → Option (Bool × List Lexeme)
codes_at [] = None
codes_at (w ∷ ws) =
    if is_percent (codes "%icc") w then Some (false, ws) else
    if is_percent (codes "%xcc") w then Some (true, ws) else
    None

unfoldable pub asi_at : List Lexeme → Option (List Lexeme)
asi_at [] = None
asi_at (w ∷ ws) = if is_percent (codes "%asi") w then Some ws else None

-- a comma and this name, or nothing
unfoldable pub flag_at : List ℕ → List Lexeme → Option (List Lexeme)
flag_at name (p ∷ a ∷ ws) = if is_punct 44 p && is_name name a then Some ws else None
flag_at name _ = None

unfoldable pub state_in : Lexeme → Option ℕ
state_in (Percent, bytes) = state_of bytes
state_in _ = None

unfoldable pub privileged_in : Lexeme → Option ℕ
privileged_in (Percent, bytes) = named bytes privileged_names
privileged_in _ = None

unfoldable pub state_at : List Lexeme → Option (ℕ × List Lexeme)
state_at [] = None
state_at (w ∷ ws) = do
  r ← state_in w
  Some (r, ws)

unfoldable pub privileged_at : List Lexeme → Option (ℕ × List Lexeme)
privileged_at [] = None
privileged_at (w ∷ ws) = do
  r ← privileged_in w
  Some (r, ws)

unfoldable pub barrier_in : Lexeme → Option ℕ
barrier_in (Hash, bytes) = named bytes barrier_names
barrier_in _ = None

-- the # names to the end, with | between them; b says that a name has to come
unfoldable pub barriers_from : ℕ → Bool → List Lexeme → Option ℕ
barriers_from mask true [] = None
barriers_from mask false [] = Some mask
barriers_from mask true (w ∷ ws) = do
  n ← barrier_in w
  barriers_from (bit_or mask n) false ws
barriers_from mask false (w ∷ ws) = if is_punct 124 w then barriers_from mask true ws else None

abbrev pub none_given : Fields
none_given = record { rd = 0; rs1 = 0; source = Register 0; value = Some 0; extra = Some 0; number = 0; annul = false; taken = true; wide = false }

abbrev pub with_rd : ℕ → Fields → Fields
with_rd r f = record { rd = r; rs1 = f.rs1; source = f.source; value = f.value; extra = f.extra; number = f.number; annul = f.annul; taken = f.taken; wide = f.wide }

abbrev pub with_rs1 : ℕ → Fields → Fields
with_rs1 r f = record { rd = f.rd; rs1 = r; source = f.source; value = f.value; extra = f.extra; number = f.number; annul = f.annul; taken = f.taken; wide = f.wide }

abbrev pub with_source : Source → Fields → Fields
with_source s f = record { rd = f.rd; rs1 = f.rs1; source = s; value = f.value; extra = f.extra; number = f.number; annul = f.annul; taken = f.taken; wide = f.wide }

abbrev pub with_place : ℕ → Source → Fields → Fields
with_place r s f = record { rd = f.rd; rs1 = r; source = s; value = f.value; extra = f.extra; number = f.number; annul = f.annul; taken = f.taken; wide = f.wide }

abbrev pub with_value : Value → Fields → Fields
with_value v f = record { rd = f.rd; rs1 = f.rs1; source = f.source; value = v; extra = f.extra; number = f.number; annul = f.annul; taken = f.taken; wide = f.wide }

abbrev pub with_extra : Value → Fields → Fields
with_extra v f = record { rd = f.rd; rs1 = f.rs1; source = f.source; value = f.value; extra = v; number = f.number; annul = f.annul; taken = f.taken; wide = f.wide }

abbrev pub with_number : ℕ → Fields → Fields
with_number n f = record { rd = f.rd; rs1 = f.rs1; source = f.source; value = f.value; extra = f.extra; number = n; annul = f.annul; taken = f.taken; wide = f.wide }

abbrev pub with_annul : Bool → Fields → Fields
with_annul b f = record { rd = f.rd; rs1 = f.rs1; source = f.source; value = f.value; extra = f.extra; number = f.number; annul = b; taken = f.taken; wide = f.wide }

abbrev pub with_taken : Bool → Fields → Fields
with_taken b f = record { rd = f.rd; rs1 = f.rs1; source = f.source; value = f.value; extra = f.extra; number = f.number; annul = f.annul; taken = b; wide = f.wide }

abbrev pub with_wide : Bool → Fields → Fields
with_wide b f = record { rd = f.rd; rs1 = f.rs1; source = f.source; value = f.value; extra = f.extra; number = f.number; annul = f.annul; taken = f.taken; wide = b }

abbrev pub annulled : Fields → List Lexeme → Option (List Lexeme) → Fields × List Lexeme
annulled f ws None = (f, ws)
annulled f ws (Some rest) = (with_annul true f, rest)

abbrev pub not_taken : Fields → List Lexeme → Option (List Lexeme) → Fields × List Lexeme
not_taken f ws None = (f, ws)
not_taken f ws (Some rest) = (with_taken false f, rest)

abbrev pub predicted : Fields → List Lexeme → Option (List Lexeme) → Fields × List Lexeme
predicted f ws None = not_taken f ws (flag_at (codes "pn") ws)
predicted f ws (Some rest) = (f, rest)

-- the fields with what a slot says, and what stands behind it
unfoldable pub slot_at : Env → ℕ → Slot → Fields → List Lexeme → Option (Fields × List Lexeme)
slot_at env here (Mark b) f ws = do
  rest ← mark_at b ws
  Some (f, rest)
slot_at env here Rd f ws = do
  r ← register_at ws
  Some (with_rd r.0 f, r.1)
slot_at env here Rs1 f ws = do
  r ← register_at ws
  Some (with_rs1 r.0 f, r.1)
slot_at env here Both f ws = do
  r ← register_at ws
  Some (with_rd r.0 (with_rs1 r.0 f), r.1)
slot_at env here Rs2 f ws = do
  r ← register_at ws
  Some (with_source (Register r.0) f, r.1)
slot_at env here Rs2Rd f ws = do
  r ← register_at ws
  Some (with_rd r.0 (with_source (Register r.0) f), r.1)
slot_at env here Operand f ws = do
  s ← source_at env here ws
  Some (with_source s.0 f, s.1)
slot_at env here Number f ws = do
  e ← expr_at env here ws
  Some (with_value e.0 f, e.1)
slot_at env here Target f ws = do
  e ← expr_at env here ws
  Some (with_value e.0 f, e.1)
slot_at env here AsiNumber f ws = do
  e ← expr_at env here ws
  Some (with_value e.0 f, e.1)
slot_at env here Extra f ws = do
  e ← expr_at env here ws
  Some (with_extra e.0 f, e.1)
slot_at env here Address f ws = do
  m ← address_at env here ws
  Some (with_place m.0 m.1 f, m.2)
slot_at env here Within f ws = do
  m ← within_or env here ws (register_at ws)
  Some (with_place m.0 m.1 f, m.2)
slot_at env here Pair f ws = do
  m ← pair_at ws
  Some (with_place m.0 m.1 f, m.2)
slot_at env here Offset f ws = do
  m ← offset_at env here ws
  Some (with_place m.0 m.1 f, m.2)
slot_at env here Codes f ws = do
  c ← codes_at ws
  Some (with_wide c.0 f, c.1)
slot_at env here Annul f ws = Some (annulled f ws (flag_at (codes "a") ws))
slot_at env here Predict f ws = Some (predicted f ws (flag_at (codes "pt") ws))
slot_at env here Asi f ws = do
  rest ← asi_at ws
  Some (f, rest)
slot_at env here State f ws = do
  r ← state_at ws
  Some (with_number r.0 f, r.1)
slot_at env here Privileged f ws = do
  r ← privileged_at ws
  Some (with_number r.0 f, r.1)
slot_at env here Barrier f ws = do
  n ← barriers_from 0 true ws
  Some (with_value (Some n) f, [])
slot_at env here One f ws = Some (with_source (Given (Some 1)) f, ws)
slot_at env here Primary f ws = Some (with_value (Some 0x80) f, ws)

-- the fields with what the slots say, one after another to the end
unfoldable pub slots_at : Env → ℕ → List Slot → Fields → List Lexeme → Option Fields
slots_at env here [] f ws = whole f ws
slots_at env here (s ∷ ss) f ws = do
  p ← slot_at env here s f ws
  slots_at env here ss p.0 p.1
