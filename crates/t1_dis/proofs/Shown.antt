-- What slots show: the fields that a slot can show, and lists of slots whose texts stay apart.
use Rattle.std.proofs.Common.{◌≡◌, ◌<◌, ◌^◌, ℕ, List, [], ◌∷◌, Option, Some, None, Bool, true, false, not, ◌&&◌, ◌||◌, ◌==◌, refl}
use Rattle.t1_lex.specs.Bytes.{is_digit, is_letter, starts_name, is_name_byte, is_blank, is_mark}
use Rattle.t1_lex.specs.Pieces.{piece_of}
use Rattle.t1_lex.specs.Parts.{IsMark}
use Rattle.t1_form.specs.Names.{named, state_of, privileged_names}
use Rattle.t1_form.specs.declared.slot.Slot.{Slot}
use Rattle.t1_form.specs.declared.slot.Slot.TheVariants as slot
use Rattle.t1_operand.specs.declared.fields.Source.{Source}
use Rattle.t1_operand.specs.declared.fields.Source.TheVariants.{Register, Value}
use Rattle.t1_operand.specs.declared.fields.Fields.{Fields}
use Rattle.t1_dis.specs.Names.{state_text, privileged_text}

abbrev pub IsNumber : Option ℕ → Type 0
IsNumber (Some n) = n < 2 ^ 64
IsNumber None = ⊥

abbrev pub IsRegister : Source → Type 0
IsRegister (Register r) = r < 32
IsRegister (Value v) = ⊥

abbrev pub IsGiven : Source → Type 0
IsGiven (Register r) = ⊥
IsGiven (Value v) = IsNumber v

abbrev pub IsEither : Source → Type 0
IsEither (Register r) = r < 32
IsEither (Value v) = IsNumber v

-- a mark between operands
pub record IsBetween (b : ℕ) : Type 0 where
  pub mark : IsMark b
  pub outside : is_name_byte b ≡ false
  pub colon : (b == 58) ≡ false
  pub equals : (b == 61) ≡ false

pub comma_between : IsBetween 44
unfolding piece_of is_digit is_letter starts_name is_name_byte is_blank is_mark
comma_between = record { mark = λ rest. refl; outside = refl; colon = refl; equals = refl }

pub left_between : IsBetween 91
unfolding piece_of is_digit is_letter starts_name is_name_byte is_blank is_mark
left_between = record { mark = λ rest. refl; outside = refl; colon = refl; equals = refl }

pub right_between : IsBetween 93
unfolding piece_of is_digit is_letter starts_name is_name_byte is_blank is_mark
right_between = record { mark = λ rest. refl; outside = refl; colon = refl; equals = refl }

pub dash_mark : IsMark 45
unfolding piece_of is_digit is_letter starts_name is_blank is_mark
dash_mark rest = refl

pub plus_mark : IsMark 43
unfolding piece_of is_digit is_letter starts_name is_blank is_mark
plus_mark rest = refl

-- the fields that a slot shows are there
abbrev pub IsShown : Slot → Fields → Type 0
IsShown (slot.Mark b) f = IsBetween b
IsShown slot.Rd f = f.rd < 32
IsShown slot.Rs1 f = f.rs1 < 32
IsShown slot.Rs2 f = IsRegister f.source
IsShown slot.Operand f = IsEither f.source
IsShown slot.Number f = IsNumber f.value
IsShown slot.Target f = IsNumber f.value
IsShown slot.AsiNumber f = IsNumber f.value
IsShown slot.Extra f = IsNumber f.extra
IsShown slot.Address f = (f.rs1 < 32) × IsEither f.source
IsShown slot.Within f = (f.rs1 < 32) × IsEither f.source
IsShown slot.Pair f = (f.rs1 < 32) × IsRegister f.source
IsShown slot.Offset f = (f.rs1 < 32) × IsGiven f.source
IsShown slot.Codes f = Unit {0}
IsShown slot.Asi f = Unit {0}
IsShown slot.State f = state_of (state_text f.number) ≡ Some f.number
IsShown slot.Privileged f = named (privileged_text f.number) privileged_names ≡ Some f.number
IsShown _ f = ⊥

abbrev pub AreShown : List Slot → Fields → Type 0
AreShown [] f = Unit {0}
AreShown (s ∷ ss) f = IsShown s f × AreShown ss f

abbrev pub is_mark_slot : Slot → Bool
is_mark_slot (slot.Mark b) = true
is_mark_slot _ = false

-- the text of a slot may begin with a digit
abbrev pub begins_digit : Slot → Bool
begins_digit slot.Operand = true
begins_digit slot.Number = true
begins_digit slot.Target = true
begins_digit slot.Extra = true
begins_digit _ = false

abbrev pub begins : List Slot → Bool
begins [] = false
begins (s ∷ ss) = begins_digit s

-- each token ends before the next
unfoldable pub tidy : List Slot → Bool
tidy [] = true
tidy (s ∷ ss) = (is_mark_slot s || not (begins ss)) && tidy ss

-- a slot may end in an expr
abbrev pub is_open : Slot → Bool
is_open slot.Operand = true
is_open slot.Number = true
is_open slot.Target = true
is_open slot.AsiNumber = true
is_open slot.Extra = true
is_open slot.Address = true
is_open slot.Within = true
is_open slot.Offset = true
is_open _ = false

-- a comma, a closing bracket, or nothing
abbrev pub stands_closed : List Slot → Bool
stands_closed [] = true
stands_closed (slot.Mark b ∷ ss) = (b == 44) || (b == 93)
stands_closed _ = false

-- each expr ends before what follows it
unfoldable pub closed : List Slot → Bool
closed [] = true
closed (s ∷ ss) = (not (is_open s) || stands_closed ss) && closed ss
