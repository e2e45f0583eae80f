-- The forms of the lines of a log: what a line of each kind looks like, whatever its numbers are but those that
-- count up.
use Rattle.std.specs.Prelude.{ℕ, zero, suc, ◌≡◌, ◌*◌, ◌≤◌, ◌⊎◌, List, [], ◌∷◌, ◌++◌, codes, decimal}
use Rattle.t1_line_forms.specs.Digits.{IsHex}
use Rattle.t1_line_forms.specs.Fields.{Field, Word, Number, Hex, Size, Value, Cache, Leads, HasFields}
use Rattle.t1_line_forms.specs.declared.line.Line.{Line}
use Rattle.t1_line_forms.specs.declared.line.Line.TheVariants.{Config, Entry, Block, Item, End, Commit, Order, Console, Last}
use Rattle.t1_line_forms.specs.declared.field.Tail.{Tail}
use Rattle.t1_line_forms.specs.declared.field.Tail.TheVariants.{Nothing, Place, Kills, Bytes}

-- ---- how a line ends

-- where an access stands: the time of a forwarded load or a hit, or the index of a commit and the time
-- at which it was sent
abbrev pub IsPlace : List ℕ → Type 0
IsPlace text =
    HasFields (Word (codes " F ") ∷ Number ∷ []) text
    ⊎ (HasFields (Word (codes " H ") ∷ Number ∷ []) text
    ⊎ HasFields (Word (codes " M ") ∷ Number ∷ Word (codes " ") ∷ Number ∷ []) text)

-- a killed copy: core, cache, set and way
abbrev pub kill_fields : List Field
kill_fields = Word (codes " ") ∷ Number ∷ Word (codes ".") ∷ Cache ∷ Word (codes ".") ∷ Number ∷ Word (codes ".") ∷ Number ∷ []

-- at most so many killed copies
unfoldable pub AreKills : ℕ → List ℕ → Type 0
AreKills zero text = text ≡ []
AreKills (suc most) text = (text ≡ []) ⊎ ((rest : List ℕ) × Leads [] kill_fields text rest × AreKills most rest)

-- at least one byte, and at most 32
abbrev pub AreByteDigits : List ℕ → Type 0
AreByteDigits text = (count : ℕ) × (count ≤ 32) × IsHex (2 * count) text

abbrev pub IsTail : Tail → List ℕ → Type 0
IsTail Nothing text = text ≡ []
IsTail Place text = IsPlace text
IsTail Kills text = AreKills 64 text
IsTail Bytes text = AreByteDigits text

-- ---- forms

-- fields, and how the line ends behind them
pub record Form : Type 0 where
  pub fields : List Field
  pub tail : Tail

pub record IsForm (form : Form) (text : List ℕ) : Type 0 where
  pub rest : List ℕ
  pub leads : Leads [] form.fields text rest
  pub ends : IsTail form.tail rest

abbrev pub IsOneOf : List Form → List ℕ → Type 0
IsOneOf [] text = ⊥
IsOneOf (form ∷ forms) text = IsForm form text ⊎ IsOneOf forms text

abbrev pub config_forms : List Form
config_forms = record {
  fields = Number ∷ Word (codes " strands ") ∷ Number ∷ Word (codes " ram ") ∷ Number ∷ Word (codes " sets ") ∷ Number ∷ Word (codes " budget ") ∷ Number ∷ [];
  tail = Nothing;
} ∷ []

abbrev pub entry_forms : List Form
entry_forms = record { fields = Hex 10 ∷ []; tail = Nothing } ∷ []

abbrev pub block_forms : List Form
block_forms = record { fields = Hex 10 ∷ Word (codes " ") ∷ Hex 64 ∷ []; tail = Nothing } ∷ []

-- address, size, the value got, the value put; a mask
abbrev pub item_forms : List Form
item_forms =
    record { fields = Word (codes "fetch ") ∷ Hex 10 ∷ Word (codes " ") ∷ Size ∷ Word (codes " ") ∷ Value ∷ Word (codes " -") ∷ []; tail = Place }
    ∷ record { fields = Word (codes "load ") ∷ Hex 10 ∷ Word (codes " ") ∷ Size ∷ Word (codes " ") ∷ Value ∷ Word (codes " -") ∷ []; tail = Place }
    ∷ record { fields = Word (codes "store ") ∷ Hex 10 ∷ Word (codes " ") ∷ Size ∷ Word (codes " - ") ∷ Value ∷ []; tail = Place }
    ∷ record { fields = Word (codes "atomic ") ∷ Hex 10 ∷ Word (codes " ") ∷ Size ∷ Word (codes " ") ∷ Value ∷ Word (codes " ") ∷ Value ∷ []; tail = Place }
    ∷ record { fields = Word (codes "atomic ") ∷ Hex 10 ∷ Word (codes " ") ∷ Size ∷ Word (codes " ") ∷ Value ∷ Word (codes " -") ∷ []; tail = Place }
    ∷ record { fields = Word (codes "membar ") ∷ Hex 2 ∷ []; tail = Nothing }
    ∷ record { fields = Word (codes "flush") ∷ []; tail = Nothing }
    ∷ []

-- units, pc, the type of the trap
abbrev pub end_forms : List Form
end_forms =
    record { fields = Word (codes "halted ") ∷ Number ∷ Word (codes " ") ∷ Hex 16 ∷ []; tail = Nothing }
    ∷ record { fields = Word (codes "spent ") ∷ Number ∷ Word (codes " ") ∷ Hex 16 ∷ []; tail = Nothing }
    ∷ record { fields = Word (codes "fault ") ∷ Number ∷ Word (codes " ") ∷ Hex 16 ∷ Word (codes " ") ∷ Hex 3 ∷ []; tail = Nothing }
    ∷ []

-- destination, strand, item, then the filled way or a dash, and the evicted line or a dash
abbrev pub commit_form : List Field → Form
commit_form ends = record { fields = Number ∷ Word (codes " ") ∷ Number ∷ Word (codes " ") ∷ Number ∷ Word (codes " ") ∷ ends; tail = Kills }

abbrev pub commit_forms : List Form
commit_forms =
    commit_form (Number ∷ Word (codes " ") ∷ Hex 10 ∷ [])
    ∷ commit_form (Number ∷ Word (codes " -") ∷ [])
    ∷ commit_form (Word (codes "- ") ∷ Hex 10 ∷ [])
    ∷ commit_form (Word (codes "- -") ∷ [])
    ∷ []

abbrev pub order_forms : List Form
order_forms = record { fields = Number ∷ Word (codes " ") ∷ Number ∷ []; tail = Nothing } ∷ []

abbrev pub console_forms : List Form
console_forms = record { fields = []; tail = Bytes } ∷ []

abbrev pub last_forms : List Form
last_forms = record { fields = []; tail = Nothing } ∷ []

-- ---- lines

-- a number that counts up, and the space behind it
abbrev pub counted : ℕ → List ℕ
counted number = decimal number ++ codes " "

-- how a line begins
abbrev pub head_of : Line → List ℕ
head_of Config = codes "config cores "
head_of Entry = codes "entry "
head_of Block = codes "m "
head_of (Item strand number) = codes "i " ++ (counted strand ++ counted number)
head_of (End strand) = codes "e " ++ counted strand
head_of (Commit index) = codes "c " ++ counted index
head_of Order = codes "o "
head_of Console = codes "k "
head_of Last = codes "end"

-- how it goes on
abbrev pub forms_of : Line → List Form
forms_of Config = config_forms
forms_of Entry = entry_forms
forms_of Block = block_forms
forms_of (Item strand number) = item_forms
forms_of (End strand) = end_forms
forms_of (Commit index) = commit_forms
forms_of Order = order_forms
forms_of Console = console_forms
forms_of Last = last_forms

-- a line, without its line feed, has a form of its kind
pub record HasForm (kind : Line) (line : List ℕ) : Type 0 where
  pub rest : List ℕ
  pub begins : line ≡ head_of kind ++ rest
  pub goes_on : IsOneOf (forms_of kind) rest

-- the first letter of a line
abbrev pub letter : Line → ℕ
letter Config = 99
letter Entry = 101
letter Block = 109
letter (Item strand number) = 105
letter (End strand) = 101
letter (Commit index) = 99
letter Order = 111
letter Console = 107
letter Last = 101
