-- The first line at fault of a text, and what is at fault with it.
use Rattle.std.specs.Prelude.{ℕ, suc, ◌≡◌, ◌==◌, ◌*◌, ◌%◌, ◌^◌, ◌<◌, ◌≤◌, ◌⊎◌, ◌++◌, if◌then◌else◌, false, List, [], ◌∷◌, length, codes, get_or, All, IsTrue, Some}
use Rattle.t1_num.specs.MemoryLaws.{AreBytes}
use Rattle.t1_event.specs.declared.item.Item.{Item}
use Rattle.t1_event.specs.declared.commit.Commit.{Commit}
use Rattle.t1_event.specs.declared.trace.Ending.{Ending}
use Rattle.t1_event.specs.declared.trace.Trace.{Trace}
use Rattle.t1_event.specs.declared.report.Config.{Config}
use Rattle.t1_event.specs.declared.report.Report.{Report}
use Rattle.t1_event.specs.declared.report.Place.{Place}
use Rattle.t1_event.specs.Items.{items_of}
use Rattle.t1_event.specs.Printable.{FitsDigits}
use Rattle.t1_log.specs.Lines.{config_line_of, entry_line_of, block_line_of, ending_line_of, place_line_of, end_line}
use Rattle.t1_log.specs.Log.{version_line, item_line_of, trace_lines_of, commit_line_of, console_line_of, console_lines_of}
use Rattle.t1_log.specs.Texts.{lines_from, is_blank, head_lines_of, order_lines_of}
use Rattle.t1_line_forms.specs.declared.line.Line.{Line}
use Rattle.t1_line_forms.specs.declared.line.Line.TheVariants as line
use Rattle.t1_line_forms.specs.Forms.{HasForm}
use Rattle.t1_take.specs.Limits.{is_in_limits}
use Rattle.t1_take.specs.Items.{IsGoodItem, IsGoodEnd, IsGoodTrace}
use Rattle.t1_take.specs.WellFormed.{AreGoodCommits, IsGoodCommit, IsNamed, IsGoodPlace}
use Rattle.t1_read.specs.declared.error.LogKind.{LogKind}
use Rattle.t1_read.specs.declared.error.LogKind.TheVariants.{Version, Syntax, Range, Unended, OutOfMemory}
use Rattle.t1_read.specs.declared.error.LogError.{LogError}

-- ---- what was read so far

-- after the version line; after the machine; or later: the report that the lines so far make, with the items
-- of a strand whose end was not read
pub data SoFar : Type 0 where
  AtConfig : SoFar
  AtEntry : Config → SoFar
  Within : Report → List Item → SoFar

-- the lines so far
abbrev pub text_so_far : SoFar → List ℕ
text_so_far AtConfig = version_line
text_so_far (AtEntry config) = version_line ++ config_line_of config
text_so_far (Within report items) =
    head_lines_of version_line report.config report.image
    ++ (lines_from trace_lines_of 0 report.traces
    ++ (lines_from (item_line_of (length report.traces)) 0 items
    ++ (lines_from commit_line_of 0 report.log ++ (order_lines_of report.order ++ console_lines_of report.console))))

-- strands are left whose ends were not read
abbrev pub IsOpen : Config → List Trace → Type 0
IsOpen config traces = length traces < config.cores * config.strands

-- the ends of all strands were read
abbrev pub IsClosed : Config → List Trace → Type 0
IsClosed config traces = length traces ≡ config.cores * config.strands

-- neither commits nor a memory order nor a console
abbrev pub HasNoTail : Report → Type 0
HasNoTail report = (report.log ≡ []) × (report.order ≡ []) × (report.console ≡ [])

-- all values so far are in their ranges, and commits, order and console come behind all strands
pub record IsInRange (report : Report) (items : List Item) : Type 0 where
  pub limits : IsTrue (is_in_limits report.config)
  pub entry : FitsDigits 10 report.image.entry
  pub image : length report.image.ram ≡ report.config.ram
  pub bytes : AreBytes report.image.ram
  pub traces : All (IsGoodTrace report.config.ram) report.traces
  pub items_are : All (IsGoodItem report.config.ram) items
  pub log : AreGoodCommits report.config.cores (items_of report.traces) report.log
  pub order : All (IsGoodPlace (report.config.cores * report.config.strands)) report.order
  pub console : AreBytes report.console
  pub turn : (IsOpen report.config report.traces × HasNoTail report) ⊎ (IsClosed report.config report.traces × (items ≡ []))

abbrev pub IsGoodSoFar : SoFar → Type 0
IsGoodSoFar AtConfig = Unit {0}
IsGoodSoFar (AtEntry config) = IsTrue (is_in_limits config)
IsGoodSoFar (Within report items) = IsInRange report items

-- ---- the next line

-- which kinds of lines may stand next: the machine behind the version, the entry behind the machine; then a
-- block before all items and ends, an item or the end of the strand in turn; behind all strands commits by
-- their indices, the order, the console up to a short line, the last line
abbrev pub MayFollow : SoFar → Line → Type 0
MayFollow AtConfig line.Config = Unit {0}
MayFollow (AtEntry config) line.Entry = Unit {0}
MayFollow (Within report items) line.Block = IsOpen report.config report.traces × (report.traces ≡ []) × (items ≡ [])
MayFollow (Within report items) (line.Item strand number) = IsOpen report.config report.traces × (strand ≡ length report.traces) × (number ≡ length items)
MayFollow (Within report items) (line.End strand) = IsOpen report.config report.traces × (strand ≡ length report.traces)
MayFollow (Within report items) (line.Commit index) = IsClosed report.config report.traces × (index ≡ length report.log) × (report.order ≡ []) × (report.console ≡ [])
MayFollow (Within report items) line.Order = IsClosed report.config report.traces × (report.console ≡ [])
MayFollow (Within report items) line.Console = IsClosed report.config report.traces × (length report.console % 32 ≡ 0)
MayFollow (Within report items) line.Last = IsClosed report.config report.traces
MayFollow _ _ = ⊥

-- a block of 32 bytes, not all zeros, of a memory that holds zeros from there on so far
pub record IsNewBlock (ram : List ℕ) (addr : ℕ) (block : List ℕ) : Type 0 where
  pub count : length block ≡ 32
  pub are_bytes : AreBytes block
  pub some : is_blank block ≡ false
  pub aligned : addr % 32 ≡ 0
  pub within : addr < length ram
  pub ascends : (at : ℕ) → addr ≤ at → get_or ram at 0 ≡ 0

-- a line of this kind, with its line feed, whose values are in their ranges
abbrev pub IsGoodLine : SoFar → Line → List ℕ → Type 0
IsGoodLine AtConfig line.Config text = (config : Config) × IsTrue (is_in_limits config) × (text ≡ config_line_of config)
IsGoodLine (AtEntry config) line.Entry text = (entry : ℕ) × FitsDigits 10 entry × (text ≡ entry_line_of entry)
IsGoodLine (Within report items) line.Block text =
    (addr : ℕ) × (block : List ℕ) × IsNewBlock report.image.ram addr block × (text ≡ block_line_of addr block)
IsGoodLine (Within report items) (line.Item strand number) text =
    (item : Item) × IsGoodItem report.config.ram item × (text ≡ item_line_of strand number item)
IsGoodLine (Within report items) (line.End strand) text =
    (ending : Ending) × (units : ℕ) × (pc : ℕ) × IsGoodEnd (Some ending) × (units < 2 ^ 32) × (pc < 2 ^ 64) × (text ≡ ending_line_of strand ending units pc)
IsGoodLine (Within report items) (line.Commit index) text =
    (commit : Commit) × IsGoodCommit report.config.cores (items_of report.traces) index commit × IsNamed commit × (text ≡ commit_line_of index commit)
IsGoodLine (Within report items) line.Order text =
    (place : Place) × IsGoodPlace (report.config.cores * report.config.strands) place × (text ≡ place_line_of place)
IsGoodLine (Within report items) line.Console text =
    (bytes : List ℕ) × (1 ≤ length bytes) × (length bytes ≤ 32) × AreBytes bytes × (text ≡ console_line_of 0 bytes)
IsGoodLine (Within report items) line.Last text = text ≡ end_line
IsGoodLine _ _ text = ⊥

-- ---- faults

-- how many line feeds a text has: its whole lines
abbrev pub feeds : List ℕ → ℕ
feeds [] = 0
feeds (byte ∷ bytes) = if byte == 10 then suc (feeds bytes) else feeds bytes

-- a text begins with this line, and its line feed
pub record BeginsWith (text first after : List ℕ) : Type 0 where
  pub one : feeds first ≡ 0
  pub is : text ≡ first ++ 10 ∷ after

-- good lines, and then this one
pub record IsNext (text : List ℕ) (so : SoFar) (first after : List ℕ) : Type 0 where
  pub good : IsGoodSoFar so
  pub rest : List ℕ
  pub reads : text ≡ text_so_far so ++ rest
  pub begins : BeginsWith rest first after

-- the first line is whole, and no version line
pub record IsOfOtherVersion (text : List ℕ) (number : ℕ) : Type 0 where
  pub first : List ℕ
  pub after : List ℕ
  pub begins : BeginsWith text first after
  pub other : first ++ codes "\n" ≡ version_line → ⊥
  pub number_is : number ≡ 1

-- behind good lines stands one that has no form of a kind that may follow
pub record IsFormless (text : List ℕ) (number : ℕ) : Type 0 where
  pub so : SoFar
  pub first : List ℕ
  pub after : List ℕ
  pub next : IsNext text so first after
  pub formless : (kind : Line) → MayFollow so kind → HasForm kind first → ⊥
  pub number_is : number ≡ suc (feeds (text_so_far so))

-- behind good lines stands one that has such a form, and is no line of it whose values are in their ranges
pub record IsOutOfRange (text : List ℕ) (number : ℕ) : Type 0 where
  pub so : SoFar
  pub first : List ℕ
  pub after : List ℕ
  pub next : IsNext text so first after
  pub kind : Line
  pub follows : MayFollow so kind
  pub form : HasForm kind first
  pub bad : (other : Line) → MayFollow so other → IsGoodLine so other (first ++ codes "\n") → ⊥
  pub number_is : number ≡ suc (feeds (text_so_far so))

-- no line is whole; or behind good lines no line is whole, or a log has ended and the text goes on
pub data EndsElsewhere (text : List ℕ) : Type 0 where
  NoLine : feeds text ≡ 0 → EndsElsewhere text
  Cut : (so : SoFar) (rest : List ℕ) → IsGoodSoFar so → text ≡ text_so_far so ++ rest → feeds rest ≡ 0 → EndsElsewhere text
  GoesOn : (so : SoFar) (rest : List ℕ) → IsGoodSoFar so → MayFollow so line.Last → text ≡ text_so_far so ++ (end_line ++ rest) → 0 < length rest → EndsElsewhere text

-- line `number` is the first at fault, and this is at fault with it
abbrev pub IsFaultOf : List ℕ → ℕ → LogKind → Type 0
IsFaultOf text number Version = IsOfOtherVersion text number
IsFaultOf text number Syntax = IsFormless text number
IsFaultOf text number Range = IsOutOfRange text number
IsFaultOf text number Unended = EndsElsewhere text × (number ≡ feeds text)
IsFaultOf text number OutOfMemory = ⊥

-- an error names the first fault of a text, or memory was wanting
abbrev pub NamesFault : List ℕ → LogError → Type 0
NamesFault text error = IsFaultOf text error.line error.kind ⊎ (error ≡ record { line = 0; kind = OutOfMemory })
