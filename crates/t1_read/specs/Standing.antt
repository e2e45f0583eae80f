-- Where the reader of a log stands: good lines so far, and what is left of the text.
use Rattle.std.specs.Prelude.{ℕ, ◌≡◌, ◌+◌, ◌*◌, ◌++◌, List, [], length, take, drop, get_or, All, IsTrue, Result, MatchResult}
use Rattle.t1_elf.specs.declared.object.Image.{Image}
use Rattle.t1_event.specs.declared.item.Item.{Item}
use Rattle.t1_event.specs.declared.trace.Trace.{Trace}
use Rattle.t1_event.specs.declared.commit.Commit.{Commit}
use Rattle.t1_event.specs.declared.report.Config.{Config}
use Rattle.t1_event.specs.declared.report.Place.{Place}
use Rattle.t1_event.specs.Printable.{FitsDigits}
use Rattle.t1_event.specs.Items.{items_of}
use Rattle.t1_log.specs.Lines.{config_line_of, entry_line_of, end_line}
use Rattle.t1_log.specs.Log.{version_line, commit_line_of, console_lines_of}
use Rattle.t1_log.specs.Texts.{lines_from, order_lines_of}
use Rattle.t1_take.specs.WellFormed.{AreGoodCommits, IsGoodPlace}
use Rattle.t1_line_forms.specs.declared.line.Line.{Line}
use Rattle.t1_line_forms.specs.Forms.{HasForm, letter}
use Rattle.t1_take.specs.Limits.{is_in_limits}
use Rattle.t1_read.specs.declared.error.LogKind.{LogKind}
use Rattle.t1_read.specs.declared.error.LogKind.TheVariants.{Syntax, Range, Unended}
use Rattle.t1_read.specs.declared.error.LogError.{LogError}
use Rattle.t1_read.specs.Faults.{SoFar, Within, text_so_far, IsGoodSoFar, IsClosed, MayFollow, feeds, BeginsWith, NamesFault}

-- ---- places

pub record Stands (text : List ℕ) (at : ℕ) (so : SoFar) : Type 0 where
  pub good : IsGoodSoFar so
  pub reads : text ≡ text_so_far so ++ drop at text

-- no line that may stand next and begins with this letter is there
abbrev pub IsPast : List ℕ → ℕ → SoFar → ℕ → Type 0
IsPast text at so byte = (kind : Line) → MayFollow so kind → letter kind ≡ byte → get_or text at 0 ≡ byte → ⊥

-- a part was read, or the first fault is named
abbrev pub Leads : {A : Type 0} → List ℕ → Result A LogError → (A → Type 0) → Type 0
Leads text result P = MatchResult result P (NamesFault text)

-- ---- parts

abbrev pub so_far : Config → Image → List Trace → List Item → List Commit → List Place → List ℕ → SoFar
so_far config image traces items log order console =
    Within (record { config = config; image = image; traces = traces; log = log; order = order; console = console }) items

-- behind the lines of the machine and of the entry
pub record IsHead (text : List ℕ) (at : ℕ) (config : Config) (entry : ℕ) : Type 0 where
  pub limits : IsTrue (is_in_limits config)
  pub digits : FitsDigits 10 entry
  pub reads : text ≡ (version_line ++ (config_line_of config ++ entry_line_of entry)) ++ drop at text

-- behind the image and so many strands
pub record HasTraces (text : List ℕ) (at : ℕ) (config : Config) (image : Image) (traces : List Trace) : Type 0 where
  pub stands : Stands text at (so_far config image traces [] [] [] [])
  pub past : IsPast text at (so_far config image traces [] [] [] []) 109

-- behind the items of the next strand
pub record HasItems (text : List ℕ) (at : ℕ) (config : Config) (image : Image) (traces : List Trace) (items : List Item) : Type 0 where
  pub stands : Stands text at (so_far config image traces items [] [] [])
  pub past_image : IsPast text at (so_far config image traces items [] [] []) 109
  pub past : IsPast text at (so_far config image traces items [] [] []) 105

-- behind all strands
pub record HasStrands (text : List ℕ) (at : ℕ) (config : Config) (image : Image) (traces : List Trace) : Type 0 where
  pub stands : Stands text at (so_far config image traces [] [] [] [])
  pub all : IsClosed config traces

-- behind the commits
pub record HasCommits (text : List ℕ) (at : ℕ) (config : Config) (image : Image) (traces : List Trace) (log : List Commit) : Type 0 where
  pub stands : Stands text at (so_far config image traces [] log [] [])
  pub all : IsClosed config traces
  pub past : IsPast text at (so_far config image traces [] log [] []) 99

-- behind the memory order
pub record HasOrder (text : List ℕ) (at : ℕ) (config : Config) (image : Image) (traces : List Trace) (log : List Commit) (order : List Place) : Type 0 where
  pub stands : Stands text at (so_far config image traces [] log order [])
  pub all : IsClosed config traces
  pub past_log : IsPast text at (so_far config image traces [] log order []) 99
  pub past : IsPast text at (so_far config image traces [] log order []) 111

-- behind the console
pub record HasConsole (text : List ℕ) (at : ℕ) (config : Config) (image : Image) (traces : List Trace) (log : List Commit) (order : List Place) (console : List ℕ) : Type 0 where
  pub stands : Stands text at (so_far config image traces [] log order console)
  pub all : IsClosed config traces
  pub past_log : IsPast text at (so_far config image traces [] log order console) 99
  pub past_order : IsPast text at (so_far config image traces [] log order console) 111
  pub past : IsPast text at (so_far config image traces [] log order console) 107

-- ---- the head and the tail of a log

pub record IsGoodHead (config : Config) (image : Image) : Type 0 where
  pub limits : IsTrue (is_in_limits config)
  pub entry : FitsDigits 10 image.entry
  pub size : length image.ram ≡ config.ram

pub record IsGoodTail (config : Config) (traces : List Trace) (log : List Commit) (order : List Place) : Type 0 where
  pub log_is : AreGoodCommits config.cores (items_of traces) log
  pub order_is : All (IsGoodPlace (config.cores * config.strands)) order

abbrev pub tail_text : List Commit → List Place → List ℕ → List ℕ
tail_text log order console = lines_from commit_line_of 0 log ++ (order_lines_of order ++ (console_lines_of console ++ end_line))

-- ---- a line that was refused

-- it has the form and a value is out of its range, or it has not
abbrev pub IsKindOfFault : Line → List ℕ → LogKind → Type 0
IsKindOfFault kind line Range = HasForm kind line
IsKindOfFault kind line Syntax = HasForm kind line → ⊥
IsKindOfFault kind line _ = ⊥

pub record BeginsSo (text first : List ℕ) : Type 0 where
  pub after : List ℕ
  pub begins : BeginsWith text first after

-- no line is whole there, or the first one is refused as one of this kind
pub data IsJudged (text : List ℕ) (at : ℕ) (kind : Line) (error : LogError) : Type 0 where
  Ends : feeds (drop at text) ≡ 0 → error.kind ≡ Unended → error.line ≡ feeds text → IsJudged text at kind error
  Refused : (first after : List ℕ) → BeginsWith (drop at text) first after → error.line ≡ feeds (take at text) + 1 → IsKindOfFault kind first error.kind → IsJudged text at kind error
