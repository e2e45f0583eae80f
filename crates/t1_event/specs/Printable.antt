-- Which reports have a text.
use Rattle.std.specs.Prelude.{ℕ, ◌≡◌, ◌*◌, ◌%◌, ◌^◌, ◌<◌, ◌≤◌, length, All, ⊤, Option, Some, None}
use Rattle.t1_event.specs.declared.item.Item.{Item}
use Rattle.t1_event.specs.declared.item.How.TheVariants.{Unplaced}
use Rattle.t1_event.specs.declared.report.Report.{Report}
use Rattle.t1_event.specs.declared.commit.Commit.{Commit}
use Rattle.t1_event.specs.declared.trace.Ending.{Ending}
use Rattle.t1_event.specs.declared.trace.Ending.TheVariants.{Halted, Fault, Spent}
use Rattle.t1_event.specs.declared.trace.Trace.{Trace}
use Rattle.t1_event.specs.Kinds.{IsRead, IsAccess, IsChanging}
use Rattle.t1_event.specs.Times.{IsPlaced}

-- a number has at most so many hexadecimal digits
abbrev pub FitsDigits : ℕ → ℕ → Type 0
FitsDigits digits n = n < 2 ^ (4 * digits)

-- an access has one to eight bytes, a place, and an address and values that fit their digits; a membar
-- or flush has no place
pub record HasText (item : Item) : Type 0 where
  pub addr : IsAccess item.kind → FitsDigits 10 item.addr
  pub some : IsAccess item.kind → 1 ≤ item.size
  pub size : IsAccess item.kind → item.size ≤ 8
  pub got : IsRead item.kind → FitsDigits (2 * item.size) item.got
  pub put : IsChanging item.kind → FitsDigits (2 * item.size) item.put
  pub placed : IsAccess item.kind → IsPlaced item.how
  pub unplaced : (IsAccess item.kind → ⊥) → item.how ≡ Unplaced

-- a strand has ended, and the type of its last trap fits its digits
abbrev pub HasEnded : Option Ending → Type 0
HasEnded None = ⊥
HasEnded (Some Halted) = ⊤
HasEnded (Some Spent) = ⊤
HasEnded (Some (Fault number)) = FitsDigits 3 number

pub record IsPrintableTrace (trace : Trace) : Type 0 where
  pub items : All HasText trace.items
  pub count : length trace.items ≤ 2 ^ 32
  pub ended : HasEnded trace.ending

abbrev pub IsEvictedAddress : Option ℕ → Type 0
IsEvictedAddress None = ⊤
IsEvictedAddress (Some addr) = FitsDigits 10 addr

pub record IsPrintableCommit (commit : Commit) : Type 0 where
  pub evicted : IsEvictedAddress commit.evicted
  pub kills : length commit.kills ≤ 64

-- each strand of the machine has a trace that has a text, and all numbers that are printed in digits fit
-- them (bytes, masks and PCs do so by their types)
pub record IsPrintableReport (report : Report) : Type 0 where
  pub entry : FitsDigits 10 report.image.entry
  pub blocks : length report.image.ram % 32 ≡ 0
  pub image : length report.image.ram ≤ 2 ^ 40
  pub traces : All IsPrintableTrace report.traces
  pub number : length report.traces ≡ report.config.cores * report.config.strands
  pub strands : length report.traces ≤ 256
  pub log : All IsPrintableCommit report.log
  pub commits : length report.log ≤ 2 ^ 32
