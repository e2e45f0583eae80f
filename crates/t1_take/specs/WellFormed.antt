-- Well-formed reports: those that have a log, and whose parts that the log does not print are what it says.
use Rattle.std.specs.Prelude.{ℕ, ◌≡◌, ◌*◌, ◌^◌, ◌<◌, ◌≤◌, List, [], length, All, IsTrue, Option, Some, None}
use Rattle.std.specs.List.{slice_get}
use Rattle.std.proofs.Common.{get_or}
use Rattle.t1_packet.specs.Data.{KillData}
use Rattle.t1_event.specs.declared.item.Item.{Item}
use Rattle.t1_event.specs.declared.item.How.TheVariants as how
use Rattle.t1_event.specs.declared.commit.Commit.{Commit}
use Rattle.t1_event.specs.declared.report.Report.{Report}
use Rattle.t1_event.specs.declared.report.Place.{Place}
use Rattle.t1_event.specs.Items.{items_of}
use Rattle.t1_event.specs.Records.{op_of, old_of}
use Rattle.t1_event.specs.Printable.{FitsDigits}
use Rattle.t1_take.specs.Limits.{is_in_limits}
use Rattle.t1_take.specs.Items.{IsGoodTrace}

-- ---- commits

-- a copy in a core that there is, of a set and a way that its L1 caches have
pub record IsGoodKill (cores : ℕ) (kill : KillData) : Type 0 where
  pub core : kill.core < cores
  pub set : kill.set < 128
  pub way : kill.way < 4

abbrev pub IsGoodWay : Option ℕ → Type 0
IsGoodWay None = Unit {0}
IsGoodWay (Some way) = way < 4

abbrev pub IsGoodEvicted : Option ℕ → Type 0
IsGoodEvicted None = Unit {0}
IsGoodEvicted (Some addr) = FitsDigits 10 addr

-- a commit names an access that is placed at its index, and what the log does not print of it is a
-- function of that access and of the way
pub record IsGoodCommit (cores : ℕ) (traces : List (List Item)) (index : ℕ) (commit : Commit) : Type 0 where
  pub item : Item
  pub names : slice_get (get_or traces commit.strand []) commit.item ≡ Some item
  pub placed : item.how ≡ how.Commit index commit.seen
  pub op : commit.op ≡ op_of item commit.way item.kind
  pub old : commit.old ≡ old_of item item.kind
  pub dest : commit.dest ≤ 4
  pub way : IsGoodWay commit.way
  pub evicted : IsGoodEvicted commit.evicted
  pub kills : All (IsGoodKill cores) commit.kills
  pub few : length commit.kills ≤ 64

abbrev pub AreGoodCommits : ℕ → List (List Item) → List Commit → Type 0
AreGoodCommits cores traces log = (index : ℕ) (commit : Commit) → slice_get log index ≡ Some commit → IsGoodCommit cores traces index commit

-- its strand and its item have the sizes of their fields
pub record IsNamed (commit : Commit) : Type 0 where
  pub strand : commit.strand ≤ 255
  pub item : commit.item < 2 ^ 32

-- ---- the memory order

pub record IsGoodPlace (strands : ℕ) (place : Place) : Type 0 where
  pub strand : place.strand < strands
  pub item : place.item < 2 ^ 32

-- ---- reports

pub record IsWellFormed (report : Report) : Type 0 where
  pub limits : IsTrue (is_in_limits report.config)
  pub entry : FitsDigits 10 report.image.entry
  pub image : length report.image.ram ≡ report.config.ram
  pub number : length report.traces ≡ report.config.cores * report.config.strands
  pub traces : All (IsGoodTrace report.config.ram) report.traces
  pub log : AreGoodCommits report.config.cores (items_of report.traces) report.log
  pub commits : length report.log ≤ 2 ^ 32
  pub order : All (IsGoodPlace (report.config.cores * report.config.strands)) report.order
