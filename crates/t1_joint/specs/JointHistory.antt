-- Joint histories: traces and a log of which each access has its place, its commit and its reply, by the
-- rules of the machine. No code, no ring and no clock stands in them.
use Rattle.std.specs.Prelude.{ℕ, ◌≡◌, ◌+◌, ◌*◌, ◌%◌, ◌^◌, ◌<◌, ◌≤◌, ◌⊎◌, List, [], length, Option, Some, None}
use Rattle.std.specs.List.{slice_get}
use Rattle.t1_num.specs.Memory.{number_at}
use Rattle.t1_num.specs.MemoryLaws.{AreBytes}
use Rattle.t1_shape.specs.Numbers.{banks, io_bridge, l2_line, most_strands, most_l2_sets}
use Rattle.t1_packet.specs.declared.cache.Cache.{Cache}
use Rattle.t1_packet.specs.declared.packet.Packet.{Packet}
use Rattle.t1_packet.specs.Ops.{op_addr, op_size, dest_of}
use Rattle.t1_packet.specs.Caches.{layout, filled_line}
use Rattle.t1_l2.specs.Array.{evicted_for}
use Rattle.t1_event.specs.declared.item.Item.{Item}
use Rattle.t1_event.specs.declared.item.ItemKind.TheVariants as kind
use Rattle.t1_event.specs.declared.item.How.TheVariants as how
use Rattle.t1_event.specs.declared.trace.Trace.{Trace}
use Rattle.t1_event.specs.declared.trace.Ending.{Ending}
use Rattle.t1_event.specs.declared.commit.Commit.{Commit}
use Rattle.t1_event.specs.Kinds.{IsRead, IsWrite, IsAccess}
use Rattle.t1_event.specs.Items.{items_of, IsBarrier}
use Rattle.t1_event.specs.Order.{Act, Earlier}
use Rattle.t1_event.specs.Times.{at_of, done_of, IsPlaced}
use Rattle.t1_event.specs.Log.{core_of, kept_old, memory_at}
use Rattle.t1_event.specs.Records.{op_of, old_of}
use Rattle.t1_event.specs.Kills.{kills_below}
use Rattle.t1_event.specs.Shadow.{directory_at, present_at}
use Rattle.t1_event.specs.Posts.{post_at}
use Rattle.t1_event.specs.Places.{Run, home, IsPlacedRightly, IsFilledRightly}
use Rattle.t1_joint.specs.Follows.{Follows}
use Rattle.t1_joint.specs.Start.{Setup, start_in, bounds_in}
use Rattle.t1_joint.specs.Waits.{AreStoresInOrder}

-- ---- the machine and the run

-- within the limits of the chip, with an image of the size of its RAM
pub record IsSetup (w : Setup) : Type 0 where
  pub cores : (0 < w.config.cores) × (w.config.cores ≤ 8)
  pub strands : (0 < w.config.strands) × (w.config.strands ≤ most_strands w.config.chip)
  pub sets : (0 < w.config.sets) × (w.config.sets ≤ most_l2_sets w.config.chip)
  pub ram : length w.image.ram ≡ w.config.ram
  pub blocks : w.config.ram % 65536 ≡ 0
  pub small : w.config.ram ≤ 2 ^ 28
  pub bytes : AreBytes w.image.ram

abbrev pub run_of : Setup → List Trace → List Commit → Run
run_of w traces log = record {
  shape = w.config.chip;
  cores = w.config.cores;
  strands = w.config.strands;
  sets = w.config.sets;
  image = w.image.ram;
  traces = items_of traces;
  log = log;
}

-- ---- naming: each access has a place, and those that are placed as commits are those that the log names

-- commit n names this item
pub record Names {traces : List (List Item)} (commit : Commit) (n : ℕ) (x : Act traces) : Type 0 where
  pub strand : commit.strand ≡ x.strand
  pub item : commit.item ≡ x.number
  pub how_is : x.item.how ≡ how.Commit n commit.seen

pub record Naming (h : Run) : Type 0 where
  pub placed : (x : Act h.traces) → IsAccess x.item.kind → IsPlaced x.item.how
  pub named : (x : Act h.traces) (n seen : ℕ) → x.item.how ≡ how.Commit n seen → (commit : Commit) × (slice_get h.log n ≡ Some commit) × Names commit n x
  pub names : (n : ℕ) (commit : Commit) → slice_get h.log n ≡ Some commit → (x : Act h.traces) × IsAccess x.item.kind × Names commit n x

-- ---- times

-- 0, or one past the index of a commit that posts to the core
abbrev pub IsPostTime : Run → ℕ → ℕ → Type 0
IsPostTime h core t = (t ≡ 0) ⊎ ((n : ℕ) × (packet : Packet) × (post_at h.strands h.image h.log core n ≡ Some packet) × (t ≡ n + 1))

pub record Times (h : Run) : Type 0 where
  pub at : (x : Act h.traces) → IsAccess x.item.kind → IsPostTime h (home h x) (at_of x.item.how)
  pub seen : (n : ℕ) (commit : Commit) → slice_get h.log n ≡ Some commit → commit.seen ≤ n
  -- along the commits of one core and one destination `seen` never falls
  pub ascends : (m n : ℕ) (a b : Commit) → m < n → slice_get h.log m ≡ Some a → slice_get h.log n ≡ Some b → a.dest ≡ b.dest
      → core_of h.strands a ≡ core_of h.strands b → a.seen ≤ b.seen

-- ---- program order: what an access waits for was done at its time

pub record ProgramOrder (h : Run) : Type 0 where
  pub read : (x y : Act h.traces) → Earlier x y → IsRead x.item.kind → IsAccess y.item.kind → done_of x.item.how ≤ at_of y.item.how
  pub stores : (x y : Act h.traces) → Earlier x y → x.item.kind ≡ kind.Store → y.item.kind ≡ kind.Store → AreStoresInOrder h.shape x.item y.item
  pub atomic : (x y : Act h.traces) → Earlier x y → x.item.kind ≡ kind.Store → IsRead y.item.kind → IsWrite y.item.kind
      → done_of x.item.how ≤ at_of y.item.how
  pub barrier : (x b y : Act h.traces) → Earlier x b → Earlier b y → x.item.kind ≡ kind.Store → IsBarrier b.item → IsAccess y.item.kind
      → done_of x.item.how ≤ at_of y.item.how

-- ---- places

pub record Places (h : Run) : Type 0 where
  pub rightly : (x : Act h.traces) → IsAccess x.item.kind → IsPlacedRightly h x
  pub filled : (n : ℕ) (commit : Commit) → slice_get h.log n ≡ Some commit → IsFilledRightly h n commit

-- ---- banks: each commit is the record of what its destination serves for its access at that place of the log

-- the record of an item: where its address goes, its plain op, and the value before it
pub record IsRecordOf (h : Run) (commit : Commit) (item : Item) : Type 0 where
  pub dest : commit.dest ≡ dest_of h.shape item.addr
  pub op : commit.op ≡ op_of item commit.way item.kind
  pub old : commit.old ≡ old_of item item.kind

-- what the directories show after the first n commits
abbrev pub shown_at : Run → ℕ → ℕ → Cache → List (Option ℕ)
shown_at h n core cache = directory_at h.shape h.strands h.log core cache n

-- as a bank serves it, in the state after the commits before
pub record IsBankCommit (h : Run) (n : ℕ) (commit : Commit) : Type 0 where
  pub old : commit.old ≡ kept_old commit.op (number_at (memory_at h.image h.log n) (op_addr commit.op) (op_size commit.op))
  pub fills : (cache : Cache) (line : ℕ) → filled_line cache commit.op ≡ Some line
      → (way : ℕ) × (commit.way ≡ Some way) × (way < (layout h.shape cache).ways)
  pub fills_nothing : ((cache : Cache) → filled_line cache commit.op ≡ None) → commit.way ≡ None
  pub evicted : commit.evicted ≡ evicted_for (present_at h.shape h.sets h.image h.log commit.dest n) (l2_line (op_addr commit.op))
  pub kills : commit.kills ≡ kills_below h.shape (shown_at h n) (core_of h.strands commit) commit.evicted commit.op h.cores

-- as the I/O bridge serves it
pub record IsBridgeCommit (commit : Commit) : Type 0 where
  pub old : commit.old ≡ 0
  pub way : commit.way ≡ None
  pub evicted : commit.evicted ≡ None
  pub kills : commit.kills ≡ []

pub record Banks (h : Run) : Type 0 where
  pub record_is : (n : ℕ) (commit : Commit) (x : Act h.traces) → slice_get h.log n ≡ Some commit → Names commit n x → IsRecordOf h commit x.item
  pub bank : (n : ℕ) (commit : Commit) → slice_get h.log n ≡ Some commit → commit.dest < banks h.shape → IsBankCommit h n commit
  pub bridge : (n : ℕ) (commit : Commit) → slice_get h.log n ≡ Some commit → commit.dest ≡ io_bridge h.shape → IsBridgeCommit commit

-- ---- table

pub record HasFollowed (w : Setup) (strand : ℕ) (trace : Trace) : Type 0 where
  pub follows : Follows (bounds_in w.config) (start_in w.config w.image.entry strand) trace
  pub ending : Ending
  pub ended : trace.ending ≡ Some ending

abbrev pub Table : Setup → List Trace → Type 0
Table w traces = (strand : ℕ) (trace : Trace) → slice_get traces strand ≡ Some trace → HasFollowed w strand trace

-- ---- all

pub record IsJointHistory (w : Setup) (traces : List Trace) (log : List Commit) : Type 0 where
  pub setup : IsSetup w
  pub all_strands : length traces ≡ w.config.cores * w.config.strands
  pub naming : Naming (run_of w traces log)
  pub times : Times (run_of w traces log)
  pub program : ProgramOrder (run_of w traces log)
  pub places : Places (run_of w traces log)
  pub banks : Banks (run_of w traces log)
  pub table : Table w traces
