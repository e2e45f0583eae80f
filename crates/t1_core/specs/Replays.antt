-- Each strand of a core is the replay so far of the values that its reads got.
use Rattle.std.specs.Prelude.{ℕ, ◌≡◌, ◌<◌, ◌==◌, true, false, List, map, slice_get, Option, Some, None}
use Rattle.t1_num.specs.MemoryLaws.{AreBytes}
use Rattle.t1_shape.specs.Slots.{Line}
use Rattle.t1_decode.specs.Words.{insn_of}
use Rattle.t1_state.specs.declared.strand.Strand.{Strand}
use Rattle.t1_state.specs.Interrupts.{due_of}
use Rattle.t1_exec.specs.declared.need.Need.{Need}
use Rattle.t1_exec.specs.declared.need.Need.TheVariants as need
use Rattle.t1_exec.specs.Needs.{need_of}
use Rattle.t1_packet.specs.declared.packet.Packet.{Packet}
use Rattle.t1_packet.specs.Data.{ReplyData}
use Rattle.t1_event.specs.declared.item.Item.{Item}
use Rattle.t1_event.specs.declared.report.Config.{Config}
use Rattle.t1_event.specs.Items.{reads_of, unplaced}
use Rattle.t1_joint.specs.Replay.{Bounds, Running, Done, is_fetchable}
use Rattle.t1_joint.specs.Follows.{StandsAt, HasBegun}
use Rattle.t1_joint.specs.Start.{start_in}
use Rattle.t1_l1.specs.Cache.{CacheState}
use Rattle.t1_core.specs.declared.phase.Phase.{Phase}
use Rattle.t1_core.specs.declared.phase.Phase.TheVariants as phase
use Rattle.t1_core.specs.Threads.{ThreadState}
use Rattle.t1_core.specs.Steps.{CoreState, exec_of, drain_of}
use Rattle.t1_core.specs.Takes.{take_of}
use Rattle.t1_core.specs.Start.{new_core}

-- a need that reads a value
abbrev pub IsReading : Need → Type 0
IsReading (need.Load addr size) = Unit {0}
IsReading (need.Atomic addr size o) = Unit {0}
IsReading need.Plain = ⊥
IsReading need.Halt = ⊥
IsReading (need.Trap number) = ⊥
IsReading (need.Store addr size value) = ⊥
IsReading (need.Membar mask) = ⊥
IsReading need.Flush = ⊥

-- between two units
pub record IsBetween (b : Bounds) (from s : Strand) (items : List Item) : Type 0 where
  pub stands : StandsAt b from s (reads_of items) items Running
  pub unspent : (s.units == b.budget) ≡ false

-- the fetch of a unit is out
pub record IsFetching (b : Bounds) (from s : Strand) (items : List Item) : Type 0 where
  pub between : IsBetween b from s items
  pub not_due : due_of s ≡ None
  pub in_ram : is_fetchable b.ram s.pc ≡ true

-- the load or atomic of a unit is out
pub record IsAsking (b : Bounds) (from s : Strand) (items : List Item) (word : ℕ) : Type 0 where
  pub begun : HasBegun b from s items word
  pub reads : IsReading (need_of s (insn_of word) b.ram)

-- a strand in a phase, with these items, is its replay so far
abbrev pub ReplaysAt : Bounds → Strand → Strand → List Item → Phase → Type 0
ReplaysAt b from s items phase.Fetch = IsBetween b from s items
ReplaysAt b from s items (phase.Have word) = HasBegun b from s items word
ReplaysAt b from s items (phase.OutFetch way seen) = IsFetching b from s items
ReplaysAt b from s items (phase.OutData word way seen) = IsAsking b from s items word
ReplaysAt b from s items (phase.Ended e) = StandsAt b from s (reads_of items) items (Done e)

-- the items of a strand without their places
abbrev pub bare_items : List Item → List Item
bare_items items = map unplaced items

abbrev pub Replays : ℕ → Strand → ThreadState → Type 0
Replays ram from t = ReplaysAt (record { ram = ram; budget = t.budget }) from t.strand (bare_items t.items) t.phase

-- the lines of a cache are of bytes
abbrev pub AreByteLines : List (Option Line) → Type 0
AreByteLines slots = (k : ℕ) (line : Line) → slice_get slots k ≡ Some (Some line) → AreBytes line.bytes

-- each strand of a core is its replay so far from its own start, and its caches hold bytes
pub record IsReplayed (starts : ℕ → Strand) (c : CoreState) : Type 0 where
  pub each : (i : ℕ) (t : ThreadState) → slice_get c.threads i ≡ Some t → Replays c.ram (starts i) t
  pub dcache : AreByteLines c.dcache.slots
  pub icache : AreByteLines c.icache.slots

-- the line of a packet's reply is of bytes, as its type has it
abbrev pub HasByteLine : Option ReplyData → Type 0
HasByteLine None = Unit {0}
HasByteLine (Some r) = AreBytes r.line
