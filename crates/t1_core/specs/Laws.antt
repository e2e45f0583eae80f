-- Laws of a core, over every list of its calls.
use Rattle.std.specs.Prelude.{ℕ, ◌≡◌, ◌+◌, ◌*◌, ◌<◌, ◌≤◌, List, [], ◌∷◌, slice_get, Some}
use Rattle.t1_state.specs.declared.strand.Strand.{Strand}
use Rattle.t1_packet.specs.declared.packet.Packet.{Packet}
use Rattle.t1_event.specs.declared.item.Item.{Item}
use Rattle.t1_event.specs.declared.item.How.{How}
use Rattle.t1_event.specs.declared.item.How.TheVariants.{Unplaced, Forward, Hit, Commit}
use Rattle.t1_event.specs.declared.report.Config.{Config}
use Rattle.t1_joint.specs.Start.{start_in}
use Rattle.t1_core.specs.Threads.{ThreadState}
use Rattle.t1_core.specs.Steps.{CoreState, exec_of, drain_of}
use Rattle.t1_core.specs.Takes.{take_of}
use Rattle.t1_core.specs.Turns.{turn_of}
use Rattle.t1_core.specs.Start.{new_core}
use Rattle.t1_core.specs.Replays.{IsReplayed, HasByteLine}

-- the start states of a core's strands
abbrev pub starts_of : Config → ℕ → ℕ → ℕ → Strand
starts_of config core entry strand = start_in config entry (core * config.strands + strand)

-- each strand of a core is its replay so far: it begins so, and every call keeps it, whatever packet
-- comes whose line is of bytes
pub record StrandsAreReplays : Type 0 where
  pub start : (config : Config) (core entry : ℕ) → 1 ≤ config.budget → IsReplayed (starts_of config core entry) (new_core config core entry)
  pub exec : (starts : ℕ → Strand) (c : CoreState) (strand room : ℕ) → IsReplayed starts c → IsReplayed starts (exec_of c strand room).core
  pub turn : (starts : ℕ → Strand) (c : CoreState) (room : ℕ) → IsReplayed starts c → IsReplayed starts (turn_of c room).core
  pub drain : (starts : ℕ → Strand) (c : CoreState) (strand room : ℕ) → IsReplayed starts c → IsReplayed starts (drain_of c strand room).core
  pub take : (starts : ℕ → Strand) (c : CoreState) (p : Packet) → HasByteLine p.reply → IsReplayed starts c → IsReplayed starts (take_of c p)

-- ---- times

-- the core's time at a Hit or Forward item
abbrev pub time_of : How → ℕ
time_of Unplaced = 0
time_of (Forward t) = t
time_of (Hit t) = t
time_of (Commit n s) = 0

abbrev pub HasTime : How → Type 0
HasTime Unplaced = ⊥
HasTime (Forward t) = Unit {0}
HasTime (Hit t) = Unit {0}
HasTime (Commit n s) = ⊥

-- the times of the Hit and Forward items of a strand never fall, and are at most the core's time
pub record IsTimed (items : List Item) (clock : ℕ) : Type 0 where
  pub below : (i : ℕ) (x : Item) → slice_get items i ≡ Some x → time_of x.how ≤ clock
  pub ascends : (i j : ℕ) (x y : Item) → i < j → slice_get items i ≡ Some x → slice_get items j ≡ Some y → HasTime y.how → time_of x.how ≤ time_of y.how

pub record AreTimed (c : CoreState) : Type 0 where
  pub each : (i : ℕ) (t : ThreadState) → slice_get c.threads i ≡ Some t → IsTimed t.items c.time

-- a core's time never falls, nor do the times along a strand, whatever packets come
pub record TimesRise : Type 0 where
  pub start : (config : Config) (core entry : ℕ) → AreTimed (new_core config core entry)
  pub exec : (c : CoreState) (strand room : ℕ) → AreTimed c → AreTimed (exec_of c strand room).core
  pub turn : (c : CoreState) (room : ℕ) → AreTimed c → AreTimed (turn_of c room).core
  pub drain : (c : CoreState) (strand room : ℕ) → AreTimed c → AreTimed (drain_of c strand room).core
  pub take : (c : CoreState) (p : Packet) → AreTimed c → AreTimed (take_of c p)
  pub same : (c : CoreState) (strand room : ℕ) → ((exec_of c strand room).core.time ≡ c.time) × ((drain_of c strand room).core.time ≡ c.time)
  pub later : (c : CoreState) (p : Packet) → c.time ≤ (take_of c p).time

-- exec and drain leave both caches as they are: only a packet changes them
abbrev pub OnlyPacketsChangeCaches : Type 0
OnlyPacketsChangeCaches = (c : CoreState) (strand room : ℕ)
    → ((exec_of c strand room).core.dcache ≡ c.dcache) × ((exec_of c strand room).core.icache ≡ c.icache)
    × ((drain_of c strand room).core.dcache ≡ c.dcache) × ((drain_of c strand room).core.icache ≡ c.icache)
