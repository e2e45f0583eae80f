-- One strand of a core: its state, where it stands in its unit, its stores and its trace; and each
-- thing that happens to it.
use Rattle.std.specs.Prelude.{ℕ, ◌==◌, false, drop, if◌then◌else◌, List, [], ◌∷◌, ◌++◌, length, slice_get, set, Option, Some, None}
use Rattle.t1_shape.specs.Shapes.{Shape}
use Rattle.t1_decode.specs.Words.{insn_of}
use Rattle.t1_state.specs.declared.strand.Strand.{Strand}
use Rattle.t1_state.specs.declared.strand.Entered.{Entered}
use Rattle.t1_state.specs.declared.strand.Entered.TheVariants as entry
use Rattle.t1_state.specs.Traps.{entered, entered_by}
use Rattle.t1_exec.specs.declared.need.Need.{Need}
use Rattle.t1_exec.specs.declared.need.Need.TheVariants as need
use Rattle.t1_exec.specs.declared.need.AtomicOp.TheVariants.{Swap, Cas}
use Rattle.t1_exec.specs.Needs.{need_of}
use Rattle.t1_exec.specs.Meanings.{after_of}
use Rattle.t1_packet.specs.declared.op.Op.{Op}
use Rattle.t1_packet.specs.declared.op.Op.TheVariants as op
use Rattle.t1_packet.specs.Ops.{dest_of}
use Rattle.t1_event.specs.declared.item.Item.{Item}
use Rattle.t1_event.specs.declared.item.How.{How}
use Rattle.t1_event.specs.declared.trace.Ending.TheVariants as ending
use Rattle.t1_event.specs.Items.{fetch_item, load_item, store_item, flush_item}
use Rattle.t1_joint.specs.Replay.{atomic_item}
use Rattle.t1_core.specs.declared.phase.Phase.{Phase}
use Rattle.t1_core.specs.declared.phase.Phase.TheVariants as phase
use Rattle.t1_sbuf.specs.declared.entry.Entry.{Entry}
use Rattle.t1_sbuf.specs.Entries.{sent_next}

pub record ThreadState : Type 0 where
  pub strand : Strand
  pub phase : Phase
  pub stores : List Entry  -- those that are not acknowledged, oldest first
  pub times : List ℕ  -- when each of them that is sent was sent
  pub items : List Item
  pub budget : ℕ

-- the word of the unit that is under way
abbrev pub word_of : Phase → ℕ
word_of phase.Fetch = 0
word_of (phase.Have word) = word
word_of (phase.OutFetch way seen) = 0
word_of (phase.OutData word way seen) = word
word_of (phase.Ended e) = 0

-- what its instruction needs
unfoldable pub thread_need : ℕ → ThreadState → Need
thread_need ram t = need_of t.strand (insn_of (word_of t.phase)) ram

-- after a unit: the budget is spent, or the next unit begins
abbrev pub next_phase : ℕ → ℕ → Phase
next_phase units budget = if units == budget then phase.Ended ending.Spent else phase.Fetch

abbrev pub placed : Item → How → Item
placed x how = record x { how = how }

-- ---- what happens to a strand

-- the instruction's meaning applies to this value, with these items of the unit
unfoldable pub unit_done : ThreadState → ℕ → List Item → ThreadState
unit_done t value xs =
    let s = after_of t.strand (insn_of (word_of t.phase)) value in
    record t { strand = s; items = t.items ++ xs; phase = next_phase s.units t.budget }

-- the instruction halts the strand
unfoldable pub halted : ThreadState → ThreadState
halted t = record t { strand = after_of t.strand (insn_of (word_of t.phase)) 0; phase = phase.Ended ending.Halted }

abbrev pub entry_phase : Entered → ℕ → ℕ → Phase
entry_phase entry.Taken units budget = next_phase units budget
entry_phase (entry.Fault number) units budget = phase.Ended (ending.Fault number)

-- a trap comes
unfoldable pub trapped : ThreadState → ℕ → ThreadState
trapped t number =
    let s = entered t.strand number in
    record t { strand = s; phase = entry_phase (entered_by t.strand number) s.units t.budget }

-- the word that it fetched comes
unfoldable pub word_came : ThreadState → ℕ → How → ThreadState
word_came t word how = record t { items = t.items ++ placed (fetch_item t.strand.pc word) how ∷ []; phase = phase.Have word }

-- the value of a load comes, which its buffer or its cache holds
unfoldable pub load_came : ThreadState → ℕ → ℕ → ℕ → How → ThreadState
load_came t addr size value how = unit_done t value (placed (load_item addr size value) how ∷ [])

-- the item of a load or an atomic that got this value
abbrev pub read_item : Need → ℕ → Item
read_item (need.Load addr size) value = load_item addr size value
read_item (need.Atomic addr size o) value = atomic_item addr size o value
read_item need.Plain value = flush_item
read_item need.Halt value = flush_item
read_item (need.Trap number) value = flush_item
read_item (need.Store addr size put) value = flush_item
read_item (need.Membar mask) value = flush_item
read_item need.Flush value = flush_item

-- the value of a load or an atomic comes, which it asked for
unfoldable pub value_came : ℕ → ThreadState → ℕ → How → ThreadState
value_came ram t value how = unit_done t value (placed (read_item (thread_need ram t) value) how ∷ [])

-- a store enters the buffer
unfoldable pub stored : Shape → ThreadState → ℕ → ℕ → ℕ → ThreadState
stored chip t addr size value =
    let e : Entry = record { item = length t.items; addr = addr; size = size; value = value; sent = false; dest = dest_of chip addr } in
    record (unit_done t 0 (store_item addr size value ∷ [])) { stores = t.stores ++ e ∷ [] }

-- what a load or an atomic asks of its destination
abbrev pub op_for : Need → ℕ → Op
op_for (need.Load addr size) way = op.Load addr size way
op_for (need.Atomic addr size (Swap new)) way = op.Swap addr size new
op_for (need.Atomic addr size (Cas expect new)) way = op.Cas addr size expect new
op_for need.Plain way = op.Cas 0 0 0 0
op_for need.Halt way = op.Cas 0 0 0 0
op_for (need.Trap number) way = op.Cas 0 0 0 0
op_for (need.Store addr size value) way = op.Cas 0 0 0 0
op_for (need.Membar mask) way = op.Cas 0 0 0 0
op_for need.Flush way = op.Cas 0 0 0 0

abbrev pub placed_at : List Item → ℕ → How → Option Item → List Item
placed_at items k how None = items
placed_at items k how (Some x) = set items k (placed x how)

-- item k has its place
abbrev pub item_placed : List Item → ℕ → How → List Item
item_placed items k how = placed_at items k how (slice_get items k)

-- a request of it goes out
abbrev pub in_phase : ThreadState → Phase → ThreadState
in_phase t p = record t { phase = p }

-- its next store goes out at this time
abbrev pub store_sent : ThreadState → ℕ → ThreadState
store_sent t time = record t { stores = sent_next t.stores; times = t.times ++ time ∷ [] }

-- the oldest store has its place, and leaves the buffer
unfoldable pub acknowledged : ThreadState → Entry → How → ThreadState
acknowledged t e how = record t { stores = drop 1 t.stores; times = drop 1 t.times; items = item_placed t.items e.item how }
