-- The replay of one strand from the values that its reads got, one unit at a time.
use Rattle.std.specs.Prelude.{ℕ, zero, suc, ◌*◌, ◌^◌, ◌%◌, ◌==◌, ◌&&◌, Bool, true, false, nat_lt, if◌then◌else◌, List, [], ◌∷◌, ◌++◌, Option, Some, None}
use Rattle.t1_decode.specs.Words.{insn_of}
use Rattle.t1_state.specs.declared.strand.Strand.{Strand}
use Rattle.t1_state.specs.declared.strand.Entered.{Entered}
use Rattle.t1_state.specs.declared.strand.Entered.TheVariants as entry
use Rattle.t1_state.specs.Interrupts.{due_of}
use Rattle.t1_state.specs.Traps.{entered, entered_by}
use Rattle.t1_exec.specs.declared.need.Need.{Need}
use Rattle.t1_exec.specs.declared.need.Need.TheVariants as need
use Rattle.t1_exec.specs.declared.need.AtomicOp.{AtomicOp}
use Rattle.t1_exec.specs.declared.need.AtomicOp.TheVariants.{Swap, Cas}
use Rattle.t1_exec.specs.Needs.{need_of}
use Rattle.t1_exec.specs.Meanings.{after_of}
use Rattle.t1_event.specs.declared.item.Item.{Item}
use Rattle.t1_event.specs.declared.item.ItemKind.TheVariants.{Atomic}
use Rattle.t1_event.specs.declared.trace.Ending.{Ending}
use Rattle.t1_event.specs.declared.trace.Ending.TheVariants as ending
use Rattle.t1_event.specs.Items.{access_item, fetch_item, load_item, store_item, membar_item, flush_item}

-- a replay goes on, lacks a value to read, or has ended
pub data End : Type 0 where
  Running : End
  Starved : End
  Done : Ending → End

-- where a replay stands: the strand, its items so far, and the values that are left to read
pub record Replay : Type 0 where
  pub strand : Strand
  pub items : List Item
  pub reads : List ℕ
  pub end : End

-- the bytes of RAM, and the units that a strand may make
pub record Bounds : Type 0 where
  pub ram : ℕ
  pub budget : ℕ

-- the trap of a PC that is not in RAM: instruction_access_error
abbrev pub fetch_trap : ℕ
fetch_trap = 0x00a

-- the item of an atomic that got this value
abbrev pub atomic_item : ℕ → ℕ → AtomicOp → ℕ → Item
atomic_item addr size (Swap new) got = access_item (Atomic true) addr size got new
atomic_item addr size (Cas expect new) got = access_item (Atomic (got == expect)) addr size got (if got == expect then new else 0)

-- no value is left, or the next one does not fit its size
abbrev pub starved : Strand → List Item → List ℕ → Replay
starved s items reads = record { strand = s; items = items; reads = reads; end = Starved }

-- an entry that was taken, or a fault, which ends the strand
abbrev pub entry_end : Entered → End
entry_end entry.Taken = Running
entry_end (entry.Fault number) = Done (ending.Fault number)

-- a trap is entered
abbrev pub trapped : Strand → List Item → List ℕ → ℕ → Replay
trapped s items reads number = record { strand = entered s number; items = items; reads = reads; end = entry_end (entered_by s number) }

-- the word's meaning applies to the value read
abbrev pub acted : Strand → ℕ → ℕ → List Item → List ℕ → End → Replay
acted s word value items reads end = record { strand = after_of s (insn_of word) value; items = items; reads = reads; end = end }

-- a load or an atomic got this value, if the value fits its size
abbrev pub with_value : Strand → ℕ → List Item → (ℕ → Item) → ℕ → List ℕ → Bool → Replay
with_value s word items make value reads true = acted s word value (items ++ make value ∷ []) reads Running
with_value s word items make value reads false = starved s items (value ∷ reads)

-- a load or an atomic of so many bytes gets the next value
abbrev pub with_read : Strand → ℕ → List Item → ℕ → (ℕ → Item) → List ℕ → Replay
with_read s word items size make [] = starved s items []
with_read s word items size make (value ∷ reads) = with_value s word items make value reads (nat_lt value (2 ^ (8 * size)))

-- the word's need is met
abbrev pub met : Strand → ℕ → List Item → List ℕ → Need → Replay
met s word items reads need.Plain = acted s word 0 items reads Running
met s word items reads need.Halt = acted s word 0 items reads (Done ending.Halted)
met s word items reads (need.Trap number) = trapped s items reads number
met s word items reads (need.Membar mask) = acted s word 0 (items ++ membar_item mask ∷ []) reads Running
met s word items reads need.Flush = acted s word 0 (items ++ flush_item ∷ []) reads Running
met s word items reads (need.Store addr size value) = acted s word 0 (items ++ store_item addr size value ∷ []) reads Running
met s word items reads (need.Load addr size) = with_read s word items size (load_item addr size) reads
met s word items reads (need.Atomic addr size op) = with_read s word items size (atomic_item addr size op) reads

-- a fetch got this word, if it fits four bytes
abbrev pub with_word : Bounds → Strand → List Item → ℕ → List ℕ → Bool → Replay
with_word b s items word reads true = met s word (items ++ fetch_item s.pc word ∷ []) reads (need_of s (insn_of word) b.ram)
with_word b s items word reads false = starved s items (word ∷ reads)

-- the fetch at PC gets the next value as its word
abbrev pub fetched : Bounds → Strand → List Item → List ℕ → Replay
fetched b s items [] = starved s items []
fetched b s items (word ∷ reads) = with_word b s items word reads (nat_lt word (2 ^ 32))

-- a word can be fetched at an address: it lies in RAM
abbrev pub is_fetchable : ℕ → ℕ → Bool
is_fetchable ram pc = nat_lt pc ram && (pc % 4 == 0)

-- a unit begins: the interrupt that is due is taken, or a word is fetched where it can be
abbrev pub begun : Bounds → Strand → List Item → List ℕ → Option ℕ → Bool → Replay
begun b s items reads (Some number) can_fetch = trapped s items reads number
begun b s items reads None true = fetched b s items reads
begun b s items reads None false = trapped s items reads fetch_trap

-- the budget is spent, or a unit begins
abbrev pub begun_or_spent : Bounds → Strand → List Item → List ℕ → Bool → Replay
begun_or_spent b s items reads true = record { strand = s; items = items; reads = reads; end = Done ending.Spent }
begun_or_spent b s items reads false = begun b s items reads (due_of s) (is_fetchable b.ram s.pc)

abbrev pub unit_at : Bounds → Replay → End → Replay
unit_at b r Running = begun_or_spent b r.strand r.items r.reads (r.strand.units == b.budget)
unit_at b r Starved = r
unit_at b r (Done e) = r

-- one unit more
abbrev pub unit : Bounds → Replay → Replay
unit b r = unit_at b r r.end

-- so many units more
abbrev pub units : Bounds → ℕ → Replay → Replay
units b zero r = r
units b (suc n) r = unit b (units b n r)

-- a strand in this state, with these values to read
abbrev pub started : Strand → List ℕ → Replay
started from reads = record { strand = from; items = []; reads = reads; end = Running }
