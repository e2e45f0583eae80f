-- What a strand of a core has out, and its order as the theory of one strand sees it.
use Rattle.std.specs.Prelude.{ℕ, ◌≡◌, Bool, true, false, List, [], ◌∷◌, length, map, Option, Some, None}
use Rattle.t1_decode.specs.Words.{insn_of}
use Rattle.t1_state.specs.declared.strand.Strand.{Strand}
use Rattle.t1_exec.specs.Needs.{need_of}
use Rattle.t1_packet.specs.declared.op.Op.TheVariants as op
use Rattle.t1_packet.specs.Data.{RequestData}
use Rattle.t1_sbuf.specs.declared.entry.Entry.{Entry}
use Rattle.t1_event.specs.declared.item.Item.{Item}
use Rattle.t1_event.specs.Items.{fetch_item}
use Rattle.t1_joint.specs.Waits.{HasItem}
use Rattle.t1_strand_order.specs.Tracks.{Asked, Track}
use Rattle.t1_core.specs.declared.phase.Phase.{Phase}
use Rattle.t1_core.specs.declared.phase.Phase.TheVariants as phase
use Rattle.t1_core.specs.Stores.{store_op}
use Rattle.t1_core.specs.Threads.{ThreadState, read_item, op_for}

-- ---- requests that are out; `core` and `strand` are the numbers of the asker

abbrev pub store_request : ℕ → ℕ → Entry → ℕ → RequestData
store_request core strand e seen = record { core = core; strand = strand; item = e.item; seen = seen; op = store_op e }

-- the stores that were sent at these times, which are the oldest
abbrev pub stores_out : ℕ → ℕ → List Entry → List ℕ → List RequestData
stores_out core strand [] times = []
stores_out core strand (e ∷ es) [] = []
stores_out core strand (e ∷ es) (t ∷ times) = store_request core strand e t ∷ stores_out core strand es times

-- the fetch, load or atomic that is out, for item number `item`
abbrev pub read_out : ℕ → ℕ → ℕ → Strand → ℕ → Phase → List RequestData
read_out core strand ram s item phase.Fetch = []
read_out core strand ram s item (phase.Have word) = []
read_out core strand ram s item (phase.OutFetch way seen) =
    (record { core = core; strand = strand; item = item; seen = seen; op = op.Fetch s.pc way }) ∷ []
read_out core strand ram s item (phase.OutData word way seen) =
    (record { core = core; strand = strand; item = item; seen = seen; op = op_for (need_of s (insn_of word) ram) way }) ∷ []
read_out core strand ram s item (phase.Ended e) = []

-- of one class: a strand's stores, or its fetch, load or atomic
abbrev pub outs : ℕ → ℕ → ℕ → Bool → ThreadState → List RequestData
outs core strand ram true t = stores_out core strand t.stores t.times
outs core strand ram false t = read_out core strand ram t.strand (length t.items) t.phase

abbrev pub outs_at : ℕ → ℕ → ℕ → Bool → Option ThreadState → List RequestData
outs_at core strand ram stores None = []
outs_at core strand ram stores (Some t) = outs core strand ram stores t

-- ---- order

abbrev pub asked_of : ℕ → Strand → Phase → Option Asked
asked_of ram s phase.Fetch = None
asked_of ram s (phase.Have word) = None
asked_of ram s (phase.OutFetch way seen) = Some (record { item = fetch_item s.pc 0; seen = seen })
asked_of ram s (phase.OutData word way seen) = Some (record { item = read_item (need_of s (insn_of word) ram) 0; seen = seen })
asked_of ram s (phase.Ended e) = None

abbrev pub numbers_of : List Entry → List ℕ
numbers_of es = map (λ e. e.item) es

abbrev pub track_of : ℕ → ℕ → ThreadState → Track
track_of ram clock t =
    record { items = t.items; waiting = numbers_of t.stores; sent = t.times; out = asked_of ram t.strand t.phase; clock = clock }

-- ---- entries

-- an entry of the buffer is its item
pub record IsEntryOf (items : List Item) (e : Entry) : Type 0 where
  pub item : Item
  pub has : HasItem items e.item item
  pub addr : item.addr ≡ e.addr
  pub size : item.size ≡ e.size
  pub put : item.put ≡ e.value
  pub got : item.got ≡ 0

abbrev pub AreEntriesOf : List Item → List Entry → Type 0
AreEntriesOf items [] = Unit {0}
AreEntriesOf items (e ∷ es) = IsEntryOf items e × AreEntriesOf items es
