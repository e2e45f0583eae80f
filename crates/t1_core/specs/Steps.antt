-- What a strand of a core does: exec and drain.
use Rattle.std.specs.Prelude.{ℕ, ◌+◌, ◌/◌, ◌%◌, ◌^◌, ◌==◌, Bool, true, false, bit_and, nat_lt, if◌then◌else◌, List, [], ◌∷◌, length, set, slice_get, Option, Some, None}
use Rattle.t1_shape.specs.Shapes.{Shape}
use Rattle.t1_space.specs.Places.{is_io}
use Rattle.t1_decode.specs.Words.{insn_of}
use Rattle.t1_state.specs.Interrupts.{due_of}
use Rattle.t1_exec.specs.declared.need.Need.{Need}
use Rattle.t1_exec.specs.declared.need.Need.TheVariants as need
use Rattle.t1_exec.specs.Needs.{need_of}
use Rattle.t1_packet.specs.declared.op.Op.{Op}
use Rattle.t1_packet.specs.declared.op.Op.TheVariants as op
use Rattle.t1_packet.specs.Data.{RequestData}
use Rattle.t1_packet.specs.Ops.{op_dest}
use Rattle.t1_sbuf.specs.declared.entry.Look.{Look}
use Rattle.t1_sbuf.specs.declared.entry.Look.TheVariants as look
use Rattle.t1_sbuf.specs.Looks.{look_of}
use Rattle.t1_l1.specs.Cache.{CacheState, read_of, victim_at}
use Rattle.t1_event.specs.declared.item.How.TheVariants.{Forward, Hit}
use Rattle.t1_event.specs.Items.{membar_item, flush_item}
use Rattle.t1_joint.specs.Replay.{fetch_trap, is_fetchable}
use Rattle.t1_core.specs.declared.phase.Phase.{Phase}
use Rattle.t1_core.specs.declared.phase.Phase.TheVariants as phase
use Rattle.t1_core.specs.declared.answers.Wait.{Wait}
use Rattle.t1_core.specs.declared.answers.Wait.TheVariants as wait
use Rattle.t1_core.specs.declared.answers.Did.{Did}
use Rattle.t1_core.specs.declared.answers.Did.TheVariants as did
use Rattle.t1_core.specs.declared.answers.Drained.{Drained}
use Rattle.t1_core.specs.declared.answers.Drained.TheVariants as drained
use Rattle.t1_core.specs.declared.plan.Plan.{Plan}
use Rattle.t1_core.specs.declared.plan.Plan.TheVariants as plan
use Rattle.t1_core.specs.declared.asker.Asker.{Asker}
use Rattle.t1_sbuf.specs.declared.entry.Entry.{Entry}
use Rattle.t1_sbuf.specs.Entries.{next_to_send_of}
use Rattle.t1_core.specs.Stores.{store_op}
use Rattle.t1_core.specs.Threads.{ThreadState, word_of, thread_need, unit_done, halted, trapped, word_came, load_came, stored, op_for, in_phase, store_sent}

pub record CoreState : Type 0 where
  pub chip : Shape
  pub number : ℕ
  pub threads : List ThreadState
  pub dcache : CacheState
  pub icache : CacheState
  pub time : ℕ
  pub ram : ℕ
  pub turns : List ℕ  -- its strands, the least recently picked first

abbrev pub with_thread : CoreState → ℕ → ThreadState → CoreState
with_thread c i t = record c { threads = set c.threads i t }

-- who asks, with which rings that have room, and when
abbrev pub asker : CoreState → ℕ → ℕ → Asker
asker c i room = record { chip = c.chip; number = c.number; strand = i; room = room; time = c.time; ram = c.ram }

-- a strand that does something, and what it did
pub record ThreadActed : Type 0 where
  pub thread : ThreadState
  pub did : Did

abbrev pub moved : ThreadState → ThreadActed
moved t = record { thread = t; did = did.Moved }

abbrev pub waits : ThreadState → Wait → ThreadActed
waits t w = record { thread = t; did = did.Waits w }

-- ---- what a need comes to, as far as the strand's own buffer tells

-- a membar with this mask waits for the buffer: it has StoreLoad, MemIssue or Sync
abbrev pub is_fence : ℕ → Bool
is_fence mask = if bit_and mask 0x62 == 0 then false else true

-- what waits for an empty buffer
abbrev pub if_empty : List Entry → Plan → Plan
if_empty [] p = p
if_empty (e ∷ es) p = plan.Waits wait.NotEmpty

abbrev pub plan_look : ℕ → ℕ → Look → Plan
plan_look addr size look.Clear = plan.Look addr size
plan_look addr size (look.Covers value) = plan.Forward addr size value
plan_look addr size (look.Overlaps place) = plan.Waits (wait.Overlap place)

abbrev pub plan_of : List Entry → Need → Plan
plan_of es need.Plain = plan.Act
plan_of es need.Halt = plan.Halt
plan_of es (need.Trap number) = plan.Trap number
plan_of es (need.Membar mask) = if is_fence mask then if_empty es (plan.Membar mask) else plan.Membar mask
plan_of es need.Flush = if_empty es plan.Flush
plan_of es (need.Store addr size value) = if nat_lt (length es) 8 then plan.Store addr size value else plan.Waits wait.Full
plan_of es (need.Load addr size) = if is_io addr then if_empty es (plan.Send addr) else plan_look addr size (look_of es addr size)
plan_of es (need.Atomic addr size o) = if_empty es (plan.Send addr)

-- ---- requests

-- the bit of a destination
abbrev pub has_room : ℕ → ℕ → Bool
has_room room d = room / 2 ^ d % 2 == 1

abbrev pub request_of : Asker → ℕ → Op → RequestData
request_of x item o = record { core = x.number; strand = x.strand; item = item; seen = x.time; op = o }

-- the strand's request goes out, where its ring has room
unfoldable pub asked : Asker → ThreadState → Op → Phase → ThreadActed
asked x t o p =
    let d = op_dest x.chip o in
    if has_room x.room d then record { thread = in_phase t p; did = did.Sent d (request_of x (length t.items) o) }
    else waits t (wait.NoRoom d)

-- a fetch asks for the victim of its line
unfoldable pub asked_fetch : Asker → CacheState → ThreadState → ThreadActed
asked_fetch x icache t =
    let way = victim_at icache t.strand.pc in
    asked x t (op.Fetch t.strand.pc way) (phase.OutFetch way x.time)

-- a load or an atomic asks, a load for the victim of its line
unfoldable pub asked_data : Asker → CacheState → ThreadState → ℕ → ThreadActed
asked_data x dcache t addr =
    let way = victim_at dcache addr in
    asked x t (op_for (thread_need x.ram t) way) (phase.OutData (word_of t.phase) way x.time)

-- ---- exec

abbrev pub exec_fetch : Asker → CacheState → ThreadState → Option ℕ → ThreadActed
exec_fetch x icache t (Some word) = moved (word_came t word (Hit x.time))
exec_fetch x icache t None = asked_fetch x icache t

-- a unit begins: an interrupt that is due, a PC that is not in RAM, or a fetch
abbrev pub exec_begin : Asker → CacheState → ThreadState → Option ℕ → Bool → ThreadActed
exec_begin x icache t (Some number) can_fetch = moved (trapped t number)
exec_begin x icache t None false = moved (trapped t fetch_trap)
exec_begin x icache t None true = exec_fetch x icache t (read_of icache t.strand.pc 4)

abbrev pub exec_look : Asker → CacheState → ThreadState → ℕ → ℕ → Option ℕ → ThreadActed
exec_look x dcache t addr size (Some value) = moved (load_came t addr size value (Hit x.time))
exec_look x dcache t addr size None = asked_data x dcache t addr

abbrev pub exec_plan : Asker → CacheState → ThreadState → Plan → ThreadActed
exec_plan x dcache t (plan.Waits w) = waits t w
exec_plan x dcache t (plan.Trap number) = moved (trapped t number)
exec_plan x dcache t plan.Act = moved (unit_done t 0 [])
exec_plan x dcache t plan.Halt = moved (halted t)
exec_plan x dcache t (plan.Membar mask) = moved (unit_done t 0 (membar_item mask ∷ []))
exec_plan x dcache t plan.Flush = moved (unit_done t 0 (flush_item ∷ []))
exec_plan x dcache t (plan.Store addr size value) = moved (stored x.chip t addr size value)
exec_plan x dcache t (plan.Forward addr size value) = moved (load_came t addr size value (Forward x.time))
exec_plan x dcache t (plan.Look addr size) = exec_look x dcache t addr size (read_of dcache addr size)
exec_plan x dcache t (plan.Send addr) = asked_data x dcache t addr

abbrev pub exec_phase : Asker → CacheState → CacheState → ThreadState → Phase → ThreadActed
exec_phase x icache dcache t phase.Fetch = exec_begin x icache t (due_of t.strand) (is_fetchable x.ram t.strand.pc)
exec_phase x icache dcache t (phase.Have word) = exec_plan x dcache t (plan_of t.stores (thread_need x.ram t))
exec_phase x icache dcache t (phase.OutFetch way seen) = waits t wait.Reply
exec_phase x icache dcache t (phase.OutData word way seen) = waits t wait.Reply
exec_phase x icache dcache t (phase.Ended e) = waits t wait.Ended

-- one strand executes
unfoldable pub thread_exec : Asker → CacheState → CacheState → ThreadState → ThreadActed
thread_exec x icache dcache t = exec_phase x icache dcache t t.phase

-- a core that does something, and what it did
pub record Acted : Type 0 where
  pub core : CoreState
  pub did : Did

abbrev pub exec_at : CoreState → ℕ → ℕ → Option ThreadState → Acted
exec_at c i room None = record { core = c; did = did.Waits wait.Ended }
exec_at c i room (Some t) =
    let a = thread_exec (asker c i room) c.icache c.dcache t in
    record { core = with_thread c i a.thread; did = a.did }

-- strand i of a core executes, where the rings of these destinations have room
unfoldable pub exec_of : CoreState → ℕ → ℕ → Acted
exec_of c i room = exec_at c i room (slice_get c.threads i)

abbrev pub waited : Did → Option Wait
waited did.Moved = None
waited (did.Sent d r) = None
waited (did.Waits w) = Some w

-- why it would wait
abbrev pub wait_of : CoreState → ℕ → ℕ → Option Wait
wait_of c i room = waited (exec_of c i room).did

-- ---- drain

pub record ThreadDrained : Type 0 where
  pub thread : ThreadState
  pub did : Drained

abbrev pub stays : ThreadState → Drained → ThreadDrained
stays t d = record { thread = t; did = d }

-- the store that may be sent next is sent, where its ring has room
abbrev pub drain_next : Asker → ThreadState → Option Entry → ThreadDrained
drain_next x t None = stays t drained.Out
drain_next x t (Some e) =
    let d = op_dest x.chip (store_op e) in
    if has_room x.room d then
    record { thread = store_sent t x.time; did = drained.Sent d (request_of x e.item (store_op e)) }
    else stays t (drained.NoRoom d)

abbrev pub drain_stores : Asker → ThreadState → List Entry → ThreadDrained
drain_stores x t [] = stays t drained.Empty
drain_stores x t (e ∷ es) = drain_next x t (next_to_send_of (e ∷ es))

-- one strand drains
unfoldable pub thread_drain : Asker → ThreadState → ThreadDrained
thread_drain x t = drain_stores x t t.stores

pub record CoreDrained : Type 0 where
  pub core : CoreState
  pub did : Drained

abbrev pub drain_at : CoreState → ℕ → ℕ → Option ThreadState → CoreDrained
drain_at c i room None = record { core = c; did = drained.Empty }
drain_at c i room (Some t) =
    let a = thread_drain (asker c i room) t in
    record { core = with_thread c i a.thread; did = a.did }

-- strand i of a core drains
unfoldable pub drain_of : CoreState → ℕ → ℕ → CoreDrained
drain_of c i room = drain_at c i room (slice_get c.threads i)
