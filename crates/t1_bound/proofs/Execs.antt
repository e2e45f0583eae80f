-- A strand that executes pays for its step.
use Rattle.std.proofs.Common.{◌+◌, ◌<◌, ℕ, Bool, true, false, nat_lt, List, [], ◌∷◌, length, Option, Some, None, arith, if◌then◌else◌}
use Rattle.t1_space.specs.Places.{is_io}
use Rattle.t1_state.specs.Interrupts.{due_of}
use Rattle.t1_exec.specs.declared.need.Need.{Need}
use Rattle.t1_exec.specs.declared.need.Need.TheVariants as need
use Rattle.t1_packet.specs.declared.op.Op.{Op}
use Rattle.t1_packet.specs.Ops.{op_dest}
use Rattle.t1_sbuf.specs.declared.entry.Entry.{Entry}
use Rattle.t1_sbuf.specs.declared.entry.Look.{Look}
use Rattle.t1_sbuf.specs.declared.entry.Look.TheVariants as look
use Rattle.t1_sbuf.specs.Looks.{look_of}
use Rattle.t1_l1.specs.Cache.{CacheState, read_of}
use Rattle.t1_event.specs.declared.item.Item.{Item}
use Rattle.t1_event.specs.declared.item.How.TheVariants.{Forward, Hit}
use Rattle.t1_event.specs.Items.{membar_item, flush_item}
use Rattle.t1_joint.specs.Replay.{fetch_trap, is_fetchable}
use Rattle.t1_core.specs.declared.asker.Asker.{Asker}
use Rattle.t1_core.specs.declared.phase.Phase.{Phase}
use Rattle.t1_core.specs.declared.phase.Phase.TheVariants as phase
use Rattle.t1_core.specs.declared.answers.Did.{Did}
use Rattle.t1_core.specs.declared.answers.Did.TheVariants as did
use Rattle.t1_core.specs.declared.plan.Plan.{Plan}
use Rattle.t1_core.specs.declared.plan.Plan.TheVariants as plan
use Rattle.t1_core.specs.Threads.{ThreadState, thread_need, in_phase, trapped, unit_done}
use Rattle.t1_core.specs.Steps.{ThreadActed, has_room, is_fence, if_empty, plan_look, plan_of, asked, asked_fetch, asked_data, exec_fetch, exec_begin, exec_look, exec_plan, exec_phase, thread_exec}
use Rattle.t1_bound.specs.Weights.{Weights, Falls}
use Rattle.t1_bound.specs.Sound.{IsLiveAt, IsLive}
use Rattle.t1_bound.proofs.Pays.{Pays, CanPay, CanGo, goes_pay, done_pays, loads_pay, halt_pays, store_pays, trap_pays, word_pays}

-- what an exec pays by what it did
abbrev pub DidPays : Weights → ThreadState → ThreadState → Did → Type 0
DidPays w before after did.Moved = Pays w w.drop before after
DidPays w before after (did.Sent d r) = Pays w (w.request + w.drop) before after
DidPays w before after (did.Waits v) = Unit {0}

abbrev Acts : Weights → ThreadState → ThreadActed → Type 0
Acts w t a = DidPays w t a.thread a.did

acts_if : (b : Bool) (w : Weights) (t : ThreadState) (y z : ThreadActed) → Acts w t y → Acts w t z → Acts w t (if b then y else z)
acts_if true w t y z p q = p
acts_if false w t y z p q = q

asked_pays : (w : Weights) (x : Asker) (t : ThreadState) (o : Op) (q : Phase) → IsLiveAt t.strand.units t.budget q → CanGo w (w.request + w.drop) t.phase q → Acts w t (asked x t o q)
unfolding asked
asked_pays w x t o q live can = acts_if (has_room x.room (op_dest x.chip o)) w t _ _ (goes_pay w (w.request + w.drop) t q t.items live can) tt

module _ (w : Weights) (f : Falls w) (x : Asker) (icache dcache : CacheState) (t : ThreadState) where
  -- ---- between two units

  abbrev between : ThreadState
  between = in_phase t phase.Fetch

  fetch_pays : (word : Option ℕ) → t.strand.units < t.budget → Acts w between (exec_fetch x icache between word)
  unfolding asked_fetch
  fetch_pays (Some word) live = word_pays w w.drop between word (Hit x.time) live (λ units. omega (arith, f.hit))
  fetch_pays None live = asked_pays w x between _ _ live (λ units. omega (arith, f.asks_fetch))

  begins_trap : (number : ℕ) → t.strand.units < t.budget → Pays w w.drop between (trapped between number)
  begins_trap number live = trap_pays w w.drop between number live (λ units. omega (arith, f.hit))

  begin_pays : (due : Option ℕ) (can : Bool) → t.strand.units < t.budget → Acts w between (exec_begin x icache between due can)
  begin_pays (Some number) can live = begins_trap number live
  begin_pays None false live = begins_trap fetch_trap live
  begin_pays None true live = fetch_pays (read_of icache t.strand.pc 4) live

  -- ---- with the word of its unit

  module _ (word : ℕ) (live : t.strand.units < t.budget) where
    abbrev within : ThreadState
    within = in_phase t (phase.Have word)

    abbrev Goes : Plan → Type 0
    Goes p = Acts w within (exec_plan x dcache within p)

    can : CanPay w w.drop (phase.Have word)
    can units = omega (arith, f.acts)

    goes_if : (b : Bool) (p q : Plan) → Goes p → Goes q → Goes (if b then p else q)
    goes_if true p q a b = a
    goes_if false p q a b = b

    goes_empty : (es : List Entry) (p : Plan) → Goes p → Goes (if_empty es p)
    goes_empty [] p a = a
    goes_empty (e ∷ es) p a = tt

    data_pays : (addr : ℕ) → Acts w within (asked_data x dcache within addr)
    unfolding asked_data
    data_pays addr = asked_pays w x within _ _ live (λ units. omega (arith, f.asks_data))

    look_pays : (addr size : ℕ) (found : Option ℕ) → Acts w within (exec_look x dcache within addr size found)
    look_pays addr size (Some value) = loads_pay w w.drop within addr size value (Hit x.time) live can
    look_pays addr size None = data_pays addr

    goes_look : (addr size : ℕ) (k : Look) → Goes (plan_look addr size k)
    goes_look addr size look.Clear = look_pays addr size (read_of dcache addr size)
    goes_look addr size (look.Covers value) = loads_pay w w.drop within addr size value (Forward x.time) live can
    goes_look addr size (look.Overlaps place) = tt

    item_pays : (y : Item) → Pays w w.drop within (unit_done within 0 (y ∷ []))
    item_pays y = done_pays w w.drop within 0 (y ∷ []) live can

    need_pays : (n : Need) → Goes (plan_of t.stores n)
    need_pays need.Plain = done_pays w w.drop within 0 [] live can
    need_pays need.Halt = halt_pays w w.drop within can
    need_pays (need.Trap number) = trap_pays w w.drop within number live can
    need_pays (need.Membar mask) =
        goes_if (is_fence mask) (if_empty t.stores (plan.Membar mask)) (plan.Membar mask) (goes_empty t.stores (plan.Membar mask) (item_pays (membar_item mask))) (item_pays (membar_item mask))
    need_pays need.Flush = goes_empty t.stores plan.Flush (item_pays flush_item)
    need_pays (need.Store addr size value) =
        goes_if (nat_lt (length t.stores) 8) _ _ (store_pays w w.drop within x.chip addr size value live (λ units. omega (arith, f.stores))) tt
    need_pays (need.Load addr size) =
        goes_if (is_io addr) (if_empty t.stores (plan.Send addr)) (plan_look addr size (look_of t.stores addr size))
        (goes_empty t.stores (plan.Send addr) (data_pays addr)) (goes_look addr size (look_of t.stores addr size))
    need_pays (need.Atomic addr size o) = goes_empty t.stores (plan.Send addr) (data_pays addr)

  phase_pays : (p : Phase) → IsLiveAt t.strand.units t.budget p → Acts w (in_phase t p) (exec_phase x icache dcache (in_phase t p) p)
  phase_pays phase.Fetch live = begin_pays (due_of t.strand) (is_fetchable x.ram t.strand.pc) live
  phase_pays (phase.Have word) live = need_pays word live (thread_need x.ram (in_phase t (phase.Have word)))
  phase_pays (phase.OutFetch way seen) live = tt
  phase_pays (phase.OutData word way seen) live = tt
  phase_pays (phase.Ended e) live = tt

  pub thread_pays : IsLive t → DidPays w t (thread_exec x icache dcache t).thread (thread_exec x icache dcache t).did
  unfolding thread_exec
  thread_pays live = phase_pays t.phase live
