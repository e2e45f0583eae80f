-- No exec or drain changes the units that a strand may run.
use Rattle.std.proofs.Common.{◌≡◌, ℕ, Bool, true, false, List, [], ◌∷◌, Option, Some, None, refl, inl, inr}
use Rattle.std.proofs.lemmas.Bool.{cases_Bool}
use Rattle.t1_state.specs.Interrupts.{due_of}
use Rattle.t1_packet.specs.declared.op.Op.{Op}
use Rattle.t1_packet.specs.Ops.{op_dest}
use Rattle.t1_l1.specs.Cache.{CacheState, read_of}
use Rattle.t1_sbuf.specs.declared.entry.Entry.{Entry}
use Rattle.t1_sbuf.specs.Entries.{next_to_send_of}
use Rattle.t1_joint.specs.Replay.{is_fetchable}
use Rattle.t1_core.specs.declared.asker.Asker.{Asker}
use Rattle.t1_core.specs.declared.phase.Phase.{Phase}
use Rattle.t1_core.specs.declared.phase.Phase.TheVariants as phase
use Rattle.t1_core.specs.declared.plan.Plan.{Plan}
use Rattle.t1_core.specs.declared.plan.Plan.TheVariants as plan
use Rattle.t1_core.specs.Stores.{store_op}
use Rattle.t1_core.specs.Threads.{ThreadState, thread_need, unit_done, halted, trapped, word_came, load_came, stored}
use Rattle.t1_core.specs.Steps.{has_room, asked, asked_fetch, asked_data, exec_fetch, exec_begin, exec_look, exec_plan, exec_phase, plan_of, thread_exec, drain_next, drain_stores, thread_drain}

module _ (x : Asker) (icache dcache : CacheState) (t : ThreadState) where
  asked_budget : (o : Op) (p : Phase) → (asked x t o p).thread.budget ≡ t.budget
  unfolding asked
  asked_budget o p = elim (cases_Bool (has_room x.room (op_dest x.chip o))) [ inl e ↦ rw e refl | inr e ↦ rw e refl ]

  fetch_budget : (word : Option ℕ) → (exec_fetch x icache t word).thread.budget ≡ t.budget
  unfolding word_came asked_fetch
  fetch_budget (Some word) = refl
  fetch_budget None = asked_budget _ _

  begin_budget : (due : Option ℕ) (can : Bool) → (exec_begin x icache t due can).thread.budget ≡ t.budget
  unfolding trapped
  begin_budget (Some number) can = refl
  begin_budget None false = refl
  begin_budget None true = fetch_budget (read_of icache t.strand.pc 4)

  data_budget : (addr : ℕ) → (asked_data x dcache t addr).thread.budget ≡ t.budget
  unfolding asked_data
  data_budget addr = asked_budget _ _

  look_budget : (addr size : ℕ) (found : Option ℕ) → (exec_look x dcache t addr size found).thread.budget ≡ t.budget
  unfolding load_came unit_done
  look_budget addr size (Some v) = refl
  look_budget addr size None = data_budget addr

  plan_budget : (p : Plan) → (exec_plan x dcache t p).thread.budget ≡ t.budget
  unfolding trapped unit_done halted stored load_came
  plan_budget (plan.Waits w) = refl
  plan_budget (plan.Trap number) = refl
  plan_budget plan.Act = refl
  plan_budget plan.Halt = refl
  plan_budget (plan.Membar mask) = refl
  plan_budget plan.Flush = refl
  plan_budget (plan.Store addr size value) = refl
  plan_budget (plan.Forward addr size value) = refl
  plan_budget (plan.Look addr size) = look_budget addr size (read_of dcache addr size)
  plan_budget (plan.Send addr) = data_budget addr

  phase_budget : (p : Phase) → (exec_phase x icache dcache t p).thread.budget ≡ t.budget
  phase_budget phase.Fetch = begin_budget (due_of t.strand) (is_fetchable x.ram t.strand.pc)
  phase_budget (phase.Have word) = plan_budget (plan_of t.stores (thread_need x.ram t))
  phase_budget (phase.OutFetch way seen) = refl
  phase_budget (phase.OutData word way seen) = refl
  phase_budget (phase.Ended e) = refl

  pub exec_budget : (thread_exec x icache dcache t).thread.budget ≡ t.budget
  unfolding thread_exec
  exec_budget = phase_budget t.phase

  next_budget : (o : Option Entry) → (drain_next x t o).thread.budget ≡ t.budget
  next_budget None = refl
  next_budget (Some e) = elim (cases_Bool (has_room x.room (op_dest x.chip (store_op e)))) [ inl r ↦ rw r refl | inr r ↦ rw r refl ]

  stores_budget : (es : List Entry) → (drain_stores x t es).thread.budget ≡ t.budget
  stores_budget [] = refl
  stores_budget (e ∷ es) = next_budget (next_to_send_of (e ∷ es))

  pub drain_budget : (thread_drain x t).thread.budget ≡ t.budget
  unfolding thread_drain
  drain_budget = stores_budget t.stores
