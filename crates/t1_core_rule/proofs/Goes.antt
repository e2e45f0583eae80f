-- Exec and drain, where the packets are proper.
use Rattle.t1_shape.specs.Shapes.{Shape}
use Rattle.std.proofs.Common.{◌≡◌, ℕ, ◌%◌, List, [], ◌++◌, Option, Some, None, refl, sym, subst}
use Rattle.std.specs.List.{slice_get}
use mathlib.Core.List.{append-nil}
use Rattle.t1_state.specs.declared.strand.Strand.{Strand}
use Rattle.t1_packet.specs.declared.cache.Cache.{Cache}
use Rattle.t1_packet.specs.Data.{RequestData}
use Rattle.t1_joint.specs.Start.{Setup}
use Rattle.t1_joint.specs.Proper.{pointers_by}
use Rattle.t1_joint.specs.Rows.{Caches}
use Rattle.t1_received.specs.Caches.{slots_by}
use Rattle.t1_core.specs.declared.asker.Asker.{Asker}
use Rattle.t1_core.specs.Threads.{ThreadState}
use Rattle.t1_core.specs.Steps.{ThreadActed, ThreadDrained, asker, thread_exec, exec_at, exec_of, thread_drain, drain_at, drain_of}
use Rattle.t1_core.specs.Replays.{IsReplayed}
use Rattle.t1_core_rule.specs.Histories.{History, asked_by, drained_by, after_exec, after_drain}
use Rattle.t1_core_rule.specs.Steady.{AreGoodEntries, IsSteady}
use Rattle.t1_core_rule.specs.Fitting.{IsFitting}
use Rattle.t1_core_rule.proofs.Needs.{exec_move}
use Rattle.t1_core_rule.proofs.Drains.{drain_move}
use Rattle.t1_core_rule.proofs.Budgets.{exec_budget, drain_budget}
use Rattle.t1_core_rule.proofs.Sends.{moved_fitting}

module _ (w : Setup) (core : ℕ) (h : History) (i room : ℕ) (whole : w.config.ram % 65536 ≡ 0) (s : IsSteady w core h) (f : IsFitting w h)
    (starts : ℕ → Strand) (replayed : IsReplayed starts h.core) where
  abbrev x : Asker
  x = asker h.core i room

  abbrev caches : Caches
  caches = slots_by h.core.chip h.core.number h.received

  abbrev pointers : Cache → List ℕ
  pointers = λ cache. pointers_by h.core.chip h.received h.core.time cache

  blocks : h.core.ram % 65536 ≡ 0
  blocks = subst (λ (n : ℕ). n % 65536 ≡ 0) (sym s.ram) whole

  nothing : IsFitting w (record { core = h.core; received = h.received; sent = h.sent ++ [] })
  nothing = subst (λ (rs : List RequestData). IsFitting w (record { core = h.core; received = h.received; sent = rs })) (sym (append-nil h.sent)) f

  exec_in : (o : Option ThreadState) → slice_get h.core.threads i ≡ o
      → IsFitting w (record { core = (exec_at h.core i room o).core; received = h.received; sent = h.sent ++ asked_by (exec_at h.core i room o).did })
  exec_in None e = nothing
  exec_in (Some t) e =
      let a : ThreadActed = thread_exec x h.core.icache h.core.dcache t in
      moved_fitting w core h i room t a.thread e (asked_by a.did) s f starts replayed
      (exec_move x blocks h.core.icache h.core.dcache s.icache s.dcache caches pointers t)
      (exec_budget x h.core.icache h.core.dcache t)

  pub exec_fitting : IsFitting w (after_exec h i room)
  unfolding exec_of
  exec_fitting = exec_in (slice_get h.core.threads i) refl

  drain_in : (o : Option ThreadState) → slice_get h.core.threads i ≡ o
      → IsFitting w (record { core = (drain_at h.core i room o).core; received = h.received; sent = h.sent ++ drained_by (drain_at h.core i room o).did })
  drain_in None e = nothing
  drain_in (Some t) e =
      let a : ThreadDrained = thread_drain x t in
      let was = s.threads i t e in
      moved_fitting w core h i room t a.thread e (drained_by a.did) s f starts replayed
      (drain_move x h.core.icache h.core.dcache caches pointers t (subst (λ (v : Shape). AreGoodEntries v h.core.ram t.stores) (sym s.chip) (subst (λ (n : ℕ). AreGoodEntries w.config.chip n t.stores) (sym s.ram) was.good)) was.sent)
      (drain_budget x h.core.icache h.core.dcache t)

  pub drain_fitting : IsFitting w (after_drain h i room)
  unfolding drain_of
  drain_fitting = drain_in (slice_get h.core.threads i) refl
