-- Each call keeps what a core keeps whatever packets come.
use Rattle.t1_shape.specs.Shapes.{Shape}
use Rattle.std.proofs.Common.{◌≡◌, ◌<◌, ℕ, ◌%◌, List, [], ◌∷◌, ◌++◌, length, Option, Some, None, refl, sym, ◌∙◌, subst, inl, inr, arith, suc, zero}
use Rattle.std.specs.List.{slice_get}
use Rattle.std.proofs.lemmas.List.{length-set}
use Rattle.t1_packet.specs.declared.cache.Cache.{Cache}
use Rattle.t1_packet.specs.Data.{RequestData}
use Rattle.t1_joint.specs.Start.{Setup}
use Rattle.t1_joint.specs.Proper.{IsTime}
use Rattle.t1_joint.specs.CoreRule.{IsAsked}
use Rattle.t1_joint.specs.Rows.{Caches}
use Rattle.t1_received.proofs.Lists.{in_more}
use Rattle.t1_core.specs.declared.asker.Asker.{Asker}
use Rattle.t1_core.specs.Threads.{ThreadState}
use Rattle.t1_core.specs.Steps.{with_thread, asker, thread_exec, exec_at, exec_of, thread_drain, drain_at, drain_of}
use Rattle.t1_core_rule.specs.Histories.{History, asked_by, drained_by, after_exec, after_drain}
use mathlib.Core.List.{append-nil}
use Rattle.t1_core_rule.specs.Steady.{AreGoodEntries, IsThread, IsSteady}
use Rattle.t1_core_rule.proofs.Moves.{IsMove}
use Rattle.t1_core_rule.proofs.Needs.{exec_move}
use Rattle.t1_core_rule.proofs.Drains.{drain_move}
use Rattle.t1_core_rule.proofs.Lists.{got_set, seen_more}

slice_below : {A : Type 0} (xs : List A) (i : ℕ) (x : A) → slice_get xs i ≡ Some x → i < length xs
slice_below {A} [] i x e = let clash : ◌≡◌ {A = Option A} None (Some x) = e in cc
slice_below (y ∷ ys) zero x e = omega arith
slice_below (y ∷ ys) (suc i) x e = let l = slice_below ys i x e in omega (arith, l)

-- a strand moves, and requests go out
module _ (w : Setup) (core : ℕ) (h : History) (i room : ℕ) (t u : ThreadState) (e : slice_get h.core.threads i ≡ Some t) (new : List RequestData) (s : IsSteady w core h)
    (caches : Caches) (pointers : Cache → List ℕ) (m : IsMove (asker h.core i room) h.core.icache h.core.dcache caches pointers t u new) where
  pub moved_steady : IsSteady w core (record { core = with_thread h.core i u; received = h.received; sent = h.sent ++ new })
  moved_steady = record {
    chip = s.chip;
    number = s.number;
    ram = s.ram;
    size = length-set h.core.threads i u ∙ s.size;
    dcache = s.dcache;
    icache = s.icache;
    time = s.time;
    past = s.past;
    own = λ r g.
        elim (in_more r h.sent new g) [
          | inl o ↦ s.own r o
          | inr n ↦
              let f = m.fresh r n in
              let below = slice_below h.core.threads i t e in
              let strand = f.strand in
              let size = s.size in
              let seen = f.seen in
              record {
                core_is = f.core ∙ s.number;
                strand_is = omega (arith, below, strand, size);
                past = omega (arith, seen);
                asked = subst (λ (v : Shape). IsAsked v w.config.ram r.op) s.chip (subst (λ (n : ℕ). IsAsked h.core.chip n r.op) s.ram f.asked);
              }
        ];
    sent_times = λ r g.
        elim (in_more r h.sent new g) [
          | inl o ↦ s.sent_times r o
          | inr n ↦ subst (λ (n : ℕ). IsTime h.received n) (sym (m.fresh r n).seen) s.time
        ];
    ascends = seen_more 0 h.core.time h.sent new (omega arith) s.ascends (λ r g. (s.own r g).past) (λ r g. (m.fresh r g).seen);
    threads = λ j v g.
        elim (got_set h.core.threads i u j v g) [
          | inl p ↦
              let was = s.threads i t e in
              let goods : AreGoodEntries h.core.chip h.core.ram t.stores =
              subst (λ (v : Shape). AreGoodEntries v h.core.ram t.stores) (sym s.chip) (subst (λ (n : ℕ). AreGoodEntries w.config.chip n t.stores) (sym s.ram) was.good) in
              let now : IsThread w.config.chip w.config.ram u = record {
                sent = m.sent was.sent;
                good = subst (λ (v : Shape). AreGoodEntries v w.config.ram u.stores) s.chip (subst (λ (n : ℕ). AreGoodEntries h.core.chip n u.stores) s.ram (m.good goods));
              } in
              subst (λ (x : ThreadState). IsThread w.config.chip w.config.ram x) p.1 now
          | inr p ↦ s.threads j v p.1
        ];
  }

pub no_caches : Caches
no_caches = λ t c. []

pub no_pointers_at : Cache → List ℕ
no_pointers_at = λ c. []

module _ (w : Setup) (core : ℕ) (h : History) (i room : ℕ) (whole : w.config.ram % 65536 ≡ 0) (s : IsSteady w core h) where
  blocks : h.core.ram % 65536 ≡ 0
  blocks = subst (λ (n : ℕ). n % 65536 ≡ 0) (sym s.ram) whole

  exec_in : (o : Option ThreadState) → slice_get h.core.threads i ≡ o
      → IsSteady w core (record { core = (exec_at h.core i room o).core; received = h.received; sent = h.sent ++ asked_by (exec_at h.core i room o).did })
  exec_in None e = subst (λ (rs : List RequestData). IsSteady w core (record { core = h.core; received = h.received; sent = rs })) (sym (append-nil h.sent)) s
  exec_in (Some t) e =
      let x : Asker = asker h.core i room in
      moved_steady w core h i room t (thread_exec x h.core.icache h.core.dcache t).thread e (asked_by (thread_exec x h.core.icache h.core.dcache t).did) s no_caches no_pointers_at
      (exec_move x blocks h.core.icache h.core.dcache s.icache s.dcache no_caches no_pointers_at t)

  pub exec_steady : IsSteady w core (after_exec h i room)
  unfolding exec_of
  exec_steady = exec_in (slice_get h.core.threads i) refl

  drain_in : (o : Option ThreadState) → slice_get h.core.threads i ≡ o
      → IsSteady w core (record { core = (drain_at h.core i room o).core; received = h.received; sent = h.sent ++ drained_by (drain_at h.core i room o).did })
  drain_in None e = subst (λ (rs : List RequestData). IsSteady w core (record { core = h.core; received = h.received; sent = rs })) (sym (append-nil h.sent)) s
  drain_in (Some t) e =
      let x : Asker = asker h.core i room in
      let was = s.threads i t e in
      moved_steady w core h i room t (thread_drain x t).thread e (drained_by (thread_drain x t).did) s no_caches no_pointers_at
      (drain_move x h.core.icache h.core.dcache no_caches no_pointers_at t (subst (λ (v : Shape). AreGoodEntries v h.core.ram t.stores) (sym s.chip) (subst (λ (n : ℕ). AreGoodEntries w.config.chip n t.stores) (sym s.ram) was.good)) was.sent)

  pub drain_steady : IsSteady w core (after_drain h i room)
  unfolding drain_of
  drain_steady = drain_in (slice_get h.core.threads i) refl
