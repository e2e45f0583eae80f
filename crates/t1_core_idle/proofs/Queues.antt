-- Each strand of a core stands in its queue.
use Rattle.std.proofs.Common.{◌≡◌, ◌<◌, ℕ, zero, suc, ◌+◌, ◌-◌, ◌^◌, ◌==◌, ◌||◌, nat_lt, Bool, true, false, List, [], ◌∷◌, Option, Some, None, refl, sym, ◌∙◌, subst, inl, inr, arith, if◌then◌else◌}
use Rattle.std.specs.List.{slice_get}
use Rattle.std.proofs.lemmas.Bool.{cases_Bool}
use Rattle.t1_packet.specs.declared.cache.Cache.{Cache}
use Rattle.t1_packet.specs.declared.cache.Cache.TheVariants.{Dcache, Icache}
use Rattle.t1_packet.specs.declared.packet.Packet.{Packet}
use Rattle.t1_packet.specs.Data.{KillData, ReplyData}
use Rattle.t1_select.specs.Queue.{counted, first_ready, one_further, moved_last}
use Rattle.t1_joint.specs.Lists.{IsIn}
use Rattle.t1_joint.specs.Start.{Setup}
use Rattle.t1_received.proofs.Lists.{in_left, in_right}
use Rattle.t1_core.specs.Threads.{ThreadState}
use Rattle.t1_core.specs.Steps.{CoreState, exec_of, drain_at, drain_of}
use Rattle.t1_core.specs.Takes.{killed_in, killed_by, killed, answered_at, answered, take_of}
use Rattle.t1_core.specs.Turns.{next_place, turned_at, turn_of}
use Rattle.t1_core.specs.Start.{new_core}
use Rattle.t1_core.proofs.Quiet.{exec_turns}
use Rattle.t1_core_rule.specs.Histories.{History, Call, Exec, Turn, Drain, Take, after_call, after_calls, begun}
use Rattle.t1_core_rule.specs.Laws.{IsHistory, history_of}

-- ---- queues

in_counted : (k n i : ℕ) → i < n → IsIn (k + i) (counted k n)
unfolding counted
in_counted k zero i l = absurd (omega (arith, l))
in_counted k (suc n) zero l = inl (omega arith)
in_counted k (suc n) (suc i) l =
    let e : k + 1 + i ≡ k + suc i = omega arith in
    inr (subst (λ (j : ℕ). IsIn j (counted (k + 1) n)) e (in_counted (k + 1) n i (omega (arith, l))))

in_moved : (turns : List ℕ) (place s : ℕ) → IsIn s turns → IsIn s (moved_last turns place)
in_moved [] place s h = absurd h
in_moved (t ∷ turns) zero s (inl e) = in_right s turns (t ∷ []) (inl e)
in_moved (t ∷ turns) zero s (inr h) = in_left s turns (t ∷ []) h
in_moved (t ∷ turns) (suc place) s (inl e) = inl e
in_moved (t ∷ turns) (suc place) s (inr h) = inr (in_moved turns place s h)

-- where none is ready, no strand of the queue is
pub none_ready : (ready : ℕ → Bool) (turns : List ℕ) (s : ℕ) → first_ready ready turns ≡ None → IsIn s turns → ready s ≡ false
unfolding first_ready
none_ready ready [] s e h = absurd h
none_ready ready (t ∷ turns) s e h = by (ready t) refl (first_ready ready turns) e (λ n g. none_ready ready turns s n g) h
  where
    by : (b : Bool) → ready t ≡ b → (o : Option ℕ) → (if b then Some 0 else one_further o) ≡ None → (o ≡ None → IsIn s turns → ready s ≡ false) → IsIn s (t ∷ turns) → ready s ≡ false
    by true is o f more g = let clash : ◌≡◌ {A = Option ℕ} (Some 0) None = f in cc
    by false is (Some place) f more g = let clash : ◌≡◌ {A = Option ℕ} (Some (place + 1)) None = f in cc
    by false is None f more (inl same) = subst (λ (i : ℕ). ready i ≡ false) (sym same) is
    by false is None f more (inr k) = more refl k

-- ---- which calls change the queue

drain_turns : (c : CoreState) (i room : ℕ) → (drain_of c i room).core.turns ≡ c.turns
unfolding drain_of
drain_turns c i room = by (slice_get c.threads i)
  where
    by : (o : Option ThreadState) → (drain_at c i room o).core.turns ≡ c.turns
    by None = refl
    by (Some t) = refl

killed_turns : (c : CoreState) (kills : List KillData) → (killed c kills).turns ≡ c.turns
unfolding killed
killed_turns c [] = refl
killed_turns c (kill ∷ kills) = killed_turns (killed_by c kill) kills ∙ one
  where
    in_cache : (cache : Cache) → (killed_in cache c kill.set kill.way).turns ≡ c.turns
    in_cache Dcache = refl
    in_cache Icache = refl

    one : (killed_by c kill).turns ≡ c.turns
    one = elim (cases_Bool (kill.core == c.number)) [ inl e ↦ rw e (in_cache kill.cache) | inr e ↦ rw e refl ]

answered_turns : (c : CoreState) (n : ℕ) (o : Option ReplyData) → (answered c n o).turns ≡ c.turns
answered_turns c n None = refl
answered_turns c n (Some r) = by (slice_get c.threads r.strand)
  where
    by : (o : Option ThreadState) → (answered_at c n r o).turns ≡ c.turns
    by None = refl
    by (Some t) = refl

take_turns : (c : CoreState) (p : Packet) → (take_of c p).turns ≡ c.turns
unfolding take_of
take_turns c p =
    elim (cases_Bool (nat_lt p.index c.time || (p.index == 2 ^ 32 - 1))) [
      | inl e ↦ rw e refl
      | inr e ↦ rw e (answered_turns (killed c p.kills) p.index p.reply ∙ killed_turns c p.kills)
    ]

-- ---- every history

abbrev pub HasQueue : Setup → List ℕ → Type 0
HasQueue w turns = (strand : ℕ) → strand < w.config.strands → IsIn strand turns

queue_kept : (w : Setup) (turns after : List ℕ) → after ≡ turns → HasQueue w turns → HasQueue w after
queue_kept w turns after e q s l = subst (λ (ts : List ℕ). IsIn s ts) (sym e) (q s l)

queue_turned : (w : Setup) (c : CoreState) (room : ℕ) → HasQueue w c.turns → HasQueue w (turn_of c room).core.turns
unfolding turn_of
queue_turned w c room q = by (next_place c room)
  where
    by : (o : Option ℕ) → HasQueue w (turned_at c room o).core.turns
    by None = q
    by (Some place) = λ s l. in_moved c.turns place s (q s l)

-- each call keeps the strands in the queue
pub call_queue : (w : Setup) (h : History) (call : Call) → HasQueue w h.core.turns → HasQueue w (after_call h call).core.turns
call_queue w h (Exec i room) q = queue_kept w h.core.turns (exec_of h.core i room).core.turns (exec_turns h.core i room) q
call_queue w h (Turn room) q = queue_turned w h.core room q
call_queue w h (Drain i room) q = queue_kept w h.core.turns (drain_of h.core i room).core.turns (drain_turns h.core i room) q
call_queue w h (Take p) q = queue_kept w h.core.turns (take_of h.core p).turns (take_turns h.core p) q

calls_queue : (w : Setup) (h : History) (calls : List Call) → HasQueue w h.core.turns → HasQueue w (after_calls h calls).core.turns
unfolding after_calls
calls_queue w h [] q = q
calls_queue w h (call ∷ calls) q = calls_queue w (after_call h call) calls (call_queue w h call q)

pub start_queue : (w : Setup) (core : ℕ) → HasQueue w (begun w core).core.turns
unfolding new_core
start_queue w core s l =
    let e : 0 + s ≡ s = omega arith in
    subst (λ (j : ℕ). IsIn j (counted 0 w.config.strands)) e (in_counted 0 w.config.strands s l)

pub history_queue : (w : Setup) (core : ℕ) (calls : List Call) → HasQueue w (history_of w core calls).core.turns
history_queue w core calls = calls_queue w (begun w core) calls (start_queue w core)

pub has_queue : (w : Setup) (core : ℕ) (h : History) → IsHistory w core h → HasQueue w h.core.turns
has_queue w core h g = subst (λ (k : History). HasQueue w k.core.turns) g.is (history_queue w core g.calls)
