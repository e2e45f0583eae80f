-- Every history of a core keeps what a core keeps where the packets that came are proper.
use Rattle.t1_shape.specs.Shapes.{Shape}
use Rattle.std.proofs.Common.{◌≡◌, ◌≤◌, ◌<◌, ℕ, ◌*◌, ◌%◌, Bool, true, false, List, [], ◌∷◌, ◌++◌, length, take, Option, Some, None, refl, ap, sym, subst, arith, zero, suc}
use Rattle.std.specs.List.{slice_get}
use Rattle.t1_state.specs.declared.strand.Strand.{Strand}
use Rattle.t1_packet.specs.declared.cache.Cache.{Cache}
use Rattle.t1_packet.specs.declared.cache.Cache.TheVariants.{Dcache, Icache}
use Rattle.t1_packet.specs.Caches.{layout, width}
use Rattle.t1_packet.specs.Data.{RequestData}
use Rattle.t1_l1.specs.Cache.{empty_cache}
use Rattle.t1_event.specs.declared.item.Item.{Item}
use Rattle.t1_event.specs.Posts.{no_lines, no_pointers}
use Rattle.t1_joint.specs.Lists.{IsIn}
use Rattle.t1_joint.specs.Start.{Setup}
use Rattle.t1_joint.specs.Proper.{AreProper}
use Rattle.t1_joint.specs.Waits.{HasItem}
use Rattle.t1_strand_order.specs.Laws.{one_destination}
use Rattle.t1_strand_order.proofs.Items.{has_below}
use Rattle.t1_strand_order.proofs.Events.{kept_begun}
use Rattle.t1_received.specs.Requests.{sent_to}
use Rattle.t1_received.proofs.Sends.{sends_keep_proper}
use Rattle.t1_received.proofs.Packets.{packets_keep_proper}
use Rattle.t1_core.specs.Threads.{ThreadState}
use Rattle.t1_core.specs.Steps.{asker, exec_at, exec_of, drain_at, drain_of}
use Rattle.t1_core.specs.Start.{first_thread, threads_from, new_core}
use Rattle.t1_core.specs.Replays.{IsReplayed}
use Rattle.t1_core.specs.Laws.{starts_of}
use Rattle.t1_core.proofs.Joined.{strands_are_replays}
use Rattle.t1_core_rule.specs.Histories.{History, Call, Exec, Turn, Drain, Take, asked_by, drained_by, after_exec, after_call, after_calls, begun}
use Rattle.t1_core_rule.specs.Outs.{outs_at}
use Rattle.t1_core_rule.specs.Steady.{AreGoodEntries, IsSteady}
use Rattle.t1_core_rule.specs.Fitting.{cache_with, IsFittingThread, IsFitting}
use Rattle.t1_core_rule.specs.Laws.{history_of, IsWholeCall, AreWhole}
use Rattle.t1_core_rule.proofs.Needs.{exec_move}
use Rattle.t1_core_rule.proofs.Drains.{drain_move}
use Rattle.t1_core_rule.proofs.Steadies.{no_caches, no_pointers_at}
use Rattle.t1_core_rule.proofs.Replayed.{proper_lines, call_replays}
use Rattle.t1_core_rule.proofs.Goes.{exec_fitting, drain_fitting}
use Rattle.t1_core_rule.proofs.Takes.{take_fitting}
use Rattle.t1_core_rule.proofs.Turns.{queued, turn_keeps, queued_fitting}
use Rattle.t1_core_rule.proofs.Walks.{thread_is, call_steady, start_steady}

-- the conditional part of a core's rule
pub record IsFittingReplay (w : Setup) (core : ℕ) (h : History) : Type 0 where
  pub fitting : IsFitting w h
  pub replayed : IsReplayed (starts_of w.config core w.image.entry) h.core

abbrev pub Fits : (chip : Shape) → Setup → ℕ → History → Type 0
Fits chip w core h = AreProper chip core (λ d. sent_to chip d h.sent) h.received → IsFittingReplay w core h

-- ---- the start

no_item : (i : ℕ) (x : Item) → HasItem [] i x → ⊥
no_item i x h = let l = has_below [] i x h in omega (arith, l)

first_fits : (chip : Shape) (core s ram budget : ℕ) (from : Strand) → IsFittingThread chip core ram 0 budget [] s (first_thread from budget)
first_fits chip core s ram budget from = record {
  budget_is = refl;
  kept = kept_begun (one_destination chip) 0;
  right = record { items = λ j x h. absurd (no_item j x h); out = tt };
  entries = tt;
  times = λ k x h. absurd (no_item k x h);
  way = (0, tt);
  came = λ k n seen x h. absurd (no_item k x h);
}

first_cache_is : (chip : Shape) (cache : Cache) → empty_cache (layout chip cache) (width cache) ≡ cache_with chip cache (no_lines chip cache) (no_pointers chip cache)
unfolding empty_cache no_lines no_pointers
first_cache_is chip cache = refl

pub start_fits : (w : Setup) (core : ℕ) → IsFitting w (begun w core)
unfolding new_core
start_fits w core =
    let start : ℕ → Strand = starts_of w.config core w.image.entry in
    let first : (s : ℕ) (t : ThreadState) → slice_get (threads_from w.config w.image.entry (core * w.config.strands) w.config.strands) s ≡ Some t
    → first_thread (start s) w.config.budget ≡ t = λ s t e. thread_is w.config w.image.entry (core * w.config.strands) w.config.strands s t e in
    record {
      rest = λ d. [];
      are = λ d. refl;
      out = λ s b d. none s b d (slice_get (threads_from w.config w.image.entry (core * w.config.strands) w.config.strands) s) refl;
      threads = λ s t e. subst (λ (v : ThreadState). IsFittingThread w.config.chip core w.config.ram 0 w.config.budget [] s v) (first s t e) (first_fits w.config.chip core s w.config.ram w.config.budget (start s));
      replies = λ p r g. absurd g;
      dcache = first_cache_is w.config.chip Dcache;
      icache = first_cache_is w.config.chip Icache;
      ways = λ r cache line g. absurd g;
    }
  where
    none : (s : ℕ) (b : Bool) (d : ℕ) (o : Option ThreadState) → slice_get (threads_from w.config w.image.entry (core * w.config.strands) w.config.strands) s ≡ o
        → [] ≡ sent_to w.config.chip d (outs_at core s w.config.ram b o)
    none s b d None e = refl
    none s true d (Some t) e =
        ap (λ (v : ThreadState). sent_to w.config.chip d (outs_at core s w.config.ram true (Some v))) (thread_is w.config w.image.entry (core * w.config.strands) w.config.strands s t e)
    none s false d (Some t) e =
        ap (λ (v : ThreadState). sent_to w.config.chip d (outs_at core s w.config.ram false (Some v))) (thread_is w.config w.image.entry (core * w.config.strands) w.config.strands s t e)

-- ---- calls

queued_kept : (w : Setup) (core : ℕ) (h : History) (turns : List ℕ) → IsFittingReplay w core h → IsFittingReplay w core (queued h turns)
queued_kept w core h turns k = record {
  fitting = queued_fitting w h turns k.fitting;
  replayed = record { each = k.replayed.each; dcache = k.replayed.dcache; icache = k.replayed.icache };
}

take_all : (n : ℕ) (xs : List ℕ) → length xs ≤ n → take n xs ≡ xs
take_all zero [] l = refl
take_all zero (x ∷ xs) l = absurd (omega (arith, l))
take_all (suc n) [] l = refl
take_all (suc n) (x ∷ xs) l = ap (λ (ys : List ℕ). x ∷ ys) (take_all n xs (omega (arith, l)))

module _ (w : Setup) (core : ℕ) (h : History) (whole : w.config.ram % 65536 ≡ 0) (s : IsSteady w core h) where
  blocks : h.core.ram % 65536 ≡ 0
  blocks = subst (λ (n : ℕ). n % 65536 ≡ 0) (sym s.ram) whole

  exec_seen : (i room : ℕ) (r : RequestData) → IsIn r (asked_by (exec_of h.core i room).did) → r.seen ≡ h.core.time
  unfolding exec_of
  exec_seen i room r = by (slice_get h.core.threads i)
    where
      by : (o : Option ThreadState) → IsIn r (asked_by (exec_at h.core i room o).did) → r.seen ≡ h.core.time
      by None g = absurd g
      by (Some t) g = ((exec_move (asker h.core i room) blocks h.core.icache h.core.dcache s.icache s.dcache no_caches no_pointers_at t).fresh r g).seen

  drain_seen : (i room : ℕ) (r : RequestData) → IsIn r (drained_by (drain_of h.core i room).did) → r.seen ≡ h.core.time
  unfolding drain_of
  drain_seen i room r = by (slice_get h.core.threads i) refl
    where
      by : (o : Option ThreadState) → slice_get h.core.threads i ≡ o → IsIn r (drained_by (drain_at h.core i room o).did) → r.seen ≡ h.core.time
      by None e g = absurd g
      by (Some t) e g =
          let was = s.threads i t e in
          ((drain_move (asker h.core i room) h.core.icache h.core.dcache no_caches no_pointers_at t (subst (λ (v : Shape). AreGoodEntries v h.core.ram t.stores) (sym s.chip) (subst (λ (n : ℕ). AreGoodEntries w.config.chip n t.stores) (sym s.ram) was.good)) was.sent).fresh r g).seen

  abbrev starts : ℕ → Strand
  starts = starts_of w.config core w.image.entry

  abbrev Proper : History → Type 0
  Proper k = AreProper w.config.chip core (λ d. sent_to w.config.chip d k.sent) k.received

  goes : (call : Call) → Proper (after_call h call) → IsFittingReplay w core h → IsFitting w (after_call h call) → IsFittingReplay w core (after_call h call)
  goes call proper k fitting = record {
    fitting = fitting;
    replayed = call_replays starts h call (proper_lines w.config.chip core (λ d. sent_to w.config.chip d (after_call h call).sent) (after_call h call).received proper) k.replayed;
  }

  exec_fits : (i room : ℕ) → Fits w.config.chip w core h → Fits w.config.chip w core (after_exec h i room)
  exec_fits i room f proper =
      let k = f (sends_keep_proper w.config.chip core h.core.time h.received h.sent (asked_by (exec_of h.core i room).did) (exec_seen i room) s.past proper) in
      goes (Exec i room) proper k (exec_fitting w core h i room whole s k.fitting starts k.replayed)

  -- each call keeps it
  pub call_fits : (call : Call) → IsWholeCall call → Fits w.config.chip w core h → Fits w.config.chip w core (after_call h call)
  call_fits (Exec i room) lines f proper = exec_fits i room f proper
  call_fits (Turn room) lines f proper =
      turn_keeps (λ k. Fits w.config.chip w core k) h room f (λ i. exec_fits i room f) (λ i turns g proper. queued_kept w core (after_exec h i room) turns (g proper)) proper
  call_fits (Drain i room) lines f proper =
      let k = f (sends_keep_proper w.config.chip core h.core.time h.received h.sent (drained_by (drain_of h.core i room).did) (drain_seen i room) s.past proper) in
      goes (Drain i room) proper k (drain_fitting w core h i room whole s k.fitting starts k.replayed)
  call_fits (Take p) lines f proper =
      let number : AreProper h.core.chip h.core.number (λ d. sent_to h.core.chip d h.sent) (h.received ++ p ∷ []) =
      subst (λ (c : ℕ). AreProper h.core.chip c (λ d. sent_to h.core.chip d h.sent) (h.received ++ p ∷ [])) (sym s.number)
      (subst (λ (v : Shape). AreProper v core (λ d. sent_to v d h.sent) (h.received ++ p ∷ [])) (sym s.chip) proper) in
      let k = f (packets_keep_proper w.config.chip core (λ d. sent_to w.config.chip d h.sent) h.received p proper) in
      goes (Take p) proper k (take_fitting w core h p s number (λ r e. take_all 32 r.line (lines r e)) k.fitting starts k.replayed)

calls_fit : (w : Setup) (core : ℕ) (h : History) (calls : List Call) → w.config.ram % 65536 ≡ 0 → AreWhole calls → IsSteady w core h → Fits w.config.chip w core h → Fits w.config.chip w core (after_calls h calls)
unfolding after_calls
calls_fit w core h [] whole lines s f = f
calls_fit w core h (call ∷ calls) whole lines s f =
    calls_fit w core (after_call h call) calls whole lines.1 (call_steady w core h call whole s) (call_fits w core h whole s call lines.0 f)

pub history_fits : (w : Setup) (core : ℕ) (calls : List Call) → w.config.ram % 65536 ≡ 0 → 0 < w.config.budget → AreWhole calls → Fits w.config.chip w core (history_of w core calls)
history_fits w core calls whole some lines = calls_fit w core (begun w core) calls whole lines (start_steady w core)
    (λ proper. record { fitting = start_fits w core; replayed = strands_are_replays.start w.config core w.image.entry (omega (arith, some)) })
