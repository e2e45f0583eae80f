-- Every history of a core keeps what a core keeps whatever packets come.
use Rattle.std.proofs.Common.{◌≡◌, ◌≤◌, ◌<◌, ℕ, ◌+◌, ◌*◌, ◌%◌, ◌==◌, zero, suc, List, [], ◌∷◌, length, Option, Some, None, refl, ap, sym, ◌∙◌, subst, inl, arith}
use Rattle.std.specs.List.{slice_get}
use Rattle.std.proofs.lemmas.Bool.{eqb-true}
use Rattle.std.proofs.lemmas.List.{length-map}
use Rattle.t1_shape.specs.Shapes.{Shape}
use Rattle.t1_packet.specs.declared.cache.Cache.{Cache}
use Rattle.t1_packet.specs.declared.cache.Cache.TheVariants.{Dcache, Icache}
use Rattle.t1_packet.specs.Caches.{layout, width}
use Rattle.t1_packet.specs.Data.{RequestData}
use Rattle.t1_packet.specs.Ops.{op_dest}
use Rattle.t1_l1.specs.Cache.{empty_cache}
use Rattle.t1_l1.proofs.Pointers.{pointers_are_ways}
use Rattle.t1_event.specs.declared.report.Config.{Config}
use Rattle.t1_joint.specs.Lists.{IsIn}
use Rattle.t1_joint.specs.Start.{Setup, start_in}
use Rattle.t1_joint.specs.CoreRule.{IsAsked, IsMeant}
use Rattle.t1_received.specs.Requests.{sent_to}
use Rattle.t1_received.proofs.Lists.{filter_in}
use Rattle.t1_core.specs.Threads.{ThreadState}
use Rattle.t1_core.specs.Ends.{trace_of}
use Rattle.t1_core.specs.Start.{first_thread, threads_from, new_core}
use Rattle.t1_core.proofs.Joined.{times_rise}
use Rattle.t1_packet.proofs.Caches.{ways_are}
use Rattle.t1_core_rule.specs.Histories.{History, Call, Exec, Turn, Drain, Take, after_call, after_calls, begun}
use Rattle.t1_core_rule.specs.Steady.{IsCache, IsThread, IsSteady}
use Rattle.t1_core_rule.specs.Laws.{RequestsAreMeant, PacketsArePast, ClocksGoOn, TracesAreOfStrands, history_of}
use Rattle.t1_core_rule.proofs.Steadies.{exec_steady, drain_steady}
use Rattle.t1_core_rule.proofs.Taken.{take_steady}
use Rattle.t1_core_rule.proofs.Turns.{turn_keeps, turn_steady}

-- ---- the start

pub thread_is : (config : Config) (entry k n i : ℕ) (t : ThreadState) → slice_get (threads_from config entry k n) i ≡ Some t
    → first_thread (start_in config entry (k + i)) config.budget ≡ t
unfolding threads_from
thread_is config entry k zero i t e = let clash : ◌≡◌ {A = Option ThreadState} None (Some t) = e in cc
thread_is config entry k (suc n) zero t e =
    let same : k + 0 ≡ k = omega arith in
    let here : first_thread (start_in config entry k) config.budget ≡ t = cc (e) in
    ap (λ (j : ℕ). first_thread (start_in config entry j) config.budget) same ∙ here
thread_is config entry k (suc n) (suc i) t e =
    let same : k + suc i ≡ k + 1 + i = omega arith in
    ap (λ (j : ℕ). first_thread (start_in config entry j) config.budget) same ∙ thread_is config entry (k + 1) n i t e

length_threads : (config : Config) (entry k n : ℕ) → length (threads_from config entry k n) ≡ n
unfolding threads_from
length_threads config entry k zero = refl
length_threads config entry k (suc n) = let e = length_threads config entry (k + 1) n in omega (arith, e)

first_cache : (chip : Shape) (cache : Cache) → 0 < (layout chip cache).ways → IsCache chip cache (empty_cache (layout chip cache) (width cache))
unfolding empty_cache
first_cache chip cache some = record { layout_is = refl; width_is = refl; pointers_are = pointers_are_ways.empty (layout chip cache) (width cache) some }

pub start_steady : (w : Setup) (core : ℕ) → IsSteady w core (begun w core)
unfolding new_core
start_steady w core = record {
  chip = refl;
  number = refl;
  ram = refl;
  size = length_threads w.config w.image.entry (core * w.config.strands) w.config.strands;
  dcache = first_cache w.config.chip Dcache (ways_are w.config.chip Dcache).0;
  icache = first_cache w.config.chip Icache (ways_are w.config.chip Icache).0;
  time = inl refl;
  past = λ p h. absurd h;
  own = λ r h. absurd h;
  sent_times = λ r h. absurd h;
  ascends = tt;
  threads = λ i t e. subst (λ (v : ThreadState). IsThread w.config.chip w.config.ram v) (thread_is w.config w.image.entry (core * w.config.strands) w.config.strands i t e) (record { sent = tt; good = tt });
}

-- ---- calls

pub call_steady : (w : Setup) (core : ℕ) (h : History) (call : Call) → w.config.ram % 65536 ≡ 0 → IsSteady w core h → IsSteady w core (after_call h call)
call_steady w core h (Exec i room) whole s = exec_steady w core h i room whole s
call_steady w core h (Turn room) whole s = turn_steady w core h room whole s
call_steady w core h (Drain i room) whole s = drain_steady w core h i room whole s
call_steady w core h (Take p) whole s = take_steady w core h p s

calls_steady : (w : Setup) (core : ℕ) (h : History) (calls : List Call) → w.config.ram % 65536 ≡ 0 → IsSteady w core h → IsSteady w core (after_calls h calls)
unfolding after_calls
calls_steady w core h [] whole s = s
calls_steady w core h (call ∷ calls) whole s = calls_steady w core (after_call h call) calls whole (call_steady w core h call whole s)

pub history_steady : (w : Setup) (core : ℕ) (calls : List Call) → w.config.ram % 65536 ≡ 0 → IsSteady w core (history_of w core calls)
history_steady w core calls whole = calls_steady w core (begun w core) calls whole (start_steady w core)

-- ---- the laws

meant : (w : Setup) (core dest : ℕ) (h : History) (r : RequestData) → IsSteady w core h → IsIn r (sent_to w.config.chip dest h.sent) → IsMeant w core dest r
meant w core dest h r s g =
    let p = filter_in (λ (q : RequestData). op_dest w.config.chip q.op == dest) r h.sent g in
    let own = s.own r p.0 in
    record {
      core_is = own.core_is;
      strand_is = own.strand_is;
      dest_is = eqb-true (op_dest w.config.chip r.op) dest p.1;
      asked = own.asked;
    }

pub requests_are_meant : RequestsAreMeant
requests_are_meant w core dest calls r whole g = meant w core dest (history_of w core calls) r (history_steady w core calls whole) g

pub packets_are_past : PacketsArePast
packets_are_past w core calls p whole g = (history_steady w core calls whole).past p g

rises : (h : History) (call : Call) → h.core.time ≤ (after_call h call).core.time
rises h (Exec i room) = let e = (times_rise.same h.core i room).0 in omega (arith, e)
rises h (Turn room) =
    turn_keeps (λ k. h.core.time ≤ k.core.time) h room (omega arith) (λ i. (let e = (times_rise.same h.core i room).0 in omega (arith, e))) (λ i turns l. l)
rises h (Drain i room) = let e = (times_rise.same h.core i room).1 in omega (arith, e)
rises h (Take p) = times_rise.later h.core p

pub clocks_go_on : ClocksGoOn
clocks_go_on w core calls call whole = record { is_time = (history_steady w core calls whole).time; rises = rises (history_of w core calls) call }

pub traces_are_of_strands : TracesAreOfStrands
traces_are_of_strands w core calls whole = length-map (history_of w core calls).core.threads trace_of ∙ (history_steady w core calls whole).size
