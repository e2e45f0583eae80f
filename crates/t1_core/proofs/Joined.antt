-- The laws of a core from their parts.
use Rattle.std.proofs.Common.{◌≡◌, ◌+◌, ◌*◌, ◌<◌, ◌≤◌, ◌==◌, ℕ, zero, suc, Bool, true, false, List, [], ◌∷◌, Option, Some, None, refl, ap, sym, ◌∙◌, subst, arith, slice_index}
use Rattle.std.specs.List.{slice_get}
use Rattle.std.proofs.lemmas.Bool.{ne_eqb}
use Rattle.t1_packet.specs.declared.cache.Cache.TheVariants.{Dcache, Icache}
use Rattle.t1_packet.specs.Caches.{layout, width}
use Rattle.t1_state.specs.declared.strand.Strand.{Strand}
use Rattle.t1_state.specs.Registers.{start_of, with_reg, blank_of}
use Rattle.t1_event.specs.declared.item.Item.{Item}
use Rattle.t1_event.specs.declared.report.Config.{Config}
use Rattle.t1_event.specs.Items.{reads_of}
use Rattle.t1_joint.specs.Replay.{Running}
use Rattle.t1_joint.specs.Start.{start_in}
use Rattle.t1_select.specs.Queue.{moved_last}
use Rattle.t1_core.specs.Threads.{ThreadState}
use Rattle.t1_core.specs.Steps.{CoreState, exec_at, exec_of, drain_at, drain_of}
use Rattle.t1_core.specs.Turns.{with_turns, turned_at, turn_of, next_place}
use Rattle.t1_core.specs.Start.{first_thread, threads_from, new_core}
use Rattle.t1_core.specs.Replays.{Replays, IsReplayed, IsBetween}
use Rattle.t1_core.specs.Laws.{starts_of, StrandsAreReplays, IsTimed, AreTimed, TimesRise, OnlyPacketsChangeCaches}
use Rattle.t1_core.proofs.ReplayBytes.{empty_bytes}
use Rattle.t1_core.proofs.ReplaySteps.{exec_replays, drain_replays}
use Rattle.t1_core.proofs.ReplayTakes.{take_replays}
use Rattle.t1_core.proofs.Times.{exec_timed, drain_timed, take_timed, take_later}

-- ---- the start

thread_from : (config : Config) (entry number n i : ℕ) (t : ThreadState) → slice_get (threads_from config entry number n) i ≡ Some t
    → t ≡ first_thread (start_in config entry (number + i)) config.budget
unfolding threads_from
thread_from config entry number zero i t e = let clash : ◌≡◌ {A = Option ThreadState} None (Some t) = e in cc
thread_from config entry number (suc n) zero t e =
    let same : first_thread (start_in config entry number) config.budget ≡ t = cc in
    let k : number ≡ number + 0 = omega arith in
    sym same ∙ ap (λ (m : ℕ). first_thread (start_in config entry m) config.budget) k
thread_from config entry number (suc n) (suc i) t e =
    let k : number + 1 + i ≡ number + suc i = omega arith in
    thread_from config entry (number + 1) n i t e ∙ ap (λ (m : ℕ). first_thread (start_in config entry m) config.budget) k

no_units : (number count entry : ℕ) (hyper : Bool) → (start_of number count entry hyper).units ≡ 0
unfolding start_of with_reg blank_of
no_units number count entry hyper = refl

starts_between : (ram budget : ℕ) (config : Config) (entry number : ℕ) → 1 ≤ budget
    → Replays ram (start_in config entry number) (first_thread (start_in config entry number) budget)
unfolding reads_of
starts_between ram budget config entry number some =
    let units : (start_in config entry number).units ≡ 0 = no_units number (config.cores * config.strands) entry config.hyper in
    record {
      stands = record { count = 0; is = refl };
      unspent = ne_eqb (start_in config entry number).units budget (λ e. omega (arith, some, units, e));
    }

start_replays : (config : Config) (core entry : ℕ) → 1 ≤ config.budget → IsReplayed (starts_of config core entry) (new_core config core entry)
unfolding new_core
start_replays config core entry some = record {
  each = λ i t e.
      let first : ThreadState = first_thread (start_in config entry (core * config.strands + i)) config.budget in
      let is : t ≡ first = thread_from config entry (core * config.strands) config.strands i t e in
      subst (λ (u : ThreadState). Replays config.ram (starts_of config core entry i) u) (sym is)
      (starts_between config.ram config.budget config entry (core * config.strands + i) some);
  dcache = empty_bytes (layout config.chip Dcache) (width Dcache);
  icache = empty_bytes (layout config.chip Icache) (width Icache);
}

no_item : (i : ℕ) (x : Item) → slice_get [] i ≡ Some x → ⊥
no_item i x e = let clash : ◌≡◌ {A = Option Item} None (Some x) = e in cc

nothing_timed : IsTimed [] 0
nothing_timed = record { below = λ i x e. absurd (no_item i x e); ascends = λ i j x y l e f h. absurd (no_item i x e) }

start_timed : (config : Config) (core entry : ℕ) → AreTimed (new_core config core entry)
unfolding new_core
start_timed config core entry = record {
  each = λ i t e.
      let is : t ≡ first_thread (start_in config entry (core * config.strands + i)) config.budget = thread_from config entry (core * config.strands) config.strands i t e in
      subst (λ (u : ThreadState). IsTimed u.items 0) (sym is) nothing_timed;
}

-- ---- turns

turned_replays : (starts : ℕ → Strand) (c : CoreState) (room : ℕ) (o : Option ℕ) → IsReplayed starts c → IsReplayed starts (turned_at c room o).core
turned_replays starts c room None r = r
turned_replays starts c room (Some place) r =
    let k = exec_replays starts c (slice_index c.turns place) room r in
    record { each = k.each; dcache = k.dcache; icache = k.icache }

turn_replays : (starts : ℕ → Strand) (c : CoreState) (room : ℕ) → IsReplayed starts c → IsReplayed starts (turn_of c room).core
unfolding turn_of
turn_replays starts c room r = turned_replays starts c room (next_place c room) r

turned_timed : (c : CoreState) (room : ℕ) (o : Option ℕ) → AreTimed c → AreTimed (turned_at c room o).core
turned_timed c room None a = a
turned_timed c room (Some place) a =
    let k = exec_timed c (slice_index c.turns place) room a in
    record { each = k.each }

turn_timed : (c : CoreState) (room : ℕ) → AreTimed c → AreTimed (turn_of c room).core
unfolding turn_of
turn_timed c room a = turned_timed c room (next_place c room) a

-- ---- what exec and drain leave alone

exec_time_at : (c : CoreState) (i room : ℕ) (o : Option ThreadState) → (exec_at c i room o).core.time ≡ c.time
exec_time_at c i room None = refl
exec_time_at c i room (Some t) = refl

drain_time_at : (c : CoreState) (i room : ℕ) (o : Option ThreadState) → (drain_at c i room o).core.time ≡ c.time
drain_time_at c i room None = refl
drain_time_at c i room (Some t) = refl

same_times : (c : CoreState) (i room : ℕ) → ((exec_of c i room).core.time ≡ c.time) × ((drain_of c i room).core.time ≡ c.time)
unfolding exec_of drain_of
same_times c i room = (exec_time_at c i room (slice_get c.threads i), drain_time_at c i room (slice_get c.threads i))

caches_at : (c : CoreState) (i room : ℕ) (o : Option ThreadState)
    → ((exec_at c i room o).core.dcache ≡ c.dcache) × ((exec_at c i room o).core.icache ≡ c.icache)
    × ((drain_at c i room o).core.dcache ≡ c.dcache) × ((drain_at c i room o).core.icache ≡ c.icache)
caches_at c i room None = (refl, refl, refl, refl)
caches_at c i room (Some t) = (refl, refl, refl, refl)

pub only_packets_change_caches : OnlyPacketsChangeCaches
unfolding exec_of drain_of
only_packets_change_caches c i room = caches_at c i room (slice_get c.threads i)

pub strands_are_replays : StrandsAreReplays
strands_are_replays = record { start = start_replays; exec = exec_replays; turn = turn_replays; drain = drain_replays; take = take_replays }

pub times_rise : TimesRise
times_rise = record {
  start = start_timed;
  exec = exec_timed;
  turn = turn_timed;
  drain = drain_timed;
  take = take_timed;
  same = same_times;
  later = take_later;
}
