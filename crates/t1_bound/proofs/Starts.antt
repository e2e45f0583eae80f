-- What a machine weighs at its start.
use Rattle.std.proofs.Common.{◌≡◌, ◌≤◌, ◌+◌, ◌-◌, ◌*◌, ℕ, zero, suc, Bool, List, refl, ap, ◌∙◌, arith}
use Rattle.std.specs.List.{All}
use Rattle.std.proofs.lemmas.List.Elements.{All-nil, All-cons}
use Rattle.t1_packet.specs.declared.packet.Packet.{Packet}
use Rattle.t1_packet.specs.declared.served.Served.{Served}
use Rattle.t1_packet.specs.Data.{RequestData}
use Rattle.t1_state.specs.Registers.{blank_of, with_reg, start_of}
use Rattle.t1_event.specs.declared.report.Config.{Config}
use Rattle.t1_joint.specs.Start.{Setup, start_in}
use Rattle.t1_core.specs.Threads.{ThreadState}
use Rattle.t1_core.specs.Steps.{CoreState}
use Rattle.t1_core.specs.Start.{first_thread, threads_from, new_core}
use Rattle.t1_machine.specs.Start.{IsRunnable, cores_from, machine_start}
use Rattle.t1_bound.specs.Weights.{Weights, commits, total, thread_weight, thread_tokens, core_weight, core_tokens, core_units, rings_weight, machine_weight, machine_tokens, units_done}
use Rattle.t1_bound.specs.Sound.{IsLive, IsLiveCore, IsSound}
use Rattle.t1_bound.proofs.Lists.{empty_lengths, times_next}
use Rattle.t1_bound.proofs.Units.{reg_units}

-- ---- one strand

no_units : (number count entry : ℕ) (hyper : Bool) → (start_of number count entry hyper).units ≡ 0
unfolding start_of blank_of
no_units number count entry hyper = reg_units (with_reg (blank_of entry hyper) 8 number) 9 count ∙ reg_units (blank_of entry hyper) 8 number

all_units : (a b : ℕ) → 1 ≤ b → a + a * (b - (0 + 1)) ≡ a * b
all_units a b h =
    let one : b - (0 + 1) + 1 ≡ b = omega arith in
    let k = times_next a (b - (0 + 1)) in
    let j = ap (λ (n : ℕ). a * n) one in
    omega (arith, k, j)

-- ---- many strands, many cores

times_suc : (a n : ℕ) → suc n * a ≡ a + n * a
times_suc a n = grind arith

pub record BeginWith (w : Weights) (config : Config) (ts : List ThreadState) (n : ℕ) : Type 0 where
  pub weight : total (λ t. thread_weight w t) ts ≡ n * (w.fetch * config.budget)
  pub tokens : total (λ t. thread_tokens w t) ts ≡ n * w.fetch
  pub units : total (λ t. t.strand.units) ts ≡ 0
  pub live : All IsLive ts

first_weighs : (w : Weights) (config : Config) (entry number : ℕ) → 1 ≤ config.budget
    → thread_weight w (first_thread (start_in config entry number) config.budget) ≡ w.fetch * config.budget
first_weighs w config entry number some =
    let none = no_units number (config.cores * config.strands) entry config.hyper in
    let k = all_units w.fetch config.budget some in
    rw none (omega (arith, k))

first_live : (config : Config) (entry number : ℕ) → 1 ≤ config.budget → IsLive (first_thread (start_in config entry number) config.budget)
first_live config entry number some =
    let none = no_units number (config.cores * config.strands) entry config.hyper in
    omega (arith, none, some)

threads_begin : (w : Weights) (config : Config) (entry number n : ℕ) → 1 ≤ config.budget → BeginWith w config (threads_from config entry number n) n
unfolding threads_from
threads_begin w config entry number zero some = record { weight = omega arith; tokens = omega arith; units = refl; live = All-nil IsLive }
threads_begin w config entry number (suc n) some =
    let rest = threads_begin w config entry (number + 1) n some in
    let first = first_weighs w config entry number some in
    let none = no_units number (config.cores * config.strands) entry config.hyper in
    let a = times_suc (w.fetch * config.budget) n in
    let b = times_suc w.fetch n in
    record {
      weight = omega (arith, rest.weight, first, a);
      tokens = omega (arith, rest.tokens, b);
      units = omega (arith, rest.units, none);
      live = All-cons IsLive _ _ (first_live config entry number some) rest.live;
    }

pub record CoresBeginWith (w : Weights) (config : Config) (cs : List CoreState) (n : ℕ) : Type 0 where
  pub weight : total (λ c. core_weight w c) cs ≡ n * (config.strands * (w.fetch * config.budget))
  pub tokens : total (λ c. core_tokens w c) cs ≡ n * (config.strands * w.fetch)
  pub units : total (λ c. core_units c) cs ≡ 0
  pub live : All IsLiveCore cs

cores_begin : (w : Weights) (config : Config) (entry core n : ℕ) → 1 ≤ config.budget → CoresBeginWith w config (cores_from config entry core n) n
unfolding cores_from new_core
cores_begin w config entry core zero some = record { weight = omega arith; tokens = omega arith; units = refl; live = All-nil IsLiveCore }
cores_begin w config entry core (suc n) some =
    let rest = cores_begin w config entry (core + 1) n some in
    let one = threads_begin w config entry (core * config.strands) config.strands some in
    let a = times_suc (config.strands * (w.fetch * config.budget)) n in
    let b = times_suc (config.strands * w.fetch) n in
    record {
      weight = omega (arith, rest.weight, one.weight, a);
      tokens = omega (arith, rest.tokens, one.tokens, b);
      units = omega (arith, rest.units, one.units);
      live = All-cons IsLiveCore _ _ one.live rest.live;
    }

-- ---- a machine

rings_start : (w : Weights) (s : Setup) → rings_weight w (machine_start s) ≡ 0
unfolding machine_start
rings_start w s =
    let a = ap (λ (n : ℕ). w.request * n) (empty_lengths RequestData (9 * s.config.cores)) in
    let b = ap (λ (n : ℕ). w.served * n) (empty_lengths Served 9) in
    let c = ap (λ (n : ℕ). w.packet * n) (empty_lengths Packet s.config.cores) in
    omega (arith, a, b, c)

pub start_weight : (w : Weights) (s : Setup) → IsRunnable s → machine_weight w (machine_start s) ≡ s.config.cores * (s.config.strands * (w.fetch * s.config.budget))
unfolding machine_start
start_weight w s h =
    let k = (cores_begin w s.config s.image.entry 0 s.config.cores h.some_units).weight in
    let r = rings_start w s in
    omega (arith, k, r)

pub start_tokens : (w : Weights) (s : Setup) → IsRunnable s → machine_tokens w (machine_start s) ≡ s.config.cores * (s.config.strands * w.fetch)
unfolding machine_start
start_tokens w s h =
    let k = (cores_begin w s.config s.image.entry 0 s.config.cores h.some_units).tokens in
    let r = rings_start w s in
    omega (arith, k, r)

pub start_units : (s : Setup) → IsRunnable s → units_done (machine_start s) ≡ 0
unfolding machine_start
start_units s h = (cores_begin commits s.config s.image.entry 0 s.config.cores h.some_units).units

room_small : (cores strands budget : ℕ) → budget * (cores * strands) ≤ 1000000 → cores * (strands * (2 * budget)) ≤ 2000000
room_small cores strands budget h =
    let k : cores * (strands * (2 * budget)) ≡ 2 * (budget * (cores * strands)) = grind arith in
    omega (arith, k, h)

pub sound_start : (s : Setup) → IsRunnable s → IsSound (machine_start s)
unfolding machine_start
sound_start s h =
    let k = start_weight commits s h in
    record {
      live = (cores_begin commits s.config s.image.entry 0 s.config.cores h.some_units).live;
      few = h.few_cores;
      room = omega (arith, k);
      small = room_small s.config.cores s.config.strands s.config.budget h.few_units;
    }
