-- A run by a schedule ends, and is short.
use Rattle.std.proofs.Common.{◌≡◌, ◌≤◌, ◌*◌, ◌<◌, ℕ, zero, suc, true, List, length, Option, Some, None, refl, sym, subst, arith}
use Rattle.t1_joint.specs.Start.{Setup}
use Rattle.t1_machine.specs.declared.schedule.Schedule.{Schedule}
use Rattle.t1_machine.specs.Slots.{slots, slot_at}
use Rattle.t1_machine.specs.Machine.{MachineState, is_enabled, after_slot}
use Rattle.t1_machine.specs.Runs.{Standing, begun_as, tries, standing_after, next_of, IsRun, Ends, Goes}
use Rattle.t1_machine.specs.Start.{IsRunnable, IsReached}
use Rattle.t1_bound.specs.Weights.{steps, machine_weight}
use Rattle.t1_bound.specs.Sound.{IsSound}
use Rattle.t1_bound.specs.Runs.{machine_at, steps_done, RunsFrom}
use Rattle.t1_bound.specs.Laws.{IsShort, EndsSoon}
use Rattle.t1_bound.proofs.Starts.{start_tokens, start_units}
use Rattle.t1_bound.proofs.Reach.{sound_reached, reached_at, reached_slot, slot_falls, found_enabled, goes_on, ends_here, runs_to, run_after, run_few}
use Rattle.t1_bound.proofs.Bound.{StepsPay, steps_pay, from_start}

-- ---- a run ends

record HasRun (m : MachineState) (standing : Standing) : Type 0 where
  last : MachineState
  run : RunsFrom m standing last

run_by : (m : MachineState) (standing : Standing) (o : Option ℕ) → next_of m standing ≡ o
    → ((n : ℕ) → next_of m standing ≡ Some n → HasRun (after_slot m (slot_at m.chip n)) (standing_after m.chip standing n)) → HasRun m standing
run_by m standing None e more = record { last = m; run = ends_here m standing e }
run_by m standing (Some n) e more = let r = more n e in record { last = r.last; run = goes_on m standing n r.last e r.run }

next_falls : (m : MachineState) (standing : Standing) (n : ℕ) → IsReached m → next_of m standing ≡ Some n
    → machine_weight steps (after_slot m (slot_at m.chip n)) < machine_weight steps m
next_falls m standing n r e = slot_falls m n r (found_enabled (slots m.chip) m (tries m.chip standing) n e)

has_run : (most : ℕ) (m : MachineState) (standing : Standing) → IsReached m → machine_weight steps m ≤ most → HasRun m standing
has_run zero m standing r h = run_by m standing (next_of m standing) refl (λ n e. absurd (let f = next_falls m standing n r e in omega (arith, f, h)))
has_run (suc most) m standing r h =
    run_by m standing (next_of m standing) refl
    (λ n e. let f = next_falls m standing n r e in has_run most (after_slot m (slot_at m.chip n)) (standing_after m.chip standing n) (reached_slot m n r) (omega (arith, f, h)))

-- ---- a run is short

-- each slot of a run is a step
run_steps : (m : MachineState) (standing : Standing) (ns : List ℕ) (last : MachineState) → IsRun m standing ns last → steps_done m ns ≡ length ns
unfolding steps_done
run_steps m standing ns last (Ends k at h) = refl
run_steps m standing ns last (Goes k at n rest end h run) =
    let on : is_enabled k (slot_at k.chip n) ≡ true = found_enabled (slots k.chip) k (tries k.chip at) n h in
    let more = run_steps (after_slot k (slot_at k.chip n)) (standing_after k.chip at n) rest end run in
    rw on (omega (arith, more))

run_pays : (m : MachineState) (standing : Standing) (ns : List ℕ) (last : MachineState) → IsRun m standing ns last → IsSound m → StepsPay m last (length ns)
run_pays m standing ns last run h =
    subst (λ (n : ℕ). StepsPay m last n) (run_steps m standing ns last run)
    (subst (λ (k : MachineState). StepsPay m k (steps_done m ns)) (sym (run_after m standing ns last run)) (steps_pay m ns h))

is_short : (w : Setup) (before : List ℕ) (standing : Standing) (ns : List ℕ) (last : MachineState) → IsRunnable w → IsRun (machine_at w before) standing ns last
    → IsShort w (machine_at w before) ns last
is_short w before standing ns last h run =
    let r = reached_at w before h in
    let few = run_few (machine_at w before) standing ns last run r in
    let first = (from_start w before h).tokens in
    let then = (run_pays (machine_at w before) standing ns last run (sound_reached (machine_at w before) r)).tokens in
    let t = start_tokens steps w h in
    let u = start_units w h in
    let k : w.config.cores * (w.config.strands * 24) ≡ 24 * (w.config.cores * w.config.strands) = grind arith in
    record { by_weight = omega (arith, few); by_units = omega (arith, first, then, t, u, k) }

pub ends_soon : (w : Setup) (numbers : List ℕ) (as_of : Schedule) → IsRunnable w → EndsSoon w (machine_at w numbers) as_of
ends_soon w numbers as_of h =
    let found = has_run (machine_weight steps (machine_at w numbers)) (machine_at w numbers) (begun_as as_of) (reached_at w numbers h) (omega arith) in
    record {
      last = found.last;
      ends = runs_to (machine_at w numbers) as_of found.last found.run;
      short = λ ns last run. is_short w numbers (begun_as as_of) ns last h run;
    }
