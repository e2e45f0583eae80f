-- The steps of a list of slots are paid for.
use Rattle.std.proofs.Common.{◌≡◌, ◌≤◌, ◌+◌, ◌*◌, ℕ, is_some, List, [], ◌∷◌, length, Option, Some, None, refl, ◌∙◌, arith, if◌then◌else◌}
use Rattle.t1_joint.specs.Start.{Setup}
use Rattle.t1_machine.specs.Slots.{slot_at}
use Rattle.t1_machine.specs.Machine.{MachineState, stepped, or_same}
use Rattle.t1_machine.specs.Runs.{machine_after}
use Rattle.t1_machine.specs.Start.{IsRunnable, most_commits, machine_start}
use Rattle.t1_bound.specs.Weights.{steps, machine_weight, machine_tokens, units_done}
use Rattle.t1_bound.specs.Sound.{IsSound}
use Rattle.t1_bound.specs.Runs.{machine_at, steps_done}
use Rattle.t1_bound.specs.Laws.{strands_in, AreBounded, HasLogRoom}
use Rattle.t1_bound.proofs.Slots.{StepPays, step_pays}
use Rattle.t1_bound.proofs.Starts.{start_weight, start_tokens, start_units, sound_start}
use Rattle.t1_bound.proofs.Reach.{steps_fall, sound_step, spare_reached, log_fits, reached_at}

-- so many steps lead from one machine to another
pub record StepsPay (m n : MachineState) (done : ℕ) : Type 0 where
  pub weight : machine_weight steps n + done ≤ machine_weight steps m
  pub tokens : machine_tokens steps n + 24 * units_done m + done ≤ machine_tokens steps m + 24 * units_done n
  pub log : length n.xbar.log ≤ length m.xbar.log + done
  pub room : n.xbar.room ≡ m.xbar.room

paid_if : (m : MachineState) (o : Option MachineState) (ns : List ℕ) → ((n : MachineState) → o ≡ Some n → IsSound n × StepPays steps m n) → IsSound m
    → ((n : MachineState) → IsSound n → StepsPay n (machine_after n ns) (steps_done n ns))
    → StepsPay m (machine_after (or_same m o) ns) ((if is_some o then 1 else 0) + steps_done (or_same m o) ns)
paid_if m None ns step h more = let p = more m h in record { weight = omega (arith, p.weight); tokens = omega (arith, p.tokens); log = omega (arith, p.log); room = p.room }
paid_if m (Some n) ns step h more =
    let q = step n refl in
    let p = more n q.0 in
    record {
      weight = omega (arith, p.weight, q.1.weight);
      tokens = omega (arith, p.tokens, q.1.tokens);
      log = omega (arith, p.log, q.1.log);
      room = p.room ∙ q.1.room;
    }

pub steps_pay : (m : MachineState) (ns : List ℕ) → IsSound m → StepsPay m (machine_after m ns) (steps_done m ns)
unfolding machine_after steps_done
steps_pay m [] h = record { weight = omega arith; tokens = omega arith; log = omega arith; room = refl }
steps_pay m (n ∷ ns) h =
    paid_if m (stepped m (slot_at m.chip n)) ns
    (λ k e. (sound_step m k (slot_at m.chip n) h e, step_pays steps steps_fall m k h.live (slot_at m.chip n) h.few e)) h (λ k s. steps_pay k ns s)

-- ---- from a start

pub from_start : (w : Setup) (numbers : List ℕ) → IsRunnable w → StepsPay (machine_start w) (machine_at w numbers) (steps_done (machine_start w) numbers)
from_start w numbers h = steps_pay (machine_start w) numbers (sound_start w h)

pub are_paid : (w : Setup) (numbers : List ℕ) → IsRunnable w
    → steps_done (machine_start w) numbers + machine_tokens steps (machine_at w numbers) ≤ 24 * (units_done (machine_at w numbers) + strands_in w.config)
are_paid w numbers h =
    let p = (from_start w numbers h).tokens in
    let t = start_tokens steps w h in
    let u = start_units w h in
    let k : w.config.cores * (w.config.strands * 24) ≡ 24 * (w.config.cores * w.config.strands) = grind arith in
    omega (arith, p, t, u, k)

pub are_bounded : (w : Setup) (numbers : List ℕ) → IsRunnable w → AreBounded w numbers
are_bounded w numbers h =
    let paid = are_paid w numbers h in
    let p = (from_start w numbers h).weight in
    let t = start_weight steps w h in
    let k : w.config.cores * (w.config.strands * (24 * w.config.budget)) ≡ 24 * (w.config.cores * w.config.strands * w.config.budget) = grind arith in
    record { by_units = omega (arith, paid); by_budgets = omega (arith, p, t, k) }

no_log : (w : Setup) → length (machine_start w).xbar.log ≡ 0
unfolding machine_start
no_log w = refl

first_room : (w : Setup) → (machine_start w).xbar.room ≡ most_commits w.config
unfolding machine_start
first_room w = refl

pub is_no_longer : (w : Setup) (numbers : List ℕ) → IsRunnable w → length (machine_at w numbers).xbar.log ≤ steps_done (machine_start w) numbers
is_no_longer w numbers h =
    let p = (from_start w numbers h).log in
    let none = no_log w in
    omega (arith, p, none)

pub has_log_room : (w : Setup) (numbers : List ℕ) → IsRunnable w → HasLogRoom w (machine_at w numbers)
has_log_room w numbers h = record {
  room = (from_start w numbers h).room ∙ first_room w;
  fits = log_fits (machine_at w numbers) (reached_at w numbers h);
  spare = spare_reached (machine_at w numbers) (reached_at w numbers h);
}
