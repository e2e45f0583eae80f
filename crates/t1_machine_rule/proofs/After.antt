-- Every list of slots keeps what each slot keeps.
use Rattle.std.proofs.Common.{◌≡◌, ℕ, ◌%◌, List, [], ◌∷◌, Option, Some, None, refl}
use Rattle.t1_shape.specs.Shapes.{Shape}
use Rattle.t1_event.specs.declared.report.Config.{Config}
use Rattle.t1_elf.specs.declared.object.Image.{Image}
use Rattle.t1_joint.specs.Start.{Setup}
use Rattle.t1_machine.specs.Slots.{slot_at}
use Rattle.t1_machine.specs.Machine.{MachineState, stepped, or_same, after_slot}
use Rattle.t1_machine.specs.Runs.{machine_after}
use Rattle.t1_machine.specs.Start.{IsRunnable, setup_of, machine_start}
use Rattle.t1_machine_rule.specs.Kept.{Kept}
use Rattle.t1_machine_rule.proofs.Views.{IsStep, IsExec, IsDrain, IsTake, IsServe, IsAdmit, slot_within, step_is}
use Rattle.t1_machine_rule.proofs.Acts.{exec_kept, drain_kept}
use Rattle.t1_machine_rule.proofs.Takes.{take_kept}
use Rattle.t1_machine_rule.proofs.Serving.{serve_kept}
use Rattle.t1_machine_rule.proofs.Admits.{admit_kept}
use Rattle.t1_machine_rule.proofs.Begins.{kept_start}

module _ (config : Config) (image : Image) (blocks : config.ram % 65536 ≡ 0) where
  abbrev w : Setup
  w = setup_of config image

  step_kept : (m next : MachineState) → Kept w m → IsStep m next → Kept w next
  step_kept m next g (IsExec c core x is e) = exec_kept config image blocks m g c core x is e
  step_kept m next g (IsDrain c s d core r is e) = drain_kept config image blocks m g c s d core r is e
  step_kept m next g (IsTake c core packet rest is head) = take_kept config image m g c core packet rest is head
  step_kept m next g (IsServe d c r rest ld free head) = serve_kept config image blocks m g d c r rest ld head
  step_kept m next g (IsAdmit d access rest head past) = admit_kept config image blocks m g d access rest head past

  slot_kept : (m : MachineState) (n : ℕ) → Kept w m → Kept w (after_slot m (slot_at m.chip n))
  slot_kept m n g = by (stepped m (slot_at m.chip n)) refl
    where
      by : (o : Option MachineState) → stepped m (slot_at m.chip n) ≡ o → Kept w (or_same m o)
      by None e = g
      by (Some next) e = step_kept m next g (step_is m (slot_at m.chip n) next (slot_within m.chip n) e)

  run_kept : (m : MachineState) (numbers : List ℕ) → Kept w m → Kept w (machine_after m numbers)
  unfolding machine_after
  run_kept m [] g = g
  run_kept m (n ∷ ns) g = run_kept (after_slot m (slot_at m.chip n)) ns (slot_kept m n g)

  pub after_start : IsRunnable w → (numbers : List ℕ) → Kept w (machine_after (machine_start w) numbers)
  after_start runs numbers = run_kept (machine_start w) numbers (kept_start config image runs)

-- from the start of any setup that is runnable
pub kept_after : (w : Setup) → IsRunnable w → (numbers : List ℕ) → Kept w (machine_after (machine_start w) numbers)
kept_after w runs numbers = after_start w.config w.image runs.blocks runs numbers
