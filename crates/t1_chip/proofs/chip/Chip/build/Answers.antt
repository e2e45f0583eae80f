use Rattle.std.proofs.Common.{sym, subst}
use Rattle.t1_machine.specs.Machine.{MachineState}
use Rattle.t1_machine.specs.Start.{setup_of}
use Rattle.t1_machine_rule.specs.Stands.{IsRunOf}
use Rattle.t1_chip.proofs.Reached.{reached_start}
use Rattle.t1_chip.proofs.Sets.{all_clear}
use Rattle.t1_chip.proofs.chip.Chip.build.Goals as goal

pub invariant_of-result : goal.invariant_of-result
invariant_of-result c = (
  subst (λ (m : MachineState). IsRunOf (setup_of c.args.config.now c.args.image) m) (sym c.in_ok-machine.ensures)
      (reached_start (setup_of c.args.config.now c.args.image) c.requires (rw (← c.as_slice.ensures) c.are_bytes.ensures)),
  all_clear c.in_ok-machine.machine,
  c.in_ok-room.ensures,
)
