use Rattle.std.proofs.Common.{◌∙◌, sym, subst}
use Rattle.t1_elf.specs.declared.object.Image.{Image}
use Rattle.t1_machine.specs.Start.{setup_of}
use Rattle.t1_ring.specs.Row.{sent_by}
use Rattle.t1_ring.proofs.Sets.{sents_length}
use Rattle.t1_live.specs.Rules.{IsCoreSide}
use Rattle.t1_live.proofs.Cores.{core_begins}
use Rattle.t1_live.proofs.core_agent.CoreAgent.new.Goals as goal

pub invariant_of-result : goal.invariant_of-result
invariant_of-result c = (
  subst (λ (image : Image). IsCoreSide (setup_of c.args.config.now image) c.args.number c.in_ok-core.core (sent_by c.args.lanes.items) c.args.packets.received) (sym c.of.ensures)
      (core_begins (setup_of c.args.config.now c.args.image.now) c.args.number c.in_ok-core.core _ _ c.requires.runs c.requires.number (sents_length c.args.lanes.items ∙ c.requires.lanes) c.in_ok-core.ensures
      c.requires.unused c.requires.none),
  c.requires.seats,
)
