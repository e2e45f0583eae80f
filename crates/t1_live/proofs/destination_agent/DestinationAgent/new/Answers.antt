use Rattle.std.proofs.Common.{◌∙◌, [], get_or, ap, refl, sym, subst}
use Rattle.t1_elf.specs.declared.object.Image.{Image}
use Rattle.t1_machine.specs.Start.{setup_of}
use Rattle.t1_live.specs.Lanes.{by_core}
use Rattle.t1_live.specs.Rules.{IsDestinationSide}
use Rattle.t1_live.proofs.Destinations.{destination_begins, destination_more}
use Rattle.t1_live.proofs.Lanes.{by_core_none}
use Rattle.t1_live.proofs.destination_agent.DestinationAgent.new.Goals as goal

pub invariant_of-result : goal.invariant_of-result
invariant_of-result c =
    let seat = c.args.seat in (
      subst (λ (image : Image). IsDestinationSide (setup_of c.args.config.now image) c.args.dest c.in_ok-bank.bank (by_core seat.taken 0 seat.cores) c.args.served.sent) (sym c.of.ensures)
          (destination_more (setup_of c.args.config.now c.args.image.now) c.args.dest c.in_ok-bank.bank [] (by_core seat.taken 0 seat.cores) c.args.served.sent
          (λ i. ap (λ t. get_or (by_core t 0 seat.cores) i []) c.requires.unused ∙ by_core_none 0 seat.cores i)
          (destination_begins (setup_of c.args.config.now c.args.image.now) c.args.dest c.in_ok-bank.bank [] c.args.served.sent c.in_ok-bank.ensures refl c.requires.none)),
      c.requires.queue,
    )
