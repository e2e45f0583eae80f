use Rattle.std.proofs.Common.{◌∙◌, sym, subst, arith}
use Rattle.t1_elf.specs.declared.object.Image.{Image}
use Rattle.t1_machine.specs.Start.{setup_of}
use Rattle.t1_ring.specs.Row.{received_by, sent_by}
use Rattle.t1_ring.proofs.Sets.{gots_length, sents_length}
use Rattle.t1_live.specs.Rules.{IsCrossbarSide}
use Rattle.t1_live.proofs.Crossings.{crossbar_begins}
use Rattle.t1_live.proofs.crossbar_agent.CrossbarAgent.new.Goals as goal

pub invariant_of-result : goal.invariant_of-result
invariant_of-result c =
    subst (λ (image : Image). IsCrossbarSide (setup_of c.args.config.now image) c.in_ok-xbar.xbar c.loop.held.items (received_by c.args.served.items) (sent_by c.args.packets.items)) (sym c.of.ensures)
    (crossbar_begins (setup_of c.args.config.now c.args.image.now) c.in_ok-xbar.xbar _ c.loop.held.items _ _ c.requires.runs c.in_ok-xbar.ensures
    (let l = c.loop.invariant.len in let f = c.loop-test.false in let e = c.loop.auto.counter-end in omega (arith, l, f, e, c.destinations-count.ensures.value)) c.loop.invariant.none
    (gots_length c.args.served.items ∙ c.requires.from) c.requires.unused.0 (sents_length c.args.packets.items ∙ c.requires.to) c.requires.unused.1)
