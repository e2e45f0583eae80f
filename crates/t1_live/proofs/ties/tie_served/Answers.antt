use Rattle.std.proofs.Common.{◌<◌, ◌∙◌, length, sym, subst, arith}
use Rattle.t1_machine.specs.Start.{setup_of}
use Rattle.t1_ring.proofs.Sets.{rx_marks_length}
use Rattle.t1_live.specs.Lanes.{by_core}
use Rattle.t1_live.specs.Rules.{IsDestinationSide}
use Rattle.t1_live.specs.Sides.{CrossbarSide}
use Rattle.t1_live.proofs.Lanes.{by_core_length, from_length}
use Rattle.t1_live.proofs.ties.tie_served.Goals as goal

pub tie_tx-requires-clause-there : goal.tie_tx-requires-clause-there
tie_tx-requires-clause-there c =
    let l = rx_marks_length c.crossbar.inside.served.items in
    let h = subst (λ (v : CrossbarSide). c.args.place < length v.from) (sym c.crossbar.view_is) c.requires.there in
    omega (arith, l, h)

pub returns-clause-stands : goal.returns-clause-stands
returns-clause-stands c =
    let seat = c.dest.inside.seat in (
      subst (λ l. IsDestinationSide (setup_of c.dest.inside.config c.dest.inside.image.value) c.dest.inside.dest c.dest.inside.bank (by_core seat.taken 0 seat.cores) l) (sym c.tie_tx.ensures.tx.1) c.dest.invariant.0,
      by_core_length seat.taken 0 seat.cores ∙ sym (from_length seat.queue 0 seat.cores),
    )
