use Rattle.std.proofs.Common.{◌<◌, length, sym, subst, arith}
use Rattle.t1_ring.proofs.Sets.{tx_marks_length}
use Rattle.t1_live.specs.Sides.{CrossbarSide}
use Rattle.t1_live.proofs.ties.tie_packets.Goals as goal

pub tie_rx-requires-clause-here : goal.tie_rx-requires-clause-here
tie_rx-requires-clause-here c =
    let l = tx_marks_length c.crossbar.inside.packets.items in
    let h = subst (λ (v : CrossbarSide). c.args.at < length v.to) (sym c.crossbar.view_is) c.requires.here in
    omega (arith, l, h)
