use Rattle.std.proofs.Common.{◌∙◌, length, sym, subst}
use Rattle.t1_live.specs.Sides.{CrossbarSide, CrossbarKeeps}
use Rattle.t1_live.specs.Tying.{ServedEndsMeet, PacketEndsMeet, ServedTied, PacketsTied}
use Rattle.t1_live.proofs.Tied.{rows_meet, served_meet, packets_meet, ties_fit}
use Rattle.t1_live.proofs.ties.tie_all.Goals as goal

pub tie_rows-requires : goal.tie_rows-requires
tie_rows-requires c = rows_meet c.args.crossbar.now.setup c.args.cores.now.items c.args.dests.now.items c.args.crossbar.now c.requires.wired c.requires.full

pub tie_all_served-requires : goal.tie_all_served-requires
tie_all_served-requires c =
    subst (λ ds. ServedEndsMeet ds c.args.crossbar.now) (sym c.tie_rows.ensures.same.1)
    (served_meet c.args.crossbar.now.setup c.args.cores.now.items c.args.dests.now.items c.args.crossbar.now c.requires.wired)

pub tie_all_packets-requires : goal.tie_all_packets-requires
tie_all_packets-requires c =
    subst (λ cs. PacketEndsMeet cs c.tie_all_served.new.crossbar) (sym c.tie_rows.ensures.same.0)
    (subst (λ (x : CrossbarSide). PacketEndsMeet c.args.cores.now.items x) (sym c.tie_all_served.ensures.same.1)
    (packets_meet c.args.crossbar.now.setup c.args.cores.now.items c.args.dests.now.items c.args.crossbar.now c.requires.wired c.requires.full))

pub returns-clause-fits : goal.returns-clause-fits
returns-clause-fits c =
    ties_fit c.args.crossbar.now.setup c.args.cores.now.items c.args.dests.now.items c.args.crossbar.now c.requires.wired c.requires.full c.tie_rows.ensures.tied
    (subst (λ ds. ServedTied ds c.args.crossbar.now (length ds)) c.tie_rows.ensures.same.1 c.tie_all_served.ensures.tied)
    (subst (λ cs. PacketsTied cs c.args.crossbar.now (length cs)) c.tie_rows.ensures.same.0
    (subst (λ (x : CrossbarSide). PacketsTied c.tie_rows.new.cores.items x (length c.tie_rows.new.cores.items)) c.tie_all_served.ensures.same.1 c.tie_all_packets.ensures.tied))
    (subst (λ (x : CrossbarSide). CrossbarKeeps x) (c.tie_all_packets.ensures.same.0 ∙ c.tie_all_served.ensures.same.1) c.stands.ensures)
