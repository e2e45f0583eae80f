use Rattle.std.proofs.Common.{◌<◌, ◌∙◌, length, rules, arith}
use borrow.Author.Count.{below_more}
use Rattle.std.proofs.lemmas.Grind.{common_steps}
use Rattle.t1_live.proofs.Tied.{packets_here, set_back, packets_of}
use Rattle.t1_live.proofs.ties.tie_all_packets.Goals as goal

pub loop-c-init : goal.loop-c-init
loop-c-init c = record { cores = search rules; len = search rules; crossbar = search rules; tied = λ d h. absurd (omega (arith, h)) }

pub tie_packets-requires-clause-here : goal.tie_packets-requires-clause-here
tie_packets-requires-clause-here c =
    let i = c.loop-c.invariant in
    (packets_of c.loop-c.crossbar c.args.crossbar.now c.index_mut.result.now c.loop-c.cores.items c.args.cores.now.items c.loop-c.c i.crossbar c.index_mut.ensures.value i.cores (grind (arith, common_steps)) c.requires).0

pub tie_packets-requires-clause-port : goal.tie_packets-requires-clause-port
tie_packets-requires-clause-port c =
    let i = c.loop-c.invariant in
    (packets_of c.loop-c.crossbar c.args.crossbar.now c.index_mut.result.now c.loop-c.cores.items c.args.cores.now.items c.loop-c.c i.crossbar c.index_mut.ensures.value i.cores (grind (arith, common_steps)) c.requires).1

pub loop-c-preserved : goal.loop-c-preserved
loop-c-preserved c =
    let i = c.loop-c.invariant in
    let e = c.tie_packets.ensures in
    let within : c.loop-c.c < length c.loop-c.cores.items = grind (arith, common_steps) in
    record {
      cores = set_back c.loop-c.cores.items c.loop-c.c c.tie_packets.new.core c.index_mut.result.now e.same.1 c.index_mut.ensures.value ∙ i.cores;
      len = i.len;
      crossbar = e.same.0 ∙ i.crossbar;
      tied = below_more _ c.loop-c.c i.tied (packets_here c.tie_packets.new.crossbar c.args.crossbar.now c.tie_packets.new.core c.index_mut.result.now c.loop-c.cores.items c.args.cores.now.items c.loop-c.c
          (e.same.0 ∙ i.crossbar) e.same.1 c.index_mut.ensures.value i.cores within e.tied e.stands);
    }

pub returns-clause-tied : goal.returns-clause-tied
returns-clause-tied c = λ d h. c.loop-c.invariant.tied d (grind (arith, common_steps))
