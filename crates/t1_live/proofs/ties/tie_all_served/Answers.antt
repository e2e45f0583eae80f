use Rattle.std.proofs.Common.{◌<◌, ◌∙◌, length, rules, arith}
use borrow.Author.Count.{below_more}
use Rattle.std.proofs.lemmas.Grind.{common_steps}
use Rattle.t1_live.proofs.Tied.{served_here, set_back, served_of}
use Rattle.t1_live.proofs.ties.tie_all_served.Goals as goal

pub loop-d-init : goal.loop-d-init
loop-d-init c = record { dests = search rules; len = search rules; crossbar = search rules; tied = λ d h. absurd (omega (arith, h)) }

pub tie_served-requires-clause-there : goal.tie_served-requires-clause-there
tie_served-requires-clause-there c =
    let i = c.loop-d.invariant in
    (served_of c.loop-d.crossbar c.args.crossbar.now c.index_mut.result.now c.loop-d.dests.items c.args.dests.now.items c.loop-d.d i.crossbar c.index_mut.ensures.value i.dests (grind (arith, common_steps)) c.requires).0

pub tie_served-requires-clause-port : goal.tie_served-requires-clause-port
tie_served-requires-clause-port c =
    let i = c.loop-d.invariant in
    (served_of c.loop-d.crossbar c.args.crossbar.now c.index_mut.result.now c.loop-d.dests.items c.args.dests.now.items c.loop-d.d i.crossbar c.index_mut.ensures.value i.dests (grind (arith, common_steps)) c.requires).1

pub loop-d-preserved : goal.loop-d-preserved
loop-d-preserved c =
    let i = c.loop-d.invariant in
    let e = c.tie_served.ensures in
    let within : c.loop-d.d < length c.loop-d.dests.items = grind (arith, common_steps) in
    record {
      dests = set_back c.loop-d.dests.items c.loop-d.d c.tie_served.new.dest c.index_mut.result.now e.same.0 c.index_mut.ensures.value ∙ i.dests;
      len = i.len;
      crossbar = e.same.1 ∙ i.crossbar;
      tied = below_more _ c.loop-d.d i.tied (served_here c.tie_served.new.crossbar c.args.crossbar.now c.tie_served.new.dest c.index_mut.result.now c.loop-d.dests.items c.args.dests.now.items c.loop-d.d
          (e.same.1 ∙ i.crossbar) e.same.0 c.index_mut.ensures.value i.dests within e.tied e.stands);
    }

pub returns-clause-tied : goal.returns-clause-tied
returns-clause-tied c = λ d h. c.loop-d.invariant.tied d (grind (arith, common_steps))
