use Rattle.std.proofs.Common.{◌<◌, ◌∙◌, length, rules, arith}
use borrow.Author.Count.{below_more}
use Rattle.std.proofs.lemmas.Grind.{common_steps}
use Rattle.t1_live.proofs.Tied.{row_here, set_back, row_meets}
use Rattle.t1_live.proofs.ties.tie_row.Goals as goal

pub loop-d-init : goal.loop-d-init
loop-d-init c = record { core = search rules; dests = search rules; len = search rules; tied = λ d h. absurd (omega (arith, h)) }

pub tie_request-requires-clause-here : goal.tie_request-requires-clause-here
tie_request-requires-clause-here c =
    let i = c.loop-d.invariant in
    (row_meets c.loop-d.core c.args.core.now c.index_mut.result.now c.loop-d.dests.items c.args.dests.now.items c.args.place c.loop-d.d i.core c.index_mut.ensures.value i.dests (grind (arith, common_steps)) c.requires).here

pub tie_request-requires-clause-there : goal.tie_request-requires-clause-there
tie_request-requires-clause-there c =
    let i = c.loop-d.invariant in
    (row_meets c.loop-d.core c.args.core.now c.index_mut.result.now c.loop-d.dests.items c.args.dests.now.items c.args.place c.loop-d.d i.core c.index_mut.ensures.value i.dests (grind (arith, common_steps)) c.requires).there

pub tie_request-requires-clause-port : goal.tie_request-requires-clause-port
tie_request-requires-clause-port c =
    let i = c.loop-d.invariant in
    (row_meets c.loop-d.core c.args.core.now c.index_mut.result.now c.loop-d.dests.items c.args.dests.now.items c.args.place c.loop-d.d i.core c.index_mut.ensures.value i.dests (grind (arith, common_steps)) c.requires).meet

pub loop-d-preserved : goal.loop-d-preserved
loop-d-preserved c =
    let i = c.loop-d.invariant in
    let e = c.tie_request.ensures in
    let within : c.loop-d.d < length c.loop-d.dests.items = grind (arith, common_steps) in
    record {
      core = e.same.0 ∙ i.core;
      dests = set_back c.loop-d.dests.items c.loop-d.d c.tie_request.new.dest c.index_mut.result.now e.same.1 c.index_mut.ensures.value ∙ i.dests;
      len = i.len;
      tied = below_more _ c.loop-d.d i.tied (row_here c.tie_request.new.core c.args.core.now c.tie_request.new.dest c.index_mut.result.now c.loop-d.dests.items c.args.dests.now.items c.args.place c.loop-d.d
          (e.same.0 ∙ i.core) e.same.1 c.index_mut.ensures.value i.dests within e.tied);
    }
