use Rattle.std.proofs.Common.{◌<◌, ◌∙◌, length, ap, rules, arith}
use borrow.Author.Count.{below_more}
use Rattle.std.proofs.lemmas.Grind.{common_steps}
use Rattle.t1_live.proofs.Tied.{rows_here, set_back, row_of}
use Rattle.t1_live.proofs.ties.tie_rows.Goals as goal

pub loop-c-init : goal.loop-c-init
loop-c-init c = record { cores = search rules; cores_len = search rules; dests = search rules; dests_len = search rules; tied = λ d h. absurd (omega (arith, h)) }

pub tie_row-requires : goal.tie_row-requires
tie_row-requires c =
    let i = c.loop-c.invariant in
    row_of c.index_mut.result.now c.loop-c.cores.items c.args.cores.now.items c.loop-c.dests.items c.args.dests.now.items c.loop-c.c c.index_mut.ensures.value i.cores i.dests (grind (arith, common_steps)) c.requires

pub loop-c-preserved : goal.loop-c-preserved
loop-c-preserved c =
    let i = c.loop-c.invariant in
    let e = c.tie_row.ensures in
    let within : c.loop-c.c < length c.loop-c.cores.items = grind (arith, common_steps) in
    record {
      cores = set_back c.loop-c.cores.items c.loop-c.c c.tie_row.new.core c.index_mut.result.now e.same.0 c.index_mut.ensures.value ∙ i.cores;
      cores_len = i.cores_len;
      dests = e.same.1 ∙ i.dests;
      dests_len = e.len ∙ i.dests_len;
      tied = below_more _ c.loop-c.c i.tied (rows_here c.index_mut.result.now c.loop-c.cores.items c.args.cores.now.items c.loop-c.dests.items c.args.dests.now.items c.loop-c.c _
          c.index_mut.ensures.value i.cores i.dests within (ap length i.dests) e.tied);
    }
