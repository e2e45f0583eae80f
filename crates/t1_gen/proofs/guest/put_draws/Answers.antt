use Rattle.std.proofs.Common.{◌∙◌}
use Rattle.t1_gen.proofs.Drawing.{draws_next}
use Rattle.t1_gen.proofs.guest.put_draws.Goals as goal

pub loop-preserved : goal.loop-preserved
loop-preserved c =
    draws_next c.loop.code.items c.put_insn.new.code.items c.loop.draws c.next_word.new.self c.next_word.result c.loop.counter c.args.size
    c.drawn.result c.loop-test.true c.next_word.ensures c.drawn.ensures.value c.in_ok-put_insn.ensures
    ∙ c.loop.invariant
