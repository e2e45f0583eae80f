use Rattle.std.proofs.Common.{◌≡◌, ◌∙◌, ◌+◌, ◌*◌, true, [], get_or, rules}
use Rattle.t1_machine.specs.Rings.{is_empty}
use Rattle.t1_machine.proofs.Askers.{asker_skip}
use Rattle.t1_machine.proofs.rooms.asker_from.Goals as goal

pub loop-preserved : goal.loop-preserved
loop-preserved c =
    let none : is_empty (get_or c.args.requests.now (9 * c.loop.core + c.args.dest) []) ≡ true = search rules in
    (c.core_after-core.ensures.within, rw c.core_after-core.ensures.value (asker_skip c.args.requests.now c.args.cores c.args.dest c.loop.core c.loop.counter c.loop-test.true none ∙ c.loop.invariant.1))
