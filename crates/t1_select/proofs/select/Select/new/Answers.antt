-- No strand is left to push.
use Rattle.std.proofs.Common.{◌≡◌, ◌≤◌, ℕ, sym, ◌∙◌, arith}
use Rattle.t1_select.specs.Queue.{counted}
use Rattle.t1_select.proofs.Counts.{counted_done, queue_counted}
use Rattle.t1_select.proofs.select.Select.new.Goals as goal

pub invariant_of-result : goal.invariant_of-result
invariant_of-result c =
    queue_counted c.args.strands c.loop-strand.turns.items
    (sym (counted_done c.loop-strand.strand c.args.strands c.loop-strand.turns.items (omega arith)) ∙ c.loop-strand.invariant.0) (omega arith)

pub returns : goal.returns
returns c = sym (counted_done c.loop-strand.strand c.args.strands c.loop-strand.turns.items (omega arith)) ∙ c.loop-strand.invariant.0
