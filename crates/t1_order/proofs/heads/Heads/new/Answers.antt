use Rattle.std.proofs.Common.{refl}
use Rattle.t1_order.proofs.Tree.{no_heads, no_leaves}
use Rattle.t1_order.proofs.heads.Heads.new.Goals as goal

pub invariant_of-result : goal.invariant_of-result
invariant_of-result c = (no_heads 128 refl, no_leaves 128)
