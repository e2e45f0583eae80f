use Rattle.std.proofs.Common.{◌≡◌, ◌-◌, ◌<◌, length, drop, set}
use Rattle.t1_order.proofs.Tree.{IsTreeBut}
use Rattle.t1_order.proofs.heads.write_leaf.Given as goal

abbrev pub invariant-loop-node : goal.invariant-loop-node
invariant-loop-node l = record {
  all : length l.nodes ≡ 128;
  inner : l.node < 64;
  tree : IsTreeBut l.nodes l.node;
  leaves : drop 64 l.nodes ≡ set (drop 64 l.fn.nodes) (l.leaf - 64) l.fn.head;
}

abbrev pub decreases-loop-node : goal.decreases-loop-node
decreases-loop-node l = l.node
