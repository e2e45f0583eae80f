use Rattle.std.proofs.Common.{◌/◌, ◌∙◌, set, subst, sym, arith}
use Rattle.std.proofs.lemmas.List.{length-set, drop-set-lt}
use Rattle.t1_order.proofs.Tree.{IsTreeBut, leaf_written, node_written, leaves_at}
use Rattle.t1_order.proofs.heads.write_leaf.Goals as goal

pub loop-node-init : goal.loop-node-init
loop-node-init c =
    let nodes = c.args.nodes.now in
    let leaf = c.args.leaf in
    record {
      all = length-set nodes leaf c.args.head ∙ c.requires.tree.all;
      inner = omega (arith, c.requires.leaf.1);
      tree = leaf_written nodes leaf c.args.head c.requires.leaf.0 c.requires.tree;
      leaves = leaves_at nodes leaf c.args.head c.requires.leaf.0;
    }

pub loop-node-preserved : goal.loop-node-preserved
loop-node-preserved c =
    let nodes = c.loop-node.nodes in
    let node = c.loop-node.node in
    let i = c.loop-node.invariant in
    record {
      all = length-set nodes node c.lesser.result ∙ i.all;
      inner = omega (arith, i.inner);
      tree =
          subst (λ x. IsTreeBut (set nodes node x) (node / 2)) (sym c.lesser.ensures) (node_written nodes node i.all c.loop-node-test.true i.inner i.tree);
      leaves = drop-set-lt 64 nodes node c.lesser.result (omega (arith, i.inner)) ∙ i.leaves;
    }
