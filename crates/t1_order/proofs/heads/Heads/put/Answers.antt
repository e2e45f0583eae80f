use Rattle.std.proofs.Common.{◌≡◌, ◌+◌, ◌-◌, ◌∙◌, drop, set, ap, arith}
use Rattle.t1_order.specs.Heads.{head_at}
use Rattle.t1_order.proofs.Tree.{leaves_stay, times_set}
use Rattle.t1_order.proofs.heads.Heads.put.Goals as goal

-- the leaf of the strand is written
written : (c : goal.After-write_leaf)
    → drop 64 c.write_leaf.new.nodes ≡ set (drop 64 c.self.inside.nodes) c.args.strand (head_at c.args.strand c.args.time)
written c =
    let leaf : 64 + c.args.strand - 64 ≡ c.args.strand = omega arith in
    let leaves = drop 64 c.self.inside.nodes in
    c.write_leaf.ensures.leaves ∙ ap (λ s. set leaves s c.head_at.result) leaf ∙ ap (λ x. set leaves c.args.strand x) c.head_at.ensures

pub invariant_of-self : goal.invariant_of-self
invariant_of-self c = (
  c.write_leaf.ensures.tree,
  leaves_stay c.self.inside.nodes c.write_leaf.new.nodes c.args.strand c.args.time c.self.invariant.0.all c.requires (written c) c.self.invariant.1,
)

pub returns : goal.returns
returns c =
    times_set c.self.inside.nodes c.write_leaf.new.nodes c.args.strand c.args.time (written c) ∙ ap (λ times. set times c.args.strand c.args.time) c.self.view_is
