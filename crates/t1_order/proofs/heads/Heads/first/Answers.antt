use Rattle.std.proofs.Common.{None, get_or, subst}
use Rattle.t1_order.specs.Heads.{IsFirst}
use Rattle.t1_order.proofs.Tree.{first_is}
use Rattle.t1_order.proofs.heads.Heads.first.Goals as goal

pub returns : goal.returns
returns c =
    let nodes = c.self.inside.nodes in
    subst (λ times. IsFirst times (get_or nodes 1 None)) c.self.view_is (first_is nodes c.self.invariant.0 c.self.invariant.1)
