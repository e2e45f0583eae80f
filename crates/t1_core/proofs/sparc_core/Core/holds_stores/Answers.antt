-- All strands were looked at.
use Rattle.std.proofs.Common.{◌≡◌, false, arith, sym}
use Rattle.std.proofs.lemmas.Grind.{common_steps}
use Rattle.t1_core.specs.Quick.{are_stores_held}
use Rattle.t1_core.proofs.Holds.{none_held}
use Rattle.t1_core.proofs.sparc_core.Core.holds_stores.Goals as goal

pub returns-clause-none : goal.returns-clause-none
returns-clause-none c = λ none.
    let all : false ≡ are_stores_held c.args.self.now.threads = grind (arith, common_steps) in
    none_held c.args.self.now.threads (sym all)
