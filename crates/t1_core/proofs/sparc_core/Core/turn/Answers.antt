-- The strand at the place acted, and goes to the end of the queue.
use Rattle.std.proofs.Common.{◌≡◌, ◌∙◌, Option, None, sym, ap, rules}
use Rattle.t1_core.specs.Turns.{Turned}
use Rattle.t1_core.specs.declared.answers.Did.{Did}
use Rattle.t1_core.proofs.Quiet.{turn_core, turn_did, turn_none}
use Rattle.t1_core.proofs.Turning.{acted_within}
use Rattle.t1_core.proofs.sparc_core.Core.turn.Goals as goal

pub move_last-requires : goal.move_last-requires
move_last-requires c = acted_within _ _ _ _ _ c.in_ok-acted.ensures.some

pub returns-clause-core : goal.returns-clause-core
returns-clause-core c = c.move_last.ensures ∙ turn_core _ _ _ _ _ c.in_ok-acted.ensures.some

pub returns-clause-did : goal.returns-clause-did
returns-clause-did c = turn_did _ _ _ _ _ c.in_ok-acted.ensures.some

pub returns-in_err-acted-clause-core : goal.returns-in_err-acted-clause-core
returns-in_err-acted-clause-core c =
    let n = c.in_err-acted.ensures.none in
    n.1 ∙ sym (ap (λ (k : Turned). k.core) (turn_none c.args.self.now c.args.room n.0))

pub returns-in_err-acted-clause-did : goal.returns-in_err-acted-clause-did
returns-in_err-acted-clause-did c =
    let n = c.in_err-acted.ensures.none in
    let e : ◌≡◌ {A = Option Did} c.from_residual.result None = search rules in
    e ∙ sym (ap (λ (k : Turned). k.did) (turn_none c.args.self.now c.args.room n.0))
