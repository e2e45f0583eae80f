-- By what the definition tells of its answer.
use Rattle.std.proofs.Common.{◌∙◌, sym, subst}
use Rattle.t1_core.specs.declared.answers.Drained.{Drained}
use Rattle.t1_core.specs.Steps.{thread_drain}
use Rattle.t1_core.specs.Told.{DrainsStill}
use Rattle.t1_core.proofs.Quiet.{SendsNext, drained_tells}
use Rattle.t1_core.proofs.steps.drain.Goals as goal

pub send-requires : goal.send-requires
send-requires c =
    let x = c.args.asker in
    let t = c.args.thread.now in
    (subst (λ (d : Drained). SendsNext x t (thread_drain x t).thread d) (sym c.in-Sent.ensures) (drained_tells x t).sends).0

pub returns-in-Sent-clause-thread : goal.returns-in-Sent-clause-thread
returns-in-Sent-clause-thread c =
    let x = c.args.asker in
    let t = c.args.thread.now in
    c.send.ensures ∙ sym (subst (λ (d : Drained). SendsNext x t (thread_drain x t).thread d) (sym c.in-Sent.ensures) (drained_tells x t).sends).1

pub returns-in-Empty-clause-thread : goal.returns-in-Empty-clause-thread
returns-in-Empty-clause-thread c =
    let x = c.args.asker in
    let t = c.args.thread.now in
    sym (subst (λ (d : Drained). DrainsStill t (thread_drain x t).thread d) (sym c.in-Empty.ensures) (drained_tells x t).still)

pub returns-in-Out-clause-thread : goal.returns-in-Out-clause-thread
returns-in-Out-clause-thread c =
    let x = c.args.asker in
    let t = c.args.thread.now in
    sym (subst (λ (d : Drained). DrainsStill t (thread_drain x t).thread d) (sym c.in-Out.ensures) (drained_tells x t).still)

pub returns-in-NoRoom-clause-thread : goal.returns-in-NoRoom-clause-thread
returns-in-NoRoom-clause-thread c =
    let x = c.args.asker in
    let t = c.args.thread.now in
    sym (subst (λ (d : Drained). DrainsStill t (thread_drain x t).thread d) (sym c.in-NoRoom.ensures) (drained_tells x t).still)
