use Rattle.std.proofs.Common.{◌≡◌, length, arith}
use Rattle.std.proofs.lemmas.List.{length-map}
use Rattle.t1_event.specs.declared.trace.Trace.{Trace}
use Rattle.t1_event.specs.Items.{items_of}
use Rattle.t1_machine_tests.proofs.Data.{orderable}
use Rattle.t1_machine_tests.proofs.checked.are_orderable.Goals as goal

pub returns : goal.returns
returns c = λ good.
    let traces = items_of c.args.traces.now in
    let same : length traces ≡ length c.args.traces.now = length-map c.args.traces.now (λ (t : Trace). t.items) in
    let most = c.if-traces-gt64.false in
    orderable traces c.args.log.now (omega (arith, same, most)) (c.are_strands.ensures c.if-not-are_strands.false) (c.are_commits.ensures good)
