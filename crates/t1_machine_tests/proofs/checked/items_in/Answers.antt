use Rattle.std.proofs.Common.{◌≡◌, ◌+◌, ◌∙◌, length, ap, arith}
use Rattle.std.proofs.lemmas.List.{length-map}
use Rattle.t1_event.specs.declared.trace.Trace.{Trace}
use Rattle.t1_event.specs.Items.{items_of}
use Rattle.t1_order.proofs.Steps.{items_at}
use Rattle.t1_machine_tests.proofs.Data.{count_more}
use Rattle.t1_machine_tests.proofs.checked.items_in.Goals as goal

pub loop-strand-preserved : goal.loop-strand-preserved
loop-strand-preserved c =
    let traces = items_of c.args.traces.now in
    let strand = c.loop-strand.strand in
    let within = c.loop-strand-test.true in
    let same : length traces ≡ length c.args.traces.now = length-map c.args.traces.now (λ (t : Trace). t.items) in
    let items = c.as_slice.ensures ∙ items_at c.args.traces.now strand c.index-traces-strand.result within in
    count_more traces strand c.loop-strand.count c.in-Some.next (omega (arith, within, same)) c.loop-strand.invariant (c.in-Some.ensures.1 ∙ ap (λ n. c.loop-strand.count + n) (ap length items))
