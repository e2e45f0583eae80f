use Rattle.std.proofs.Common.{◌≡◌, ◌∙◌, [], get_or, subst, inl, inr, arith}
use Rattle.std.proofs.lemmas.Bool.{cases_lt}
use Rattle.t1_event.specs.Items.{items_of}
use Rattle.t1_machine_tests.specs.Checked.{IsStrand}
use Rattle.t1_order.proofs.Steps.{items_at}
use Rattle.t1_machine_tests.proofs.checked.are_strands.Goals as goal

pub loop-strand-preserved : goal.loop-strand-preserved
loop-strand-preserved c = λ strand low.
    let log = c.args.log.now in
    let traces = items_of c.args.traces.now in
    let count = c.loop-strand.strand in
    let items = c.as_slice.ensures ∙ items_at c.args.traces.now count c.index-traces-strand.result c.loop-strand-test.true in
    elim (cases_lt strand count) [
      | inl below ↦ c.loop-strand.invariant strand below
      | inr high ↦
          let n : count ≡ strand = omega (arith, low, high) in
          subst (λ s. IsStrand log s (get_or traces s [])) n (subst (λ xs. IsStrand log count xs) items (c.is_strand.ensures c.if-not-is_strand.false))
    ]
