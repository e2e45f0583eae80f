use Rattle.std.proofs.Common.{◌≡◌, ◌+◌, length, set, refl, sym, ◌∙◌, subst, arith}
use Rattle.std.proofs.lemmas.List.{length-map}
use Rattle.t1_event.specs.declared.trace.Trace.{Trace}
use Rattle.t1_event.specs.Items.{items_of}
use Rattle.t1_order.proofs.Steps.{items_at}
use Rattle.t1_order.proofs.Start.{IsStarted, none_started, one_strand, all_started, none_listed}
use Rattle.t1_order.proofs.merge.rest_of.Goals as goal

pub loop-strand-init : goal.loop-strand-init
loop-strand-init c = none_started (items_of c.args.traces.now) 64 c.new-times.result refl c.new-times.ensures

pub loop-strand-preserved : goal.loop-strand-preserved
loop-strand-preserved c =
    let traces = items_of c.args.traces.now in
    let strand = c.loop-strand.strand in
    let number = c.next_from-number.result.number in
    let time = c.next_from-number.result.time in
    let within = c.loop-strand-test.true in
    let few = c.requires in
    let items = c.as_slice.ensures ∙ items_at c.args.traces.now strand c.index-traces-strand.result within in
    subst (λ ts. IsStarted traces (strand + 1) (set c.loop-strand.numbers strand number) ts) (sym c.put.ensures) (one_strand traces strand c.loop-strand.numbers c.loop-strand.times c.as_slice.result.now number time c.loop-strand.invariant (omega (arith, within, few)) items c.next_from-number.ensures.next c.next_from-number.ensures.first)

pub returns : goal.returns
returns c =
    let traces = items_of c.args.traces.now in
    let most = c.loop-strand.auto.strand-end in
    let past = c.loop-strand-test.false in
    let same : length traces ≡ length c.args.traces.now = length-map c.args.traces.now (λ (t : Trace). t.items) in
    let all : c.loop-strand.strand ≡ length traces = omega (arith, most, past, same) in
    let s = subst (λ n. IsStarted traces n c.loop-strand.numbers c.loop-strand.times) all c.loop-strand.invariant in
    record {
      rest = all_started traces c.loop-strand.numbers c.loop-strand.times (record { numbers = c.loop-strand.numbers; times = c.loop-strand.times; commits = 0 }) refl refl s;
      none = none_listed traces c.loop-strand.numbers c.loop-strand.times (record { numbers = c.loop-strand.numbers; times = c.loop-strand.times; commits = 0 }) refl refl s;
    }
