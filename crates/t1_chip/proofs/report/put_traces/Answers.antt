use Rattle.std.proofs.Common.{◌≡◌, ◌∙◌, ◌++◌, List, length, sym, ap, arith, append_assoc, length-append}
use Rattle.t1_event.specs.declared.trace.Trace.{Trace}
use Rattle.t1_core.specs.Steps.{CoreState}
use Rattle.t1_core.specs.Ends.{traces_of}
use Rattle.t1_machine_rule.specs.Parts.{traces_in}
use Rattle.t1_chip.proofs.report.put_traces.Goals as goal

pub put_core-requires : goal.put_core-requires
put_core-requires c =
    let here = ap (λ (cs : List CoreState). length (traces_in cs)) c.in-Some.ensures.steps.0 in
    let split = length-append (traces_of c.in-Some.core) (traces_in c.next.new.self.rest.items) in
    let own = ap (λ (ts : List Trace). length ts) c.into_traces.ensures in
    omega (arith, c.loop-core.invariant.room, here, split, own)

pub loop-core-preserved : goal.loop-core-preserved
loop-core-preserved c =
    let out : List Trace = c.loop-core.out.items in
    let rest : List Trace = traces_in c.next.new.self.rest.items in
    let grown : c.put_core.new.out.items ≡ out ++ traces_of c.in-Some.core = c.put_core.ensures.items ∙ ap (λ (ts : List Trace). out ++ ts) c.into_traces.ensures in
    let here = ap (λ (cs : List CoreState). out ++ traces_in cs) c.in-Some.ensures.steps.0 in
    let long = ap (λ (ts : List Trace). length ts) grown in
    let count = ap (λ (cs : List CoreState). length (traces_in cs)) c.in-Some.ensures.steps.0 in
    let split = length-append (traces_of c.in-Some.core) rest in
    let both = length-append out (traces_of c.in-Some.core) in
    record {
      items = ap (λ (ts : List Trace). ts ++ rest) grown ∙ (append_assoc out (traces_of c.in-Some.core) rest ∙ (sym here ∙ c.loop-core.invariant.items));
      room = omega (arith, c.loop-core.invariant.room, c.put_core.ensures.room, count, split, long, both);
    }
