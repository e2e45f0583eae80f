use Rattle.std.proofs.Common.{sym, subst, ℕ}
use Rattle.std.proofs.lemmas.List.{length-map}
use Rattle.std.specs.Option.{MatchOption}
use Rattle.std.specs.Result.{IfOk}
use Rattle.t1_event.specs.declared.trace.Trace.{Trace}
use Rattle.t1_event.specs.Items.{items_of}
use Rattle.t1_check.specs.Rules.{AreObeyed, IsFaultAt}
use Rattle.t1_check.proofs.Faults.{rule_means}
use Rattle.t1_check.proofs.axioms.rule_fault.Goals as goal

pub returns : goal.returns
returns c =
    let strands = sym (length-map c.args.traces.now (λ (t : Trace). t.items)) in
    rule_means (items_of c.args.traces.now) c.args.order.now c.args.table.now c.requires.told c.args.rule c.rule_places.result
    (subst
    (λ (n : ℕ). IfOk c.rule_places.result (λ o. MatchOption o (AreObeyed c.args.rule (items_of c.args.traces.now) c.args.table.now n) (λ f. IsFaultAt c.args.rule (items_of c.args.traces.now) c.args.table.now f.0 f.1)))
    strands
    c.rule_places.ensures)
