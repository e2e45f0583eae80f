use Rattle.t1_event.specs.Items.{items_of}
use Rattle.t1_check.specs.Rules.{AreObeyed}
use Rattle.t1_check.proofs.rules.fault.Given as goal

abbrev pub invariant-loop-strand : goal.invariant-loop-strand
invariant-loop-strand l = AreObeyed l.rule (items_of l.traces) l.table l.strand
