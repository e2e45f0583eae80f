use Rattle.t1_event.specs.Items.{items_of}
use Rattle.t1_check.proofs.Faults.{listed_means}
use Rattle.t1_check.proofs.axioms.listing.Goals as goal

pub returns : goal.returns
returns c = listed_means (items_of c.args.traces.now) c.args.order.now (λ t. t) c.listed.result c.listed.ensures
