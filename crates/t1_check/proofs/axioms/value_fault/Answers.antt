use Rattle.t1_event.specs.Items.{items_of}
use Rattle.t1_check.proofs.Faults.{value_means}
use Rattle.t1_check.proofs.axioms.value_fault.Goals as goal

pub returns : goal.returns
returns c = value_means c.args.image.now (items_of c.args.traces.now) c.args.order.now c.args.table.now c.requires.told c.value_places.result c.value_places.ensures
