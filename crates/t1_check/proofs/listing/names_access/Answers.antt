use Rattle.std.proofs.Common.{sym}
use Rattle.t1_event.specs.Items.{items_of}
use Rattle.t1_check.proofs.Marking.{names_bool}
use Rattle.t1_check.proofs.listing.names_access.Goals as goal

pub returns-in-Some : goal.returns-in-Some
returns-in-Some c = names_bool (items_of c.args.traces.now) c.args.place c.in-Some.item c.is_access.result (sym c.in-Some.ensures) c.is_access.ensures
