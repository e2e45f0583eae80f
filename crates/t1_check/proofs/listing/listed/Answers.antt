use Rattle.std.proofs.Common.{length, subst, List, ℕ, Result}
use Rattle.std.specs.Result.{MatchResult}
use Rattle.t1_event.specs.Items.{items_of}
use Rattle.t1_event.specs.declared.report.Place.{Place}
use Rattle.t1_check.specs.Places.{IsFirstBadLine}
use Rattle.t1_check.specs.Positions.{IsMarked}
use Rattle.t1_check.proofs.Marking.{unlisted}
use Rattle.t1_check.proofs.listing.listed.Goals as goal

pub returns-in-Some : goal.returns-in-Some
returns-in-Some c =
    let marked : IsMarked (items_of c.args.traces.now) c.args.order.now (length c.args.order.now) c.in-Ok.table =
    subst
    (λ (r : Result (List (List ℕ)) Place). MatchResult r (λ t. IsMarked (items_of c.args.traces.now) c.args.order.now (length c.args.order.now) t) (λ p. IsFirstBadLine (items_of c.args.traces.now) c.args.order.now p))
    c.in-Ok.is
    c.in_ok-table.ensures in
    unlisted (items_of c.args.traces.now) c.args.order.now c.in-Ok.table c.in-Some.place marked c.in-Some.ensures
