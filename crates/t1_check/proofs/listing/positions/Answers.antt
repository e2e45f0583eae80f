use Rattle.std.proofs.Common.{◌≡◌, length, arith, subst, ℕ}
use Rattle.std.proofs.lemmas.Option.{slice_get-get_or}
use Rattle.t1_event.specs.Items.{items_of}
use Rattle.t1_check.specs.Positions.{IsMarked, no_place}
use Rattle.t1_check.proofs.Marking.{first_bad}
use Rattle.t1_check.proofs.listing.positions.Goals as goal

pub returns-then-not-mark : goal.returns-then-not-mark
returns-then-not-mark c =
    first_bad (items_of c.args.traces.now) c.args.order.now c.loop-line.line c.loop-line.table _ c.loop-line.invariant
    (slice_get-get_or c.args.order.now c.loop-line.line no_place c.loop-line-test.true) c.if-not-mark.ensures

pub returns : goal.returns
returns c =
    let end : c.loop-line.line ≡ length c.args.order.now = omega (arith, c.loop-line.auto.line-end, c.loop-line-test.false) in
    subst (λ (n : ℕ). IsMarked (items_of c.args.traces.now) c.args.order.now n c.loop-line.table) end c.loop-line.invariant
