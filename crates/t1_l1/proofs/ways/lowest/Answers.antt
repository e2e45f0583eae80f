use Rattle.std.proofs.Common.{sym, ◌∙◌, arith}
use Rattle.t1_l1.proofs.Scan.{scan_begins, scan_goes_on, scan_finds, scan_ends}
use Rattle.t1_l1.proofs.ways.lowest.Goals as goal

pub loop-way-init : goal.loop-way-init
loop-way-init c = scan_begins c.args.tags.now c.args.line c.args.first c.args.ways

pub returns-then-holds_at-clause-slot : goal.returns-then-holds_at-clause-slot
returns-then-holds_at-clause-slot c =
    sym (c.loop-way.invariant ∙ scan_finds c.args.tags.now c.args.line c.args.first c.loop-way.way c.args.ways (omega arith) (sym c.holds_at.ensures ∙ c.if-holds_at.true))

pub loop-way-preserved : goal.loop-way-preserved
loop-way-preserved c =
    c.loop-way.invariant ∙ scan_goes_on c.args.tags.now c.args.line c.args.first c.loop-way.way c.args.ways (omega arith) (sym c.holds_at.ensures ∙ c.if-holds_at.false)

pub returns-clause-slot : goal.returns-clause-slot
returns-clause-slot c = sym (c.loop-way.invariant ∙ scan_ends c.args.tags.now c.args.line _ c.loop-way.way c.args.ways (omega arith))
