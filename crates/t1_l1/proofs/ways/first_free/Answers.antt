use Rattle.std.proofs.Common.{sym, ◌∙◌, arith}
use Rattle.t1_l1.proofs.Scan.{search_begins, search_goes_on, search_finds, search_ends}
use Rattle.t1_l1.proofs.ways.first_free.Goals as goal

pub loop-way-init : goal.loop-way-init
loop-way-init c = search_begins c.args.tags.now c.args.first c.args.ways

pub returns-then-is_free-clause-value : goal.returns-then-is_free-clause-value
returns-then-is_free-clause-value c =
    sym (c.loop-way.invariant ∙ search_finds c.args.tags.now c.args.first c.loop-way.way c.args.ways (omega arith) (sym c.is_free.ensures ∙ c.if-is_free.true))

pub loop-way-preserved : goal.loop-way-preserved
loop-way-preserved c =
    c.loop-way.invariant ∙ search_goes_on c.args.tags.now c.args.first c.loop-way.way c.args.ways (omega arith) (sym c.is_free.ensures ∙ c.if-is_free.false)

pub returns-clause-value : goal.returns-clause-value
returns-clause-value c = sym (c.loop-way.invariant ∙ search_ends c.args.tags.now c.args.first c.loop-way.way c.loop-way.way c.args.ways (omega arith))
