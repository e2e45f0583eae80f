use Rattle.std.proofs.lemmas.Option.{slice_get-get_or}
use Rattle.t1_machine_tests.proofs.Data.{times_go_on, placed_one_more, strand_is}
use Rattle.t1_machine_tests.proofs.checked.is_strand.Goals as goal

pub loop-number-preserved : goal.loop-number-preserved
loop-number-preserved c =
    let items = c.args.items.now in
    let number = c.loop-number.number in
    let i = c.loop-number.invariant in
    record {
      placed =
          placed_one_more c.args.log.now c.args.strand items number _ i.placed (slice_get-get_or items number _ c.loop-number-test.true) (c.is_placed_by.ensures c.if-not-is_placed_by.false);
      times =
          times_go_on items number c.loop-number.last c.in-Some.next _ i.times (slice_get-get_or items number _ c.loop-number-test.true) c.in-Some.ensures;
    }

pub returns : goal.returns
returns c = λ _.
    strand_is c.args.log.now c.args.strand c.args.items.now c.loop-number.number c.loop-number.last c.loop-number-test.false c.if-items-gt4294967296.false c.loop-number.invariant.placed c.loop-number.invariant.times
