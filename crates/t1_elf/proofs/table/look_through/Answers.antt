use Rattle.std.proofs.Common.{◌+◌, ◌*◌, ◌||◌, ◌∙◌, length, not, ap, sym}
use Rattle.t1_elf.specs.Tests.{is_dynamic, is_segment, is_outside, has_dynamic, has_no_segment, has_segment_outside}
use Rattle.t1_elf.proofs.Tables.{any_next, any_done}
use Rattle.t1_elf.proofs.table.look_through.Goals as goal

pub loop-number-preserved : goal.loop-number-preserved
loop-number-preserved c = record {
  dynamic =
      any_next is_dynamic c.args.file.now c.get_be-table.result c.loop-number.number c.get_be-count.result _ _ c.loop-number-test.true
      (c.with-found.ensures.dynamic ∙ ap (λ h. c.loop-number.found.dynamic || is_dynamic h) c.read_header-header.ensures)
      ∙ c.loop-number.invariant.dynamic;
  segment =
      any_next is_segment c.args.file.now c.get_be-table.result c.loop-number.number c.get_be-count.result _ _ c.loop-number-test.true
      (c.with-found.ensures.segment ∙ ap (λ h. c.loop-number.found.segment || is_segment h) c.read_header-header.ensures)
      ∙ c.loop-number.invariant.segment;
  outside =
      any_next (is_outside (length c.args.file.now) c.args.limit) c.args.file.now c.get_be-table.result c.loop-number.number c.get_be-count.result _ _ c.loop-number-test.true
      (c.with-found.ensures.outside ∙ ap (λ h. c.loop-number.found.outside || is_outside (length c.args.file.now) c.args.limit h) c.read_header-header.ensures)
      ∙ c.loop-number.invariant.outside;
}

pub returns-clause-dynamic : goal.returns-clause-dynamic
unfolding has_dynamic
returns-clause-dynamic c =
    sym (any_done is_dynamic c.args.file.now (c.get_be-table.result + c.loop-number.number * 56) c.loop-number.number c.get_be-count.result c.loop-number.found.dynamic c.loop-number-test.false)
    ∙ c.loop-number.invariant.dynamic

pub returns-clause-segment : goal.returns-clause-segment
unfolding has_no_segment
returns-clause-segment c = ap not (
    sym (any_done is_segment c.args.file.now (c.get_be-table.result + c.loop-number.number * 56) c.loop-number.number c.get_be-count.result c.loop-number.found.segment c.loop-number-test.false)
    ∙ c.loop-number.invariant.segment
    )

pub returns-clause-outside : goal.returns-clause-outside
unfolding has_segment_outside
returns-clause-outside c =
    sym (any_done (is_outside (length c.args.file.now) c.args.limit) c.args.file.now (c.get_be-table.result + c.loop-number.number * 56) c.loop-number.number c.get_be-count.result c.loop-number.found.outside c.loop-number-test.false)
    ∙ c.loop-number.invariant.outside
