use Rattle.std.proofs.Common.{◌∙◌, ◌+◌, ◌/◌, ◌≤◌, [], length, refl}
use Rattle.std.proofs.lemmas.List.{take_all}
use Rattle.t1_io.proofs.Growth.{Grew-nil}
use Rattle.t1_log.specs.Log.{console_line_of}
use Rattle.t1_log.specs.Texts.{lines_from, blocks_from}
use Rattle.t1_log.proofs.Blocks.{length-blocks_from, get_or-blocks_from}
use Rattle.t1_log.proofs.Printing.{Grew-more, GrewPart-more, on_err}
use Rattle.t1_log.proofs.console.print_console.Goals as goal

pub loop-number-init : goal.loop-number-init
unfolding lines_from
loop-number-init g c = record { faults = refl; printed = Grew-nil _ }

pub loop-number-preserved : goal.loop-number-preserved
loop-number-preserved g c =
    let n = (length c.args.bytes.now + 31) / 32 in
    record {
      faults = c.in_ok-write_line.ensures.cause.kept ∙ c.loop-number.invariant.faults;
      printed = Grew-more console_line_of (blocks_from n c.args.bytes.now) c.loop-number.number [] _ _ _
          (rw (length-blocks_from n c.args.bytes.now) c.loop-number-test.true) c.loop-number.invariant.printed
          (rw (get_or-blocks_from n c.loop-number.number c.args.bytes.now c.loop-number-test.true, ← c.bytes_at.ensures.value, ← c.console_line.ensures) c.in_ok-write_line.ensures.all);
    }

pub returns-in_err-write_line-clause-part : goal.returns-in_err-write_line-clause-part
returns-in_err-write_line-clause-part g c =
    let n = (length c.args.bytes.now + 31) / 32 in
    on_err _ _ (GrewPart-more console_line_of (blocks_from n c.args.bytes.now) c.loop-number.number [] _ _ _
    (rw (length-blocks_from n c.args.bytes.now) c.loop-number-test.true) c.loop-number.invariant.printed
    (rw (get_or-blocks_from n c.loop-number.number c.args.bytes.now c.loop-number-test.true, ← c.bytes_at.ensures.value, ← c.console_line.ensures) c.in_err-write_line.ensures.part))

pub returns-clause-all : goal.returns-clause-all
returns-clause-all g c =
    let n = (length c.args.bytes.now + 31) / 32 in
    let blocks = blocks_from n c.args.bytes.now in
    let whole : length blocks ≤ c.loop-number.number = rw (length-blocks_from n c.args.bytes.now) c.loop-number-test.false in
    rw (take_all c.loop-number.number blocks whole) at c.loop-number.invariant.printed
