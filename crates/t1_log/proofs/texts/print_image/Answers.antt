use Rattle.std.proofs.Common.{◌∙◌, ◌/◌, ◌≤◌, [], length, refl}
use Rattle.std.proofs.lemmas.List.{take_all}
use Rattle.t1_io.proofs.Growth.{Grew-nil}
use Rattle.t1_log.specs.Texts.{lines_from, blocks_from, block_lines_of}
use Rattle.t1_log.proofs.Blocks.{length-blocks_from, get_or-blocks_from}
use Rattle.t1_log.proofs.Printing.{Grew-more, GrewPart-more, on_err}
use Rattle.t1_log.proofs.texts.print_image.Goals as goal

pub loop-number-init : goal.loop-number-init
unfolding lines_from
loop-number-init g c = record { faults = refl; printed = Grew-nil _ }

pub loop-number-preserved : goal.loop-number-preserved
loop-number-preserved g c =
    let n = length c.args.ram.now / 32 in
    record {
      faults = c.in_ok-print_block.ensures.cause.kept ∙ c.loop-number.invariant.faults;
      printed = Grew-more block_lines_of (blocks_from n c.args.ram.now) c.loop-number.number [] _ _ _
          (rw (length-blocks_from n c.args.ram.now) c.loop-number-test.true) c.loop-number.invariant.printed
          (rw (get_or-blocks_from n c.loop-number.number c.args.ram.now c.loop-number-test.true, ← c.block_at.ensures.value) c.in_ok-print_block.ensures.all);
    }

pub returns-in_err-print_block-clause-part : goal.returns-in_err-print_block-clause-part
returns-in_err-print_block-clause-part g c =
    let n = length c.args.ram.now / 32 in
    on_err _ _ (GrewPart-more block_lines_of (blocks_from n c.args.ram.now) c.loop-number.number [] _ _ _
    (rw (length-blocks_from n c.args.ram.now) c.loop-number-test.true) c.loop-number.invariant.printed
    (rw (get_or-blocks_from n c.loop-number.number c.args.ram.now c.loop-number-test.true, ← c.block_at.ensures.value) c.in_err-print_block.ensures.part))

pub returns-clause-all : goal.returns-clause-all
returns-clause-all g c =
    let n = length c.args.ram.now / 32 in
    let blocks = blocks_from n c.args.ram.now in
    let whole : length blocks ≤ c.loop-number.number = rw (length-blocks_from n c.args.ram.now) c.loop-number-test.false in
    rw (take_all c.loop-number.number blocks whole) at c.loop-number.invariant.printed
