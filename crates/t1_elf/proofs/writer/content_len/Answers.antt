use Rattle.std.proofs.Common.{length, ap, arith}
use Rattle.t1_elf.proofs.Chunks.{contents_shrink, no_contents}
use Rattle.t1_elf.proofs.writer.content_len.Goals as goal

pub overflow_add-len : goal.overflow_add-len
overflow_add-len c =
    omega (
      arith,
      c.requires,
      c.loop-chunk.invariant,
      ap length c.as_slice.ensures,
      contents_shrink c.args.chunks.now c.loop-chunk.chunk-index c.chunk-item.result c.loop-chunk-test.true c.chunk-item.is,
    )

pub loop-chunk-preserved : goal.loop-chunk-preserved
loop-chunk-preserved c =
    omega (
      arith,
      c.loop-chunk.invariant,
      ap length c.as_slice.ensures,
      contents_shrink c.args.chunks.now c.loop-chunk.chunk-index c.chunk-item.result c.loop-chunk-test.true c.chunk-item.is,
    )

pub returns : goal.returns
returns c =
    omega (arith, c.loop-chunk.invariant, ap length (no_contents c.args.chunks.now c.loop-chunk.chunk-index c.loop-chunk-test.false))
