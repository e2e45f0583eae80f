use Rattle.std.proofs.Common.{◌+◌, ◌∙◌, length, ap, sym, arith}
use Rattle.t1_elf.proofs.Chunks.{contents_shrink, put_header_next, put_all_headers}
use Rattle.t1_elf.proofs.writer.put_headers.Goals as goal

pub overflow_add-offset-in-loop-chunk : goal.overflow_add-offset-in-loop-chunk
overflow_add-offset-in-loop-chunk c =
    omega (
      arith,
      c.requires.offsets,
      c.loop-chunk.invariant.offset,
      ap length c.as_slice.ensures,
      contents_shrink c.args.chunks.now c.loop-chunk.chunk-index c.chunk-item.result c.loop-chunk-test.true c.chunk-item.is,
    )

pub loop-chunk-preserved : goal.loop-chunk-preserved
loop-chunk-preserved c = record {
  headers =
      put_header_next c.loop-chunk.file.items c.extend_from_slice.new.self.items c.program_header.result c.loop-chunk.offset
      (c.loop-chunk.offset + length c.as_slice.result.now) c.args.chunks.now c.loop-chunk.chunk-index c.chunk-item.result
      c.loop-chunk-test.true c.chunk-item.is c.in_ok-extend_from_slice.ensures.items c.program_header.ensures
      (ap (λ b. c.loop-chunk.offset + length b) c.as_slice.ensures)
      ∙ c.loop-chunk.invariant.headers;
  offset =
      omega (
        arith,
        c.loop-chunk.invariant.offset,
        ap length c.as_slice.ensures,
        contents_shrink c.args.chunks.now c.loop-chunk.chunk-index c.chunk-item.result c.loop-chunk-test.true c.chunk-item.is,
      );
}

pub returns : goal.returns
returns c =
    sym (put_all_headers c.loop-chunk.file.items c.loop-chunk.offset c.args.chunks.now c.loop-chunk.chunk-index c.loop-chunk-test.false)
    ∙ c.loop-chunk.invariant.headers
