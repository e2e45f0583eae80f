use Rattle.std.proofs.Common.{◌∙◌, sym}
use Rattle.t1_elf.proofs.Chunks.{put_next, put_all}
use Rattle.t1_elf.proofs.writer.put_contents.Goals as goal

pub loop-chunk-preserved : goal.loop-chunk-preserved
loop-chunk-preserved c =
    put_next c.loop-chunk.file.items c.extend_from_slice.new.self.items c.as_slice.result.now c.args.chunks.now c.loop-chunk.chunk-index c.chunk-item.result
    c.loop-chunk-test.true c.chunk-item.is c.in_ok-extend_from_slice.ensures.items c.as_slice.ensures
    ∙ c.loop-chunk.invariant

pub returns : goal.returns
returns c = sym (put_all c.loop-chunk.file.items c.args.chunks.now c.loop-chunk.chunk-index c.loop-chunk-test.false) ∙ c.loop-chunk.invariant
