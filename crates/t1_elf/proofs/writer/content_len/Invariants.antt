use Rattle.std.proofs.Common.{◌≡◌, ◌+◌, drop, length}
use Rattle.t1_elf.specs.Saved.{contents_of}
use Rattle.t1_elf.proofs.writer.content_len.Given as goal

abbrev pub invariant-loop-chunk : goal.invariant-loop-chunk
invariant-loop-chunk l = l.len + length (contents_of (drop l.chunk-index l.chunks)) ≡ length (contents_of l.chunks)
