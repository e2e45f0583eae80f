use Rattle.std.proofs.Common.{◌≡◌, ◌++◌, drop}
use Rattle.t1_elf.specs.Saved.{contents_of}
use Rattle.t1_elf.proofs.writer.put_contents.Given as goal

abbrev pub invariant-loop-chunk : goal.invariant-loop-chunk
invariant-loop-chunk l = l.file.items ++ contents_of (drop l.chunk-index l.chunks) ≡ l.initial.file.items ++ contents_of l.chunks
