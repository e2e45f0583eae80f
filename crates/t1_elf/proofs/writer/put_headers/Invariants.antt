use Rattle.std.proofs.Common.{◌≡◌, ◌+◌, ◌*◌, ◌++◌, drop, length}
use Rattle.t1_elf.specs.Saved.{contents_of, program_headers_from}
use Rattle.t1_elf.proofs.writer.put_headers.Given as goal

abbrev pub invariant-loop-chunk : goal.invariant-loop-chunk
invariant-loop-chunk l = record {
  headers : l.file.items ++ program_headers_from l.offset (drop l.chunk-index l.chunks)
      ≡ l.initial.file.items ++ program_headers_from (64 + 56 * length l.chunks) l.chunks;
  offset : l.offset + length (contents_of (drop l.chunk-index l.chunks)) ≡ 64 + 56 * length l.chunks + length (contents_of l.chunks);
}
