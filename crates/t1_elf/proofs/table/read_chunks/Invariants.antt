use Rattle.std.proofs.Common.{◌≡◌, ◌+◌, ◌-◌, ◌*◌, ◌++◌, map}
use Rattle.std.specs.Prelude.{filter}
use Rattle.t1_elf.specs.Fields.{headers_from}
use Rattle.t1_elf.specs.Parsed.{chunk_of, chunks_of}
use Rattle.t1_elf.specs.Tests.{is_segment}
use Rattle.t1_elf.proofs.table.read_chunks.Given as goal

abbrev pub invariant-loop-number : goal.invariant-loop-number
invariant-loop-number l =
    l.chunks ++ map (chunk_of l.file.value.items) (filter is_segment (headers_from l.file.value.items (l.table + l.number * 56) (l.count - l.number)))
    ≡ chunks_of l.file.value.items
