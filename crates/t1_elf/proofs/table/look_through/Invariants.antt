use Rattle.std.proofs.Common.{◌≡◌, ◌+◌, ◌-◌, ◌*◌, ◌||◌}
use Rattle.std.specs.List.{list_any}
use Rattle.t1_elf.specs.Fields.{headers_from, headers_of}
use Rattle.t1_elf.specs.Tests.{is_dynamic, is_segment, is_outside}
use Rattle.std.proofs.Common.{length}
use Rattle.t1_elf.proofs.table.look_through.Given as goal

abbrev pub invariant-loop-number : goal.invariant-loop-number
invariant-loop-number l = record {
  dynamic : (l.found.dynamic || list_any is_dynamic (headers_from l.file (l.table + l.number * 56) (l.count - l.number)))
      ≡ list_any is_dynamic (headers_of l.file);
  segment : (l.found.segment || list_any is_segment (headers_from l.file (l.table + l.number * 56) (l.count - l.number)))
      ≡ list_any is_segment (headers_of l.file);
  outside : (l.found.outside || list_any (is_outside (length l.file) l.limit) (headers_from l.file (l.table + l.number * 56) (l.count - l.number)))
      ≡ list_any (is_outside (length l.file) l.limit) (headers_of l.file);
}
