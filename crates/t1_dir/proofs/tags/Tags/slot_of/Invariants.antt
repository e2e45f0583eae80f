-- The scan from the start gives what the scan from here gives.
use Rattle.std.proofs.Common.{◌≡◌, ◌+◌, ◌-◌}
use Rattle.t1_shape.specs.Slots.{slot_of, scan}
use Rattle.t1_dir.proofs.tags.Tags.slot_of.Given as goal

abbrev pub invariant-loop-way : goal.invariant-loop-way
invariant-loop-way l = slot_of (record { ways = l.ways; sets = l.sets }) l.self l.line ≡ scan l.self l.line (l.first + l.way) (l.ways - l.way)
