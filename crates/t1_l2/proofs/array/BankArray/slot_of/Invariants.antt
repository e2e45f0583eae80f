-- The scan from the start gives what the scan from here gives.
use Rattle.std.proofs.Common.{◌≡◌, ◌+◌, ◌-◌}
use Rattle.t1_shape.specs.Slots.{scan}
use Rattle.t1_l2.specs.Array.{slot_in}
use Rattle.t1_l2.proofs.array.BankArray.slot_of.Given as goal

abbrev pub invariant-loop-way : goal.invariant-loop-way
invariant-loop-way l = slot_in l.self l.line ≡ scan l.self.tags l.line (l.first + l.way) (l.ways - l.way)
