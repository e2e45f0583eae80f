-- The search from the start gives what the search from here gives.
use Rattle.std.proofs.Common.{◌≡◌, ◌-◌, get_or}
use Rattle.t1_shape.specs.Slots.{empty_way, way_or}
use Rattle.t1_l2.specs.Array.{victim_in}
use Rattle.t1_l2.proofs.array.BankArray.victim.Given as goal

abbrev pub invariant-loop-way : goal.invariant-loop-way
invariant-loop-way l = victim_in l.self l.line ≡ way_or (empty_way l.self.tags l.first l.way (l.ways - l.way)) (get_or l.self.pointers l.set 0)
