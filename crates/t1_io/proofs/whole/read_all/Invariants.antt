use Rattle.std.proofs.Common.{◌≡◌, ◌≤◌, ◌-◌, length, take}
use Rattle.std.specs.Io.KnownBytes.{Consumes}
use Rattle.t1_io.proofs.whole.read_all.Given as goal

abbrev pub invariant-loop-all : goal.invariant-loop-all
invariant-loop-all g l = record {
  within : l.came ≤ l.most;
  room : l.came ≤ length l.all.items;
  faults : g.S.Source.faults l.source ≡ g.S.Source.faults l.initial.source;
  bytes : Consumes (g.S.Source.left l.initial.source) (g.S.Source.left l.source) (take l.came l.all.items);
}

abbrev pub decreases-loop-all : goal.decreases-loop-all
decreases-loop-all g l = l.most - l.came
