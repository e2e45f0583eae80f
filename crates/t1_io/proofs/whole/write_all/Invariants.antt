use Rattle.std.proofs.Common.{◌≡◌, ◌≤◌, ◌-◌, length, take}
use Rattle.t1_io.specs.Held.{Grew}
use Rattle.t1_io.proofs.whole.write_all.Given as goal

abbrev pub invariant-loop-done : goal.invariant-loop-done
invariant-loop-done g l = record {
  within : l.done ≤ length l.piece;
  faults : g.K.Sink.faults l.sink ≡ g.K.Sink.faults l.initial.sink;
  bytes : Grew (g.K.Sink.held l.initial.sink) (g.K.Sink.held l.sink) (take l.done l.piece);
}

abbrev pub decreases-loop-done : goal.decreases-loop-done
decreases-loop-done g l = length l.piece - l.done
