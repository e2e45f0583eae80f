use Rattle.std.proofs.Common.{◌≡◌, take}
use Rattle.t1_io.specs.Held.{Grew}
use Rattle.t1_log.specs.Texts.{order_lines_of}
use Rattle.t1_log.proofs.texts.print_order.Given as goal

abbrev pub invariant-loop-place : goal.invariant-loop-place
invariant-loop-place g l = record {
  faults : g.K.Sink.faults l.sink ≡ g.K.Sink.faults l.initial.sink;
  printed : Grew (g.K.Sink.held l.initial.sink) (g.K.Sink.held l.sink) (order_lines_of (take l.place-index l.order));
}
