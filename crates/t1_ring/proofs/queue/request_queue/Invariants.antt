use Rattle.std.proofs.Common.{◌≡◌, ◌≤◌, [], vec_len, vec_capacity}
use Rattle.crossbeam_queue.specs.Passes.{IsPassOf}
use Rattle.t1_ring.specs.Queue.{seats_from}
use Rattle.t1_ring.specs.QueueRule.{known, taking}
use Rattle.t1_ring.proofs.queue.request_queue.Given as goal

abbrev pub invariant-loop : goal.invariant-loop
invariant-loop l = record {
  pass : IsPassOf l.line l.pass;
  knows : known l.pass ≡ taking [] l.counter [];
  seats : l.seats.items ≡ seats_from l.line.table.shared.table_id 0 l.counter;
  len : vec_len l.seats ≡ l.counter;
  room : l.cores ≤ vec_capacity l.seats;
}
