use Rattle.std.proofs.Common.{◌≡◌, ◌≤◌, ◌++◌, ℕ, List, drop, All}
use Rattle.t1_event.specs.declared.report.Place.{Place}
use Rattle.t1_log.specs.Lines.{place_line_of}
use Rattle.t1_log.specs.Texts.{order_lines_of}
use Rattle.t1_take.specs.Taken.{Reads}
use Rattle.t1_read.specs.Exact.{NextIsNot}
use Rattle.t1_take.specs.WellFormed.{IsGoodPlace}
use Rattle.t1_take.proofs.Leaving.{IsLeft}
use Rattle.t1_read.proofs.tail.read_order.Given as goal

abbrev pub invariant-loop-line : goal.invariant-loop-line
invariant-loop-line l = record {
  good : All (IsGoodPlace l.strands) l.order;
  low : l._line ≤ l.lines.at;
  reads : Reads l.text l.initial.lines.at l.lines.at (order_lines_of l.order);
  finds : (all : List Place) (rest : List ℕ) → All (IsGoodPlace l.strands) all → NextIsNot 111 rest → drop l.initial.lines.at l.text ≡ order_lines_of all ++ rest
      → IsLeft (λ number place. place_line_of place) l.text l.lines.at l.order all rest;
}
