use Rattle.std.proofs.Common.{◌≡◌, drop}
use Rattle.t1_form.specs.Names.{named, seen_rows}
use Rattle.t1_form.proofs.names.find.Given as goal

abbrev pub invariant-loop-row : goal.invariant-loop-row
invariant-loop-row g l = named l.name (seen_rows (drop l.row-index l.rows)) ≡ named l.name (seen_rows l.rows)
