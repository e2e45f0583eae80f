-- A log is of one report.
use Rattle.std.specs.Prelude.{◌≡◌}
use Rattle.t1_event.specs.declared.report.Report.{Report}
use Rattle.t1_log.specs.Log.{text_of}
use Rattle.t1_take.specs.WellFormed.{IsWellFormed}
use Rattle.t1_read.specs.Exact.{HasBytes}

-- two well-formed reports of one text are one, where their memories and their consoles hold bytes
abbrev pub NoTwoReportsHaveOneText : Type 0
NoTwoReportsHaveOneText =
    (one other : Report) → IsWellFormed one → HasBytes one → IsWellFormed other → HasBytes other
    → text_of one ≡ text_of other → one ≡ other
