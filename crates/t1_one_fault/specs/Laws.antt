-- The first line at fault of a text is one, and a log has none.
use Rattle.std.specs.Prelude.{ℕ, ◌≡◌, List}
use Rattle.t1_event.specs.declared.report.Report.{Report}
use Rattle.t1_log.specs.Log.{text_of}
use Rattle.t1_take.specs.WellFormed.{IsWellFormed}
use Rattle.t1_read.specs.declared.error.LogError.{LogError}
use Rattle.t1_read.specs.Exact.{HasBytes}
use Rattle.t1_read.specs.Faults.{IsFaultOf}

-- two errors that name the first fault of one text are one
abbrev pub ATextHasOneFault : Type 0
ATextHasOneFault = (text : List ℕ) (a b : LogError) → IsFaultOf text a.line a.kind → IsFaultOf text b.line b.kind → a ≡ b

-- no error names a fault of the log of a well-formed report, whose memory and console hold bytes
abbrev pub ALogHasNoFault : Type 0
ALogHasNoFault = (report : Report) (error : LogError) → IsWellFormed report → HasBytes report → IsFaultOf (text_of report) error.line error.kind → ⊥
