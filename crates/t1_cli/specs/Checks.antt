-- What the command check makes of a log: a line that tells its verdict.
use Rattle.std.specs.Prelude.{ℕ, ◌≡◌, ◌<◌, List, ◌++◌, length, codes, decimal, Option, Some, None}
use Rattle.t1_event.specs.declared.report.Place.{Place}
use Rattle.t1_event.specs.declared.report.Report.{Report}
use Rattle.t1_check.specs.declared.verdict.Axiom.{Axiom}
use Rattle.t1_check.specs.declared.verdict.Axiom.TheVariants.{Listing, LoadOp, StoreStore, Value, Barrier}
use Rattle.t1_check.specs.declared.verdict.Verdict.{Verdict}
use Rattle.t1_check.specs.declared.verdict.Verdict.TheVariants.{Holds, Broken}
use Rattle.t1_log.specs.Log.{text_of}
use Rattle.t1_take.specs.WellFormed.{IsWellFormed}
use Rattle.t1_read.specs.Exact.{HasBytes}
use Rattle.t1_read.specs.Faults.{IsFaultOf}
use Rattle.t1_cli.specs.declared.refusal.Refusal.{Refusal}
use Rattle.t1_cli.specs.declared.refusal.Refusal.TheVariants.{TooLong, NoLog}
use Rattle.t1_cli.specs.Runs.{most_input}

-- ---- logs

-- the text of a well-formed report, whose memory and console hold bytes
pub record IsLogOf (input : List ℕ) (report : Report) : Type 0 where
  pub well_formed : IsWellFormed report
  pub bytes : HasBytes report
  pub text : input ≡ text_of report

-- no report has this text
abbrev pub HasNoReport : List ℕ → Type 0
HasNoReport input = (report : Report) → IsLogOf input report → ⊥

-- why an input is no log: it is too long; or no report has this text, and this is its first line at fault,
-- counted from 1, with what is at fault with it
abbrev pub IsNoLog : List ℕ → Refusal → Type 0
IsNoLog input TooLong = most_input < length input
IsNoLog input (NoLog line kind) = HasNoReport input × IsFaultOf input line kind
IsNoLog input _ = ⊥

-- ---- verdicts

abbrev pub HoldsSo : Verdict → Type 0
HoldsSo judgement = judgement ≡ Holds

abbrev pub BreaksSo : Verdict → Type 0
BreaksSo judgement = judgement ≡ Holds → ⊥

abbrev pub axiom_name_of : Axiom → List ℕ
axiom_name_of Listing = codes "Listing"
axiom_name_of LoadOp = codes "LoadOp"
axiom_name_of StoreStore = codes "StoreStore"
axiom_name_of Value = codes "Value"
axiom_name_of Barrier = codes "Barrier"

-- a strand and the number of an item
unfoldable pub spot_of : Place → List ℕ
spot_of place = decimal place.strand ++ (codes "." ++ decimal place.item)

-- a second place, or a dash
abbrev pub spot_or_dash : Option Place → List ℕ
spot_or_dash None = codes "-"
spot_or_dash (Some place) = spot_of place

unfoldable pub broken_line : Axiom → Place → Option Place → List ℕ
broken_line law first second =
    codes "broken " ++ (axiom_name_of law ++ (codes " " ++ (spot_of first ++ (codes " " ++ (spot_or_dash second ++ codes "\n")))))

-- the verdict, as it is written
abbrev pub checked_line : Verdict → List ℕ
checked_line Holds = codes "holds\n"
checked_line (Broken law first second) = broken_line law first second
