-- The summary of a report: how each strand ended, and totals.
use Rattle.std.specs.Prelude.{ℕ, ◌+◌, List, [], ◌∷◌, ◌++◌, length, is_some, if◌then◌else◌, codes, decimal}
use Rattle.t1_event.specs.declared.commit.Commit.{Commit}
use Rattle.t1_event.specs.declared.report.Report.{Report}
use Rattle.t1_event.specs.declared.trace.Trace.{Trace}
use Rattle.t1_log.specs.Lines.{config_line_of, last_line_of, end_line}
use Rattle.t1_log.specs.Texts.{lines_from}
use Rattle.t1_log.specs.Log.{console_lines_of}

abbrev pub brief_version_line : List ℕ
brief_version_line = codes "t1brief 1\n"

-- the units of all strands, and their items
unfoldable pub units_of : List Trace → ℕ
units_of [] = 0
units_of (trace ∷ traces) = trace.units + units_of traces

unfoldable pub items_in : List Trace → ℕ
items_in [] = 0
items_in (trace ∷ traces) = length trace.items + items_in traces

-- the kills of all commits, and the lines that they evicted
unfoldable pub kills_in : List Commit → ℕ
kills_in [] = 0
kills_in (commit ∷ commits) = length commit.kills + kills_in commits

unfoldable pub evicted_in : List Commit → ℕ
evicted_in [] = 0
evicted_in (commit ∷ commits) = (if is_some commit.evicted then 1 else 0) + evicted_in commits

-- totals: units, items, commits, kills, evicted lines
unfoldable pub totals_line_of : ℕ → ℕ → ℕ → ℕ → ℕ → List ℕ
totals_line_of units items commits kills evicted =
    codes "n units " ++ (decimal units ++ (codes " items " ++ (decimal items ++ (codes " commits " ++ (decimal commits
    ++ (codes " kills " ++ (decimal kills ++ (codes " evicted " ++ (decimal evicted ++ codes "\n")))))))))

-- the totals of a report
abbrev pub totals_of : Report → List ℕ
totals_of report =
    totals_line_of (units_of report.traces) (items_in report.traces) (length report.log) (kills_in report.log) (evicted_in report.log)

-- the machine, how each strand ended, totals, the console
unfoldable pub brief_of : Report → List ℕ
brief_of report =
    brief_version_line
    ++ (config_line_of report.config
    ++ (lines_from last_line_of 0 report.traces
    ++ (totals_of report
    ++ (console_lines_of report.console ++ end_line))))
