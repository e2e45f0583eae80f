-- What follows the commits of a log, and its memory order.
use Rattle.std.proofs.Common.{ℕ, List, [], ◌++◌}
use Rattle.t1_event.specs.declared.report.Config.{Config}
use Rattle.t1_event.specs.declared.report.Place.{Place}
use Rattle.t1_event.specs.declared.report.Report.{Report}
use Rattle.t1_log.specs.Lines.{end_line}
use Rattle.t1_log.specs.Texts.{order_lines_of}
use Rattle.t1_log.specs.Log.{console_lines_of}
use Rattle.t1_read.specs.Exact.{NextIsNot}
use Rattle.t1_read.proofs.ReportsFound.{after_log_next, after_order_next}

-- a report with this memory order and this console
abbrev with_tail : Config → List Place → List ℕ → Report
with_tail config order console = record { config = config; image = record { entry = 0; ram = [] }; traces = []; log = []; order = order; console = console }

pub log_next : (config : Config) (order : List Place) (console : List ℕ) → NextIsNot 99 (order_lines_of order ++ (console_lines_of console ++ end_line))
log_next config order console = after_log_next (with_tail config order console)

pub order_next : (config : Config) (order : List Place) (console : List ℕ) → NextIsNot 111 (console_lines_of console ++ end_line)
order_next config order console = after_order_next (with_tail config order console)
