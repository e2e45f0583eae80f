use Rattle.std.proofs.Common.{◌≡◌, ◌*◌, ◌^◌, ◌≤◌, ◌++◌, ℕ, List, [], drop, length, All}
use Rattle.t1_elf.specs.declared.object.Image.{Image}
use Rattle.t1_event.specs.declared.report.Config.{Config}
use Rattle.t1_event.specs.declared.trace.Trace.{Trace}
use Rattle.t1_log.specs.Texts.{lines_from}
use Rattle.t1_log.specs.Log.{trace_lines_of}
use Rattle.t1_take.specs.Taken.{Reads}
use Rattle.t1_take.specs.Items.{IsGoodTrace}
use Rattle.t1_take.proofs.Leaving.{IsLeft}
use Rattle.t1_read.specs.Standing.{HasTraces}
use Rattle.t1_read.proofs.strands.read_strands.Given as goal

abbrev pub invariant-loop-strand : goal.invariant-loop-strand
invariant-loop-strand l = record {
  good : All (IsGoodTrace l.ram) l.traces;
  count : length l.traces ≡ l.strand;
  reads : Reads l.text l.initial.lines.at l.lines.at (lines_from trace_lines_of 0 l.traces);
  finds : (all : List Trace) (rest : List ℕ) → l.ram ≤ 2 ^ 40 → All (IsGoodTrace l.ram) all → length all ≡ l.strands → drop l.initial.lines.at l.text ≡ lines_from trace_lines_of 0 all ++ rest
      → IsLeft trace_lines_of l.text l.lines.at l.traces all rest;
  leads : (config : Config) (image : Image) → HasTraces l.text l.initial.lines.at config image [] → l.strands ≡ config.cores * config.strands → l.ram ≡ config.ram
      → HasTraces l.text l.lines.at config image l.traces;
}
