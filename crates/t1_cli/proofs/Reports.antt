-- The report of a run, and why an input is not run.
use Rattle.std.proofs.Common.{◌≡◌, ℕ, ◌^◌, ◌<◌, ◌≤◌, Bool, List, length, Some, Err, if◌then◌else◌, refl, ap, sym, ◌∙◌, subst}
use Rattle.std.specs.Prelude.{All, IsTrue}
use Rattle.std.proofs.lemmas.Bool.{and_parts, lt-ltb, le-ltb}
use Rattle.t1_num.specs.MemoryLaws.{AreBytes}
use Rattle.t1_elf.specs.declared.error.ElfError.{ElfError}
use Rattle.t1_elf.specs.Parsed.{parsed}
use Rattle.t1_event.specs.declared.report.Config.{Config}
use Rattle.t1_event.specs.declared.report.Report.{Report}
use Rattle.t1_event.specs.declared.trace.Trace.{Trace}
use Rattle.t1_event.specs.Items.{items_of}
use Rattle.t1_event.specs.Keys.{IsOrderByKeys}
use Rattle.t1_event.specs.Printable.{IsPrintableReport}
use Rattle.t1_log.specs.Log.{HasLog}
use Rattle.t1_joint.specs.Start.{Setup}
use Rattle.t1_machine.specs.declared.schedule.Schedule.{Schedule}
use Rattle.t1_machine.specs.Machine.{MachineState}
use Rattle.t1_machine.specs.Runs.{IsRun, begun_as, machine_after}
use Rattle.t1_machine.specs.Start.{IsRunnable, machine_start}
use Rattle.t1_bound.proofs.Reach.{run_after}
use Rattle.t1_machine_rule.specs.Ends.{NoneEnabled, Ends, Reports, report_of}
use Rattle.t1_machine_rule.specs.Parts.{traces_in}
use Rattle.t1_machine_rule.specs.Stands.{IsRunOf}
use Rattle.t1_machine_rule.specs.Words.{AreWords}
use Rattle.t1_machine_rule.proofs.Stand.{machines_stand}
use Rattle.t1_chip.specs.Chips.{ChipState, RunsToEnd, Reported}
use Rattle.t1_take.specs.Limits.{is_in_limits}
use Rattle.t1_reads_back.specs.Laws.{ReadsBack}
use Rattle.t1_reads_back.proofs.Machines.{reports_good}
use Rattle.t1_cli.specs.declared.refusal.Refusal.TheVariants.{TooLong, Misformed}
use Rattle.t1_cli.specs.Runs.{most_input, refusal_in, refusal_of, IsReportOf}

-- a list of slots leads there from the start
run_of : (w : Setup) (numbers : List ℕ) → IsRunnable w → AreBytes w.image.ram → IsRunOf w (machine_after (machine_start w) numbers)
run_of w numbers runs bytes = record { runnable = runs; bytes = bytes; numbers = numbers; is = refl }

-- a chip in which no slot is enabled, and its report
pub record Ended (last : ChipState) (report : Report) : Type 0 where
  pub none : NoneEnabled last.machine
  pub ends : Ends last.setup last.machine
  pub reported : Reported last report
  pub obeys : Reports last.setup last.machine report.order
  pub words : All AreWords report.traces

-- its log reads back
reads_back : (w : Setup) (m : MachineState) (report : Report) → IsRunOf w m → NoneEnabled m → IsTrue (is_in_limits w.config) → w.image.entry < 2 ^ 40
    → report ≡ report_of w m report.order → IsOrderByKeys (items_of report.traces) report.order → All AreWords report.traces → ReadsBack report
reads_back w m report run none limits low is keys words =
    let traces : report.traces ≡ traces_in m.cores = ap (λ (r : Report). r.traces) is in
    let Keys : List Trace → Type 0 = λ ts. IsOrderByKeys (items_of ts) report.order in
    let Words : List Trace → Type 0 = λ ts. All AreWords ts in
    subst (λ (r : Report). ReadsBack r) (sym is) (reports_good w m report.order run none (subst Keys traces keys) limits low (subst Words traces words))

-- a chip that ran from its start to its end, and its report
pub is_report : (w : Setup) (schedule : Schedule) (first last : ChipState) (report : Report) → IsTrue (is_in_limits w.config) → w.image.entry < 2 ^ 40 → IsRunnable w
    → AreBytes w.image.ram → first ≡ record { setup = w; machine = machine_start w } → RunsToEnd first schedule last → Ended last report → IsReportOf w schedule report
is_report w schedule first last report limits low runs bytes start goes e =
    let setup : last.setup ≡ w = goes.setup ∙ ap (λ (s : ChipState). s.setup) start in
    let Q : Setup → Type 0 = λ v. Ends v last.machine in
    let R : Setup → Type 0 = λ v. Reports v last.machine report.order in
    let run : IsRun (machine_start w) (begun_as schedule) goes.numbers last.machine = subst (λ (s : ChipState). IsRun s.machine (begun_as schedule) goes.numbers last.machine) start goes.run in
    let is : report ≡ report_of w last.machine report.order = e.reported.is ∙ ap (λ (v : Setup). report_of v last.machine report.order) setup in
    let there : IsRunOf w last.machine = record { runnable = runs; bytes = bytes; numbers = goes.numbers; is = run_after (machine_start w) (begun_as schedule) goes.numbers last.machine run } in
    record {
      last = last.machine;
      runs = record { numbers = goes.numbers; run = run };
      is = is;
      by_keys = e.reported.order;
      ends = subst Q setup e.ends;
      obeys = subst R setup e.obeys;
      reads_back = reads_back w last.machine report there e.none limits low is e.reported.order e.words;
      stands = λ numbers. machines_stand w (machine_after (machine_start w) numbers) (run_of w numbers runs bytes);
    }

-- it has a text
pub has_text : (w : Setup) (schedule : Schedule) (report : Report) → IsReportOf w schedule report → w.image.entry < 2 ^ 40 → HasLog report
has_text w schedule report r low = record {
  printable = subst (λ (v : Report). IsPrintableReport v) (sym r.is) (r.obeys.printable low);
  first = (and_parts _ _ r.reads_back.formed.limits).0;
}

-- ---- refusals

pub too_long : (config : Config) (input : List ℕ) → most_input < length input → refusal_of config input ≡ Some TooLong
unfolding refusal_of
too_long config input long =
    ap (λ (b : Bool). if b then Some TooLong else refusal_in (parsed input config.ram)) (lt-ltb most_input (length input) long)

pub misformed : (config : Config) (input : List ℕ) (error : ElfError) → length input ≤ most_input → parsed input config.ram ≡ Err error
    → refusal_of config input ≡ Some (Misformed error)
unfolding refusal_of
misformed config input error short is =
    ap (λ (b : Bool). if b then Some TooLong else refusal_in (parsed input config.ram)) (le-ltb most_input (length input) short) ∙ ap refusal_in is
