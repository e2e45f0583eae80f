-- A machine in which no slot is enabled, and what it reports.
use Rattle.std.specs.Prelude.{ℕ, ◌≡◌, ◌<◌, ◌≤◌, true, false, List, [], length, get_or, Some}
use Rattle.std.specs.List.{slice_get}
use Rattle.t1_event.specs.declared.report.Place.{Place}
use Rattle.t1_event.specs.declared.report.Report.{Report}
use Rattle.t1_event.specs.Items.{items_of}
use Rattle.t1_event.specs.Order.{IsListing, ObeysTso}
use Rattle.t1_event.specs.Printable.{FitsDigits, IsPrintableReport}
use Rattle.t1_joint.specs.Start.{Setup}
use Rattle.t1_joint.specs.JointHistory.{IsJointHistory, run_of}
use Rattle.t1_joint.specs.Covered.{IsCovered, LinesHoldMemory}
use Rattle.t1_order.specs.Orderable.{AreShort, AreOrderable, accesses_in}
use Rattle.t1_iob.specs.Console.{console_of}
use Rattle.t1_core.specs.Steps.{CoreState}
use Rattle.t1_core.specs.Ends.{finished_of}
use Rattle.t1_machine.specs.Slots.{slots, slot_at}
use Rattle.t1_machine.specs.Machine.{most_dests, MachineState, ring_of, is_enabled}
use Rattle.t1_machine.specs.Start.{most_commits}
use Rattle.t1_machine_rule.specs.Parts.{traces_in}

abbrev pub NoneEnabled : MachineState → Type 0
NoneEnabled m = (n : ℕ) → n < slots m.chip → is_enabled m (slot_at m.chip n) ≡ false

-- every strand has ended, every buffer is empty, and every ring
pub record IsOver (w : Setup) (m : MachineState) : Type 0 where
  pub cores : (c : ℕ) (core : CoreState) → slice_get m.cores c ≡ Some core → finished_of core ≡ true
  pub requests : (c d : ℕ) → c < w.config.cores → d < most_dests → ring_of m.requests c d ≡ []
  pub served : (d : ℕ) → d < most_dests → get_or m.served d [] ≡ []
  pub replies : (c : ℕ) → c < w.config.cores → get_or m.replies c [] ≡ []

-- ---- its traces and log

-- a joint history, which can be listed by keys, in as much room as the log has
pub record Ends (w : Setup) (m : MachineState) : Type 0 where
  pub over : IsOver w m
  pub history : IsJointHistory w (traces_in m.cores) m.xbar.log
  pub covered : IsCovered (run_of w (traces_in m.cores) m.xbar.log)
  pub lines : LinesHoldMemory (run_of w (traces_in m.cores) m.xbar.log)
  pub few : length (traces_in m.cores) ≤ 64
  pub short : AreShort (items_of (traces_in m.cores))
  pub orderable : AreOrderable (items_of (traces_in m.cores)) m.xbar.log
  pub room : accesses_in (items_of (traces_in m.cores)) ≤ most_commits w.config

-- ---- its report, with the memory order

abbrev pub report_of : Setup → MachineState → List Place → Report
report_of w m order = record {
  config = w.config;
  image = w.image;
  traces = traces_in m.cores;
  log = m.xbar.log;
  order = order;
  console = console_of m.xbar.log;
}

-- the order by keys lists each access once and obeys total store order; and the report has a text, where the
-- entry fits its digits
pub record Reports (w : Setup) (m : MachineState) (order : List Place) : Type 0 where
  pub listing : IsListing (items_of (traces_in m.cores)) order
  pub tso : ObeysTso w.image.ram (items_of (traces_in m.cores)) order
  pub printable : FitsDigits 10 w.image.entry → IsPrintableReport (report_of w m order)
