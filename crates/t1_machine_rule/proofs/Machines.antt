-- The laws of any machine that a list of slots leads to.
use Rattle.std.proofs.Common.{◌≤◌, length, arith}
use Rattle.t1_num.specs.MemoryLaws.{AreBytes}
use Rattle.t1_shape.specs.Shapes.{Shape}
use Rattle.t1_event.specs.declared.report.Config.{Config}
use Rattle.t1_event.specs.Items.{items_of}
use Rattle.t1_event.specs.Keys.{IsOrderByKeys}
use Rattle.t1_elf.specs.declared.object.Image.{Image}
use Rattle.t1_joint.specs.Start.{Setup}
use Rattle.t1_tso.proofs.Histories.{history_obeys_tso}
use Rattle.t1_machine.specs.Machine.{MachineState}
use Rattle.t1_machine.specs.Start.{IsRunnable, setup_of}
use Rattle.t1_machine_rule.specs.Kept.{Kept}
use Rattle.t1_machine_rule.specs.Parts.{traces_in}
use Rattle.t1_machine_rule.specs.Stands.{IsRunOf}
use Rattle.t1_machine_rule.specs.Ends.{NoneEnabled, IsOver, Ends, Reports}
use Rattle.t1_machine_rule.specs.Laws.{MachinesAreNeverStuck, NoSlotIsLeft, MachinesEndInJointHistories, ReportsObeyTso}
use Rattle.t1_machine_rule.proofs.Stand.{kept_run, log_is_short}
use Rattle.t1_machine_rule.proofs.Stuck.{idle_is_over}
use Rattle.t1_machine_rule.proofs.Left.{no_slot_is_left}
use Rattle.t1_machine_rule.proofs.Ending.{history, ends}
use Rattle.t1_machine_rule.proofs.Prints.{report_text}

-- what holds of a machine of any setup
abbrev OfMachine : (Setup → MachineState → Type 0) → Setup → MachineState → Type 0
OfMachine P w m = IsRunnable w → AreBytes w.image.ram → Kept w m → length m.xbar.log ≤ 4294967295 → NoneEnabled m → P w m

of_machine : (P : Setup → MachineState → Type 0) → ((config : Config) (image : Image) (m : MachineState) → OfMachine P (setup_of config image) m)
    → (w : Setup) (m : MachineState) → IsRunOf w m → NoneEnabled m → P w m
of_machine P all w m r none = all w.config w.image m r.runnable r.bytes (kept_run w m r) (let l = log_is_short w m r in omega (arith, l)) none

pub never_stuck : MachinesAreNeverStuck
never_stuck = of_machine (λ w m. IsOver w m) (λ config image m runs bytes g short none. idle_is_over config image runs bytes m g short none)

pub none_is_left : NoSlotIsLeft
none_is_left w m r over = no_slot_is_left w m (kept_run w m r) over

pub end_in_histories : MachinesEndInJointHistories
end_in_histories = of_machine (λ w m. Ends w m) (λ config image m runs bytes g short none. let over = idle_is_over config image runs bytes m g short none in ends config image runs bytes m g short over.cores over)

pub reports_obey : ReportsObeyTso
reports_obey w m order r none keys =
    of_machine (λ w m. IsOrderByKeys (items_of (traces_in m.cores)) order → Reports w m order)
    (λ config image m runs bytes g short none keys.
    let over = idle_is_over config image runs bytes m g short none in
    let obeys = history_obeys_tso (setup_of config image) (traces_in m.cores) m.xbar.log order (history config image runs bytes m g short over.cores) keys in
    record {
      listing = obeys.0;
      tso = obeys.1;
      printable = λ entry. report_text config image runs bytes m g short over.cores order entry;
    }) w m r none keys
