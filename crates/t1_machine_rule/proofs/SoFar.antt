-- What of a joint history holds of the traces and the log so far.
use Rattle.std.proofs.Common.{◌≡◌, ℕ, ◌≤◌, List, length, subst}
use Rattle.t1_num.specs.MemoryLaws.{AreBytes}
use Rattle.t1_packet.specs.declared.cache.Cache.{Cache}
use Rattle.t1_event.specs.declared.report.Config.{Config}
use Rattle.t1_event.specs.declared.trace.Trace.{Trace}
use Rattle.t1_event.specs.Posts.{l1_at}
use Rattle.t1_elf.specs.declared.object.Image.{Image}
use Rattle.t1_joint.specs.Start.{Setup}
use Rattle.t1_joint.specs.Parts.{Parts}
use Rattle.t1_joint.specs.Proper.{IsTime, l1_by}
use Rattle.t1_joint.specs.Fit.{Fit}
use Rattle.t1_joint.specs.JointHistory.{IsSetup}
use Rattle.t1_fit.proofs.Joins as joins
use Rattle.t1_fit.proofs.Behind as behind
use Rattle.t1_fit.proofs.Ends as ends
use Rattle.t1_machine.specs.Machine.{MachineState}
use Rattle.t1_machine.specs.Start.{IsRunnable, setup_of}
use Rattle.t1_machine_rule.specs.Kept.{Kept}
use Rattle.t1_machine_rule.specs.Parts.{traces_in}
use Rattle.t1_machine_rule.specs.SoFar.{HoldsSoFar}
use Rattle.t1_machine_rule.proofs.Fits.{parts, setup, fits}
use Rattle.t1_machine_rule.proofs.Overs.{traces_are}

module _ (config : Config) (image : Image) (runs : IsRunnable (setup_of config image)) (bytes : AreBytes image.ram) (m : MachineState) (g : Kept (setup_of config image) m)
    (short : length m.xbar.log ≤ 4294967295) where
  abbrev w : Setup
  w = setup_of config image

  abbrev p : Parts
  p = parts config image runs bytes m g short

  right : IsSetup w
  right = setup config image runs bytes m g short

  fit : Fit w p
  fit = fits config image runs bytes m g short

  pub so_far : HoldsSoFar w (traces_in m.cores) m.xbar.log
  so_far =
      subst (λ (traces : List Trace). HoldsSoFar w traces m.xbar.log) (traces_are config image runs bytes m g short)
      (record {
        named = behind.named w right p fit;
        at = behind.times_at w right p fit;
        seen = behind.seen_before w right p fit;
        ascends = ends.ascends w right p fit;
        record_is = λ n commit x is nm access. behind.record_of_item w right p fit n commit x is nm access;
        bank = behind.by_bank w right p fit;
        bridge = behind.by_bridge w right p fit;
        filled = behind.filled_rightly w right p fit;
      })

  -- a core's caches by the packets that came are those by the log, at each time that the core knows
  pub lines_are : (c t : ℕ) (cache : Cache) → IsTime (p.core c).received t → l1_by w.config.chip c (p.core c).received t cache ≡ l1_at w.config.chip config.strands image.ram m.xbar.log c cache t
  lines_are c t cache known = joins.caches_by w right p fit c t cache known
