-- What holds of each machine that slots lead to.
use Rattle.std.proofs.Common.{◌≡◌, ◌∙◌, ◌<◌, ◌≤◌, length, ℕ, true, List, [], ◌∷◌, ◌++◌, refl, ap, sym, subst, arith}
use Rattle.t1_num.specs.MemoryLaws.{AreBytes}
use Rattle.t1_joint.specs.Start.{Setup}
use Rattle.t1_machine.specs.Slots.{slot_at}
use Rattle.t1_machine.specs.Machine.{MachineState, HasSpare, after_slot, is_enabled}
use Rattle.t1_machine.specs.Runs.{machine_after}
use Rattle.t1_machine.specs.Start.{IsRunnable, IsReached, most_commits, machine_start}
use Rattle.t1_bound.specs.Weights.{machine_weight, steps}
use Rattle.t1_bound.specs.Runs.{machine_at}
use Rattle.t1_bound.proofs.Bound.{has_log_room}
use Rattle.t1_bound.proofs.Reach.{spare_reached, slot_falls}
use Rattle.t1_machine_rule.specs.Stands.{IsRunOf}
use Rattle.t1_machine_rule.proofs.After.{kept_after}

pub reached_start : (w : Setup) → IsRunnable w → AreBytes w.image.ram → IsRunOf w (machine_start w)
unfolding machine_after
reached_start w fine bytes = record { runnable = fine; bytes = bytes; numbers = []; is = refl }

after_append : (m : MachineState) (ns : List ℕ) (n : ℕ) → machine_after m (ns ++ n ∷ []) ≡ after_slot (machine_after m ns) (slot_at (machine_after m ns).chip n)
unfolding machine_after
after_append m [] n = refl
after_append m (k ∷ ks) n = after_append (after_slot m (slot_at m.chip k)) ks n

-- one slot more
pub reached_slot : (w : Setup) (m next : MachineState) (n : ℕ) → IsRunOf w m → next ≡ after_slot m (slot_at m.chip n) → IsRunOf w next
reached_slot w m next n r e = record {
  runnable = r.runnable;
  bytes = r.bytes;
  numbers = r.numbers ++ n ∷ [];
  is = e ∙ (ap (λ (k : MachineState). after_slot k (slot_at k.chip n)) r.is ∙ sym (after_append (machine_start w) r.numbers n));
}

-- the chip is that of the configuration
chip_is : (w : Setup) (m : MachineState) → IsRunOf w m → m.chip ≡ w.config.chip
chip_is w m r = ap (λ (k : MachineState). k.chip) r.is ∙ (kept_after w r.runnable r.numbers).parts.chip

-- and no slot changes it
pub chip_kept : (w : Setup) (m next : MachineState) (n : ℕ) → IsRunOf w m → next ≡ after_slot m (slot_at m.chip n) → next.chip ≡ m.chip
chip_kept w m next n r e = chip_is w next (reached_slot w m next n r e) ∙ sym (chip_is w m r)

pub reached : (w : Setup) (m : MachineState) → IsRunOf w m → IsReached m
reached w m r = record { setup = w; runnable = r.runnable; numbers = r.numbers; is = r.is }

pub spare : (w : Setup) (m : MachineState) → IsRunOf w m → HasSpare m
spare w m r = spare_reached m (reached w m r)

pub falls : (w : Setup) (m next : MachineState) (n : ℕ) → IsRunOf w m → next ≡ after_slot m (slot_at m.chip n) → is_enabled m (slot_at m.chip n) ≡ true
    → machine_weight steps next < machine_weight steps m
falls w m next n r e on = subst (λ (k : MachineState). machine_weight steps k < machine_weight steps m) (sym e) (slot_falls m n (reached w m r) on)

-- the log is within the room of two commits a unit
log_here : (w : Setup) (m : MachineState) → m.xbar.room ≡ most_commits w.config → length m.xbar.log ≤ m.xbar.room → length m.xbar.log ≤ most_commits w.config
log_here w m e h = omega (arith, e, h)

pub log_room : (w : Setup) (m : MachineState) → IsRunOf w m → length m.xbar.log ≤ most_commits w.config
log_room w m r =
    let there = has_log_room w r.numbers r.runnable in
    subst (λ (k : MachineState). length k.xbar.log ≤ most_commits w.config) (sym r.is) (log_here w (machine_at w r.numbers) there.room there.fits)
