-- What holds of each machine that a list of slots leads to, and of each run from it on.
use Rattle.std.proofs.Common.{◌≡◌, ◌≤◌, ◌+◌, ◌-◌, ◌<◌, ℕ, zero, suc, Bool, true, false, is_some, List, [], ◌∷◌, ◌++◌, length, Option, Some, None, refl, ap, sym, ◌∙◌, subst, arith, if◌then◌else◌}
use Rattle.t1_joint.specs.Start.{Setup}
use Rattle.t1_machine.specs.declared.schedule.Schedule.{Schedule}
use Rattle.t1_machine.specs.declared.slot.Slot.{Slot}
use Rattle.t1_machine.specs.Slots.{slots, slot_at}
use Rattle.t1_machine.specs.Machine.{MachineState, stepped, is_enabled, or_same, after_slot, HasSpare}
use Rattle.t1_machine.specs.Runs.{machine_after, next_number, enabled_from, Standing, begun_as, tries, standing_after, next_of, IsRun, Ends, Goes, RunsTo}
use Rattle.t1_machine.specs.Start.{IsRunnable, machine_start, IsReached}
use Rattle.t1_bound.specs.Weights.{Falls, machine_weight, commits, steps}
use Rattle.t1_bound.specs.Sound.{IsSound}
use Rattle.t1_bound.specs.Runs.{machine_at, RunsFrom}
use Rattle.t1_bound.proofs.Lists.{pop_length}
use Rattle.t1_bound.proofs.Slots.{step_pays}
use Rattle.t1_bound.proofs.Starts.{sound_start}

pub steps_fall : Falls steps
steps_fall = record { hit = omega arith; asks_fetch = omega arith; word = omega arith; acts = omega arith; stores = omega arith; asks_data = omega arith; drains = omega arith; serves = omega arith; admits = omega arith; takes = omega arith }

pub commits_fall : Falls commits
commits_fall = record { hit = omega arith; asks_fetch = omega arith; word = omega arith; acts = omega arith; stores = omega arith; asks_data = omega arith; drains = omega arith; serves = omega arith; admits = omega arith; takes = omega arith }

-- ---- one step

pub sound_step : (m n : MachineState) (s : Slot) → IsSound m → stepped m s ≡ Some n → IsSound n
sound_step m n s h e =
    let p = step_pays commits commits_fall m n h.live s h.few e in
    record { live = p.live; few = omega (arith, p.cores, h.few); room = omega (arith, p.weight, p.room, h.room); small = omega (arith, p.room, h.small) }

-- the weight of a machine falls
pub measure_falls : (m n : MachineState) (s : Slot) → IsSound m → stepped m s ≡ Some n → machine_weight steps n < machine_weight steps m
measure_falls m n s h e = let p = step_pays steps steps_fall m n h.live s h.few e in omega (arith, p.weight)

-- where an access waits for admission, the log has room for its record
pub sound_spare : (m : MachineState) → IsSound m → HasSpare m
sound_spare m h d access rest e =
    let k = pop_length m.served d access rest e in
    (omega (arith, h.room, k), omega (arith, h.room, h.small, k))

-- ---- a list of slots

sound_if : (m : MachineState) (s : Slot) (o : Option MachineState) → stepped m s ≡ o → IsSound m → IsSound (or_same m o)
sound_if m s None e h = h
sound_if m s (Some n) e h = sound_step m n s h e

pub sound_slot : (m : MachineState) (s : Slot) → IsSound m → IsSound (after_slot m s)
sound_slot m s h = sound_if m s (stepped m s) refl h

pub sound_after : (m : MachineState) (ns : List ℕ) → IsSound m → IsSound (machine_after m ns)
unfolding machine_after
sound_after m [] h = h
sound_after m (n ∷ ns) h = sound_after (after_slot m (slot_at m.chip n)) ns (sound_slot m (slot_at m.chip n) h)

pub sound_reached : (m : MachineState) → IsReached m → IsSound m
sound_reached m r = subst (λ (k : MachineState). IsSound k) (sym r.is) (sound_after (machine_start r.setup) r.numbers (sound_start r.setup r.runnable))

pub spare_reached : (m : MachineState) → IsReached m → HasSpare m
spare_reached m r = sound_spare m (sound_reached m r)

-- the log has its room
pub log_fits : (m : MachineState) → IsReached m → length m.xbar.log ≤ m.xbar.room
log_fits m r = let s = sound_reached m r in omega (arith, s.room)

after_append : (m : MachineState) (ns : List ℕ) (n : ℕ) → machine_after m (ns ++ n ∷ []) ≡ after_slot (machine_after m ns) (slot_at (machine_after m ns).chip n)
unfolding machine_after
after_append m [] n = refl
after_append m (k ∷ ks) n = after_append (after_slot m (slot_at m.chip k)) ks n

pub reached_start : (w : Setup) → IsRunnable w → IsReached (machine_start w)
unfolding machine_after
reached_start w h = record { setup = w; runnable = h; numbers = []; is = refl }

pub reached_at : (w : Setup) (numbers : List ℕ) → IsRunnable w → IsReached (machine_at w numbers)
reached_at w numbers h = record { setup = w; runnable = h; numbers = numbers; is = refl }

-- one slot more
pub reached_slot : (m : MachineState) (n : ℕ) → IsReached m → IsReached (after_slot m (slot_at m.chip n))
reached_slot m n r = record {
  setup = r.setup;
  runnable = r.runnable;
  numbers = r.numbers ++ n ∷ [];
  is = ap (λ (k : MachineState). after_slot k (slot_at k.chip n)) r.is ∙ sym (after_append (machine_start r.setup) r.numbers n);
}

falls_if : (m : MachineState) (s : Slot) (o : Option MachineState) → stepped m s ≡ o → IsSound m → is_some o ≡ true → machine_weight steps (or_same m o) < machine_weight steps m
falls_if m s None e h d = let clash : false ≡ true = d in cc
falls_if m s (Some n) e h d = measure_falls m n s h e

pub slot_falls : (m : MachineState) (n : ℕ) → IsReached m → is_enabled m (slot_at m.chip n) ≡ true → machine_weight steps (after_slot m (slot_at m.chip n)) < machine_weight steps m
slot_falls m n r on = falls_if m (slot_at m.chip n) (stepped m (slot_at m.chip n)) refl (sound_reached m r) on

-- ---- the first slot that is enabled

idle_if : (m : MachineState) (o : Option MachineState) → is_some o ≡ false → or_same m o ≡ m
idle_if m None e = refl
idle_if m (Some n) e = let clash : true ≡ false = e in cc

-- what is not enabled changes nothing
pub idle_slot : (m : MachineState) (n : ℕ) → is_enabled m (slot_at m.chip n) ≡ false → after_slot m (slot_at m.chip n) ≡ m
idle_slot m n e = idle_if m (stepped m (slot_at m.chip n)) e

-- after k slots that are not enabled
pub found_here : (m : MachineState) (n k : ℕ) → k < slots m.chip → is_enabled m (slot_at m.chip n) ≡ true → enabled_from m n (slots m.chip - k) ≡ Some n
unfolding enabled_from
found_here m n k h e = let more : slots m.chip - k ≡ suc (slots m.chip - (k + 1)) = omega (arith, h) in rw (more, e) refl

pub found_later : (m : MachineState) (n k : ℕ) → k < slots m.chip → is_enabled m (slot_at m.chip n) ≡ false
    → enabled_from m (next_number m.chip n) (slots m.chip - (k + 1)) ≡ enabled_from m n (slots m.chip - k)
unfolding enabled_from
found_later m n k h e = let more : slots m.chip - k ≡ suc (slots m.chip - (k + 1)) = omega (arith, h) in rw (more, e) refl

pub found_none : (m : MachineState) (n k : ℕ) → slots m.chip ≤ k → enabled_from m n (slots m.chip - k) ≡ None
unfolding enabled_from
found_none m n k h = let none : slots m.chip - k ≡ 0 = omega (arith, h) in rw none refl

found_if : (b : Bool) (m : MachineState) (n k : ℕ) (rest : Option ℕ) → is_enabled m (slot_at m.chip n) ≡ b → (rest ≡ Some k → is_enabled m (slot_at m.chip k) ≡ true)
    → (if b then Some n else rest) ≡ Some k → is_enabled m (slot_at m.chip k) ≡ true
found_if true m n k rest on f e = let same : n ≡ k = cc in subst (λ (j : ℕ). is_enabled m (slot_at m.chip j) ≡ true) same on
found_if false m n k rest off f e = f e

pub found_enabled : (more : ℕ) (m : MachineState) (n k : ℕ) → enabled_from m n more ≡ Some k → is_enabled m (slot_at m.chip k) ≡ true
unfolding enabled_from
found_enabled zero m n k e = let clash : ◌≡◌ {A = Option ℕ} None (Some k) = e in cc
found_enabled (suc more) m n k e =
    found_if (is_enabled m (slot_at m.chip n)) m n k (enabled_from m (next_number m.chip n) more) refl (λ h. found_enabled more m (next_number m.chip n) k h) e

-- ---- runs

pub goes_on : (m : MachineState) (standing : Standing) (n : ℕ) (last : MachineState) → next_of m standing ≡ Some n
    → RunsFrom (after_slot m (slot_at m.chip n)) (standing_after m.chip standing n) last → RunsFrom m standing last
goes_on m standing n last h r = record { numbers = n ∷ r.numbers; run = Goes m standing n r.numbers last h r.run }

pub ends_here : (m : MachineState) (standing : Standing) → next_of m standing ≡ None → RunsFrom m standing m
ends_here m standing h = record { numbers = []; run = Ends m standing h }

-- from its first standing on
pub runs_to : (m : MachineState) (as_of : Schedule) (last : MachineState) → RunsFrom m (begun_as as_of) last → RunsTo m as_of last
runs_to m as_of last r = record { numbers = r.numbers; run = r.run }

-- a run's last machine is that after its slots
pub run_after : (m : MachineState) (standing : Standing) (ns : List ℕ) (last : MachineState) → IsRun m standing ns last → last ≡ machine_after m ns
unfolding machine_after
run_after m standing ns last (Ends k at h) = refl
run_after m standing ns last (Goes k at n rest end h r) = run_after (after_slot k (slot_at k.chip n)) (standing_after k.chip at n) rest end r

pub run_reached : (m : MachineState) (standing : Standing) (ns : List ℕ) (last : MachineState) → IsRun m standing ns last → IsReached m → IsReached last
run_reached m standing ns last (Ends k at h) r = r
run_reached m standing ns last (Goes k at n rest end h run) r =
    run_reached (after_slot k (slot_at k.chip n)) (standing_after k.chip at n) rest end run (reached_slot k n r)

-- a run's slots are at most what its first machine weighs
pub run_few : (m : MachineState) (standing : Standing) (ns : List ℕ) (last : MachineState) → IsRun m standing ns last → IsReached m
    → length ns + machine_weight steps last ≤ machine_weight steps m
run_few m standing ns last (Ends k at h) r = omega arith
run_few m standing ns last (Goes k at n rest end h run) r =
    let on = found_enabled (slots k.chip) k (tries k.chip at) n h in
    let f = slot_falls k n r on in
    let more = run_few (after_slot k (slot_at k.chip n)) (standing_after k.chip at n) rest end run (reached_slot k n r) in
    omega (arith, f, more)
