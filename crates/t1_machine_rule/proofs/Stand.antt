-- What holds of the machine after any list of slots.
use Rattle.std.proofs.Common.{◌≡◌, ℕ, zero, suc, ◌+◌, ◌*◌, ◌-◌, ◌≤◌, List, [], ◌∷◌, length, drop, map, Option, Some, None, ap, sym, ◌∙◌, subst, arith}
use Rattle.std.specs.List.{slice_get}
use Rattle.t1_num.specs.MemoryLaws.{AreBytes}
use Rattle.t1_shape.specs.Shapes.{Shape}
use Rattle.t1_packet.specs.declared.packet.Packet.{Packet}
use Rattle.t1_packet.specs.declared.served.Served.{Served}
use Rattle.t1_event.specs.declared.report.Config.{Config}
use Rattle.t1_event.specs.declared.commit.Commit.{Commit}
use Rattle.t1_elf.specs.declared.object.Image.{Image}
use Rattle.t1_joint.specs.Start.{Setup}
use Rattle.t1_fit.proofs.Came.{IsPosted}
use Rattle.t1_fit.proofs.Joins.{posted_right}
use Rattle.t1_core.specs.Steps.{CoreState}
use Rattle.t1_machine.specs.Machine.{MachineState}
use Rattle.t1_machine.specs.Start.{IsRunnable, setup_of}
use Rattle.t1_bound.specs.Laws.{HasLogRoom}
use Rattle.t1_bound.proofs.Bound.{has_log_room}
use Rattle.t1_machine_rule.specs.Kept.{Kept}
use Rattle.t1_machine_rule.specs.Stands.{IsRunOf, IsCoreAt, Stands, plain_packet, posts_of}
use Rattle.t1_machine_rule.proofs.Sent.{log_size}
use Rattle.t1_machine_rule.proofs.Fits.{parts, setup, core_within, fits, proper, keeps}
use Rattle.t1_machine_rule.proofs.Times.{time_within_log, replies_are, caches_are}
use Rattle.t1_machine_rule.proofs.Plain.{posts_plain}
use Rattle.t1_machine_rule.proofs.SoFar.{so_far, lines_are}
use Rattle.t1_machine_rule.proofs.Asks.{asking, awaited, stored, seen_by_time, always_seen}
use Rattle.t1_machine_rule.proofs.Covers.{state_covered}
use Rattle.t1_machine_rule.proofs.After.{kept_after}

slice_drop : (n : ℕ) (xs : List Served) (i : ℕ) (a : Served) → slice_get (drop n xs) i ≡ Some a → slice_get xs (n + i) ≡ Some a
slice_drop zero xs i a e = ap (λ (k : ℕ). slice_get xs k) (let z : 0 + i ≡ i = omega arith in z) ∙ e
slice_drop (suc n) [] i a e = let clash : ◌≡◌ {A = Option Served} None (Some a) = e in cc
slice_drop (suc n) (x ∷ xs) i a e = ap (λ (k : ℕ). slice_get (x ∷ xs) k) (let z : suc n + i ≡ suc (n + i) = omega arith in z) ∙ slice_drop n xs i a e

length_drop : (n : ℕ) (xs : List Served) → length (drop n xs) ≡ length xs - n
length_drop zero xs = omega arith
length_drop (suc n) [] = omega arith
length_drop (suc n) (x ∷ xs) = let l = length_drop n xs in omega (arith, l)

module _ (config : Config) (image : Image) (runs : IsRunnable (setup_of config image)) (bytes : AreBytes image.ram) (m : MachineState) (g : Kept (setup_of config image) m)
    (short : length m.xbar.log ≤ 4294967295) where
  abbrev w : Setup
  w = setup_of config image

  core_at : (c : ℕ) (core : CoreState) → slice_get m.cores c ≡ Some core → IsCoreAt w m c core
  core_at c core is =
      let n : ℕ = core.time in
      let right : (k : ℕ) (a : Served) → slice_get g.admitted k ≡ Some a → IsPosted w g.admitted k a =
      posted_right w (setup config image runs bytes m g short) (parts config image runs bytes m g short) (fits config image runs bytes m g short) in
      let size : length (drop n g.admitted) ≡ length m.xbar.log - n = (let l = length_drop n g.admitted in let z = log_size config image runs.blocks m g in omega (arith, l, z)) in
      record {
        time = time_within_log config image runs bytes m g short c core is;
        caches = caches_are config image runs bytes m g short c core is;
        replies =
            ap (λ (ps : List Packet). map plain_packet ps) (replies_are config image runs bytes m g short c core is)
            ∙ (posts_plain w g.admitted right c n (drop n g.admitted) (slice_drop n g.admitted)
            ∙ (ap (λ (log : List Commit). posts_of w log c n (length (drop n g.admitted))) (sym g.log)
            ∙ ap (λ (k : ℕ). posts_of w m.xbar.log c n k) size));
      }

  pub stands : Stands w m
  stands = record {
    calls = g.calls;
    admitted = g.admitted;
    fits = fits config image runs bytes m g short;
    count = g.parts.cores;
    cores = g.cores;
    log = g.log;
    proper = proper config image runs bytes m g short;
    keeps = keeps config image runs bytes m g short;
    so_far = so_far config image runs bytes m g short;
    lines = lines_are config image runs bytes m g short;
    banks = g.banks;
    covered = state_covered config image runs bytes m g short;
    core_is = core_at;
    asking = asking config image runs bytes m g short;
    awaited = awaited config image runs bytes m g short;
    stored = stored config image runs bytes m g short;
    seen_by = λ c d core r is ld h. seen_by_time config image runs bytes m g short c d core r is (core_within config image runs bytes m g short c core is) ld h;
    seen = always_seen config image runs bytes m g short;
  }

-- of any run
pub kept_run : (w : Setup) (m : MachineState) → IsRunOf w m → Kept w m
kept_run w m r = subst (λ (x : MachineState). Kept w x) (sym r.is) (kept_after w r.runnable r.numbers)

-- its log is no longer than the budgets allow, so that each index has a number
pub log_is_short : (w : Setup) (m : MachineState) → IsRunOf w m → length m.xbar.log ≤ 2000000
log_is_short w m r =
    let room = subst (λ (x : MachineState). HasLogRoom w x) (sym r.is) (has_log_room w r.numbers r.runnable) in
    let most : w.config.cores * (w.config.strands * (2 * w.config.budget)) ≡ 2 * (w.config.budget * (w.config.cores * w.config.strands)) = grind arith in
    omega (arith, room.room, room.fits, most, r.runnable.few_units)

pub machines_stand : (w : Setup) (m : MachineState) → IsRunOf w m → Stands w m
machines_stand w m r = stands w.config w.image r.runnable r.bytes m (kept_run w m r) (let l = log_is_short w m r in omega (arith, l))
