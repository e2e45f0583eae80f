-- A machine whose cores are over: its parts are over, and its traces are those of its parts.
use Rattle.t1_shape.specs.Shapes.{Shape}
use Rattle.std.proofs.Common.{◌≡◌, ℕ, zero, suc, ◌+◌, ◌≤◌, true, List, [], ◌∷◌, ◌++◌, length, map, Option, Some, None, refl, ap, ◌∙◌, subst, inl, inr, ◌⊎◌, arith}
use Rattle.std.specs.List.{slice_get}
use Rattle.t1_num.specs.MemoryLaws.{AreBytes}
use Rattle.t1_event.specs.declared.report.Config.{Config}
use Rattle.t1_event.specs.declared.trace.Trace.{Trace}
use Rattle.t1_elf.specs.declared.object.Image.{Image}
use Rattle.t1_joint.specs.Start.{Setup}
use Rattle.t1_joint.specs.Parts.{CorePart}
use Rattle.t1_joint.specs.Fit as fit
use Rattle.t1_joint.specs.Fit.{HasEnded, AreOver, traces_from}
use Rattle.t1_core.specs.Threads.{ThreadState}
use Rattle.t1_core.specs.Steps.{CoreState}
use Rattle.t1_core.specs.Ends.{finished_of, trace_of, traces_of}
use Rattle.t1_core_rule.specs.Histories.{History}
use Rattle.t1_core_idle.proofs.Ends.{finished_cores_have_ended}
use Rattle.t1_machine.specs.Machine.{MachineState}
use Rattle.t1_machine.specs.Start.{IsRunnable, setup_of}
use Rattle.t1_machine_rule.specs.Kept.{history_at, Kept}
use Rattle.t1_machine_rule.specs.Parts.{core_part, traces_in}
use Rattle.t1_machine_rule.proofs.Lists.{slice_parts}
use Rattle.t1_machine_rule.proofs.Fits.{parts, there, at_history}

-- ---- where a trace of a machine comes from

pub record IsTraceIn (cores : List CoreState) (trace : Trace) : Type 0 where
  pub c : ℕ
  pub core : CoreState
  pub is : slice_get cores c ≡ Some core
  pub strand : ℕ
  pub thread : ThreadState
  pub has : slice_get core.threads strand ≡ Some thread
  pub trace_is : trace_of thread ≡ trace

in_core : (ts : List ThreadState) (i : ℕ) (trace : Trace) → slice_get (map trace_of ts) i ≡ Some trace → (s : ℕ) × (t : ThreadState) × (slice_get ts s ≡ Some t) × (trace_of t ≡ trace)
in_core [] i trace e = let clash : ◌≡◌ {A = Option Trace} None (Some trace) = e in cc
in_core (t ∷ ts) zero trace e = (0, t, refl, (let same : trace_of t ≡ trace = cc (e) in same))
in_core (t ∷ ts) (suc i) trace e = let more = in_core ts i trace e in (suc more.0, more.1, more.2, more.3)

slice_split : (xs ys : List Trace) (n : ℕ) (a : Trace) → slice_get (xs ++ ys) n ≡ Some a → slice_get xs n ≡ Some a ⊎ ((i : ℕ) × (slice_get ys i ≡ Some a))
slice_split xs ys n a e = slice_parts xs ys n a e

pub trace_from : (cores : List CoreState) (n : ℕ) (trace : Trace) → slice_get (traces_in cores) n ≡ Some trace → IsTraceIn cores trace
trace_from [] n trace e = let clash : ◌≡◌ {A = Option Trace} None (Some trace) = e in cc
trace_from (core ∷ cores) n trace e =
    elim (slice_split (traces_of core) (traces_in cores) n trace e) [
      | inl p ↦ (let at = in_core core.threads n trace p in record { c = 0; core = core; is = refl; strand = at.0; thread = at.1; has = at.2; trace_is = at.3 })
      | inr p ↦
          let at = trace_from cores p.0 trace p.1 in
          record { c = suc at.c; core = at.core; is = at.is; strand = at.strand; thread = at.thread; has = at.has; trace_is = at.trace_is }
    ]

-- ---- the machine

abbrev traces_or : Option CoreState → List Trace
traces_or None = []
traces_or (Some core) = traces_of core

part_traces : (chip : Shape) (h : History) (o : Option CoreState) → (core_part chip h o).traces ≡ traces_or o
part_traces chip h None = refl
part_traces chip h (Some core) = refl

flat_is : (cores : List CoreState) (part : ℕ → CorePart) (b n : ℕ) → length cores ≡ n → ((i : ℕ) → (part (b + i)).traces ≡ traces_or (slice_get cores i)) → traces_from part b n ≡ traces_in cores
flat_is [] part b zero l at = refl
flat_is [] part b (suc n) l at = absurd (omega (arith, l))
flat_is (c ∷ cs) part b zero l at = absurd (omega (arith, l))
flat_is (c ∷ cs) part b (suc n) l at =
    let here : (part b).traces ≡ traces_of c = ap (λ (k : ℕ). (part k).traces) (let z : b ≡ b + 0 = omega arith in z) ∙ at 0 in
    let more : traces_from part (suc b) n ≡ traces_in cs =
    flat_is cs part (suc b) n (omega (arith, l)) (λ i. ap (λ (k : ℕ). (part k).traces) (let z : suc b + i ≡ b + suc i = omega arith in z) ∙ at (suc i)) in
    ap (λ (xs : List Trace). xs ++ traces_from part (suc b) n) here ∙ ap (λ (xs : List Trace). traces_of c ++ xs) more

module _ (config : Config) (image : Image) (runs : IsRunnable (setup_of config image)) (bytes : AreBytes image.ram) (m : MachineState) (g : Kept (setup_of config image) m)
    (short : length m.xbar.log ≤ 4294967295) where
  abbrev w : Setup
  w = setup_of config image

  pub traces_are : fit.traces_of w (parts config image runs bytes m g short) ≡ traces_in m.cores
  traces_are =
      flat_is m.cores (λ c. core_part config.chip (history_at w g.calls c) (slice_get m.cores c)) 0 config.cores g.parts.cores
      (λ i. part_traces config.chip (history_at w g.calls (0 + i)) (slice_get m.cores (0 + i)) ∙ ap (λ (k : ℕ). traces_or (slice_get m.cores k)) (let z : 0 + i ≡ i = omega arith in z))

  pub over_parts : ((c : ℕ) (core : CoreState) → slice_get m.cores c ≡ Some core → finished_of core ≡ true) → AreOver w (parts config image runs bytes m g short)
  over_parts done c s lc ls =
      let x = there config image runs bytes m g short c lc in
      let finished : finished_of (history_at w g.calls c).core ≡ true = subst (λ (k : CoreState). finished_of k ≡ true) (g.cores c x.0 x.1) (done c x.0 x.1) in
      at_history config image runs bytes m g short c (λ (p : CorePart). HasEnded p s) lc ((finished_cores_have_ended w c (g.calls c) runs.blocks).0 finished s ls)
