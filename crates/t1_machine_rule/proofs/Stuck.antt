-- Where no slot is enabled, the machine is over.
use Rattle.t1_shape.specs.Shapes.{Shape}
use Rattle.t1_shape.specs.Numbers.{most_strands}
use Rattle.std.proofs.Common.{◌≡◌, ℕ, ◌<◌, ◌≤◌, true, [], length, Option, Some, None, refl, ap, sym, ◌∙◌, subst, arith}
use Rattle.std.specs.List.{slice_get}
use Rattle.t1_num.specs.MemoryLaws.{AreBytes}
use Rattle.t1_packet.specs.Data.{RequestData}
use Rattle.t1_event.specs.declared.report.Config.{Config}
use Rattle.t1_elf.specs.declared.object.Image.{Image}
use Rattle.t1_joint.specs.Start.{Setup}
use Rattle.t1_joint.specs.Parts.{Out, CorePart}
use Rattle.t1_joint.specs.Fit.{HasEnded}
use Rattle.t1_core.specs.declared.answers.Did.{Did}
use Rattle.t1_core.specs.declared.answers.Drained.{Drained}
use Rattle.t1_core.specs.declared.answers.Drained.TheVariants as drained
use Rattle.t1_core.specs.Steps.{CoreState, drain_of}
use Rattle.t1_core.specs.Turns.{turn_of}
use Rattle.t1_core.specs.Ends.{finished_of}
use Rattle.t1_core_rule.specs.Histories.{History, drained_by}
use Rattle.t1_core_rule.specs.Parts.{part_of}
use Rattle.t1_core_idle.specs.Laws.{HasAllRoom}
use Rattle.t1_core_idle.proofs.Buffers.{undrained_buffers_are_empty}
use Rattle.t1_core_idle.proofs.Acts.{waiting_strands_have_ended}
use Rattle.t1_core_idle.proofs.Ends.{finished_cores_have_ended}
use Rattle.t1_machine.specs.Machine.{MachineState, request_rooms, exec_did, exec_in, drain_did, drain_in}
use Rattle.t1_machine.specs.Start.{IsRunnable, setup_of}
use Rattle.t1_machine_rule.specs.Kept.{history_at, Kept}
use Rattle.t1_machine_rule.specs.Ends.{NoneEnabled, IsOver}
use Rattle.t1_machine_rule.proofs.Slots.{no_exec, no_drain}
use Rattle.t1_machine_rule.proofs.Askers.{requests_have_room}
use Rattle.t1_machine_rule.proofs.Fits.{parts, part_here, core_within}
use Rattle.t1_machine_rule.proofs.Idle.{no_replies, no_served, no_requests, not_out, none_sending}

did_none : (m : MachineState) (c : ℕ) (core : CoreState) (o : Option Did) → exec_did m c core o ≡ None → o ≡ None
did_none m c core None e = refl
did_none m c core (Some did) e = let clash : ◌≡◌ {A = Option MachineState} (Some _) None = e in cc

drain_none : (m : MachineState) (c : ℕ) (core : CoreState) (o : Drained) → drain_did m c core o ≡ None → drained_by o ≡ []
drain_none m c core (drained.Sent dest r) e = let clash : ◌≡◌ {A = Option MachineState} (Some _) None = e in cc
drain_none m c core drained.Empty e = refl
drain_none m c core drained.Out e = refl
drain_none m c core (drained.NoRoom dest) e = refl

module _ (config : Config) (image : Image) (runs : IsRunnable (setup_of config image)) (bytes : AreBytes image.ram) (m : MachineState) (g : Kept (setup_of config image) m)
    (short : length m.xbar.log ≤ 4294967295) (none : NoneEnabled m) where
  abbrev w : Setup
  w = setup_of config image

  core_over : (c : ℕ) (core : CoreState) → slice_get m.cores c ≡ Some core → finished_of core ≡ true
  core_over c core is =
      let lc : c < config.cores = core_within config image runs bytes m g short c core is in
      let few : c < 8 = (let l = runs.few_cores in omega (arith, l, lc)) in
      let h : History = history_at w g.calls c in
      let room : ℕ = request_rooms m.requests c in
      let same : core ≡ h.core = g.cores c core is in
      let here : (parts config image runs bytes m g short).core c ≡ part_of config.chip h = part_here config image runs bytes m g short c core is in
      let all : HasAllRoom room = requests_have_room m.requests c (λ d ld. no_requests config image runs bytes m g short none c d lc ld) in
      let turn : (turn_of core room).did ≡ None = did_none m c (turn_of core room).core (turn_of core room).did (ap (λ (o : Option CoreState). exec_in m c o) (sym is) ∙ no_exec m none c few) in
      let turned : (turn_of h.core room).did ≡ None = subst (λ (k : CoreState). (turn_of k room).did ≡ None) same turn in
      let drains : (s : ℕ) → s < config.strands → drained_by (drain_of h.core s room).did ≡ [] = λ s ls.
      subst (λ (k : CoreState). drained_by (drain_of k s room).did ≡ []) same
      (drain_none m c (drain_of core s room).core (drain_of core s room).did
      (ap (λ (o : Option CoreState). drain_in m c s o) (sym is) ∙ no_drain m none c s few (subst (λ (k : Shape). s < most_strands k) (sym g.parts.chip) (let l = runs.few_strands in omega (arith, l, ls))))) in
      let sends : (s : ℕ) → (part_of config.chip h).sending s ≡ [] = λ s.
      subst (λ (p : CorePart). p.sending s ≡ []) here (none_sending config image runs bytes m g short none c s lc) in
      let empty : (s : ℕ) → s < config.strands → (part_of config.chip h).waiting s ≡ [] = λ s ls.
      undrained_buffers_are_empty w c s room (g.calls c) runs.blocks all (drains s ls) (sends s) in
      let out : (s : ℕ) (r : RequestData) → (part_of config.chip h).standing s ≡ Out r → ⊥ = λ s r.
      subst (λ (p : CorePart). p.standing s ≡ Out r → ⊥) here (not_out config image runs bytes m g short none c s r lc) in
      let ended : (s : ℕ) → s < config.strands → HasEnded (part_of config.chip h) s = λ s ls.
      waiting_strands_have_ended w c s room (g.calls c) runs.blocks ls all turned (out s) (empty s ls) in
      subst (λ (k : CoreState). finished_of k ≡ true) (sym same) ((finished_cores_have_ended w c (g.calls c) runs.blocks).1 ended)

  pub idle_is_over : IsOver w m
  idle_is_over = record {
    cores = core_over;
    requests = no_requests config image runs bytes m g short none;
    served = no_served config image runs bytes m g short none;
    replies = no_replies config image runs bytes m g short none;
  }
