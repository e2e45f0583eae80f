-- Where no slot is enabled, all rings are empty, and nothing is unanswered.
use Rattle.t1_shape.specs.Shapes.{Shape}
use Rattle.t1_shape.specs.Numbers.{destinations}
use Rattle.t1_machine_rule.proofs.Sent.{sent_is, ring_sent, waiting_sent}
use Rattle.std.proofs.Common.{◌≡◌, ℕ, ◌<◌, ◌≤◌, nat_lt, Bool, true, false, List, [], ◌∷◌, ◌++◌, length, get_or, Option, Some, None, refl, ap, sym, ◌∙◌, subst, inl, arith}
use Rattle.std.proofs.lemmas.Bool.{le-ltb}
use Rattle.t1_num.specs.MemoryLaws.{AreBytes}
use Rattle.t1_packet.specs.declared.packet.Packet.{Packet}
use Rattle.t1_packet.specs.declared.served.Served.{Served}
use Rattle.t1_packet.specs.Data.{RequestData}
use Rattle.t1_packet.specs.Ops.{op_dest}
use Rattle.t1_event.specs.declared.report.Config.{Config}
use Rattle.t1_elf.specs.declared.object.Image.{Image}
use Rattle.t1_joint.specs.Lists.{IsIn}
use Rattle.t1_joint.specs.Start.{Setup}
use Rattle.t1_joint.specs.Parts.{Out, requests_of, asked_by, answered}
use Rattle.t1_core.specs.Steps.{CoreState}
use Rattle.t1_xbar.specs.Admission.{full_from, admitted_unless, admission}
use Rattle.t1_machine.specs.Machine.{MachineState, ring_of, reply_rooms, asker_from, serving, serve_ring, serve_core, serve_if, take_from, take_in, admit_as, admit_from}
use Rattle.t1_machine.specs.Start.{IsRunnable, setup_of}
use Rattle.t1_machine_rule.specs.Kept.{Kept}
use Rattle.t1_machine_rule.specs.Stands.{on_their_way}
use Rattle.t1_machine_rule.specs.Ends.{NoneEnabled}
use Rattle.t1_machine_rule.proofs.Slots.{no_take, no_serve, no_admit}
use Rattle.t1_machine_rule.proofs.Askers.{none_asks, asker_some, replies_have_room, none_full}
use Rattle.t1_machine_rule.proofs.Rings.{dest_small, dest_inside}
use Rattle.t1_machine_rule.proofs.Views.{admitting}
use Rattle.t1_machine_rule.proofs.Fits.{parts, there}
use Rattle.t1_machine_rule.proofs.Asks.{awaited, stored, seen_in_time}

module _ (config : Config) (image : Image) (runs : IsRunnable (setup_of config image)) (bytes : AreBytes image.ram) (m : MachineState) (g : Kept (setup_of config image) m)
    (short : length m.xbar.log ≤ 4294967295) (none : NoneEnabled m) where
  abbrev w : Setup
  w = setup_of config image

  core_small : (c : ℕ) → c < config.cores → c < 8
  core_small c l = let few = runs.few_cores in omega (arith, l, few)

  pub no_replies : (c : ℕ) → c < config.cores → get_or m.replies c [] ≡ []
  no_replies c l =
      let x = there config image runs bytes m g short c l in
      by x.0 (get_or m.replies c []) refl (ap (λ (o : Option CoreState). take_in m c o) (sym x.1) ∙ no_take m none c (core_small c l))
    where
      by : (core : CoreState) (ps : List Packet) → get_or m.replies c [] ≡ ps → take_from m c core ps ≡ None → get_or m.replies c [] ≡ []
      by core [] e h = e
      by core (p ∷ rest) e h = let clash : ◌≡◌ {A = Option MachineState} (Some _) None = h in cc

  all_replies : (k : ℕ) → k < length m.replies → get_or m.replies k [] ≡ []
  all_replies k l = no_replies k (let e = g.parts.shaped.all_replies in omega (arith, l, e, g.parts.cores))

  -- what stands in a ring goes there, so it is a destination of the chip
  goes_in : (d : ℕ) (r : RequestData) → op_dest config.chip r.op ≡ d → d < destinations m.chip
  goes_in d r e = subst (λ (k : Shape). d < destinations k) (sym g.parts.chip) (subst (λ (n : ℕ). n < destinations config.chip) e (dest_inside config.chip r.op))

  pub no_served : (d : ℕ) → d < 9 → get_or m.served d [] ≡ []
  unfolding admission
  no_served d ld = by (get_or m.served d []) refl
    where
      by : (ss : List Served) → get_or m.served d [] ≡ ss → get_or m.served d [] ≡ []
      by [] e = e
      by (a ∷ rest) e =
          let sent = sent_is config image runs.blocks m g a.request.core d a.request (waiting_sent config image runs.blocks m g d a rest ld e) in
          let h : admit_from m d (a ∷ rest) ≡ None = subst (λ (ss : List Served). admit_from m d ss ≡ None) e (no_admit m none d (goes_in d a.request sent.meant.dest_is)) in
          let rooms : ℕ = reply_rooms m.replies in
          let seen : nat_lt (length m.xbar.log) a.request.seen ≡ false = le-ltb (length m.xbar.log) a.request.seen (seen_in_time config image runs bytes m g short d a rest ld e) in
          let free : full_from (reply_rooms m.replies) (length m.xbar.log) a 0 m.xbar.cores ≡ None =
          none_full (reply_rooms m.replies) (length m.xbar.log) a 0 m.xbar.cores (length m.replies) (let q = g.parts.shaped.all_replies in omega (arith, q, g.parts.cores, g.parts.posted)) (replies_have_room m.replies all_replies) in
          let now : admit_as m d rest (admitted_unless m.xbar d a (full_from (reply_rooms m.replies) (length m.xbar.log) a 0 m.xbar.cores)) ≡ None = rw seen at h in
          let some : admit_as m d rest (admitted_unless m.xbar d a None) ≡ None = subst (λ (o : Option ℕ). admit_as m d rest (admitted_unless m.xbar d a o) ≡ None) free now in
          let clash : ◌≡◌ {A = Option MachineState} (Some (admitting m d a rest)) None = some in cc

  pub no_requests : (c d : ℕ) → c < config.cores → d < 9 → ring_of m.requests c d ≡ []
  no_requests c d lc ld = first (ring_of m.requests c d) refl
    where
      ring : (k : ℕ) (rs : List RequestData) → ring_of m.requests k d ≡ rs → serve_ring m d k rs ≡ None → ring_of m.requests k d ≡ []
      ring k [] e h = e
      ring k (r ∷ rest) e h = let clash : ◌≡◌ {A = Option MachineState} (Some (serving m d k r rest)) None = h in cc

      by : (o : Option ℕ) → asker_from m.requests (length m.cores) d (get_or m.tried d 0) (length m.cores) ≡ o → serve_core m d o ≡ None
          → asker_from m.requests (length m.cores) d (get_or m.tried d 0) (length m.cores) ≡ None
      by None e h = e
      by (Some k) e h = absurd (asker_some m.requests (length m.cores) d (get_or m.tried d 0) (length m.cores) k e (ring k (ring_of m.requests k d) refl h))

      all : d < destinations m.chip → ring_of m.requests c d ≡ []
      all l =
          let room : nat_lt (length (get_or m.served d [])) 2 ≡ true = ap (λ (ss : List Served). nat_lt (length ss) 2) (no_served d ld) in
          let core : serve_core m d (asker_from m.requests (length m.cores) d (get_or m.tried d 0) (length m.cores)) ≡ None =
          ap (λ (t : Bool). serve_if m d t) (sym room) ∙ no_serve m none d l in
          let cores : length m.cores ≡ config.cores = g.parts.cores in
          let first : get_or m.tried d 0 < config.cores = g.parts.tried d in
          none_asks m.requests (length m.cores) d (get_or m.tried d 0) (length m.cores) c (omega (arith, first, cores)) (omega (arith, lc, cores)) (λ l. omega (arith, lc, cores)) (λ l. omega (arith, l))
          (by (asker_from m.requests (length m.cores) d (get_or m.tried d 0) (length m.cores)) refl core)

      first : (rs : List RequestData) → ring_of m.requests c d ≡ rs → ring_of m.requests c d ≡ []
      first [] e = e
      first (r ∷ rest) e = all (goes_in d r (ring_sent config image runs.blocks m g c d r rest ld e).meant.dest_is)

  -- so no request is on its way
  pub nothing : (c d : ℕ) → c < config.cores → d < 9 → on_their_way m c d ≡ []
  nothing c d lc ld =
      ap (λ (ps : List Packet). answered m.chip c d ps ++ (requests_of (asked_by c (get_or m.served d [])) ++ ring_of m.requests c d)) (no_replies c lc)
      ∙ (ap (λ (ss : List Served). answered m.chip c d [] ++ (requests_of (asked_by c ss) ++ ring_of m.requests c d)) (no_served d ld)
      ∙ ap (λ (rs : List RequestData). answered m.chip c d [] ++ (requests_of (asked_by c []) ++ rs)) (no_requests c d lc ld))

  pub not_out : (c s : ℕ) (r : RequestData) → c < config.cores → ((parts config image runs bytes m g short).core c).standing s ≡ Out r → ⊥
  not_out c s r lc e =
      subst (λ (rs : List RequestData). IsIn r rs) (nothing c (op_dest config.chip r.op) lc (dest_small config.chip r.op)) (awaited config image runs bytes m g short c s r lc e)

  pub none_sending : (c s : ℕ) → c < config.cores → ((parts config image runs bytes m g short).core c).sending s ≡ []
  none_sending c s lc = by (((parts config image runs bytes m g short).core c).sending s) refl
    where
      by : (rs : List RequestData) → ((parts config image runs bytes m g short).core c).sending s ≡ rs → rs ≡ []
      by [] e = refl
      by (r ∷ rs) e =
          absurd (subst (λ (qs : List RequestData). IsIn r qs) (nothing c (op_dest config.chip r.op) lc (dest_small config.chip r.op))
          (stored config image runs bytes m g short c s r lc (subst (λ (qs : List RequestData). IsIn r qs) (sym e) (inl refl))))
