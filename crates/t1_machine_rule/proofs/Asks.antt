-- Where a request that is unanswered stands.
use Rattle.t1_shape.specs.Shapes.{Shape}
use Rattle.std.proofs.Common.{◌≡◌, ℕ, zero, suc, ◌<◌, ◌≤◌, ◌==◌, nat_lt, false, List, [], ◌∷◌, ◌++◌, length, get_or, drop, Option, Some, None, ap, sym, ◌∙◌, subst, inl, inr, arith, append_assoc}
use Rattle.std.specs.List.{slice_get}
use Rattle.std.proofs.lemmas.Bool.{le-ltb}
use Rattle.std.proofs.lemmas.List.{map-append}
use Rattle.std.proofs.lemmas.List.Elements.{filter-append}
use Rattle.t1_num.specs.MemoryLaws.{AreBytes}
use Rattle.t1_packet.specs.declared.packet.Packet.{Packet}
use Rattle.t1_packet.specs.declared.served.Served.{Served}
use Rattle.t1_packet.specs.Data.{RequestData}
use Rattle.t1_packet.specs.Ops.{op_dest}
use Rattle.t1_event.specs.declared.report.Config.{Config}
use Rattle.t1_elf.specs.declared.object.Image.{Image}
use Rattle.t1_joint.specs.Lists.{IsIn, AreDistinct}
use Rattle.t1_joint.specs.Start.{Setup}
use Rattle.t1_joint.specs.Parts.{Out, CorePart, requests_of, asked_by, served_at, answered}
use Rattle.t1_joint.specs.Proper.{IsTime}
use Rattle.t1_received.specs.Requests.{sent_to}
use Rattle.t1_fit.proofs.Posts.{mine, answered-append, answered_posts}
use Rattle.t1_fit.proofs.Came.{time_within}
use Rattle.t1_core.specs.Steps.{CoreState}
use Rattle.t1_xbar.specs.declared.admitted.Admitted.TheVariants.{NotSeen}
use Rattle.t1_xbar.specs.Admission.{XbarState, full_from, admitted_unless, admission}
use Rattle.t1_machine.specs.Machine.{MachineState, ring_of}
use Rattle.t1_machine.specs.Start.{IsRunnable, setup_of}
use Rattle.t1_machine_rule.specs.Kept.{history_at, ever_served, Kept}
use Rattle.t1_machine_rule.specs.Stands.{on_their_way, IsAsking, IsSeenIn}
use Rattle.t1_machine_rule.proofs.Lists.{drop_front}
use Rattle.t1_machine_rule.proofs.Rings.{dest_small}
use Rattle.t1_machine_rule.proofs.Sent.{sent_is, waiting_sent, log_size}
use Rattle.t1_machine_rule.proofs.Fits.{parts, at_history, keeps_here, keeps}
use Rattle.t1_machine_rule.proofs.Times.{all_past}

in_drop : (n : ℕ) (r : RequestData) (rs : List RequestData) → IsIn r (drop n rs) → IsIn r rs
in_drop zero r rs h = h
in_drop (suc n) r [] h = h
in_drop (suc n) r (q ∷ rs) h = inr (in_drop n r rs h)

-- where an access is seen in time, the crossbar does not answer that it is not
unless_seen : (x : XbarState) (d : ℕ) (a : Served) (o : Option ℕ) (seen len : ℕ) → (admitted_unless x d a o).answer ≡ NotSeen seen len → ⊥
unless_seen x d a None seen len e = cc
unless_seen x d a (Some core) seen len e = cc

admission_seen : (x : XbarState) (d : ℕ) (a : Served) (rooms seen len : ℕ) → a.request.seen ≤ length x.log → (admission x d a rooms).answer ≡ NotSeen seen len → ⊥
unfolding admission
admission_seen x d a rooms seen len le e =
    let t : nat_lt (length x.log) a.request.seen ≡ false = le-ltb (length x.log) a.request.seen le in
    let now : (admitted_unless x d a (full_from rooms (length x.log) a 0 x.cores)).answer ≡ NotSeen seen len = rw t at e in
    unless_seen x d a (full_from rooms (length x.log) a 0 x.cores) seen len now

-- a ring that holds something is there
not_past : (rings : List (List Served)) (k : ℕ) (b : Served) (more : List Served) → get_or rings k [] ≡ b ∷ more → k < length rings
not_past [] k b more e = let clash : ◌≡◌ {A = List Served} [] (b ∷ more) = e in cc
not_past (ring ∷ rings) zero b more e = omega arith
not_past (ring ∷ rings) (suc k) b more e = let l = not_past rings k b more e in omega (arith, l)

module _ (config : Config) (image : Image) (runs : IsRunnable (setup_of config image)) (bytes : AreBytes image.ram) (m : MachineState) (g : Kept (setup_of config image) m)
    (short : length m.xbar.log ≤ 4294967295) where
  abbrev w : Setup
  w = setup_of config image

  -- what is sent and unanswered is on its way
  unanswered_here : (c d : ℕ) → c < config.cores → d < 9 → drop (length (answered config.chip c d (history_at w g.calls c).received)) (sent_to config.chip d (history_at w g.calls c).sent) ≡ on_their_way m c d
  unanswered_here c d lc ld =
      let came : List RequestData = answered config.chip c d (history_at w g.calls c).received in
      let back : List RequestData = answered config.chip c d (get_or m.replies c []) in
      let held : List RequestData = requests_of (asked_by c (get_or m.served d [])) in
      let asked : List RequestData = ring_of m.requests c d in
      let one : mine config.chip c d g.admitted ≡ came ++ back =
      sym (answered_posts config.chip c d 0 g.admitted)
      ∙ (ap (λ (ps : List Packet). answered config.chip c d ps) (sym (g.replies c lc)) ∙ answered-append config.chip c d (history_at w g.calls c).received (get_or m.replies c [])) in
      let two : requests_of (asked_by c (ever_served config.chip g.admitted m.served d)) ≡ mine config.chip c d g.admitted ++ held =
      ap requests_of (filter-append (λ (a : Served). a.request.core == c) (served_at config.chip d g.admitted) (get_or m.served d []))
      ∙ map-append (λ (a : Served). a.request) (asked_by c (served_at config.chip d g.admitted)) (asked_by c (get_or m.served d [])) in
      let three : sent_to config.chip d (history_at w g.calls c).sent ≡ came ++ (back ++ (held ++ asked)) =
      sym (g.requests c d ld)
      ∙ (ap (λ (l : List RequestData). l ++ asked) (two ∙ ap (λ (l : List RequestData). l ++ held) one)
      ∙ (append_assoc (came ++ back) held asked ∙ append_assoc came back (held ++ asked))) in
      ap (λ (l : List RequestData). drop (length came) l) three
      ∙ (drop_front came (back ++ (held ++ asked)) ∙ ap (λ (k : Shape). answered k c d (get_or m.replies c []) ++ (held ++ asked)) (sym g.parts.chip))

  pub asking : (c d : ℕ) → c < config.cores → d < 9 → IsAsking w m ((parts config image runs bytes m g short).core c) c d
  asking c d lc ld =
      at_history config image runs bytes m g short c (λ (p : CorePart). IsAsking w m p c d) lc (record {
        unanswered_are = unanswered_here c d lc ld;
        distinct = subst (λ (rs : List RequestData). AreDistinct rs) (unanswered_here c d lc ld) ((keeps_here config image runs bytes m g short c lc).distinct d);
      })

  -- what a strand awaits, and what its buffer sent, is on its way
  pub awaited : (c s : ℕ) (r : RequestData) → c < config.cores → ((parts config image runs bytes m g short).core c).standing s ≡ Out r → IsIn r (on_their_way m c (op_dest config.chip r.op))
  awaited c s r lc e =
      subst (λ (rs : List RequestData). IsIn r rs) (asking c (op_dest config.chip r.op) lc (dest_small config.chip r.op)).unanswered_are
      ((keeps config image runs bytes m g short c lc).awaited s r e)

  pub stored : (c s : ℕ) (r : RequestData) → c < config.cores → IsIn r (((parts config image runs bytes m g short).core c).sending s) → IsIn r (on_their_way m c (op_dest config.chip r.op))
  stored c s r lc e =
      subst (λ (rs : List RequestData). IsIn r rs) (asking c (op_dest config.chip r.op) lc (dest_small config.chip r.op)).unanswered_are
      ((keeps config image runs bytes m g short c lc).stored s r e)

  -- what was sent was sent at a time that the core knows
  sent_known : (c d : ℕ) (r : RequestData) → c < config.cores → IsIn r (sent_to config.chip d (history_at w g.calls c).sent) → IsTime (history_at w g.calls c).received r.seen
  sent_known c d r lc h = (keeps_here config image runs bytes m g short c lc).sent_times d r h

  pub seen_by_time : (c d : ℕ) (core : CoreState) (r : RequestData) → slice_get m.cores c ≡ Some core → c < config.cores → d < 9 → IsIn r (on_their_way m c d) → r.seen ≤ core.time
  seen_by_time c d core r is lc ld h =
      let sent : IsIn r (sent_to config.chip d (history_at w g.calls c).sent) =
      in_drop (length (answered config.chip c d (history_at w g.calls c).received)) r (sent_to config.chip d (history_at w g.calls c).sent) (subst (λ (rs : List RequestData). IsIn r rs) (sym (unanswered_here c d lc ld)) h) in
      elim (sent_known c d r lc sent) [
        | inl z ↦ omega (arith, z)
        | inr q ↦ let l = all_past config image runs bytes m g short c core is q.0 q.1 in let z = q.2 in omega (arith, l, z)
      ]

  -- an access that waits to be admitted is seen by then
  pub seen_in_time : (d : ℕ) (a : Served) (rest : List Served) → d < 9 → get_or m.served d [] ≡ a ∷ rest → a.request.seen ≤ length m.xbar.log
  seen_in_time d a rest ld head =
      let c : ℕ = a.request.core in
      let sent = waiting_sent config image runs.blocks m g d a rest ld head in
      let lc : c < config.cores = (sent_is config image runs.blocks m g c d a.request sent).small in
      let l = time_within c a.request.seen g.admitted (history_at w g.calls c).received (get_or m.replies c []) (g.replies c lc) (sent_known c d a.request lc sent) in
      let z = log_size config image runs.blocks m g in
      omega (arith, l, z)

  pub always_seen : IsSeenIn m
  always_seen d rooms seen len a rest head e = admission_seen m.xbar d a rooms seen len (seen_in_time d a rest within head) e
    where
      within : d < 9
      within = let l = not_past m.served d a rest head in omega (arith, l, g.parts.shaped.all_served)
