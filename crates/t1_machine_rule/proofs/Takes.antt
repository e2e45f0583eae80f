-- A core takes a packet: what is kept.
use Rattle.std.proofs.Common.{◌≡◌, ℕ, ◌+◌, ◌<◌, ◌≤◌, ◌==◌, Bool, true, false, cond, List, [], ◌∷◌, ◌++◌, length, set, get_or, Some, refl, ap, sym, ◌∙◌, subst, inl, inr, arith, append_assoc}
use Rattle.std.specs.List.{slice_get}
use Rattle.std.proofs.lemmas.Bool.{cases_eq, eq-eqb, ne_eqb}
use Rattle.std.proofs.lemmas.List.{length-set, append-nil, get_or-set_same, get_or-set_other}
use Rattle.t1_packet.specs.declared.packet.Packet.{Packet}
use Rattle.t1_packet.specs.declared.served.Served.{Served}
use Rattle.t1_packet.specs.Data.{RequestData, ReplyData}
use Rattle.t1_packet.specs.Ops.{op_dest}
use Rattle.t1_event.specs.declared.report.Config.{Config}
use Rattle.t1_elf.specs.declared.object.Image.{Image}
use Rattle.t1_joint.specs.Lists.{IsIn}
use Rattle.t1_joint.specs.Start.{Setup}
use Rattle.t1_joint.specs.Parts.{posts_from, requests_of, asked_by, served_at}
use Rattle.t1_joint.specs.Fit.{destination_start}
use Rattle.t1_received.specs.Requests.{sent_to}
use Rattle.t1_fit.proofs.Lists.{in_right, slice_front}
use Rattle.t1_fit.proofs.Posts.{packet_is, from_posts}
use Rattle.t1_core.specs.Steps.{CoreState}
use Rattle.t1_core.specs.Takes.{take_of}
use Rattle.t1_core_rule.specs.Histories.{Call, Take}
use Rattle.t1_machine.specs.Machine.{MachineState, ring_of}
use Rattle.t1_machine.specs.Start.{setup_of}
use Rattle.t1_machine_rule.specs.Kept.{history_at, ever_served, Kept}
use Rattle.t1_machine_rule.proofs.Rings.{dest_small}
use Rattle.t1_machine_rule.proofs.Serves.{served_short, own_in}
use Rattle.t1_machine_rule.proofs.Views.{taking}
use Rattle.t1_machine_rule.proofs.Cores.{calls_with, core_within, cores_now, whole_now, absent_now, sent_now, received_now}

module _ (config : Config) (image : Image) (m : MachineState) (g : Kept (setup_of config image) m) where
  abbrev w : Setup
  w = setup_of config image

  -- the line of an access that was admitted
  admitted_short : (n : ℕ) (a : Served) → slice_get g.admitted n ≡ Some a → length a.line ≤ 32
  admitted_short n a is =
      let d : ℕ = op_dest config.chip a.request.op in
      let at = own_in config.chip d g.admitted n a is refl in
      served_short config.chip d (destination_start w d) (ever_served config.chip g.admitted m.served d) at.0 a (g.served d (dest_small config.chip a.request.op))
      (slice_front (served_at config.chip d g.admitted) (get_or m.served d []) at.0 a at.1)

  module _ (c : ℕ) (core : CoreState) (packet : Packet) (rest : List Packet) (is : slice_get m.cores c ≡ Some core) (head : get_or m.replies c [] ≡ packet ∷ rest) where
    abbrev next : CoreState
    next = take_of core packet

    abbrev calls : ℕ → List Call
    calls = calls_with g.calls c (Take packet)

    within : c < config.cores
    within = core_within w m g c core next (Take packet) is

    line : (reply : ReplyData) → packet.reply ≡ Some reply → length reply.line ≤ 32
    line reply e =
        let there : IsIn packet (posts_from c 0 g.admitted) =
        subst (λ (ps : List Packet). IsIn packet ps) (g.replies c within)
        (in_right packet (history_at w g.calls c).received (get_or m.replies c []) (subst (λ (ps : List Packet). IsIn packet ps) (sym head) (inl refl))) in
        let at = from_posts c 0 g.admitted packet there in
        let same = (packet_is c (0 + at.0) at.1 packet at.3).reply reply e in
        subst (λ (r : ReplyData). length r.line ≤ 32) same (admitted_short at.0 at.1 at.2)

    none_sent : (b : Bool) (rs : List RequestData) → rs ++ cond b [] [] ≡ rs
    none_sent true rs = append-nil rs
    none_sent false rs = append-nil rs

    requests_now : (i e : ℕ) → e < 9
        → requests_of (asked_by i (ever_served config.chip g.admitted m.served e)) ++ ring_of m.requests i e ≡ sent_to config.chip e (history_at w calls i).sent
    requests_now i e le =
        g.requests i e le
        ∙ sym (sent_now w m g c core next (Take packet) is [] (λ h same. sym (append-nil h.sent)) i e ∙ none_sent (i == c) (sent_to config.chip e (history_at w g.calls i).sent))

    replies_now : (i : ℕ) → i < config.cores → (history_at w calls i).received ++ get_or (set m.replies c rest) i [] ≡ posts_from i 0 g.admitted
    replies_now i l =
        let old : List Packet = (history_at w g.calls i).received in
        let came = received_now w m g c core next (Take packet) is (packet ∷ []) (λ h. refl) i in
        ap (λ (ps : List Packet). ps ++ get_or (set m.replies c rest) i []) came
        ∙ elim (cases_eq i c) [
          | inl e ↦
              let now : get_or (set m.replies c rest) i [] ≡ rest =
              ap (λ (k : ℕ). get_or (set m.replies c rest) k []) e ∙ get_or-set_same m.replies c rest [] (omega (arith, within, g.parts.shaped.all_replies, g.parts.cores)) in
              let head_here : get_or m.replies i [] ≡ packet ∷ rest = ap (λ (k : ℕ). get_or m.replies k []) e ∙ head in
              ap (λ (b : Bool). (old ++ cond b (packet ∷ []) []) ++ get_or (set m.replies c rest) i []) (eq-eqb i c e)
              ∙ (ap (λ (ps : List Packet). (old ++ packet ∷ []) ++ ps) now
              ∙ (append_assoc old (packet ∷ []) rest ∙ (ap (λ (ps : List Packet). old ++ ps) (sym head_here) ∙ g.replies i l)))
          | inr ne ↦
              ap (λ (b : Bool). (old ++ cond b (packet ∷ []) []) ++ get_or (set m.replies c rest) i []) (ne_eqb i c ne)
              ∙ (ap (λ (ps : List Packet). ps ++ get_or (set m.replies c rest) i []) (append-nil old)
              ∙ (ap (λ (ps : List Packet). old ++ ps) (get_or-set_other m.replies c i rest [] ne) ∙ g.replies i l))
        ]

    pub take_kept : Kept w (taking m c core packet rest)
    take_kept = record {
      parts = record {
        cores = length-set m.cores c next ∙ g.parts.cores;
        shaped = record {
          some = (let l = g.parts.shaped.some in omega (arith, l, length-set m.cores c next));
          few = (let l = g.parts.shaped.few in omega (arith, l, length-set m.cores c next));
          all_requests = (let l = g.parts.shaped.all_requests in omega (arith, l, length-set m.cores c next));
          all_served = g.parts.shaped.all_served;
          all_replies = (let l = g.parts.shaped.all_replies in omega (arith, l, length-set m.cores c next, length-set m.replies c rest));
          all_banks = g.parts.shaped.all_banks;
          all_tried = g.parts.shaped.all_tried;
        };
        tried = g.parts.tried;
        posted = g.parts.posted;
        strands = g.parts.strands;
        chip = g.parts.chip;
      };
      calls = calls;
      admitted = g.admitted;
      log = g.log;
      seen = g.seen;
      cores = cores_now w m g c core next (Take packet) is (λ h same. ap (λ (k : CoreState). take_of k packet) same);
      whole = whole_now w m g c core next (Take packet) is line;
      absent = absent_now w m g c core next (Take packet) is;
      requests = requests_now;
      replies = replies_now;
      served = g.served;
      banks = g.banks;
    }
