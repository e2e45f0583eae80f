-- The crossbar admits an access: what is kept.
use Rattle.std.proofs.Common.{◌≡◌, ℕ, ◌+◌, ◌%◌, ◌<◌, ◌≤◌, List, [], ◌∷◌, ◌++◌, length, set, get_or, ap, sym, ◌∙◌, subst, inl, inr, arith, append_assoc}
use Rattle.std.proofs.lemmas.Bool.{cases_eq, cases_lt}
use Rattle.std.proofs.lemmas.List.{length-set, map-append, get_or-set_same, get_or-set_other, get_or_past}
use Rattle.t1_packet.specs.declared.packet.Packet.{Packet}
use Rattle.t1_packet.specs.declared.served.Served.{Served}
use Rattle.t1_packet.specs.Packets.{packet_to}
use Rattle.t1_packet.specs.Ops.{op_dest}
use Rattle.t1_event.specs.declared.report.Config.{Config}
use Rattle.t1_event.specs.declared.commit.Commit.{Commit}
use Rattle.t1_event.specs.Log.{commit_of}
use Rattle.t1_event.specs.BankRule.{bank_after}
use Rattle.t1_elf.specs.declared.object.Image.{Image}
use Rattle.t1_joint.specs.Start.{Setup}
use Rattle.t1_joint.specs.Parts.{posted_before, posts_from, requests_of, asked_by, served_at}
use Rattle.t1_joint.specs.Fit.{destination_start, AreServed, log_of}
use Rattle.t1_fit.proofs.Logs.{record_of}
use Rattle.t1_fit.proofs.Posts.{posts-append}
use Rattle.t1_fit.proofs.States.{own_here, own_other}
use Rattle.t1_xbar.specs.Admission as xbar
use Rattle.t1_machine.specs.Machine.{MachineState, ring_of, posts_pushed}
use Rattle.t1_machine.specs.Start.{setup_of}
use Rattle.t1_machine_rule.specs.Kept.{history_at, ever_served, Kept}
use Rattle.t1_machine_rule.proofs.Lists.{slice_push}
use Rattle.t1_machine_rule.proofs.Rings.{posts_at, length-posts_pushed}
use Rattle.t1_machine_rule.proofs.Views.{admitting}
use Rattle.t1_machine_rule.proofs.Sent.{sent_is, waiting_sent, log_size}

module _ (config : Config) (image : Image) (blocks : config.ram % 65536 ≡ 0) (m : MachineState) (g : Kept (setup_of config image) m)
    (d : ℕ) (a : Served) (rest : List Served) (head : get_or m.served d [] ≡ a ∷ rest) (past : a.request.seen ≤ length m.xbar.log) where
  abbrev w : Setup
  w = setup_of config image

  dest : d < 9
  dest =
      elim (cases_lt d (length m.served)) [
        | inl l ↦ omega (arith, l, g.parts.shaped.all_served)
        | inr l ↦ (let none : get_or m.served d [] ≡ [] = get_or_past m.served d [] l in let clash : ◌≡◌ {A = List Served} [] (a ∷ rest) = sym none ∙ head in cc)
      ]

  of_dest : op_dest config.chip a.request.op ≡ d
  of_dest = (sent_is config image blocks m g a.request.core d a.request (waiting_sent config image blocks m g d a rest dest head)).meant.dest_is

  -- what each destination served is the same list, cut at another place
  same_ever : (e : ℕ) → ever_served config.chip g.admitted m.served e ≡ ever_served config.chip (g.admitted ++ a ∷ []) (set m.served d rest) e
  same_ever e =
      elim (cases_eq e d) [
        | inl s ↦
            let goal : ever_served config.chip g.admitted m.served d ≡ ever_served config.chip (g.admitted ++ a ∷ []) (set m.served d rest) d =
            ap (λ (l : List Served). served_at config.chip d g.admitted ++ l) head
            ∙ (sym (append_assoc (served_at config.chip d g.admitted) (a ∷ []) rest)
            ∙ (ap (λ (l : List Served). l ++ rest) (sym (own_here config.chip d g.admitted a of_dest))
            ∙ ap (λ (l : List Served). served_at config.chip d (g.admitted ++ a ∷ []) ++ l) (sym (get_or-set_same m.served d rest [] (omega (arith, dest, g.parts.shaped.all_served)))))) in
            subst (λ (k : ℕ). ever_served config.chip g.admitted m.served k ≡ ever_served config.chip (g.admitted ++ a ∷ []) (set m.served d rest) k) (sym s) goal
        | inr ns ↦
            ap (λ (l : List Served). l ++ get_or m.served e []) (sym (own_other config.chip e g.admitted a (λ z. ns (sym z ∙ of_dest))))
            ∙ ap (λ (l : List Served). served_at config.chip e (g.admitted ++ a ∷ []) ++ l) (sym (get_or-set_other m.served d e rest [] ns))
      ]

  size : length m.xbar.log ≡ length g.admitted
  size = log_size config image blocks m g

  log_now : m.xbar.log ++ commit_of m.xbar.strands d a ∷ [] ≡ log_of w (g.admitted ++ a ∷ [])
  log_now =
      ap (λ (n : ℕ). m.xbar.log ++ commit_of n d a ∷ []) g.parts.strands
      ∙ (ap (λ (k : ℕ). m.xbar.log ++ commit_of config.strands k a ∷ []) (sym of_dest)
      ∙ (ap (λ (l : List Commit). l ++ record_of w a ∷ []) g.log ∙ sym (map-append (record_of w) g.admitted (a ∷ []))))

  replies_now : (i : ℕ) → i < config.cores
      → (history_at w g.calls i).received ++ get_or (posts_pushed (xbar.posts_from (length m.xbar.log) a 0 m.xbar.cores) m.replies) i [] ≡ posts_from i 0 (g.admitted ++ a ∷ [])
  replies_now i l =
      let n : ℕ = length m.xbar.log in
      let old : List Packet = (history_at w g.calls i).received in
      let more : List Packet = posted_before (packet_to i n a) [] in
      let ring : get_or (posts_pushed (xbar.posts_from n a 0 m.xbar.cores) m.replies) i [] ≡ get_or m.replies i [] ++ more =
      posts_at n a m.xbar.cores m.replies i (omega (arith, l, g.parts.posted)) (let q = g.parts.shaped.all_replies in omega (arith, q, g.parts.cores, g.parts.posted)) in
      let zn : n ≡ 0 + length g.admitted = omega (arith, size) in
      ap (λ (ps : List Packet). old ++ ps) ring
      ∙ (sym (append_assoc old (get_or m.replies i []) more)
      ∙ (ap (λ (ps : List Packet). ps ++ more) (g.replies i l)
      ∙ (ap (λ (k : ℕ). posts_from i 0 g.admitted ++ posted_before (packet_to i k a) []) zn ∙ sym (posts-append i 0 g.admitted (a ∷ [])))))

  pub admit_kept : Kept w (admitting m d a rest)
  admit_kept = record {
    parts = record {
      cores = g.parts.cores;
      shaped = record {
        some = g.parts.shaped.some;
        few = g.parts.shaped.few;
        all_requests = g.parts.shaped.all_requests;
        all_served = length-set m.served d rest ∙ g.parts.shaped.all_served;
        all_replies = length-posts_pushed (xbar.posts_from (length m.xbar.log) a 0 m.xbar.cores) m.replies ∙ g.parts.shaped.all_replies;
        all_banks = g.parts.shaped.all_banks;
        all_tried = g.parts.shaped.all_tried;
      };
      tried = g.parts.tried;
      posted = g.parts.posted;
      strands = g.parts.strands;
      chip = g.parts.chip;
    };
    calls = g.calls;
    admitted = g.admitted ++ a ∷ [];
    log = log_now;
    seen = λ n x h.
        elim (slice_push g.admitted a n x h) [
          | inl p ↦ g.seen n x p
          | inr p ↦ (let s : a.request.seen ≡ x.request.seen = ap (λ (v : Served). v.request.seen) p.1 in omega (arith, s, p.0, past, size))
        ];
    cores = g.cores;
    whole = g.whole;
    absent = g.absent;
    requests = λ i e le. ap (λ (l : List Served). requests_of (asked_by i l) ++ ring_of m.requests i e) (sym (same_ever e)) ∙ g.requests i e le;
    replies = replies_now;
    served = λ e le. subst (λ (l : List Served). AreServed config.chip e (destination_start w e) l) (same_ever e) (g.served e le);
    banks = λ e le. g.banks e le ∙ ap (λ (l : List Served). bank_after (destination_start w e) (requests_of l)) (same_ever e);
  }
