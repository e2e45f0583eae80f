-- A packet, where the packets that came are proper.
use Rattle.t1_shape.specs.Shapes.{Shape}
use Rattle.std.proofs.Common.{◌≡◌, ◌≤◌, ◌<◌, ℕ, ◌+◌, ◌-◌, ◌^◌, ◌==◌, Bool, true, false, List, [], ◌∷◌, ◌++◌, length, set, take, Option, Some, None, refl, ap, sym, ◌∙◌, subst, inl, inr, arith}
use Rattle.std.specs.List.{slice_get}
use Rattle.std.proofs.lemmas.Bool.{cases_Bool, eq-eqb, ne_eqb, le-ltb}
use Rattle.t1_shape.specs.Slots.{Line, victim_of}
use Rattle.t1_decode.specs.Words.{insn_of}
use Rattle.t1_exec.specs.Needs.{need_of}
use Rattle.t1_state.specs.declared.strand.Strand.{Strand}
use Rattle.t1_packet.specs.declared.cache.Cache.{Cache}
use Rattle.t1_packet.specs.declared.cache.Cache.TheVariants.{Dcache, Icache}
use Rattle.t1_packet.specs.Caches.{layout, with_kills, with_answer, pointers_with_answer, filled_line}
use Rattle.t1_packet.specs.declared.op.Op.TheVariants as op
use Rattle.t1_packet.specs.declared.packet.Packet.{Packet}
use Rattle.t1_packet.specs.Data.{RequestData, ReplyData}
use Rattle.t1_packet.specs.Ops.{op_dest, is_store, asked_way}
use Rattle.t1_packet.specs.Packets.{with_reply, pointers_with_reply, with_packet, pointers_with_packet}
use Rattle.t1_l1.specs.Cache.{CacheState}
use Rattle.t1_joint.specs.Lists.{IsIn}
use Rattle.t1_joint.specs.Start.{Setup}
use Rattle.t1_joint.specs.Parts.{answers, answered}
use Rattle.t1_joint.specs.Proper.{IsTime, AreProper, l1_by, pointers_by, victim_by}
use Rattle.t1_received.specs.Requests.{sent_to, is_of, of_class, GoTo, answered_in}
use Rattle.t1_received.proofs.Lists.{in_more, in_left, in_right, in_last, filter_in}
use Rattle.t1_received.proofs.Sorts.{own_class, out_less, first_of_class, rest_less}
use Rattle.t1_received.proofs.Packets.{ascend_last, caches_follow_packets}
use Rattle.t1_core.specs.declared.phase.Phase.{Phase}
use Rattle.t1_core.specs.declared.phase.Phase.TheVariants as phase
use Rattle.t1_core.specs.Threads.{ThreadState, op_for}
use Rattle.t1_core.specs.Steps.{CoreState}
use Rattle.t1_core.specs.Takes.{killed, Answered, thread_answer, answered_at, take_of}
use Rattle.t1_core.specs.Takes as takes
use Rattle.t1_core.specs.Replays.{bare_items, IsReplayed}
use Rattle.t1_core_rule.specs.Histories.{History, after_take}
use Rattle.t1_core_rule.specs.Outs.{stores_out, read_out, outs, outs_at}
use Rattle.t1_core_rule.specs.Steady.{IsSteady}
use Rattle.t1_core_rule.specs.Fitting.{cache_with, IsMadeBy, IsFittingThread, IsFitting}
use Rattle.t1_core_rule.proofs.Lists.{got_set, put_same, set_less}
use Rattle.t1_core_rule.proofs.Kills.{with_caches, killed_is}
use Rattle.t1_core_rule.proofs.Answers.{Answers, reads_in, answer_case}
use Rattle.t1_core_rule.proofs.Came.{IsCome, still, read_come}
use Rattle.t1_core_rule.proofs.Acknowledged.{stored_come}
use Rattle.t1_core_rule.proofs.Sends.{made_by_moves}

-- a class that holds a request is not empty
class_some : (q : RequestData) (rs : List RequestData) → IsIn q rs → of_class q.strand (is_store q.op) rs ≡ [] → ⊥
class_some q [] g z = g
class_some q (x ∷ xs) (inl e) z =
    let c : is_of q.strand (is_store q.op) x ≡ true = subst (λ (y : RequestData). is_of q.strand (is_store q.op) y ≡ true) e (own_class q) in
    let z' : x ∷ of_class q.strand (is_store q.op) xs ≡ [] = rw c at z in cc
class_some q (x ∷ xs) (inr g) z =
    elim (cases_Bool (is_of q.strand (is_store q.op) x)) [
      | inl c ↦ (let z' : x ∷ of_class q.strand (is_store q.op) xs ≡ [] = rw c at z in cc)
      | inr c ↦ class_some q xs g (let z' : of_class q.strand (is_store q.op) xs ≡ [] = rw c at z in z')
    ]

-- what is out of a class goes to one destination
read_way : (chip : Shape) (number strand ram : ℕ) (s : Strand) (k : ℕ) (p : Phase) → (d : ℕ) × GoTo chip d (read_out number strand ram s k p)
read_way chip number strand ram s k phase.Fetch = (0, tt)
read_way chip number strand ram s k (phase.Have word) = (0, tt)
read_way chip number strand ram s k (phase.OutFetch way seen) = (op_dest chip (op.Fetch s.pc way), (refl, tt))
read_way chip number strand ram s k (phase.OutData word way seen) = (op_dest chip (op_for (need_of s (insn_of word) ram) way), (refl, tt))
read_way chip number strand ram s k (phase.Ended x) = (0, tt)

outs_way : (chip : Shape) (number strand ram : ℕ) (t : ThreadState) (b : Bool) → (d : ℕ) × GoTo chip d (stores_out number strand t.stores t.times) → (d : ℕ) × GoTo chip d (outs number strand ram b t)
outs_way chip number strand ram t true w = w
outs_way chip number strand ram t false w = read_way chip number strand ram t.strand (length t.items) t.phase

module _ (w : Setup) (core : ℕ) (h : History) (p : Packet) (s : IsSteady w core h) (proper : AreProper h.core.chip h.core.number (λ d. sent_to h.core.chip d h.sent) (h.received ++ p ∷ []))
    (whole : (r : ReplyData) → p.reply ≡ Some r → take 32 r.line ≡ r.line) (f : IsFitting w h)
    (starts : ℕ → Strand) (replayed : IsReplayed starts h.core) where
  abbrev number : ℕ
  number = h.core.number

  abbrev ram : ℕ
  ram = h.core.ram

  abbrev longer : List Packet
  longer = h.received ++ p ∷ []

  here : IsIn p longer
  here = in_last p h.received

  -- a packet that comes when its index is in the past is not proper
  late : h.core.time ≤ p.index
  late =
      elim s.time [
        | inl z ↦ omega (arith, z)
        | inr t ↦ (let c = ascend_last 0 h.received p t.0 proper.ascend t.1 in let e = t.2 in omega (arith, c, e))
      ]

  past_all : (q : Packet) → IsIn q h.received → q.index < h.core.time
  past_all q g = elim (s.past q g) [ inl b ↦ b | inr e ↦ absurd (let b = proper.small q (in_left q h.received (p ∷ []) g) in omega (arith, b, e)) ]

  -- ---- the caches

  abbrev slots : Cache → List (Option Line)
  slots = λ cache. l1_by h.core.chip number h.received h.core.time cache

  abbrev pointers : Cache → List ℕ
  pointers = λ cache. pointers_by h.core.chip h.received h.core.time cache

  abbrev left : CoreState
  left = with_caches h.core.chip h.core (with_kills h.core.chip number Dcache p.kills (slots Dcache)) (pointers Dcache) (with_kills h.core.chip number Icache p.kills (slots Icache)) (pointers Icache)

  left_is : killed h.core p.kills ≡ left
  left_is =
      let is : h.core ≡ with_caches h.core.chip h.core (slots Dcache) (pointers Dcache) (slots Icache) (pointers Icache) =
      ap (λ (d : CacheState). record h.core { dcache = d }) f.dcache
      ∙ ap (λ (i : CacheState). record h.core { dcache = cache_with h.core.chip Dcache (slots Dcache) (pointers Dcache); icache = i }) f.icache in
      ap (λ (c : CoreState). killed c p.kills) is ∙ killed_is h.core (slots Dcache) (pointers Dcache) (slots Icache) (pointers Icache) p.kills

  slots_now : (cache : Cache) → l1_by h.core.chip number longer (p.index + 1) cache ≡ with_packet h.core.chip number cache p (slots cache)
  slots_now cache = (caches_follow_packets h.core.chip number h.received p).slots_next h.core.time cache late past_all

  pointers_now : (cache : Cache) → pointers_by h.core.chip longer (p.index + 1) cache ≡ pointers_with_packet h.core.chip cache p (pointers cache)
  pointers_now cache = (caches_follow_packets h.core.chip number h.received p).pointers_next h.core.time cache late past_all

  ways_now : (r : RequestData) (cache : Cache) (line : ℕ) → IsIn r h.sent → filled_line cache r.op ≡ Some line → asked_way r.op ≡ victim_by h.core.chip number longer r.seen cache line
  ways_now r cache line g fills =
      let past = (s.own r g).past in
      let le : r.seen ≤ p.index = omega (arith, past, late) in
      let c = caches_follow_packets h.core.chip number h.received p in
      f.ways r cache line g fills
      ∙ (ap (λ (l : Cache → List (Option Line)). victim_of (layout h.core.chip cache) (l cache) (pointers_by h.core.chip h.received r.seen cache) line) (sym (c.slots_stay r.seen le))
      ∙ ap (λ (l : Cache → List ℕ). victim_of (layout h.core.chip cache) (l1_by h.core.chip number longer r.seen cache) (l cache) line) (sym (c.pointers_stay r.seen le)))

  -- ---- requests

  abbrev less : ℕ → List RequestData
  less d = (proper.order d).0

  split : (d : ℕ) → f.rest d ≡ sent_to h.core.chip d (answered_in number p.reply) ++ less d
  split d = rest_less h.core.chip number d h.received p (f.rest d) (less d) (sent_to h.core.chip d h.sent) (f.are d) (proper.order d).1

  abbrev After : CoreState → History
  After c = record { core = record c { time = p.index + 1 }; received = longer; sent = h.sent }

  still_fits : (j : ℕ) (t : ThreadState) → slice_get h.core.threads j ≡ Some t → IsFittingThread h.core.chip number ram (p.index + 1) w.config.budget longer j t
  still_fits j t e = still h.core.chip number ram h.core.time w.config.budget h.received p late j t (f.threads j t e)

  -- without a reply
  taken_none : p.reply ≡ None → IsFitting w (After left)
  taken_none e =
      let nothing : (d : ℕ) → f.rest d ≡ less d = λ d. split d ∙ ap (λ (o : Option ReplyData). sent_to h.core.chip d (answered_in number o) ++ less d) e in
      let same : (cache : Cache) → l1_by h.core.chip number longer (p.index + 1) cache ≡ with_kills h.core.chip number cache p.kills (slots cache) =
      λ cache. slots_now cache ∙ ap (λ (o : Option ReplyData). with_reply h.core.chip cache o (with_kills h.core.chip number cache p.kills (slots cache))) e in
      let same_p : (cache : Cache) → pointers_by h.core.chip longer (p.index + 1) cache ≡ pointers cache = λ cache. pointers_now cache ∙ ap (λ (o : Option ReplyData). pointers_with_reply h.core.chip cache o (pointers cache)) e in
      record {
        rest = less;
        are = λ d. (proper.order d).1;
        out = λ j b d. ap (λ (rs : List RequestData). of_class j b rs) (sym (nothing d)) ∙ f.out j b d;
        threads = still_fits;
        replies = λ q r g is_r.
            elim (in_more q h.received (p ∷ []) g) [
              | inl a ↦ f.replies q r a is_r
              | inr (inl x) ↦ absurd (let clash : None ≡ Some r = sym e ∙ (ap (λ (y : Packet). y.reply) (sym x) ∙ is_r) in let c : ◌≡◌ {A = Option ReplyData} None (Some r) = clash in cc)
              | inr (inr none) ↦ absurd none
            ];
        dcache = rw (same Dcache, same_p Dcache) refl;
        icache = rw (same Icache, same_p Icache) refl;
        ways = ways_now;
      }

  module _ (r : ReplyData) (is : p.reply ≡ Some r) where
    abbrev q : RequestData
    q = answers number r

    split_some : (d : ℕ) → f.rest d ≡ sent_to h.core.chip d (q ∷ []) ++ less d
    split_some d = split d ∙ ap (λ (o : Option ReplyData). sent_to h.core.chip d (answered_in number o) ++ less d) is

    first_rest : IsIn q (f.rest (op_dest h.core.chip r.op))
    first_rest =
        subst (λ (rs : List RequestData). IsIn q rs) (sym (split_some (op_dest h.core.chip r.op)))
        (in_left q (sent_to h.core.chip (op_dest h.core.chip r.op) (q ∷ [])) (less (op_dest h.core.chip r.op)) (rw (eq-eqb (op_dest h.core.chip r.op) (op_dest h.core.chip r.op) refl) (inl refl)))

    is_sent_one : IsIn q h.sent
    is_sent_one =
        let inside : IsIn q (sent_to h.core.chip (op_dest h.core.chip r.op) h.sent) =
        subst (λ (rs : List RequestData). IsIn q rs) (f.are (op_dest h.core.chip r.op)) (in_right q (answered h.core.chip number (op_dest h.core.chip r.op) h.received) (f.rest (op_dest h.core.chip r.op)) first_rest) in
        (filter_in (λ (v : RequestData). op_dest h.core.chip v.op == op_dest h.core.chip r.op) q h.sent inside).0

    no_thread : slice_get h.core.threads r.strand ≡ None → ⊥
    no_thread e =
        class_some q (f.rest (op_dest h.core.chip r.op)) first_rest
        (f.out r.strand (is_store r.op) (op_dest h.core.chip r.op) ∙ ap (λ (o : Option ThreadState). sent_to h.core.chip (op_dest h.core.chip r.op) (outs_at number r.strand ram (is_store r.op) o)) e)

    module _ (t : ThreadState) (e : slice_get h.core.threads r.strand ≡ Some t) where
      abbrev before : Answered
      before = record { thread = t; dcache = left.dcache; icache = left.icache }

      abbrev a : Answered
      a = thread_answer ram p.index r before

      first : (tail : List RequestData) × (outs number r.strand ram (is_store r.op) t ≡ q ∷ tail)
      first =
          let way = outs_way h.core.chip number r.strand ram t (is_store r.op) (f.threads r.strand t e).way in
          let all : of_class r.strand (is_store r.op) (f.rest (op_dest h.core.chip r.op)) ≡ sent_to h.core.chip (op_dest h.core.chip r.op) (outs number r.strand ram (is_store r.op) t) =
          f.out r.strand (is_store r.op) (op_dest h.core.chip r.op) ∙ ap (λ (o : Option ThreadState). sent_to h.core.chip (op_dest h.core.chip r.op) (outs_at number r.strand ram (is_store r.op) o)) e in
          first_of_class h.core.chip way.0 q (outs number r.strand ram (is_store r.op) t) (f.rest (op_dest h.core.chip r.op)) (less (op_dest h.core.chip r.op)) way.1 (split_some (op_dest h.core.chip r.op)) all

      case : Answers h.core.chip number ram r.strand p.index r (proper.replies p r here is) (whole r is) (with_kills h.core.chip number Dcache p.kills (slots Dcache)) (pointers Dcache) (with_kills h.core.chip number Icache p.kills (slots Icache))
          (pointers Icache) t a
      case =
          answer_case h.core.chip number ram r.strand p.index r (proper.replies p r here is) (whole r is) (with_kills h.core.chip number Dcache p.kills (slots Dcache)) (pointers Dcache) (with_kills h.core.chip number Icache p.kills (slots Icache))
          (pointers Icache) t first.0 (reads_in (record { ram = ram; budget = t.budget }) (starts r.strand) t.strand (bare_items t.items) t.phase (replayed.each r.strand t e)) (s.threads r.strand t e).sent first.1

      sent_time : IsTime h.received r.seen
      sent_time = s.sent_times q is_sent_one

      abbrev Come : ThreadState → Type 0
      Come u = IsCome h.core.chip number ram h.core.time w.config.budget h.received p late r is sent_time t u

      come : Come a.thread
      come =
          elim case.thread [
            | inl y ↦ read_come h.core.chip number ram h.core.time w.config.budget h.received p late r is sent_time t a.thread y.1 (f.threads r.strand t e) y.0
            | inr y ↦
                let b = y.1 in
                stored_come h.core.chip number ram h.core.time w.config.budget h.received p late r is sent_time t b.entry b.rest b.later b.stores b.times b.op_is b.place (f.threads r.strand t e) y.0
                a.thread b.now
          ]

      alone : (v : RequestData) → IsIn v (q ∷ []) → v.strand ≡ r.strand
      alone v (inl x) = ap (λ (y : RequestData). y.strand) x
      alone v (inr n) = absurd n

      taken_some : IsFitting w (After (record left { threads = set h.core.threads r.strand a.thread; dcache = a.dcache; icache = a.icache }))
      taken_some =
          let same : (cache : Cache) → l1_by h.core.chip number longer (p.index + 1) cache ≡ with_answer h.core.chip cache r.op r.way r.line (with_kills h.core.chip number cache p.kills (slots cache)) =
          λ cache. slots_now cache ∙ ap (λ (o : Option ReplyData). with_reply h.core.chip cache o (with_kills h.core.chip number cache p.kills (slots cache))) is in
          let same_p : (cache : Cache) → pointers_by h.core.chip longer (p.index + 1) cache ≡ pointers_with_answer h.core.chip cache r.op r.way (pointers cache) =
          λ cache. pointers_now cache ∙ ap (λ (o : Option ReplyData). pointers_with_reply h.core.chip cache o (pointers cache)) is in
          record {
            rest = less;
            are = λ d. (proper.order d).1;
            out = λ j b d.
                out_less h.core.chip j b d (f.rest d) (less d) (q ∷ []) (outs_at number j ram b (slice_get h.core.threads j)) (outs_at number j ram b (slice_get (set h.core.threads r.strand a.thread) j)) (split_some d)
                (f.out j b d) (set_less number ram r.strand h.core.threads t a.thread (q ∷ []) e alone come.outs j b);
            threads = λ j v g.
                elim (got_set h.core.threads r.strand a.thread j v g) [
                  | inl x ↦
                      subst (λ (k : ThreadState). IsFittingThread h.core.chip number ram (p.index + 1) w.config.budget longer j k) x.1
                      (subst (λ (k : ℕ). IsFittingThread h.core.chip number ram (p.index + 1) w.config.budget longer k a.thread) (sym x.0) come.thread)
                  | inr x ↦ still_fits j v x.1
                ];
            replies = λ x y g is_y.
                elim (in_more x h.received (p ∷ []) g) [
                  | inl old ↦ made_by_moves h.core.threads r.strand t a.thread x.index y e come.keeps (f.replies x y old is_y)
                  | inr (inl z) ↦
                      let two : Some r ≡ Some y = sym is ∙ (ap (λ (v : Packet). v.reply) (sym z) ∙ is_y) in
                      let same_r : r ≡ y = cc (two) in
                      let new : IsMadeBy (set h.core.threads r.strand a.thread) p.index r =
                      record { thread = a.thread; has_thread = put_same h.core.threads r.strand t a.thread e; item = come.item; has = come.has; access = come.item_is.access; how = come.item_is.how } in
                      subst (λ (v : Packet). IsMadeBy (set h.core.threads r.strand a.thread) v.index y) (sym z) (subst (λ (v : ReplyData). IsMadeBy (set h.core.threads r.strand a.thread) p.index v) same_r new)
                  | inr (inr none) ↦ absurd none
                ];
            dcache = case.caches.dcache ∙ rw (same Dcache, same_p Dcache) refl;
            icache = case.caches.icache ∙ rw (same Icache, same_p Icache) refl;
            ways = ways_now;
          }

  taken_reply : (o : Option ReplyData) → p.reply ≡ o → IsFitting w (After (takes.answered left p.index o))
  taken_reply None e = taken_none e
  taken_reply (Some r) e = by (slice_get h.core.threads r.strand) refl
    where
      by : (o : Option ThreadState) → slice_get h.core.threads r.strand ≡ o → IsFitting w (After (answered_at left p.index r o))
      by None g = absurd (no_thread r e g)
      by (Some t) g = taken_some r e t g

  take_is : take_of h.core p ≡ record (takes.answered (killed h.core p.kills) p.index p.reply) { time = p.index + 1 }
  unfolding take_of
  take_is =
      let small = proper.small p here in
      let not_last : (p.index == 2 ^ 32 - 1) ≡ false = ne_eqb p.index 4294967295 (λ e. omega (arith, e, small)) in
      rw (le-ltb p.index h.core.time late, not_last) refl

  pub take_fitting : IsFitting w (after_take h p)
  take_fitting =
      subst (λ (c : CoreState). IsFitting w (record { core = c; received = longer; sent = h.sent })) (sym take_is)
      (subst (λ (c : CoreState). IsFitting w (After (takes.answered c p.index p.reply))) (sym left_is) (taken_reply p.reply refl))
