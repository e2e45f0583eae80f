-- A strand moves and requests go out: where the packets are proper, the core goes on as it has to.
use Rattle.t1_shape.specs.Shapes.{Shape}
use Rattle.std.proofs.Common.{◌≡◌, ℕ, List, ◌++◌, set, Option, Some, None, refl, ap, sym, ◌∙◌, subst, inl, inr, append_assoc}
use Rattle.std.specs.List.{slice_get}
use Rattle.std.proofs.lemmas.Bool.{cases_eq}
use Rattle.t1_state.specs.declared.strand.Strand.{Strand}
use Rattle.t1_packet.specs.declared.cache.Cache.{Cache}
use Rattle.t1_packet.specs.Data.{RequestData, ReplyData}
use Rattle.t1_packet.specs.Ops.{asked_way}
use Rattle.t1_l1.specs.Cache.{CacheState}
use Rattle.t1_event.specs.declared.item.Item.{Item}
use Rattle.t1_event.specs.declared.item.How.TheVariants.{Commit}
use Rattle.t1_joint.specs.Start.{Setup}
use Rattle.t1_joint.specs.Parts.{answered}
use Rattle.t1_joint.specs.Proper.{IsTime, pointers_by, victim_by}
use Rattle.t1_joint.specs.Waits.{HasItem}
use Rattle.t1_joint.specs.Rows.{Caches}
use Rattle.t1_strand_order.specs.Tracks.{Track, Event}
use Rattle.t1_strand_order.specs.Kept.{IsKept}
use Rattle.t1_strand_order.specs.Places.{ArePlacedRightly}
use Rattle.t1_strand_order.specs.Laws.{one_destination}
use Rattle.t1_strand_order.proofs.Histories.{events_keep_order, events_keep_places}
use Rattle.t1_received.specs.Requests.{sent_to}
use Rattle.t1_received.specs.Caches.{slots_by}
use Rattle.t1_received.proofs.Lists.{in_more}
use Rattle.t1_received.proofs.Sorts.{to_append, out_more}
use Rattle.t1_core.specs.declared.asker.Asker.{Asker}
use Rattle.t1_core.specs.Threads.{ThreadState}
use Rattle.t1_core.specs.Steps.{with_thread, asker}
use Rattle.t1_core.specs.Replays.{AreByteLines, IsReplayed}
use Rattle.t1_core_rule.specs.Histories.{History}
use Rattle.t1_core_rule.specs.Outs.{outs_at, track_of}
use Rattle.t1_core_rule.specs.Steady.{IsSteady}
use Rattle.t1_core_rule.specs.Fitting.{IsMadeBy, IsFittingThread, IsFitting}
use Rattle.t1_core_rule.proofs.Moves.{after_if, IsAllowedIf, IsPlacedIf, IsReady, IsMove}
use Rattle.t1_core_rule.proofs.Lists.{got_set, put_same, put_other, set_more}

-- at most one event keeps the order and the places
kept_if : (chip : Shape) (s : Track) (event : Option Event) → IsAllowedIf chip s event → IsKept (one_destination chip) s → IsKept (one_destination chip) (after_if s event)
kept_if chip s None a k = k
kept_if chip s (Some event) a k = events_keep_order (one_destination chip) s event a k

right_if : (chip : Shape) (ram : ℕ) (caches : Caches) (s : Track) (event : Option Event) → IsAllowedIf chip s event → IsKept (one_destination chip) s → IsPlacedIf chip ram caches s event
    → ArePlacedRightly chip ram caches s → ArePlacedRightly chip ram caches (after_if s event)
right_if chip ram caches s None a k row r = r
right_if chip ram caches s (Some event) a k row r = events_keep_places chip ram caches caches (one_destination chip) s event a k (λ t l. refl) row r

-- an item that a reply made stays, where placed items do
pub made_by_moves : (threads : List ThreadState) (i : ℕ) (t u : ThreadState) (index : ℕ) (r : ReplyData) → slice_get threads i ≡ Some t
    → ((k : ℕ) (y : Item) (n seen : ℕ) → HasItem t.items k y → y.how ≡ Commit n seen → HasItem u.items k y) → IsMadeBy threads index r → IsMadeBy (set threads i u) index r
made_by_moves threads i t u index r e keeps m =
    elim (cases_eq r.strand i) [
      | inl same ↦
          let here : slice_get threads i ≡ Some m.thread = subst (λ (k : ℕ). slice_get threads k ≡ Some m.thread) same m.has_thread in
          let two : Some m.thread ≡ Some t = sym here ∙ e in
          let is : m.thread ≡ t = cc (two) in
          record {
            thread = u;
            has_thread = subst (λ (k : ℕ). slice_get (set threads i u) k ≡ Some u) (sym same) (put_same threads i t u e);
            item = m.item;
            has = keeps r.item m.item index r.seen (subst (λ (v : ThreadState). HasItem v.items r.item m.item) is m.has) m.how;
            access = m.access;
            how = m.how;
          }
      | inr apart ↦ record { thread = m.thread; has_thread = put_other threads i r.strand u apart ∙ m.has_thread; item = m.item; has = m.has; access = m.access; how = m.how }
    ]

module _ (w : Setup) (core : ℕ) (h : History) (i room : ℕ) (t u : ThreadState) (e : slice_get h.core.threads i ≡ Some t) (new : List RequestData) (s : IsSteady w core h) (f : IsFitting w h)
    (starts : ℕ → Strand) (replayed : IsReplayed starts h.core) where
  abbrev x : Asker
  x = asker h.core i room

  abbrev caches : Caches
  caches = slots_by h.core.chip h.core.number h.received

  abbrev pointers : Cache → List ℕ
  pointers = λ cache. pointers_by h.core.chip h.received h.core.time cache

  pub ready : IsReady x h.core.icache h.core.dcache caches pointers t
  ready =
      let g = f.threads i t e in
      record {
        icache_is = f.icache;
        dcache_is = f.dcache;
        icache_bytes = subst (λ (c : CacheState). AreByteLines c.slots) f.icache replayed.icache;
        dcache_bytes = subst (λ (c : CacheState). AreByteLines c.slots) f.dcache replayed.dcache;
        kept = g.kept;
        entries = g.entries;
      }

  module _ (m : IsMove x h.core.icache h.core.dcache caches pointers t u new) (budget : u.budget ≡ t.budget) where
    thread_fits : IsFittingThread h.core.chip h.core.number h.core.ram h.core.time w.config.budget h.received i u
    thread_fits =
        let g = f.threads i t e in
        let r = m.right ready in
        let before : Track = track_of h.core.ram h.core.time t in
        record {
          budget_is = budget ∙ g.budget_is;
          kept = subst (λ (v : Track). IsKept (one_destination h.core.chip) v) (sym m.is) (kept_if h.core.chip before m.event r.allowed g.kept);
          right = subst (λ (v : Track). ArePlacedRightly h.core.chip h.core.ram caches v) (sym m.is) (right_if h.core.chip h.core.ram caches before m.event r.allowed g.kept r.placed g.right);
          entries = r.entries;
          times = λ k y g_y.
              elim (m.made k y g_y) [
                | inl old ↦ g.times k y old
                | inr now ↦ elim now.time [ inl zero_is ↦ inl zero_is | inr same ↦ subst (λ (n : ℕ). IsTime h.received n) (sym same) s.time ]
              ];
          way = m.way (s.threads i t e).sent g.way;
          came = λ k n seen y g_y how.
              elim (m.made k y g_y) [ inl old ↦ g.came k n seen y old how | inr now ↦ absurd (now.no_commit n seen how) ];
        }

    pub moved_fitting : IsFitting w (record { core = with_thread h.core i u; received = h.received; sent = h.sent ++ new })
    moved_fitting = record {
      rest = λ d. f.rest d ++ sent_to h.core.chip d new;
      are = λ d.
          sym (append_assoc (answered h.core.chip h.core.number d h.received) (f.rest d) (sent_to h.core.chip d new))
          ∙ (ap (λ (rs : List RequestData). rs ++ sent_to h.core.chip d new) (f.are d) ∙ sym (to_append h.core.chip d h.sent new));
      out = λ j b d.
          out_more h.core.chip j b d (f.rest d) new (outs_at h.core.number j h.core.ram b (slice_get h.core.threads j)) (outs_at h.core.number j h.core.ram b (slice_get (set h.core.threads i u) j)) (f.out j b d)
          (set_more h.core.number h.core.ram i h.core.threads t u new e (λ r g. (m.fresh r g).strand) (m.outs (s.threads i t e).sent) j b);
      threads = λ j v g.
          elim (got_set h.core.threads i u j v g) [
            | inl p ↦
                subst (λ (n : ThreadState). IsFittingThread h.core.chip h.core.number h.core.ram h.core.time w.config.budget h.received j n) p.1
                (subst (λ (k : ℕ). IsFittingThread h.core.chip h.core.number h.core.ram h.core.time w.config.budget h.received k u) (sym p.0) thread_fits)
            | inr p ↦ f.threads j v p.1
          ];
      replies = λ p r g is. made_by_moves h.core.threads i t u p.index r e (λ k y n seen has how. m.keeps k y has) (f.replies p r g is);
      dcache = f.dcache;
      icache = f.icache;
      ways = λ r cache line g fills.
          elim (in_more r h.sent new g) [
            | inl o ↦ f.ways r cache line o fills
            | inr n ↦
                let seen : r.seen ≡ h.core.time = (m.fresh r n).seen in
                let v : asked_way r.op ≡ victim_by h.core.chip h.core.number h.received h.core.time cache line = (m.right ready).ways r cache line n fills in
                subst (λ (k : ℕ). asked_way r.op ≡ victim_by h.core.chip h.core.number h.received k cache line) (sym seen) v
          ];
    }
