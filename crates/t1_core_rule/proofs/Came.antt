-- Each strand after a proper packet: one that is not answered, and one whose read is answered.
use Rattle.t1_shape.specs.Shapes.{Shape}
use Rattle.std.proofs.Common.{◌≡◌, ◌⊎◌, ◌≤◌, ℕ, ◌+◌, Bool, true, false, List, [], ◌∷◌, ◌++◌, length, Some, refl, ap, sym, ◌∙◌, subst, inl, inr, arith}
use mathlib.Core.List.{append-nil}
use Rattle.t1_packet.specs.declared.packet.Packet.{Packet}
use Rattle.t1_packet.specs.Data.{RequestData, ReplyData}
use Rattle.t1_packet.specs.Ops.{is_store}
use Rattle.t1_event.specs.declared.item.Item.{Item}
use Rattle.t1_event.specs.declared.item.How.TheVariants.{Commit}
use Rattle.t1_event.specs.Times.{at_of, index_of}
use Rattle.t1_joint.specs.Parts.{answers}
use Rattle.t1_joint.specs.Proper.{IsTime}
use Rattle.t1_joint.specs.Waits.{HasItem}
use Rattle.t1_joint.specs.Rows.{Caches}
use Rattle.t1_joint.specs.CoreRule.{HasCome}
use Rattle.t1_strand_order.specs.Tracks.{Track, Answer, Pass, after}
use Rattle.t1_strand_order.specs.Allowed.{IsAnswer}
use Rattle.t1_strand_order.specs.Kept.{IsKept}
use Rattle.t1_strand_order.specs.Places.{ArePlacedRightly, AreUpTo}
use Rattle.t1_strand_order.specs.Laws.{one_destination}
use Rattle.t1_strand_order.proofs.Items.{has_push, push_has, push_last}
use Rattle.t1_strand_order.proofs.Histories.{events_keep_order, events_keep_places}
use Rattle.t1_received.specs.Requests.{of_class, GoTo}
use Rattle.t1_received.specs.Caches.{slots_by}
use Rattle.t1_received.proofs.Lists.{in_left, in_last}
use Rattle.t1_received.proofs.Packets.{caches_follow_packets}
use Rattle.t1_core.specs.Threads.{ThreadState}
use Rattle.t1_core_rule.specs.Outs.{stores_out, outs, track_of}
use Rattle.t1_core_rule.specs.Fitting.{IsFittingThread}
use Rattle.t1_core_rule.proofs.Moves.{class_read, class_not, entries_push}
use Rattle.t1_core_rule.proofs.Taken.{time_more}
use Rattle.t1_core_rule.proofs.Answers.{IsItemOf, IsReadBy}

come_more : (received : List Packet) (p : Packet) (s k n seen : ℕ) (x : Item) → HasCome received s k n seen x → HasCome (received ++ p ∷ []) s k n seen x
come_more received p s k n seen x c = record {
  packet = c.packet;
  reply = c.reply;
  among = in_left c.packet received (p ∷ []) c.among;
  index_is = c.index_is;
  is = c.is;
  strand_is = c.strand_is;
  item_is = c.item_is;
  seen_is = c.seen_is;
  size_is = c.size_is;
  op_is = c.op_is;
  got = c.got;
}

-- the packet made the item
pub comes_now : (received : List Packet) (p : Packet) (r : ReplyData) (k n seen : ℕ) (x : Item) → p.reply ≡ Some r → r.item ≡ k → IsItemOf p.index r x → x.how ≡ Commit n seen
    → HasCome (received ++ p ∷ []) r.strand k n seen x
comes_now received p r k n seen x is item o how =
    let both : Commit p.index r.seen ≡ Commit n seen = sym o.how ∙ how in
    record {
      packet = p;
      reply = r;
      among = in_last p received;
      index_is = ap index_of both;
      is = is;
      strand_is = refl;
      item_is = item;
      seen_is = ap at_of both;
      size_is = o.size_is;
      op_is = o.op_is;
      got = o.got;
    }

module _ (chip : Shape) (number ram clock budget : ℕ) (received : List Packet) (p : Packet) (le : clock ≤ p.index) where
  abbrev pub longer : List Packet
  longer = received ++ p ∷ []

  abbrev pub caches : Caches
  caches = slots_by chip number received

  abbrev pub later : Caches
  later = slots_by chip number longer

  pub up_to : AreUpTo clock caches later
  up_to t l = (caches_follow_packets chip number received p).slots_stay t (omega (arith, l, le))

  abbrev pub Before : ℕ → ThreadState → Type 0
  Before s t = IsFittingThread chip number ram clock budget received s t

  abbrev pub After : ℕ → ThreadState → Type 0
  After s t = IsFittingThread chip number ram (p.index + 1) budget longer s t

  pub old_come : (s : ℕ) (t : ThreadState) → Before s t → (k n seen : ℕ) (x : Item) → HasItem t.items k x → x.how ≡ Commit n seen → HasCome longer s k n seen x
  old_come s t f k n seen x h how = come_more received p s k n seen x (f.came k n seen x h how)

  pub old_time : (s : ℕ) (t : ThreadState) → Before s t → (k : ℕ) (x : Item) → HasItem t.items k x → IsTime longer (at_of x.how)
  old_time s t f k x h = time_more received p (at_of x.how) (f.times k x h)

  -- a strand that is not answered
  pub still : (s : ℕ) (t : ThreadState) → Before s t → After s t
  still s t f =
      let later_now : clock ≤ p.index + 1 = omega (arith, le) in
      record {
        budget_is = f.budget_is;
        kept = events_keep_order (one_destination chip) (track_of ram clock t) (Pass (p.index + 1)) later_now f.kept;
        right = events_keep_places chip ram caches later (one_destination chip) (track_of ram clock t) (Pass (p.index + 1)) later_now f.kept up_to tt f.right;
        entries = f.entries;
        times = λ k x h. old_time s t f k x h;
        way = f.way;
        came = λ k n seen x h how. old_come s t f k n seen x h how;
      }

  module _ (r : ReplyData) (is : p.reply ≡ Some r) (sent : IsTime received r.seen) (t u : ThreadState) where
    -- what a reply comes to, for the strand that it answers
    pub record IsCome : Type 0 where
      pub thread : After r.strand u
      pub outs : (b : Bool) → outs number r.strand ram b t ≡ of_class r.strand b (answers number r ∷ []) ++ outs number r.strand ram b u
      pub item : Item
      pub has : HasItem u.items r.item item
      pub item_is : IsItemOf p.index r item
      pub keeps : (k : ℕ) (y : Item) (n seen : ℕ) → HasItem t.items k y → y.how ≡ Commit n seen → HasItem u.items k y

    module _ (a : IsReadBy number ram r.strand p.index r t u) (f : Before r.strand t) (reads : is_store r.op ≡ false) where
      answered_track : track_of ram (p.index + 1) u ≡ after (track_of ram clock t) (Answer p.index a.item)
      answered_track = rw (a.items, a.stores, a.times, a.no_out) refl

      allowed : IsAnswer (track_of ram clock t) p.index a.item
      allowed = record { asked = record { item = a.asked; seen = r.seen }; is = a.out; kind = a.like; addr = a.addr; size = a.size; how = a.is.how; late = le }

      split_item : (k : ℕ) (y : Item) → HasItem u.items k y → HasItem t.items k y ⊎ ((k ≡ length t.items) × (a.item ≡ y))
      split_item k y h =
          elim (has_push t.items a.item k y (subst (λ (ys : List Item). HasItem ys k y) a.items h)) [ inl q ↦ inl q.1 | inr q ↦ inr q ]

      read_outs : (b : Bool) → outs number r.strand ram b t ≡ of_class r.strand b (answers number r ∷ []) ++ outs number r.strand ram b u
      read_outs true =
          let same : stores_out number r.strand t.stores t.times ≡ stores_out number r.strand u.stores u.times = rw (a.stores, a.times) refl in
          same ∙ ap (λ (rs : List RequestData). rs ++ stores_out number r.strand u.stores u.times) (sym (class_not r.strand (answers number r) reads))
      read_outs false =
          a.before
          ∙ (sym (class_read r.strand (answers number r) refl reads)
          ∙ (sym (append-nil (of_class r.strand false (answers number r ∷ []))) ∙ ap (λ (rs : List RequestData). of_class r.strand false (answers number r ∷ []) ++ rs) (sym a.reads)))

      pub read_come : IsCome
      read_come = record {
        thread = record {
          budget_is = a.budget ∙ f.budget_is;
          kept = subst (λ (v : Track). IsKept (one_destination chip) v) (sym answered_track) (events_keep_order (one_destination chip) (track_of ram clock t) (Answer p.index a.item) allowed f.kept);
          right = subst (λ (v : Track). ArePlacedRightly chip ram later v) (sym answered_track)
              (events_keep_places chip ram caches later (one_destination chip) (track_of ram clock t) (Answer p.index a.item) allowed f.kept up_to tt f.right);
          entries = rw (a.items, a.stores) (entries_push t.items a.item t.stores f.entries);
          times = λ k y h.
              elim (split_item k y h) [
                | inl q ↦ old_time r.strand t f k y q
                | inr q ↦
                    let at : at_of a.item.how ≡ r.seen = ap at_of a.is.how in
                    subst (λ (v : Item). IsTime longer (at_of v.how)) q.1 (subst (λ (m : ℕ). IsTime longer m) (sym at) (time_more received p r.seen sent))
              ];
          way = (
            f.way.0,
            (let same : stores_out number r.strand u.stores u.times ≡ stores_out number r.strand t.stores t.times = rw (a.stores, a.times) refl in
                subst (λ (rs : List RequestData). GoTo chip f.way.0 rs) (sym same) f.way.1),
          );
          came = λ k n seen y h how.
              elim (split_item k y h) [
                | inl q ↦ old_come r.strand t f k n seen y q how
                | inr q ↦
                    let place : r.item ≡ k = sym (q.0 ∙ a.place) in
                    let o : IsItemOf p.index r y = subst (λ (v : Item). IsItemOf p.index r v) q.1 a.is in
                    comes_now received p r k n seen y is place o how
              ];
        };
        outs = read_outs;
        item = a.item;
        has = subst (λ (ys : List Item). HasItem ys r.item a.item) (sym a.items) (subst (λ (k : ℕ). HasItem (t.items ++ a.item ∷ []) k a.item) a.place (push_last t.items a.item));
        item_is = a.is;
        keeps = λ k y n seen h how. subst (λ (ys : List Item). HasItem ys k y) (sym a.items) (push_has t.items a.item k y h);
      }
