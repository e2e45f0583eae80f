-- A strand whose oldest store is acknowledged by a proper packet.
use Rattle.t1_shape.specs.Shapes.{Shape}
use Rattle.std.proofs.Common.{◌≡◌, ◌⊎◌, ◌≤◌, ℕ, zero, suc, ◌+◌, Bool, true, false, List, [], ◌∷◌, ◌++◌, length, Option, Some, None, refl, ap, sym, ◌∙◌, subst, inl, inr}
use Rattle.std.specs.List.{slice_get}
use Rattle.std.proofs.lemmas.Bool.{cases_eq}
use Rattle.t1_packet.specs.declared.op.Op.{Op}
use Rattle.t1_packet.specs.declared.packet.Packet.{Packet}
use Rattle.t1_packet.specs.Data.{RequestData, ReplyData}
use Rattle.t1_packet.specs.Ops.{op_size, is_store}
use Rattle.t1_sbuf.specs.declared.entry.Entry.{Entry}
use Rattle.t1_event.specs.declared.item.Item.{Item}
use Rattle.t1_event.specs.declared.item.ItemKind.{ItemKind}
use Rattle.t1_event.specs.declared.item.ItemKind.TheVariants as kind
use Rattle.t1_event.specs.declared.item.How.{How}
use Rattle.t1_event.specs.declared.item.How.TheVariants.{Unplaced, Commit}
use Rattle.t1_event.specs.Kinds.{IsAccess}
use Rattle.t1_event.specs.Times.{at_of}
use Rattle.t1_event.specs.Log.{plain_op}
use Rattle.t1_event.specs.Records.{op_of}
use Rattle.t1_joint.specs.Lists.{IsIn}
use Rattle.t1_joint.specs.Parts.{answers}
use Rattle.t1_joint.specs.Proper.{IsTime}
use Rattle.t1_joint.specs.Waits.{HasItem}
use Rattle.t1_strand_order.specs.Tracks as order
use Rattle.t1_strand_order.specs.Tracks.{Track, Acknowledge, after}
use Rattle.t1_strand_order.specs.Allowed.{IsAcknowledged}
use Rattle.t1_strand_order.specs.Kept.{IsKept}
use Rattle.t1_strand_order.specs.Places.{ArePlacedRightly}
use Rattle.t1_strand_order.specs.Laws.{one_destination}
use Rattle.t1_strand_order.proofs.Items.{has_placed, placed_has_other, placed_has_same, length_placed, one_item, store_not_read}
use Rattle.t1_strand_order.proofs.Histories.{events_keep_order, events_keep_places}
use Rattle.t1_received.specs.Requests.{of_class, GoTo}
use Rattle.t1_core.specs.Stores.{store_op}
use Rattle.t1_core.specs.Threads.{ThreadState, placed_at, item_placed, acknowledged}
use Rattle.t1_core_rule.specs.Outs.{store_request, stores_out, read_out, outs, numbers_of, track_of, IsEntryOf, AreEntriesOf}
use Rattle.t1_core_rule.proofs.Moves.{class_store, class_store_not}
use Rattle.t1_core_rule.proofs.Taken.{time_more}
use Rattle.t1_core_rule.proofs.Answers.{IsItemOf}
use Rattle.t1_core_rule.proofs.Came as came
use Rattle.t1_core_rule.proofs.Came.{IsCome, comes_now}

-- a place in the core's words is one in those of the order
item_placed_is : (xs : List Item) (k : ℕ) (how : How) → item_placed xs k how ≡ order.placed_at xs k how
item_placed_is [] k how = refl
item_placed_is (y ∷ ys) zero how = refl
item_placed_is (y ∷ ys) (suc k) how = deeper (slice_get ys k) ∙ ap (λ (zs : List Item). y ∷ zs) (item_placed_is ys k how)
  where
    deeper : (o : Option Item) → placed_at (y ∷ ys) (suc k) how o ≡ y ∷ placed_at ys k how o
    deeper None = refl
    deeper (Some x) = refl

entry_placed : (items : List Item) (k : ℕ) (how : How) (e : Entry) → IsEntryOf items e → IsEntryOf (order.placed_at items k how) e
entry_placed items k how e b =
    elim (cases_eq e.item k) [
      | inl same ↦
          let there : HasItem items k b.item = subst (λ (j : ℕ). HasItem items j b.item) same b.has in
          record {
            item = record b.item { how = how };
            has = subst (λ (j : ℕ). HasItem (order.placed_at items k how) j (record b.item { how = how })) (sym same) (placed_has_same items k how b.item there);
            addr = b.addr;
            size = b.size;
            put = b.put;
            got = b.got;
          }
      | inr apart ↦ record { item = b.item; has = placed_has_other items k how e.item b.item apart b.has; addr = b.addr; size = b.size; put = b.put; got = b.got }
    ]

entries_placed : (items : List Item) (k : ℕ) (how : How) (es : List Entry) → AreEntriesOf items es → AreEntriesOf (order.placed_at items k how) es
entries_placed items k how [] b = tt
entries_placed items k how (e ∷ es) b = (entry_placed items k how e b.0, entries_placed items k how es b.1)

-- the store of an entry, with its place, is what the acknowledgement says
store_item_of : (n : ℕ) (r : ReplyData) (x : Item) (e : Entry) → x.kind ≡ kind.Store → x.addr ≡ e.addr → x.size ≡ e.size → x.put ≡ e.value → store_op e ≡ r.op → IsItemOf n r (record x { how = Commit n r.seen })
store_item_of n r x e k a z v o = record {
  access = subst (λ (w : ItemKind). IsAccess w) (sym k) refl;
  how = refl;
  size_is = ap op_size (sym o) ∙ sym z;
  op_is =
      ap (λ (w : Op). plain_op w r.old r.way) (sym o)
      ∙ (let same : store_op e ≡ op_of (record x { how = Commit n r.seen }) r.way kind.Store = rw (a, z, v) refl in
      same ∙ ap (λ (w : ItemKind). op_of (record x { how = Commit n r.seen }) r.way w) (sym k));
  got = λ read. absurd (store_not_read x.kind k read);
}

module _ (chip : Shape) (number ram clock budget : ℕ) (received : List Packet) (p : Packet) (le : clock ≤ p.index) (r : ReplyData) (is : p.reply ≡ Some r) (sent : IsTime received r.seen)
    (t : ThreadState) (e : Entry) (rest : List Entry) (ts : List ℕ) (stores : t.stores ≡ e ∷ rest) (times : t.times ≡ r.seen ∷ ts) (op_is : store_op e ≡ r.op) (place : e.item ≡ r.item)
    (f : came.Before chip number ram clock budget received p le r.strand t) (store : is_store r.op ≡ true) where
  abbrev how : How
  how = Commit p.index r.seen

  abbrev u : ThreadState
  u = record { strand = t.strand; phase = t.phase; stores = rest; times = ts; items = order.placed_at t.items e.item how; budget = t.budget }

  acked_track : track_of ram (p.index + 1) u ≡ after (track_of ram clock t) (Acknowledge p.index)
  acked_track = rw (stores, times) refl

  allowed : IsAcknowledged (track_of ram clock t) p.index
  allowed = record { number = e.item; waiting = numbers_of rest; seen = r.seen; sent = ts; waits = ap numbers_of stores; times = times; late = le }

  record IsOldestItem : Type 0 where
    item : Item
    has : HasItem t.items e.item item
    free : item.how ≡ Unplaced
    is_item : IsItemOf p.index r (record item { how = how })

  own : AreEntriesOf t.items (e ∷ rest)
  own = subst (λ (es : List Entry). AreEntriesOf t.items es) stores f.entries

  oldest : IsOldestItem
  oldest =
      let first : IsIn e.item (numbers_of t.stores) = subst (λ (es : List Entry). IsIn e.item (numbers_of es)) (sym stores) (inl refl) in
      let x = f.kept.orderly.held e.item first in
      let b = own.0 in
      let same : b.item ≡ x.0 = one_item t.items e.item b.item x.0 b.has x.1 in
      record {
        item = x.0;
        has = x.1;
        free = x.3;
        is_item = store_item_of p.index r x.0 e x.2 (ap (λ (v : Item). v.addr) (sym same) ∙ b.addr) (ap (λ (v : Item). v.size) (sym same) ∙ b.size) (ap (λ (v : Item). v.put) (sym same) ∙ b.put) op_is;
      }

  split_item : (o : IsOldestItem) (k : ℕ) (y : Item) → HasItem u.items k y → HasItem t.items k y ⊎ ((k ≡ e.item) × ((record o.item { how = how }) ≡ y))
  split_item o k y h = elim (has_placed t.items e.item how o.item k y o.has h) [ inl q ↦ inr q | inr q ↦ inl q.1 ]

  outs_split : stores_out number r.strand t.stores t.times ≡ answers number r ∷ stores_out number r.strand rest ts
  outs_split =
      let first : store_request number r.strand e r.seen ≡ answers number r = rw (op_is, place) refl in
      let both : stores_out number r.strand t.stores t.times ≡ store_request number r.strand e r.seen ∷ stores_out number r.strand rest ts = rw (stores, times) refl in
      both ∙ ap (λ (q : RequestData). q ∷ stores_out number r.strand rest ts) first

  stored_outs : (b : Bool) → outs number r.strand ram b t ≡ of_class r.strand b (answers number r ∷ []) ++ outs number r.strand ram b u
  stored_outs true = outs_split ∙ ap (λ (rs : List RequestData). rs ++ stores_out number r.strand rest ts) (sym (class_store r.strand (answers number r) refl store))
  stored_outs false =
      ap (λ (k : ℕ). read_out number r.strand ram t.strand k t.phase) (sym (length_placed t.items e.item how))
      ∙ ap (λ (rs : List RequestData). rs ++ read_out number r.strand ram t.strand (length (order.placed_at t.items e.item how)) t.phase) (sym (class_store_not r.strand (answers number r) store))

  come_at : IsOldestItem → IsCome chip number ram clock budget received p le r is sent t u
  come_at o = record {
    thread = record {
      budget_is = f.budget_is;
      kept = subst (λ (v : Track). IsKept (one_destination chip) v) (sym acked_track) (events_keep_order (one_destination chip) (track_of ram clock t) (Acknowledge p.index) allowed f.kept);
      right = subst (λ (v : Track). ArePlacedRightly chip ram (came.later chip number ram clock budget received p le) v) (sym acked_track)
          (events_keep_places chip ram (came.caches chip number ram clock budget received p le) (came.later chip number ram clock budget received p le) (one_destination chip) (track_of ram clock t) (Acknowledge p.index)
          allowed f.kept (came.up_to chip number ram clock budget received p le) tt f.right);
      entries = entries_placed t.items e.item how rest own.1;
      times = λ k y h.
          elim (split_item o k y h) [
            | inl q ↦ came.old_time chip number ram clock budget received p le r.strand t f k y q
            | inr q ↦ subst (λ (v : Item). IsTime (received ++ p ∷ []) (at_of v.how)) q.1 (time_more received p r.seen sent)
          ];
      way = (f.way.0, (subst (λ (rs : List RequestData). GoTo chip f.way.0 rs) outs_split f.way.1).1);
      came = λ k n seen y h h_how.
          elim (split_item o k y h) [
            | inl q ↦ came.old_come chip number ram clock budget received p le r.strand t f k n seen y q h_how
            | inr q ↦ comes_now received p r k n seen y is (sym place ∙ sym q.0) (subst (λ (v : Item). IsItemOf p.index r v) q.1 o.is_item) h_how
          ];
    };
    outs = stored_outs;
    item = record o.item { how = how };
    has = subst (λ (k : ℕ). HasItem (order.placed_at t.items e.item how) k (record o.item { how = how })) place (placed_has_same t.items e.item how o.item o.has);
    item_is = o.is_item;
    keeps = λ k y n seen h h_how.
        placed_has_other t.items e.item how k y
        (λ q. (let same : y ≡ o.item = one_item t.items e.item y o.item (subst (λ (m : ℕ). HasItem t.items m y) q h) o.has in
        let clash : Unplaced ≡ Commit n seen = sym o.free ∙ (ap (λ (v : Item). v.how) (sym same) ∙ h_how) in cc)) h;
  }

  is_u : acknowledged t e how ≡ u
  unfolding acknowledged
  is_u = rw (stores, times, item_placed_is t.items e.item how) refl

  pub stored_come : (v : ThreadState) → v ≡ acknowledged t e how → IsCome chip number ram clock budget received p le r is sent t v
  stored_come v now = subst (λ (z : ThreadState). IsCome chip number ram clock budget received p le r is sent t z) (sym (now ∙ is_u)) (come_at oldest)
