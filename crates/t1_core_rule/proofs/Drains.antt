-- What a drain does to a strand.
use Rattle.std.proofs.Common.{◌≡◌, ℕ, not, Bool, true, false, List, [], ◌∷◌, ◌++◌, length, Option, Some, None, refl, ap, sym, ◌∙◌, subst, inl, inr}
use Rattle.std.proofs.lemmas.Bool.{cases_Bool, eq-eqb}
use Rattle.std.proofs.lemmas.List.{map-append}
use Rattle.t1_packet.specs.declared.cache.Cache.{Cache}
use Rattle.t1_packet.specs.Caches.{filled_line}
use Rattle.t1_packet.specs.Data.{RequestData}
use Rattle.t1_packet.specs.Ops.{dest_of, op_dest}
use Rattle.t1_sbuf.specs.declared.entry.Entry.{Entry}
use Rattle.t1_sbuf.specs.Entries.{are_sent_to, next_to_send_of, sent_next}
use Rattle.t1_l1.specs.Cache.{CacheState}
use Rattle.t1_event.specs.declared.item.Item.{Item}
use Rattle.t1_joint.specs.Lists.{IsIn}
use Rattle.t1_joint.specs.Waits.{HasItem}
use Rattle.t1_joint.specs.Rows.{Caches}
use Rattle.t1_strand_order.specs.Tracks.{Send}
use Rattle.t1_strand_order.specs.Laws.{one_destination}
use Rattle.t1_strand_order.proofs.Items.{one_item}
use Rattle.t1_received.specs.Requests.{of_class, GoTo}
use Rattle.t1_received.proofs.Lists.{in_left, in_right}
use Rattle.t1_core.specs.declared.asker.Asker.{Asker}
use Rattle.t1_core.specs.declared.answers.Drained.{Drained}
use Rattle.t1_core.specs.declared.answers.Drained.TheVariants as drained
use Rattle.t1_core.specs.Stores.{AreSent, store_op}
use Rattle.t1_core.specs.Threads.{ThreadState, store_sent}
use Rattle.t1_core.specs.Steps.{ThreadDrained, has_room, request_of, stays, drain_next, drain_stores, thread_drain}
use Rattle.t1_core_rule.specs.Histories.{drained_by}
use Rattle.t1_core_rule.specs.Outs.{stores_out, read_out, outs, numbers_of, AreEntriesOf}
use Rattle.t1_core_rule.specs.Steady.{IsGoodEntry, AreGoodEntries}
use Rattle.t1_core_rule.proofs.Moves.{IsFresh, IsMove, same_move, class_store, class_store_not}
use Rattle.t1_core_rule.proofs.Nexts as nexts
use Rattle.t1_core_rule.proofs.Nexts.{IsNext, marked, next_is, next_goes, outs_were, outs_are, entry_numbered, entry_in, good_in}
use mathlib.Core.List.{append-nil}

module _ (x : Asker) (icache dcache : CacheState) (caches : Caches) (pointers : Cache → List ℕ) (t : ThreadState) (good : AreGoodEntries x.chip x.ram t.stores) where
  abbrev Move : ThreadDrained → Type 0
  Move a = IsMove x icache dcache caches pointers t a.thread (drained_by a.did)

  still : (d : Drained) → drained_by d ≡ [] → Move (stays t d)
  still d e = subst (λ (rs : List RequestData). IsMove x icache dcache caches pointers t t rs) (sym e) (same_move x icache dcache caches pointers t t refl refl refl refl refl)

  -- ---- a store is sent

  module _ (e : Entry) (n : IsNext t.stores t.times e) (all : are_sent_to e.dest t.stores ≡ true) where
    abbrev r : RequestData
    r = request_of x e.item (store_op e)

    abbrev new : List Entry
    new = n.front ++ marked e ∷ n.rest

    goods : AreGoodEntries x.chip x.ram (n.front ++ e ∷ n.rest)
    goods = subst (λ (es : List Entry). AreGoodEntries x.chip x.ram es) n.are good

    own : IsGoodEntry x.chip x.ram e
    own = good_in x.chip x.ram (n.front ++ e ∷ n.rest) e goods (in_right e n.front (e ∷ n.rest) (inl refl))

    -- what is out goes where it goes
    goes : (f : Entry) → IsIn f n.front → op_dest x.chip (store_op f) ≡ op_dest x.chip (store_op e)
    goes f h =
        let f_good = good_in x.chip x.ram (n.front ++ e ∷ n.rest) f goods (in_left f n.front (e ∷ n.rest) h) in
        let same : f.dest ≡ e.dest = nexts.front_goes e.dest n.front (e ∷ n.rest) t.times n.out (subst (λ (es : List Entry). are_sent_to e.dest es ≡ true) n.are all) f h in
        sym f_good.dest ∙ (same ∙ own.dest)

    together : AreEntriesOf t.items (n.front ++ e ∷ n.rest) → (i : ℕ) (y z : Item) → IsIn i (numbers_of n.front) → HasItem t.items i y → HasItem t.items e.item z
        → one_destination x.chip y.addr z.addr ≡ false
    together entries i y z h has_y has_z =
        let q = entry_numbered n.front i h in
        let f : Entry = q.0 in
        let a = entry_in t.items (n.front ++ e ∷ n.rest) f entries (in_left f n.front (e ∷ n.rest) q.1) in
        let b = entry_in t.items (n.front ++ e ∷ n.rest) e entries (in_right e n.front (e ∷ n.rest) (inl refl)) in
        let y_is : a.item ≡ y = one_item t.items i a.item y (subst (λ (k : ℕ). HasItem t.items k a.item) q.2 a.has) has_y in
        let z_is : b.item ≡ z = one_item t.items e.item b.item z b.has has_z in
        let y_addr : y.addr ≡ f.addr = ap (λ (v : Item). v.addr) (sym y_is) ∙ a.addr in
        let z_addr : z.addr ≡ e.addr = ap (λ (v : Item). v.addr) (sym z_is) ∙ b.addr in
        let same : dest_of x.chip y.addr ≡ dest_of x.chip z.addr = ap (λ (v : ℕ). dest_of x.chip v) y_addr ∙ (goes f q.1 ∙ ap (λ (v : ℕ). dest_of x.chip v) (sym z_addr)) in
        ap not (eq-eqb (dest_of x.chip y.addr) (dest_of x.chip z.addr) same)

    was : stores_out x.number x.strand t.stores t.times ≡ stores_out x.number x.strand n.front t.times
    was = ap (λ (es : List Entry). stores_out x.number x.strand es t.times) n.are ∙ outs_were x.number x.strand n.front (e ∷ n.rest) t.times n.out

    now : stores_out x.number x.strand (sent_next t.stores) (t.times ++ x.time ∷ []) ≡ stores_out x.number x.strand n.front t.times ++ r ∷ []
    now =
        ap (λ (es : List Entry). stores_out x.number x.strand es (t.times ++ x.time ∷ [])) n.after
        ∙ outs_are x.number x.strand n.front e n.rest t.times x.time n.out

    joins : (b : Bool) → outs x.number x.strand x.ram b (store_sent t x.time) ≡ outs x.number x.strand x.ram b t ++ of_class x.strand b (r ∷ [])
    joins true =
        now
        ∙ (ap (λ (rs : List RequestData). rs ++ r ∷ []) (sym was)
        ∙ ap (λ (rs : List RequestData). stores_out x.number x.strand t.stores t.times ++ rs) (sym (class_store x.strand r refl refl)))
    joins false =
        sym (ap (λ (rs : List RequestData). read_out x.number x.strand x.ram t.strand (length t.items) t.phase ++ rs) (class_store_not x.strand r refl)
        ∙ append-nil (read_out x.number x.strand x.ram t.strand (length t.items) t.phase))

    way : GoTo x.chip (op_dest x.chip (store_op e)) (stores_out x.number x.strand (sent_next t.stores) (t.times ++ x.time ∷ []))
    way =
        subst (λ (rs : List RequestData). GoTo x.chip (op_dest x.chip (store_op e)) rs) (sym now)
        (nexts.go_to_push x.chip (op_dest x.chip (store_op e)) (stores_out x.number x.strand n.front t.times) r
        (nexts.outs_go x.chip x.number x.strand (op_dest x.chip (store_op e)) n.front t.times goes) refl)

    numbers : numbers_of t.stores ≡ numbers_of n.front ++ e.item ∷ numbers_of n.rest
    numbers = ap numbers_of n.are ∙ map-append (λ (d : Entry). d.item) n.front (e ∷ n.rest)

    send : IsMove x icache dcache caches pointers t (store_sent t x.time) (r ∷ [])
    send = record {
      sent = λ f. subst (λ (es : List Entry). AreSent es (t.times ++ x.time ∷ [])) (sym n.after) (nexts.sent_more n.front e n.rest t.times x.time n.out n.left);
      good = λ g. subst (λ (es : List Entry). AreGoodEntries x.chip x.ram es) (sym n.after) (nexts.good_marked x.chip x.ram n.front e n.rest goods);
      fresh = λ q h. elim h [
        | inl same ↦ subst (λ (v : RequestData). IsFresh x v) (sym same) (record { core = refl; strand = refl; seen = refl; asked = own.asked })
        | inr none ↦ absurd none
      ];
      outs = λ f b. joins b;
      keeps = λ k y h. h;
      made = λ k y h. inl h;
      way = λ f d. (op_dest x.chip (store_op e), way);
      event = Some Send;
      is = rw (ap numbers_of n.after ∙ (nexts.numbers_marked n.front e n.rest ∙ ap numbers_of (sym n.are))) refl;
      right = λ ready. (let entries : AreEntriesOf t.items (n.front ++ e ∷ n.rest) = subst (λ (es : List Entry). AreEntriesOf t.items es) n.are ready.entries in
          record {
            allowed = record {
              out = numbers_of n.front;
              number = e.item;
              behind = numbers_of n.rest;
              are = numbers;
              sent = nexts.out_length n.front t.times n.out;
              together = together entries;
            };
            placed = tt;
            entries = subst (λ (es : List Entry). AreEntriesOf t.items es) (sym n.after) (nexts.entries_marked t.items n.front e n.rest entries);
            ways = λ q cache line h fills. elim h [
              | inl same ↦ absurd (let g : filled_line cache r.op ≡ Some line = subst (λ (v : RequestData). filled_line cache v.op ≡ Some line) same fills in let clash : ◌≡◌ {A = Option ℕ} None (Some line) = g in cc)
              | inr none ↦ absurd none
            ];
          });
    }

  -- ---- a drain

  next_move : AreSent t.stores t.times → (o : Option Entry) → next_to_send_of t.stores ≡ o → Move (drain_next x t o)
  next_move f None e = still drained.Out refl
  next_move f (Some d) e =
      let p = next_goes t.stores d e in
      elim (cases_Bool (has_room x.room (op_dest x.chip (store_op d)))) [
        | inl room ↦ rw room (send d (next_is t.stores t.times d f p.0) p.1)
        | inr full ↦ rw full (still (drained.NoRoom (op_dest x.chip (store_op d))) refl)
      ]

  by_stores : AreSent t.stores t.times → (es : List Entry) → t.stores ≡ es → Move (drain_stores x t es)
  by_stores f [] e = still drained.Empty refl
  by_stores f (d ∷ ds) e = next_move f (next_to_send_of (d ∷ ds)) (ap next_to_send_of e)

  pub drain_move : AreSent t.stores t.times → Move (thread_drain x t)
  unfolding thread_drain
  drain_move f = by_stores f t.stores refl
