-- What an exec does to a strand.
use Rattle.std.proofs.Common.{◌≡◌, ◌⊎◌, ◌<◌, ℕ, ◌%◌, ◌==◌, Bool, true, false, List, [], ◌∷◌, ◌++◌, length, Option, Some, None, refl, ap, sym, ◌∙◌, subst, inl, inr, arith, nat_lt}
use Rattle.std.proofs.lemmas.Bool.{cases_Bool, eqb-true, ltb-true, and_parts}
use Rattle.std.proofs.lemmas.List.{map-append, length-map}
use mathlib.Core.List.{append-nil}
use Rattle.t1_shape.specs.Slots.{victim_of}
use Rattle.t1_space.specs.Places.{is_io}
use Rattle.t1_decode.specs.Words.{insn_of}
use Rattle.t1_state.specs.declared.strand.Strand.{Strand}
use Rattle.t1_state.specs.Traps.{entered, entered_by}
use Rattle.t1_exec.specs.declared.need.Need.{Need}
use Rattle.t1_exec.specs.declared.need.Need.TheVariants as need
use Rattle.t1_exec.specs.Needs.{need_of}
use Rattle.t1_exec.specs.Meanings.{after_of}
use Rattle.t1_packet.specs.declared.cache.Cache.{Cache}
use Rattle.t1_packet.specs.declared.cache.Cache.TheVariants.{Dcache, Icache}
use Rattle.t1_packet.specs.Caches.{layout, filled_line, line_of}
use Rattle.t1_packet.specs.declared.op.Op.{Op}
use Rattle.t1_packet.specs.declared.op.Op.TheVariants as op
use Rattle.t1_packet.specs.Data.{RequestData}
use Rattle.t1_packet.specs.Ops.{dest_of, op_dest, asked_way, is_store}
use Rattle.t1_sbuf.specs.declared.entry.Entry.{Entry}
use Rattle.t1_sbuf.specs.declared.entry.Look.{Look}
use Rattle.t1_sbuf.specs.declared.entry.Look.TheVariants as look
use Rattle.t1_sbuf.specs.Looks.{look_of}
use Rattle.t1_l1.specs.Cache.{CacheState, read_of, victim_at}
use Rattle.t1_event.specs.declared.item.Item.{Item}
use Rattle.t1_event.specs.declared.item.How.{How}
use Rattle.t1_event.specs.declared.item.How.TheVariants.{Unplaced, Forward, Hit, Commit}
use Rattle.t1_event.specs.Kinds.{IsRead, IsWrite}
use Rattle.t1_event.specs.Items.{fetch_item, load_item, store_item}
use Rattle.t1_joint.specs.Replay.{fetch_trap, is_fetchable}
use Rattle.t1_joint.specs.Rows.{Caches, LoadRow}
use Rattle.t1_joint.specs.CoreRule.{IsAsked}
use Rattle.t1_joint.proofs.Needs.{IsShapedNeed, need_shaped}
use Rattle.t1_strand_order.specs.Tracks.{Event, Read, Fence, Push, Ask}
use Rattle.t1_strand_order.specs.Places.{AskedRow}
use Rattle.t1_strand_order.proofs.Items.{not_true, has_push, push_has, push_last}
use Rattle.t1_core.specs.declared.asker.Asker.{Asker}
use Rattle.t1_core.specs.declared.phase.Phase.{Phase}
use Rattle.t1_core.specs.declared.phase.Phase.TheVariants as phase
use Rattle.t1_core.specs.declared.answers.Wait.{Wait}
use Rattle.t1_core.specs.declared.answers.Wait.TheVariants as wait
use Rattle.t1_core.specs.declared.plan.Plan.{Plan}
use Rattle.t1_core.specs.Stores.{AreSent}
use Rattle.t1_core.specs.Threads.{ThreadState, thread_need, next_phase, placed, unit_done, entry_phase, trapped, word_came, load_came, read_item, stored, op_for}
use Rattle.t1_core.specs.Steps.{ThreadActed, moved, waits, if_empty, plan_look, has_room, request_of, asked, asked_fetch, asked_data, exec_fetch, exec_begin, exec_look, exec_plan}
use Rattle.t1_packet.proofs.Caches.{ways_are}
use Rattle.t1_core_rule.specs.Histories.{asked_by}
use Rattle.t1_received.specs.Requests.{of_class, GoTo}
use Rattle.t1_event.specs.Times.{at_of}
use Rattle.t1_core_rule.specs.Outs.{stores_out, read_out, outs, asked_of, numbers_of}
use Rattle.t1_core.specs.Replays.{IsReading}
use Rattle.t1_core_rule.specs.Steady.{IsGoodEntry, IsCache}
use Rattle.t1_core_rule.specs.Fitting.{cache_with}
use Rattle.t1_core_rule.proofs.Lines.{got_line, is_missing}
use Rattle.t1_core_rule.proofs.Looks.{none_overlaps, forwarded}
use Rattle.t1_core_rule.proofs.Pieces.{next_reads, entry_reads, next_asked, entry_asked, sent_push, good_push, stores_push, entries_more, op_reads}
use Rattle.t1_core_rule.proofs.Asks.{below, op_fine, way_below, data_victim, read_kind}
use Rattle.t1_core_rule.proofs.Moves.{IsMadeNow, IsFresh, IsReady, IsRight, IsMove, io_true, class_not, class_read, outs_same, same_move, entries_push}

module _ (x : Asker) (blocks : x.ram % 65536 ≡ 0) (icache dcache : CacheState) (ic : IsCache x.chip Icache icache) (dc : IsCache x.chip Dcache dcache) (caches : Caches) (pointers : Cache → List ℕ)
    (s : Strand) (es : List Entry) (ts : List ℕ) (xs : List Item) (budget : ℕ) where
  abbrev pub at_phase : Phase → ThreadState
  at_phase p = record { strand = s; phase = p; stores = es; times = ts; items = xs; budget = budget }

  abbrev pub Move : Phase → ThreadActed → Type 0
  Move p a = IsMove x icache dcache caches pointers (at_phase p) a.thread (asked_by a.did)

  abbrev pub Ready : Phase → Type 0
  Ready p = IsReady x icache dcache caches pointers (at_phase p)

  pub stays : (p : Phase) (w : Wait) → Move p (waits (at_phase p) w)
  stays p w = same_move x icache dcache caches pointers (at_phase p) (at_phase p) refl refl refl refl refl

  pub trap_move : (p : Phase) (number : ℕ) → asked_of x.ram s p ≡ None → read_out x.number x.strand x.ram s (length xs) p ≡ [] → Move p (moved (trapped (at_phase p) number))
  unfolding trapped
  trap_move p number out reads =
      let u : Strand = entered s number in
      same_move x icache dcache caches pointers (at_phase p) (record { strand = u; phase = entry_phase (entered_by s number) u.units budget; stores = es; times = ts; items = xs; budget = budget }) refl refl refl
      (entry_asked x.ram u (entered_by s number) u.units budget ∙ sym out) (entry_reads x.number x.strand x.ram u (length xs) (entered_by s number) u.units budget ∙ sym reads)

  -- one item more, and nothing out before or after
  pub item_move : (p q : Phase) (v : Strand) (y : Item) (event : Event) → asked_of x.ram v q ≡ None → read_out x.number x.strand x.ram v (length (xs ++ y ∷ [])) q ≡ []
      → asked_of x.ram s p ≡ None → read_out x.number x.strand x.ram s (length xs) p ≡ []
      → (event ≡ Read y) ⊎ (event ≡ Fence y) → IsMadeNow x y
      → (Ready p → IsRight x caches pointers (at_phase p) (record { strand = v; phase = q; stores = es; times = ts; items = xs ++ y ∷ []; budget = budget }) [] (Some event))
      → IsMove x icache dcache caches pointers (at_phase p) (record { strand = v; phase = q; stores = es; times = ts; items = xs ++ y ∷ []; budget = budget }) []
  item_move p q v y event out reads out_p reads_p which now right = record {
    sent = λ f. f;
    good = λ g. g;
    fresh = λ r h. absurd h;
    outs = λ f b. outs_same x (at_phase p) (record { strand = v; phase = q; stores = es; times = ts; items = xs ++ y ∷ []; budget = budget }) refl refl (reads ∙ sym reads_p) b;
    keeps = λ k z h. push_has xs y k z h;
    made = λ k z h. elim (has_push xs y k z h) [ inl p ↦ inl p.1 | inr p ↦ inr (subst (λ (v : Item). IsMadeNow x v) p.1 now) ];
    way = λ f d. d;
    event = Some event;
    is = elim which [ inl e ↦ rw (e, out, out_p) refl | inr e ↦ rw (e, out, out_p) refl ];
    right = right;
  }

  -- ---- requests

  pub asked_move : (p q : Phase) (o : Op) (y : Item) → asked_of x.ram s p ≡ None → read_out x.number x.strand x.ram s (length xs) p ≡ []
      → read_out x.number x.strand x.ram s (length xs) q ≡ request_of x (length xs) o ∷ [] → asked_of x.ram s q ≡ Some (record { item = y; seen = x.time })
      → is_store o ≡ false → IsAsked x.chip x.ram o → IsRead y.kind → (IsWrite y.kind → ⊥) ⊎ (es ≡ []) → (Ready p → AskedRow x.chip x.ram caches xs y x.time)
      → ((cache : Cache) (line : ℕ) → filled_line cache o ≡ Some line → Ready p → asked_way o ≡ victim_of (layout x.chip cache) (caches x.time cache) (pointers cache) line)
      → Move p (asked x (at_phase p) o q)
  unfolding asked
  asked_move p q o y out reads goes asks load fine read free row way =
      elim (cases_Bool (has_room x.room (op_dest x.chip o))) [
        | inl e ↦ rw e (record {
          sent = λ f. f;
          good = λ g. g;
          fresh = λ r h. elim h [ inl e ↦ subst (λ (v : RequestData). IsFresh x v) (sym e) (record { core = refl; strand = refl; seen = refl; asked = fine }) | inr none ↦ absurd none ];
          outs = λ f b. by b;
          keeps = λ k z h. h;
          made = λ k z h. inl h;
          way = λ f d. d;
          event = Some (Ask y);
          is = rw asks refl;
          right = λ r. record {
            allowed = record { read = read; empty = elim free [ inl off ↦ inl off | inr none ↦ inr (ap numbers_of none) ] };
            placed = row r;
            entries = r.entries;
            ways = λ v cache line h fills. elim h [
              | inl same ↦
                  (let fills' : filled_line cache o ≡ Some line = subst (λ (w : RequestData). filled_line cache w.op ≡ Some line) same fills in
                  ap (λ (w : RequestData). asked_way w.op) same ∙ way cache line fills' r)
              | inr none ↦ absurd none
            ];
          };
        })
        | inr e ↦ rw e (same_move x icache dcache caches pointers (at_phase p) (at_phase p) refl refl refl refl refl)
      ]
    where
      by : (b : Bool) → outs x.number x.strand x.ram b (at_phase q) ≡ outs x.number x.strand x.ram b (at_phase p) ++ of_class x.strand b (request_of x (length xs) o ∷ [])
      by true = sym (ap (λ (rs : List RequestData). stores_out x.number x.strand es ts ++ rs) (class_not x.strand (request_of x (length xs) o) load) ∙ append-nil (stores_out x.number x.strand es ts))
      by false = goes ∙ sym (ap (λ (rs : List RequestData). rs ++ of_class x.strand false (request_of x (length xs) o ∷ [])) reads ∙ class_read x.strand (request_of x (length xs) o) refl load)

  -- ---- the begin of a unit

  pub fetch_asked_row : (r : Ready phase.Fetch) → s.pc < x.ram → read_of icache s.pc 4 ≡ None → AskedRow x.chip x.ram caches xs (fetch_item s.pc 0) x.time
  fetch_asked_row r inside e =
      let e' : read_of (cache_with x.chip Icache (caches x.time Icache) (pointers Icache)) s.pc 4 ≡ None = subst (λ (c : CacheState). read_of c s.pc 4 ≡ None) r.icache_is e in
      (inside, is_missing x.chip Icache (caches x.time Icache) (pointers Icache) (record (fetch_item s.pc 0) { how = Commit 0 x.time }) 4 e')

  pub fetch_victim : (cache : Cache) (line : ℕ) → filled_line cache (op.Fetch s.pc (victim_at icache s.pc)) ≡ Some line → Ready phase.Fetch
      → victim_at icache s.pc ≡ victim_of (layout x.chip cache) (caches x.time cache) (pointers cache) line
  unfolding victim_at
  fetch_victim Icache line e r =
      let l : line_of Icache s.pc ≡ line = cc (e) in
      ap (λ (c : CacheState). victim_at c s.pc) r.icache_is ∙ ap (λ (n : ℕ). victim_of (layout x.chip Icache) (caches x.time Icache) (pointers Icache) n) l
  fetch_victim Dcache line e r = let clash : ◌≡◌ {A = Option ℕ} None (Some line) = e in cc

  pub fetch_move : (word : Option ℕ) → read_of icache s.pc 4 ≡ word → (s.pc < x.ram) × (s.pc % 4 ≡ 0) → Move phase.Fetch (exec_fetch x icache (at_phase phase.Fetch) word)
  unfolding word_came asked_fetch
  fetch_move (Some word) is fine =
      let y : Item = placed (fetch_item s.pc word) (Hit x.time) in
      item_move phase.Fetch (phase.Have word) s y (Read y) refl refl refl refl (inl refl)
      (record { no_commit = λ n seen c. (let clash : Hit x.time ≡ Commit n seen = c in cc); time = inr refl })
      (λ r.
      let e : read_of (cache_with x.chip Icache (caches x.time Icache) (pointers Icache)) s.pc 4 ≡ Some word = subst (λ (c : CacheState). read_of c s.pc 4 ≡ Some word) r.icache_is is in
      record {
        allowed = record { read = refl; keeps = not_true; how = inl refl; free = refl };
        placed = (fine.0, got_line x.chip Icache (caches x.time Icache) (pointers Icache) y r.icache_bytes (inr (inr (inl refl))) fine.1 e);
        entries = entries_push xs y es r.entries;
        ways = λ v cache line h. absurd h;
      })
  fetch_move None is fine =
      let way : ℕ = victim_at icache s.pc in
      asked_move phase.Fetch (phase.OutFetch way x.time) (op.Fetch s.pc way) (fetch_item s.pc 0) refl refl refl refl refl
      (record { size_is = inr (inr (inl refl)); aligned = fine.1 }, fine.0, way_below x.chip Icache icache s.pc ic (ways_are x.chip Icache).0)
      refl (inl not_true) (λ r. fetch_asked_row r fine.0 is) (λ cache line e r. fetch_victim cache line e r)

  pub begin_move : (due : Option ℕ) (can : Bool) → is_fetchable x.ram s.pc ≡ can → Move phase.Fetch (exec_begin x icache (at_phase phase.Fetch) due can)
  begin_move (Some number) can e = trap_move phase.Fetch number refl refl
  begin_move None false e = trap_move phase.Fetch fetch_trap refl refl
  begin_move None true e =
      let parts = and_parts (nat_lt s.pc x.ram) (s.pc % 4 == 0) e in
      fetch_move (read_of icache s.pc 4) refl (ltb-true s.pc x.ram parts.0, eqb-true (s.pc % 4) 0 parts.1)

  -- ---- loads and atomics

  -- a load's value that is here
  pub load_move : (word a z v : ℕ) (how : How) → (how ≡ Hit x.time) ⊎ (how ≡ Forward x.time)
      → (Ready (phase.Have word) → LoadRow x.chip x.ram caches xs (length xs) (placed (load_item a z v) how) how)
      → Move (phase.Have word) (moved (load_came (at_phase (phase.Have word)) a z v how))
  unfolding load_came unit_done
  load_move word a z v how which row =
      let y : Item = placed (load_item a z v) how in
      let u : Strand = after_of s (insn_of word) v in
      item_move (phase.Have word) (next_phase u.units budget) u y (Read y) (next_asked x.ram u u.units budget) (next_reads x.number x.strand x.ram u (length (xs ++ y ∷ [])) u.units budget) refl refl (inl refl)
      (record {
        no_commit = λ n seen c. elim which [ inl e ↦ (let clash : Hit x.time ≡ Commit n seen = sym e ∙ c in cc) | inr e ↦ (let clash : Forward x.time ≡ Commit n seen = sym e ∙ c in cc) ];
        time = inr (elim which [ inl e ↦ ap at_of e | inr e ↦ ap at_of e ]);
      })
      (λ r. record {
        allowed = record { read = refl; keeps = not_true; how = which; free = refl };
        placed = row r;
        entries = entries_push xs y es r.entries;
        ways = λ w cache line h. absurd h;
      })

  pub need_fine : (word : ℕ) → IsShapedNeed x.ram (need_of s (insn_of word) x.ram)
  need_fine word = need_shaped x.ram blocks s (insn_of word)

  pub data_move : (word addr : ℕ) (n : Need) → need_of s (insn_of word) x.ram ≡ n → IsReading n → ((a z : ℕ) → n ≡ need.Load a z → a ≡ addr)
      → (IsWrite (read_item n 0).kind → ⊥) ⊎ (es ≡ []) → (Ready (phase.Have word) → AskedRow x.chip x.ram caches xs (read_item n 0) x.time)
      → Move (phase.Have word) (asked_data x dcache (at_phase (phase.Have word)) addr)
  unfolding asked_data thread_need
  data_move word addr n e r load free row =
      let way : ℕ = victim_at dcache addr in
      let m : Need = need_of s (insn_of word) x.ram in
      let reading : IsReading m = subst (λ (k : Need). IsReading k) (sym e) r in
      let load' : (a z : ℕ) → m ≡ need.Load a z → a ≡ addr = subst (λ (k : Need). (a z : ℕ) → k ≡ need.Load a z → a ≡ addr) (sym e) load in
      let free' : (IsWrite (read_item m 0).kind → ⊥) ⊎ (es ≡ []) = subst (λ (k : Need). (IsWrite (read_item k 0).kind → ⊥) ⊎ (es ≡ [])) (sym e) free in
      let row' : Ready (phase.Have word) → AskedRow x.chip x.ram caches xs (read_item m 0) x.time =
      subst (λ (k : Need). Ready (phase.Have word) → AskedRow x.chip x.ram caches xs (read_item k 0) x.time) (sym e) row in
      asked_move (phase.Have word) (phase.OutData word way x.time) (op_for m way) (read_item m 0) refl refl refl refl (op_reads m way)
      (op_fine x.chip x.ram m way reading (need_fine word) (way_below x.chip Dcache dcache addr dc (ways_are x.chip Dcache).0)) (read_kind m reading) free' row'
      (λ cache line fills ready. data_victim x.chip dcache (caches x.time) pointers m addr load' reading cache line fills ready.dcache_is)

  -- where a load lies
  pub in_ram : (a z : ℕ) → IsShapedNeed x.ram (need.Load a z) → is_io a ≡ false → a < x.ram
  in_ram a z f off =
      elim f.1 [
        | inl l ↦ below x.ram a z f.0.size_is l
        | inr io ↦ absurd (let clash : true ≡ false = sym (io_true a io) ∙ off in cc)
      ]

  pub load_fine : (word a z : ℕ) → need_of s (insn_of word) x.ram ≡ need.Load a z → IsShapedNeed x.ram (need.Load a z)
  load_fine word a z e = subst (λ (n : Need). IsShapedNeed x.ram n) e (need_fine word)

  pub look_move : (word a z : ℕ) (found : Option ℕ) → read_of dcache a z ≡ found → need_of s (insn_of word) x.ram ≡ need.Load a z → is_io a ≡ false → look_of es a z ≡ look.Clear
      → Move (phase.Have word) (exec_look x dcache (at_phase (phase.Have word)) a z found)
  look_move word a z (Some v) is e off clear =
      let f = load_fine word a z e in
      load_move word a z v (Hit x.time) (inl refl)
      (λ r.
      let is' : read_of (cache_with x.chip Dcache (caches x.time Dcache) (pointers Dcache)) a z ≡ Some v = subst (λ (c : CacheState). read_of c a z ≡ Some v) r.dcache_is is in (
        in_ram a z f off,
        none_overlaps _ xs es x.time r.kept.orderly r.entries (placed (load_item a z v) (Hit x.time)) clear,
        got_line x.chip Dcache (caches x.time Dcache) (pointers Dcache) (placed (load_item a z v) (Hit x.time)) r.dcache_bytes f.0.size_is f.0.aligned is',
      ))
  look_move word a z None is e off clear =
      let f = load_fine word a z e in
      data_move word a (need.Load a z) e tt (λ b y q. (let g : a ≡ b = cc (q) in sym g)) (inl not_true)
      (λ r.
      let is' : read_of (cache_with x.chip Dcache (caches x.time Dcache) (pointers Dcache)) a z ≡ None = subst (λ (c : CacheState). read_of c a z ≡ None) r.dcache_is is in
      inl (
        in_ram a z f off,
        none_overlaps _ xs es x.time r.kept.orderly r.entries (record (load_item a z 0) { how = Commit 0 x.time }) clear,
        is_missing x.chip Dcache (caches x.time Dcache) (pointers Dcache) (record (load_item a z 0) { how = Commit 0 x.time }) z is',
      ))

  pub plan_look_move : (word a z : ℕ) (l : Look) → look_of es a z ≡ l → need_of s (insn_of word) x.ram ≡ need.Load a z → is_io a ≡ false
      → Move (phase.Have word) (exec_plan x dcache (at_phase (phase.Have word)) (plan_look a z l))
  plan_look_move word a z look.Clear is e off = look_move word a z (read_of dcache a z) refl e off is
  plan_look_move word a z (look.Covers v) is e off =
      load_move word a z v (Forward x.time) (inr refl)
      (λ r. (in_ram a z (load_fine word a z e) off, forwarded _ xs es x.time r.kept.orderly r.entries (placed (load_item a z v) (Forward x.time)) is))
  plan_look_move word a z (look.Overlaps k) is e off = stays (phase.Have word) (wait.Overlap k)

  -- only over an empty buffer
  pub empty_move : (word : ℕ) (bs : List Entry) (p : Plan) → (bs ≡ [] → Move (phase.Have word) (exec_plan x dcache (at_phase (phase.Have word)) p))
      → Move (phase.Have word) (exec_plan x dcache (at_phase (phase.Have word)) (if_empty bs p))
  empty_move word [] p f = f refl
  empty_move word (e ∷ bs) p f = stays (phase.Have word) wait.NotEmpty

  -- ---- stores and barriers

  pub stored_move : (word a z v : ℕ) → IsGoodEntry x.chip x.ram (record { item = length xs; addr = a; size = z; value = v; sent = false; dest = dest_of x.chip a }) → length es < 8
      → Move (phase.Have word) (moved (stored x.chip (at_phase (phase.Have word)) a z v))
  unfolding stored unit_done
  stored_move word a z v good room =
      let y : Item = store_item a z v in
      let e : Entry = record { item = length xs; addr = a; size = z; value = v; sent = false; dest = dest_of x.chip a } in
      let u : Strand = after_of s (insn_of word) 0 in
      let t' : ThreadState = record { strand = u; phase = next_phase u.units budget; stores = es ++ e ∷ []; times = ts; items = xs ++ y ∷ []; budget = budget } in
      record {
        sent = λ f. sent_push es ts e refl f;
        good = λ g. good_push x.chip x.ram es e good g;
        fresh = λ r h. absurd h;
        outs = λ f b. by t' e f b refl refl (next_reads x.number x.strand x.ram u (length (xs ++ y ∷ [])) u.units budget);
        keeps = λ k w h. push_has xs y k w h;
        made = λ k w h. elim (has_push xs y k w h) [
          | inl p ↦ inl p.1
          | inr p ↦ inr (subst (λ (v : Item). IsMadeNow x v) p.1 (record { no_commit = λ m seen c. (let clash : Unplaced ≡ Commit m seen = c in cc); time = inl refl }))
        ];
        way = λ f d. (d.0, subst (λ (rs : List RequestData). GoTo x.chip d.0 rs) (sym (stores_push x.number x.strand es ts e f)) d.1);
        event = Some (Push y);
        is = rw (next_asked x.ram u u.units budget, map-append (λ (d : Entry). d.item) es (e ∷ [])) refl;
        right = λ r. record {
          allowed = record { kind = refl; how = refl; room = (let l = length-map es (λ (d : Entry). d.item) in omega (arith, l, room)); free = refl };
          placed = tt;
          entries = entries_more (xs ++ y ∷ []) es e (entries_push xs y es r.entries) (record { item = y; has = push_last xs y; addr = refl; size = refl; put = refl; got = refl });
          ways = λ w cache line h. absurd h;
        };
      }
    where
      by : (t' : ThreadState) (e : Entry) → AreSent es ts → (b : Bool) → t'.stores ≡ es ++ e ∷ [] → t'.times ≡ ts → read_out x.number x.strand x.ram t'.strand (length t'.items) t'.phase ≡ []
          → outs x.number x.strand x.ram b t' ≡ outs x.number x.strand x.ram b (at_phase (phase.Have word)) ++ of_class x.strand b []
      by t' e f true es_is ts_is reads = rw (es_is, ts_is) (stores_push x.number x.strand es ts e f ∙ sym (append-nil (stores_out x.number x.strand es ts)))
      by t' e f false es_is ts_is reads = reads
