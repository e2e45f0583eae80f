-- A packet, whichever it is, keeps what a core keeps whatever packets come.
use Rattle.t1_shape.specs.Shapes.{Shape}
use Rattle.std.proofs.Common.{◌≡◌, ◌⊎◌, ◌≤◌, ◌<◌, ℕ, ◌+◌, ◌-◌, ◌^◌, ◌==◌, ◌&&◌, ◌||◌, nat_lt, true, false, List, [], ◌∷◌, ◌++◌, length, set, drop, take, Option, Some, None, refl, ap, sym, ◌∙◌, subst, inl, inr, arith}
use Rattle.std.specs.List.{slice_get}
use Rattle.std.proofs.lemmas.Bool.{cases_Bool, or_cases, eqb-true, ltb-true, ltb-false}
use Rattle.std.proofs.lemmas.List.{length-set}
use Rattle.t1_packet.specs.declared.cache.Cache.{Cache}
use Rattle.t1_packet.specs.declared.cache.Cache.TheVariants.{Dcache, Icache}
use Rattle.t1_packet.specs.Caches.{layout}
use Rattle.t1_packet.specs.declared.packet.Packet.{Packet}
use Rattle.t1_packet.specs.declared.op.Op.TheVariants as op
use Rattle.t1_packet.specs.Data.{KillData, ReplyData}
use Rattle.t1_packet.specs.Ops.{op_addr, is_store}
use Rattle.t1_sbuf.specs.declared.entry.Entry.{Entry}
use Rattle.t1_l1.specs.Cache.{CacheState, ArePointers, filled, emptied, updated}
use Rattle.t1_l1.proofs.Pointers.{pointers_are_ways}
use Rattle.t1_joint.specs.Start.{Setup}
use Rattle.t1_joint.specs.Proper.{IsTime}
use Rattle.t1_received.proofs.Lists.{in_more, in_left, in_last}
use Rattle.t1_core.specs.declared.phase.Phase.{Phase}
use Rattle.t1_core.specs.declared.phase.Phase.TheVariants as phase
use Rattle.t1_core.specs.Stores.{AreSent, store_op}
use Rattle.t1_core.specs.Threads.{ThreadState, thread_need, op_for, word_came, value_came, unit_done, acknowledged}
use Rattle.t1_core.specs.Steps.{CoreState}
use Rattle.t1_core.specs.Takes.{emptied_in, killed_in, killed_by, killed, accepts, fill_with, Answered, answered_read, answered_store, thread_answer, answered_at, answered, take_of}
use Rattle.t1_packet.proofs.Caches.{ways_are}
use Rattle.t1_core_rule.specs.Histories.{History, after_take}
use Rattle.t1_core_rule.specs.Steady.{AreGoodEntries, IsCache, IsThread, IsSteady}
use Rattle.t1_core_rule.proofs.Lists.{got_set}

-- ---- caches

fill_cache : (chip : Shape) (cache : Cache) (c : CacheState) (addr : ℕ) (way : Option ℕ) (bytes : List ℕ) → IsCache chip cache c → 0 < (layout chip cache).ways → IsCache chip cache (fill_with c addr way bytes)
unfolding filled
fill_cache chip cache c addr None bytes is some = is
fill_cache chip cache c addr (Some way) bytes is some =
    let ways : c.layout.ways ≡ (layout chip cache).ways = ap (λ g. g.ways) is.layout_is in
    record {
      layout_is = is.layout_is;
      width_is = is.width_is;
      pointers_are = subst (λ (n : ℕ). ArePointers n (filled c addr way bytes).pointers) ways
          (pointers_are_ways.fill c addr way bytes (subst (λ (n : ℕ). 0 < n) (sym ways) some) (subst (λ (n : ℕ). ArePointers n c.pointers) (sym ways) is.pointers_are));
    }

update_cache : (chip : Shape) (cache : Cache) (c : CacheState) (addr size value : ℕ) → IsCache chip cache c → IsCache chip cache (updated c addr size value)
unfolding updated
update_cache chip cache c addr size value is = record { layout_is = is.layout_is; width_is = is.width_is; pointers_are = is.pointers_are }

empty_cache_in : (chip : Shape) (cache : Cache) (c : CacheState) (at way : ℕ) → IsCache chip cache c → IsCache chip cache (emptied_in c at way)
unfolding emptied
empty_cache_in chip cache c at way is =
    elim (cases_Bool (nat_lt at c.layout.sets && nat_lt way c.layout.ways)) [
      | inl e ↦ rw e (record { layout_is = is.layout_is; width_is = is.width_is; pointers_are = is.pointers_are })
      | inr e ↦ rw e is
    ]

-- ---- kills

-- another core with the same number, RAM, strands and time, and with good caches
pub record IsSameBut (c d : CoreState) : Type 0 where
  pub chip : d.chip ≡ c.chip
  pub number : d.number ≡ c.number
  pub ram : d.ram ≡ c.ram
  pub threads : d.threads ≡ c.threads
  pub dcache : IsCache d.chip Dcache d.dcache
  pub icache : IsCache d.chip Icache d.icache

kill_one : (c : CoreState) (kill : KillData) → IsCache c.chip Dcache c.dcache → IsCache c.chip Icache c.icache → IsSameBut c (killed_by c kill)
kill_one c kill d i =
    elim (cases_Bool (kill.core == c.number)) [
      | inl e ↦ rw e (by kill.cache)
      | inr e ↦ rw e (record { chip = refl; number = refl; ram = refl; threads = refl; dcache = d; icache = i })
    ]
  where
    by : (cache : Cache) → IsSameBut c (killed_in cache c kill.set kill.way)
    by Dcache = record { chip = refl; number = refl; ram = refl; threads = refl; dcache = empty_cache_in c.chip Dcache c.dcache kill.set kill.way d; icache = i }
    by Icache = record { chip = refl; number = refl; ram = refl; threads = refl; dcache = d; icache = empty_cache_in c.chip Icache c.icache kill.set kill.way i }

pub kills_same : (c : CoreState) (kills : List KillData) → IsCache c.chip Dcache c.dcache → IsCache c.chip Icache c.icache → IsSameBut c (killed c kills)
unfolding killed
kills_same c [] d i = record { chip = refl; number = refl; ram = refl; threads = refl; dcache = d; icache = i }
kills_same c (kill ∷ kills) d i =
    let one = kill_one c kill d i in
    let rest = kills_same (killed_by c kill) kills one.dcache one.icache in
    record { chip = rest.chip ∙ one.chip; number = rest.number ∙ one.number; ram = rest.ram ∙ one.ram; threads = rest.threads ∙ one.threads; dcache = rest.dcache; icache = rest.icache }

-- ---- replies

record IsGood (chip : Shape) (ram : ℕ) (a : Answered) : Type 0 where
  thread : IsThread chip ram a.thread
  dcache : IsCache chip Dcache a.dcache
  icache : IsCache chip Icache a.icache

sent_drop : (es : List Entry) (ts : List ℕ) → AreSent es ts → AreSent (drop 1 es) (drop 1 ts)
sent_drop [] [] f = tt
sent_drop [] (t ∷ ts) f = absurd f
sent_drop (e ∷ es) [] f = f.1
sent_drop (e ∷ es) (t ∷ ts) f = f.1

good_drop : (chip : Shape) (ram : ℕ) (es : List Entry) → AreGoodEntries chip ram es → AreGoodEntries chip ram (drop 1 es)
good_drop chip ram [] g = tt
good_drop chip ram (e ∷ es) g = g.1

module _ (chip : Shape) (ram bound n : ℕ) (r : ReplyData) (a : Answered) (g : IsGood chip ram a) where
  read_good : (p : Phase) → IsGood chip ram (answered_read bound n r a p)
  unfolding word_came value_came unit_done
  read_good (phase.OutFetch way seen) =
      elim (cases_Bool (accepts a.dcache a.icache r (length a.thread.items) (op.Fetch a.thread.strand.pc way))) [
        | inl e ↦ rw e (record {
          thread = record { sent = g.thread.sent; good = g.thread.good };
          dcache = g.dcache;
          icache = fill_cache chip Icache a.icache (op_addr r.op) r.way r.line g.icache (ways_are chip Icache).0;
        })
        | inr e ↦ rw e g
      ]
  read_good (phase.OutData word way seen) =
      elim (cases_Bool (accepts a.dcache a.icache r (length a.thread.items) (op_for (thread_need bound a.thread) way))) [
        | inl e ↦ rw e (record {
          thread = record { sent = g.thread.sent; good = g.thread.good };
          dcache = fill_cache chip Dcache a.dcache (op_addr r.op) r.way (take 16 r.line) g.dcache (ways_are chip Dcache).0;
          icache = g.icache;
        })
        | inr e ↦ rw e g
      ]
  read_good phase.Fetch = g
  read_good (phase.Have word) = g
  read_good (phase.Ended e) = g

  store_good : (o : Option Entry) → IsGood chip ram (answered_store n r a o)
  unfolding acknowledged
  store_good None = g
  store_good (Some e) =
      elim (cases_Bool (e.sent && accepts a.dcache a.icache r e.item (store_op e))) [
        | inl f ↦ rw f (record {
          thread = record { sent = sent_drop a.thread.stores a.thread.times g.thread.sent; good = good_drop chip ram a.thread.stores g.thread.good };
          dcache = update_cache chip Dcache a.dcache e.addr e.size e.value g.dcache;
          icache = g.icache;
        })
        | inr f ↦ rw f g
      ]

  answer_good : IsGood chip ram (thread_answer bound n r a)
  unfolding thread_answer
  answer_good =
      elim (cases_Bool (is_store r.op)) [
        | inl e ↦ rw e (store_good (slice_get a.thread.stores 0))
        | inr e ↦ rw e (read_good a.thread.phase)
      ]

-- ---- the packet

pub time_more : (received : List Packet) (p : Packet) (t : ℕ) → IsTime received t → IsTime (received ++ p ∷ []) t
time_more received p t (inl e) = inl e
time_more received p t (inr h) = inr (h.0, in_left h.0 received (p ∷ []) h.1, h.2)

module _ (w : Setup) (core : ℕ) (h : History) (p : Packet) (s : IsSteady w core h) where
  -- it is passed over
  passed : (p.index < h.core.time) ⊎ (p.index ≡ 4294967295) → IsSteady w core (record { core = h.core; received = h.received ++ p ∷ []; sent = h.sent })
  passed old = record {
    chip = s.chip;
    number = s.number;
    ram = s.ram;
    size = s.size;
    dcache = s.dcache;
    icache = s.icache;
    time = time_more h.received p h.core.time s.time;
    past = λ q g. elim (in_more q h.received (p ∷ []) g) [
      | inl o ↦ s.past q o
      | inr (inl e) ↦ subst (λ (v : Packet). (v.index < h.core.time) ⊎ (v.index ≡ 4294967295)) (sym e) old
      | inr (inr none) ↦ absurd none
    ];
    own = s.own;
    sent_times = λ r g. time_more h.received p r.seen (s.sent_times r g);
    ascends = s.ascends;
    threads = s.threads;
  }

  -- it is taken
  taken_by : (c : CoreState) → IsSameBut h.core c → (o : Option ReplyData) → h.core.time ≤ p.index
      → IsSteady w core (record { core = record (answered c p.index o) { time = p.index + 1 }; received = h.received ++ p ∷ []; sent = h.sent })
  taken_by c same o late = by o
    where
      whole : (d : CoreState) → d.chip ≡ h.core.chip → d.number ≡ h.core.number → d.ram ≡ h.core.ram → length d.threads ≡ length h.core.threads → IsCache d.chip Dcache d.dcache → IsCache d.chip Icache d.icache
          → ((j : ℕ) (t : ThreadState) → slice_get d.threads j ≡ Some t → IsThread w.config.chip w.config.ram t)
          → IsSteady w core (record { core = record d { time = p.index + 1 }; received = h.received ++ p ∷ []; sent = h.sent })
      whole d chip number ram size dc ic threads = record {
        chip = chip ∙ s.chip;
        number = number ∙ s.number;
        ram = ram ∙ s.ram;
        size = size ∙ s.size;
        dcache = record { layout_is = dc.layout_is; width_is = dc.width_is; pointers_are = dc.pointers_are };
        icache = record { layout_is = ic.layout_is; width_is = ic.width_is; pointers_are = ic.pointers_are };
        time = inr (p, in_last p h.received, refl);
        past = λ q g. elim (in_more q h.received (p ∷ []) g) [
          | inl old ↦ elim (s.past q old) [ inl l ↦ inl (omega (arith, l, late)) | inr e ↦ inr e ]
          | inr (inl e) ↦ inl (let i : q.index ≡ p.index = ap (λ (v : Packet). v.index) e in omega (arith, i))
          | inr (inr none) ↦ absurd none
        ];
        own = λ r g. (let f = s.own r g in let past = f.past in record { core_is = f.core_is; strand_is = f.strand_is; past = omega (arith, past, late); asked = f.asked });
        sent_times = λ r g. time_more h.received p r.seen (s.sent_times r g);
        ascends = s.ascends;
        threads = threads;
      }

      plain : (j : ℕ) (t : ThreadState) → slice_get c.threads j ≡ Some t → IsThread w.config.chip w.config.ram t
      plain j t e = s.threads j t (subst (λ (ts : List ThreadState). slice_get ts j ≡ Some t) same.threads e)

      at : (r : ReplyData) (q : Option ThreadState) → slice_get c.threads r.strand ≡ q
          → IsSteady w core (record { core = record (answered_at c p.index r q) { time = p.index + 1 }; received = h.received ++ p ∷ []; sent = h.sent })
      at r None e = whole c same.chip same.number same.ram (ap length same.threads) same.dcache same.icache plain
      at r (Some t) e =
          let a : Answered = record { thread = t; dcache = c.dcache; icache = c.icache } in
          let same_chip : c.chip ≡ w.config.chip = same.chip ∙ s.chip in
          let g : IsGood c.chip w.config.ram (thread_answer c.ram p.index r a) =
          answer_good c.chip w.config.ram c.ram p.index r a
          (record { thread = subst (λ (v : Shape). IsThread v w.config.ram t) (sym same_chip) (plain r.strand t e); dcache = same.dcache; icache = same.icache }) in
          let b : Answered = thread_answer c.ram p.index r a in
          whole (record c { threads = set c.threads r.strand b.thread; dcache = b.dcache; icache = b.icache }) same.chip same.number same.ram
          (length-set c.threads r.strand b.thread ∙ ap length same.threads) g.dcache g.icache
          (λ j v f. elim (got_set c.threads r.strand b.thread j v f) [ inl k ↦ subst (λ (x : ThreadState). IsThread w.config.chip w.config.ram x) k.1 (subst (λ (v : Shape). IsThread v w.config.ram b.thread) same_chip g.thread) | inr k ↦ plain j v k.1 ])

      by : (q : Option ReplyData) → IsSteady w core (record { core = record (answered c p.index q) { time = p.index + 1 }; received = h.received ++ p ∷ []; sent = h.sent })
      by None = whole c same.chip same.number same.ram (ap length same.threads) same.dcache same.icache plain
      by (Some r) = at r (slice_get c.threads r.strand) refl

  pub take_steady : IsSteady w core (after_take h p)
  unfolding take_of
  take_steady =
      elim (cases_Bool (nat_lt p.index h.core.time || (p.index == 2 ^ 32 - 1))) [
        | inl e ↦ rw e (passed (elim (or_cases (nat_lt p.index h.core.time) (p.index == 2 ^ 32 - 1) e) [ inl l ↦ inl (ltb-true p.index h.core.time l) | inr q ↦ inr (eqb-true p.index 4294967295 q) ]))
        | inr e ↦ rw e (taken_by (killed h.core p.kills) (kills_same h.core p.kills s.dcache s.icache) p.reply (not_below e))
      ]
    where
      not_below : (nat_lt p.index h.core.time || (p.index == 2 ^ 32 - 1)) ≡ false → h.core.time ≤ p.index
      not_below e =
          elim (cases_Bool (nat_lt p.index h.core.time)) [
            | inl l ↦ absurd (let now : true ≡ false = rw l at e in cc)
            | inr l ↦ ltb-false p.index h.core.time l
          ]
