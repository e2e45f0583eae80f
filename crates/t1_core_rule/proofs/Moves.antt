-- A strand moves, and sends at most one request: what such a move has to show, and the moves that make no item.
use Rattle.t1_shape.specs.Shapes.{Shape}
use Rattle.std.proofs.Common.{◌≡◌, ◌⊎◌, ℕ, ◌/◌, ◌%◌, ◌^◌, ◌==◌, Bool, true, false, List, [], ◌∷◌, ◌++◌, length, Option, Some, None, refl, sym, ◌∙◌, subst, inl, inr, arith}
use Rattle.std.proofs.lemmas.Bool.{cases_Bool, eq-eqb, eqb-true, and_parts}
use mathlib.Core.List.{append-nil}
use Rattle.t1_shape.specs.Slots.{victim_of}
use Rattle.t1_space.specs.Places.{is_io}
use Rattle.t1_packet.specs.declared.cache.Cache.{Cache}
use Rattle.t1_packet.specs.declared.cache.Cache.TheVariants.{Dcache, Icache}
use Rattle.t1_packet.specs.Caches.{layout, filled_line}
use Rattle.t1_packet.specs.Data.{RequestData}
use Rattle.t1_packet.specs.Ops.{asked_way, is_store}
use Rattle.t1_sbuf.specs.declared.entry.Entry.{Entry}
use Rattle.t1_l1.specs.Cache.{CacheState}
use Rattle.t1_event.specs.declared.item.Item.{Item}
use Rattle.t1_event.specs.declared.item.How.TheVariants.{Commit}
use Rattle.t1_event.specs.Times.{at_of}
use Rattle.t1_event.specs.Items.{IsIo}
use Rattle.t1_joint.specs.Lists.{IsIn}
use Rattle.t1_joint.specs.Waits.{HasItem}
use Rattle.t1_joint.specs.Rows.{Caches}
use Rattle.t1_joint.specs.CoreRule.{IsAsked}
use Rattle.t1_strand_order.specs.Tracks.{Track, Event, after}
use Rattle.t1_strand_order.specs.Allowed.{IsAllowed}
use Rattle.t1_strand_order.specs.Kept.{IsKept}
use Rattle.t1_strand_order.specs.Places.{IsPlacedNow}
use Rattle.t1_strand_order.specs.Laws.{one_destination}
use Rattle.t1_strand_order.proofs.Items.{push_has}
use Rattle.t1_received.specs.Requests.{is_of, of_class, GoTo}
use Rattle.t1_received.proofs.Sorts.{class_of, class_one, class_none}
use Rattle.t1_core.specs.declared.asker.Asker.{Asker}
use Rattle.t1_core.specs.Stores.{AreSent}
use Rattle.t1_core.specs.Threads.{ThreadState}
use Rattle.t1_core.specs.Replays.{AreByteLines}
use Rattle.t1_core_rule.specs.Outs.{stores_out, read_out, outs, asked_of, track_of, AreEntriesOf}
use Rattle.t1_core_rule.specs.Steady.{AreGoodEntries}
use Rattle.t1_core_rule.specs.Fitting.{cache_with}

-- ---- at most one event

abbrev pub after_if : Track → Option Event → Track
after_if s None = s
after_if s (Some event) = after s event

abbrev pub IsAllowedIf : (chip : Shape) → Track → Option Event → Type 0
IsAllowedIf chip s None = Unit {0}
IsAllowedIf chip s (Some event) = IsAllowed (one_destination chip) s event

abbrev pub IsPlacedIf : (chip : Shape) → ℕ → Caches → Track → Option Event → Type 0
IsPlacedIf chip ram caches s None = Unit {0}
IsPlacedIf chip ram caches s (Some event) = IsPlacedNow chip ram caches s event

-- ---- moves

-- an item that is made now: no commit, at the time or without one
pub record IsMadeNow (x : Asker) (y : Item) : Type 0 where
  pub no_commit : (n seen : ℕ) → y.how ≡ Commit n seen → ⊥
  pub time : (at_of y.how ≡ 0) ⊎ (at_of y.how ≡ x.time)

-- all stores that are out go to one destination
abbrev pub HasWay : (chip : Shape) → Asker → ThreadState → Type 0
HasWay chip x t = (d : ℕ) × GoTo chip d (stores_out x.number x.strand t.stores t.times)

-- a request as it goes out
pub record IsFresh (x : Asker) (r : RequestData) : Type 0 where
  pub core : r.core ≡ x.number
  pub strand : r.strand ≡ x.strand
  pub seen : r.seen ≡ x.time
  pub asked : IsAsked x.chip x.ram r.op

-- what the conditional part of the rule rests on: the caches are those by packets, with lines of bytes, the
-- strand's order is kept, and its buffer's entries are items
pub record IsReady (x : Asker) (icache dcache : CacheState) (caches : Caches) (pointers : Cache → List ℕ) (t : ThreadState) : Type 0 where
  pub icache_is : icache ≡ cache_with x.chip Icache (caches x.time Icache) (pointers Icache)
  pub dcache_is : dcache ≡ cache_with x.chip Dcache (caches x.time Dcache) (pointers Dcache)
  pub icache_bytes : AreByteLines (caches x.time Icache)
  pub dcache_bytes : AreByteLines (caches x.time Dcache)
  pub kept : IsKept (one_destination x.chip) (track_of x.ram x.time t)
  pub entries : AreEntriesOf t.items t.stores

pub record IsRight (x : Asker) (caches : Caches) (pointers : Cache → List ℕ) (t u : ThreadState) (new : List RequestData) (event : Option Event) : Type 0 where
  pub allowed : IsAllowedIf x.chip (track_of x.ram x.time t) event
  pub placed : IsPlacedIf x.chip x.ram caches (track_of x.ram x.time t) event
  pub entries : AreEntriesOf u.items u.stores
  pub ways : (r : RequestData) (cache : Cache) (line : ℕ) → IsIn r new → filled_line cache r.op ≡ Some line
      → asked_way r.op ≡ victim_of (layout x.chip cache) (caches x.time cache) (pointers cache) line

pub record IsMove (x : Asker) (icache dcache : CacheState) (caches : Caches) (pointers : Cache → List ℕ) (t u : ThreadState) (new : List RequestData) : Type 0 where
  pub sent : AreSent t.stores t.times → AreSent u.stores u.times
  pub good : AreGoodEntries x.chip x.ram t.stores → AreGoodEntries x.chip x.ram u.stores
  pub fresh : (r : RequestData) → IsIn r new → IsFresh x r
  pub outs : AreSent t.stores t.times → (b : Bool) → outs x.number x.strand x.ram b u ≡ outs x.number x.strand x.ram b t ++ of_class x.strand b new
  pub keeps : (k : ℕ) (y : Item) → HasItem t.items k y → HasItem u.items k y
  pub made : (k : ℕ) (y : Item) → HasItem u.items k y → HasItem t.items k y ⊎ IsMadeNow x y
  pub way : AreSent t.stores t.times → HasWay x.chip x t → HasWay x.chip x u
  pub event : Option Event
  pub is : track_of x.ram x.time u ≡ after_if (track_of x.ram x.time t) event
  pub right : IsReady x icache dcache caches pointers t → IsRight x caches pointers t u new event

-- ---- pieces

pub io_bits : (addr : ℕ) → is_io addr ≡ true → IsIo addr
io_bits addr e =
    let p = and_parts (addr / 2 ^ 39 % 2 == 1) (addr / 2 ^ 40 == 0) e in
    let a = eqb-true (addr / 2 ^ 39 % 2) 1 p.0 in
    let b = eqb-true (addr / 2 ^ 40) 0 p.1 in
    (omega (arith, a, b), omega (arith, a, b))

pub io_true : (addr : ℕ) → IsIo addr → is_io addr ≡ true
io_true addr io =
    let low = io.0 in
    let high = io.1 in
    let a : addr / 2 ^ 39 % 2 ≡ 1 = omega (arith, low, high) in
    let b : addr / 2 ^ 40 ≡ 0 = omega (arith, high) in
    rw (eq-eqb (addr / 2 ^ 39 % 2) 1 a, eq-eqb (addr / 2 ^ 40) 0 b) refl

pub class_not : (i : ℕ) (r : RequestData) → is_store r.op ≡ false → of_class i true (r ∷ []) ≡ []
class_not i r e =
    elim (cases_Bool (is_of i true r)) [
      | inl c ↦ absurd (let p = class_of i true r c in let clash : true ≡ false = sym p.1 ∙ e in cc)
      | inr c ↦ class_none i true r c
    ]

pub class_read : (i : ℕ) (r : RequestData) → r.strand ≡ i → is_store r.op ≡ false → of_class i false (r ∷ []) ≡ r ∷ []
class_read i r e f = class_one i false r (rw (eq-eqb r.strand i e, f) refl)

pub class_store : (i : ℕ) (r : RequestData) → r.strand ≡ i → is_store r.op ≡ true → of_class i true (r ∷ []) ≡ r ∷ []
class_store i r e f = class_one i true r (rw (eq-eqb r.strand i e, f) refl)

pub class_store_not : (i : ℕ) (r : RequestData) → is_store r.op ≡ true → of_class i false (r ∷ []) ≡ []
class_store_not i r e =
    elim (cases_Bool (is_of i false r)) [
      | inl c ↦ absurd (let p = class_of i false r c in let clash : true ≡ false = sym e ∙ p.1 in cc)
      | inr c ↦ class_none i false r c
    ]

-- the outs of each class, where nothing is sent
pub outs_same : (x : Asker) (t u : ThreadState) → u.stores ≡ t.stores → u.times ≡ t.times
    → read_out x.number x.strand x.ram u.strand (length u.items) u.phase ≡ read_out x.number x.strand x.ram t.strand (length t.items) t.phase
    → (b : Bool) → outs x.number x.strand x.ram b u ≡ outs x.number x.strand x.ram b t ++ of_class x.strand b []
outs_same x t u es ts rs true = rw (es, ts) (sym (append-nil (stores_out x.number x.strand t.stores t.times)))
outs_same x t u es ts rs false = rs ∙ sym (append-nil (read_out x.number x.strand x.ram t.strand (length t.items) t.phase))

-- ---- a move that makes no item and sends nothing

pub same_move : (x : Asker) (icache dcache : CacheState) (caches : Caches) (pointers : Cache → List ℕ) (t u : ThreadState) → u.items ≡ t.items → u.stores ≡ t.stores → u.times ≡ t.times
    → asked_of x.ram u.strand u.phase ≡ asked_of x.ram t.strand t.phase
    → read_out x.number x.strand x.ram u.strand (length u.items) u.phase ≡ read_out x.number x.strand x.ram t.strand (length t.items) t.phase
    → IsMove x icache dcache caches pointers t u []
same_move x icache dcache caches pointers t u xs es ts os rs = record {
  sent = λ s. rw (es, ts) s;
  good = λ g. rw es g;
  fresh = λ r h. absurd h;
  outs = λ s b. outs_same x t u es ts rs b;
  keeps = λ k y h. rw xs h;
  made = λ k y h. inl (subst (λ (ys : List Item). HasItem ys k y) xs h);
  way = λ s d. rw (es, ts) d;
  event = None;
  is = rw (xs, es, ts, os) refl;
  right = λ r. record { allowed = tt; placed = tt; entries = rw (xs, es) r.entries; ways = λ q cache line h. absurd h };
}

-- ---- entries of a longer list of items

pub entries_push : (items : List Item) (v : Item) (es : List Entry) → AreEntriesOf items es → AreEntriesOf (items ++ v ∷ []) es
entries_push items v [] b = tt
entries_push items v (e ∷ es) b = (
  record { item = b.0.item; has = push_has items v e.item b.0.item b.0.has; addr = b.0.addr; size = b.0.size; put = b.0.put; got = b.0.got },
  entries_push items v es b.1,
)
