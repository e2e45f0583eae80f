-- What a packet does to a core, whatever packet comes.
use Rattle.std.specs.Prelude.{ℕ, ◌+◌, ◌-◌, ◌*◌, ◌^◌, ◌==◌, ◌&&◌, ◌||◌, Bool, true, false, nat_lt, is_none, if◌then◌else◌, List, [], ◌∷◌, length, set, take, slice_get, Option, Some, None}
use Rattle.t1_space.specs.Places.{is_io}
use Rattle.t1_packet.specs.declared.cache.Cache.{Cache}
use Rattle.t1_packet.specs.declared.cache.Cache.TheVariants.{Dcache, Icache}
use Rattle.t1_packet.specs.declared.op.Op.{Op}
use Rattle.t1_packet.specs.declared.op.Op.TheVariants as op
use Rattle.t1_packet.specs.declared.packet.Packet.{Packet}
use Rattle.t1_packet.specs.Data.{KillData, ReplyData}
use Rattle.t1_packet.specs.Ops.{op_addr, op_size, is_store}
use Rattle.t1_l1.specs.Cache.{CacheState, filled, emptied, updated}
use Rattle.t1_event.specs.declared.item.How.TheVariants.{Commit}
use Rattle.t1_core.specs.declared.phase.Phase.{Phase}
use Rattle.t1_core.specs.declared.phase.Phase.TheVariants as phase
use Rattle.t1_sbuf.specs.declared.entry.Entry.{Entry}
use Rattle.t1_core.specs.Stores.{store_op}
use Rattle.t1_core.specs.Threads.{ThreadState, thread_need, word_came, value_came, op_for, acknowledged}
use Rattle.t1_core.specs.Steps.{CoreState}

-- ---- kills

-- a set and way that the cache does not have is passed over
abbrev pub emptied_in : CacheState → ℕ → ℕ → CacheState
emptied_in cache at way = if nat_lt at cache.layout.sets && nat_lt way cache.layout.ways then emptied cache at way else cache

abbrev pub killed_in : Cache → CoreState → ℕ → ℕ → CoreState
killed_in Dcache c at way = record c { dcache = emptied_in c.dcache at way }
killed_in Icache c at way = record c { icache = emptied_in c.icache at way }

-- a kill of another core is passed over
abbrev pub killed_by : CoreState → KillData → CoreState
killed_by c kill = if kill.core == c.number then killed_in kill.cache c kill.set kill.way else c

unfoldable pub killed : CoreState → List KillData → CoreState
killed c [] = c
killed c (kill ∷ kills) = killed (killed_by c kill) kills

-- ---- replies

abbrev pub same_op : Op → Op → Bool
same_op (op.Fetch a w) (op.Fetch b v) = (a == b) && (w == v)
same_op (op.Load a z w) (op.Load b y v) = (a == b) && (z == y) && (w == v)
same_op (op.Store a z p) (op.Store b y q) = (a == b) && (z == y) && (p == q)
same_op (op.Swap a z p) (op.Swap b y q) = (a == b) && (z == y) && (p == q)
same_op (op.Cas a z e p) (op.Cas b y f q) = (a == b) && (z == y) && (e == f) && (p == q)
same_op x y = false

-- a number of so many bytes
abbrev pub fits : ℕ → ℕ → Bool
fits value size = nat_lt value (2 ^ (8 * size))

-- none, or one of so many ways
abbrev pub is_way_of : ℕ → Option ℕ → Bool
is_way_of ways None = true
is_way_of ways (Some way) = nat_lt way ways

abbrev pub is_way : CacheState → Option ℕ → Bool
is_way cache way = is_way_of cache.layout.ways way

-- the way that a reply to this op may have: none, or, of a fetch or of a load from RAM, one of the
-- cache that it fills
abbrev pub is_way_for : CacheState → CacheState → Op → Option ℕ → Bool
is_way_for dcache icache (op.Fetch addr asked) way = is_way icache way
is_way_for dcache icache (op.Load addr size asked) way = if is_io addr then is_none way else is_way dcache way
is_way_for dcache icache (op.Store addr size value) way = is_none way
is_way_for dcache icache (op.Swap addr size new) way = is_none way
is_way_for dcache icache (op.Cas addr size expect new) way = is_none way

abbrev pub is_fetch : Op → Bool
is_fetch (op.Fetch addr way) = true
is_fetch (op.Load addr size way) = false
is_fetch (op.Store addr size value) = false
is_fetch (op.Swap addr size new) = false
is_fetch (op.Cas addr size expect new) = false

-- the reply answers a request for this item with this op
abbrev pub accepts : CacheState → CacheState → ReplyData → ℕ → Op → Bool
accepts dcache icache r item o =
    same_op o r.op && (r.item == item) && is_way_for dcache icache r.op r.way && fits r.old (op_size r.op)

abbrev pub fill_with : CacheState → ℕ → Option ℕ → List ℕ → CacheState
fill_with cache addr None bytes = cache
fill_with cache addr (Some way) bytes = filled cache addr way bytes

-- what a reply changes
pub record Answered : Type 0 where
  pub thread : ThreadState
  pub dcache : CacheState
  pub icache : CacheState

-- a fetch, a load or an atomic that is out
abbrev pub answered_read : ℕ → ℕ → ReplyData → Answered → Phase → Answered
answered_read ram n r a (phase.OutFetch way seen) =
    if accepts a.dcache a.icache r (length a.thread.items) (op.Fetch a.thread.strand.pc way) then
    record {
      thread = word_came a.thread r.old (Commit n r.seen);
      dcache = a.dcache;
      icache = fill_with a.icache (op_addr r.op) r.way r.line;
    }
    else a
answered_read ram n r a (phase.OutData word way seen) =
    if accepts a.dcache a.icache r (length a.thread.items) (op_for (thread_need ram a.thread) way) then
    record {
      thread = value_came ram a.thread r.old (Commit n r.seen);
      dcache = fill_with a.dcache (op_addr r.op) r.way (take 16 r.line);
      icache = a.icache;
    }
    else a
answered_read ram n r a phase.Fetch = a
answered_read ram n r a (phase.Have word) = a
answered_read ram n r a (phase.Ended e) = a

-- the oldest store, where it is sent
abbrev pub answered_store : ℕ → ReplyData → Answered → Option Entry → Answered
answered_store n r a None = a
answered_store n r a (Some e) =
    if e.sent && accepts a.dcache a.icache r e.item (store_op e) then
    record {
      thread = acknowledged a.thread e (Commit n r.seen);
      dcache = updated a.dcache e.addr e.size e.value;
      icache = a.icache;
    }
    else a

unfoldable pub thread_answer : ℕ → ℕ → ReplyData → Answered → Answered
thread_answer ram n r a =
    if is_store r.op then answered_store n r a (slice_get a.thread.stores 0) else answered_read ram n r a a.thread.phase

abbrev pub answered_at : CoreState → ℕ → ReplyData → Option ThreadState → CoreState
answered_at c n r None = c
answered_at c n r (Some t) =
    let a = thread_answer c.ram n r (record { thread = t; dcache = c.dcache; icache = c.icache }) in
    record c { threads = set c.threads r.strand a.thread; dcache = a.dcache; icache = a.icache }

abbrev pub answered : CoreState → ℕ → Option ReplyData → CoreState
answered c n None = c
answered c n (Some r) = answered_at c n r (slice_get c.threads r.strand)

-- a packet that is old, or of the last index that there is, changes nothing; any other does its kills,
-- then its reply, and then the time is one past its index
unfoldable pub take_of : CoreState → Packet → CoreState
take_of c p =
    if nat_lt p.index c.time || (p.index == 2 ^ 32 - 1) then c
    else record (answered (killed c p.kills) p.index p.reply) { time = p.index + 1 }
