-- What a bank kills for an access, and the way of a fill, by what its directory shows (OpenSPARC T1
-- Microarchitecture Specification, chapter 4; that an atomic kills the copy of its own core, and the ways
-- of fills, are this project's profile).
use Rattle.std.specs.Prelude.{ℕ, zero, suc, ◌*◌, ◌/◌, ◌%◌, ◌==◌, ◌||◌, Bool, true, false, if◌then◌else◌, List, [], ◌∷◌, ◌++◌, Option, Some, None}
use Rattle.t1_shape.specs.Shapes.{Shape}
use Rattle.t1_shape.specs.Numbers.{l2_line}
use Rattle.t1_shape.specs.Slots.{Layout, slot_of}
use Rattle.t1_packet.specs.declared.cache.Cache.{Cache}
use Rattle.t1_packet.specs.declared.cache.Cache.TheVariants.{Dcache, Icache}
use Rattle.t1_packet.specs.declared.op.Op.{Op}
use Rattle.t1_packet.specs.declared.op.Op.TheVariants.{Fetch, Load, Store, Swap, Cas}
use Rattle.t1_packet.specs.Data.{KillData}
use Rattle.t1_packet.specs.Caches.{layout, width, line_of}

-- what an access does once its old value is known: a compare that holds is a swap, and one that fails
-- a compare of zeros
abbrev pub effect : Op → ℕ → Op
effect (Fetch addr way) old = Fetch addr way
effect (Load addr size way) old = Load addr size way
effect (Store addr size value) old = Store addr size value
effect (Swap addr size new) old = Swap addr size new
effect (Cas addr size expect new) old = if old == expect then Swap addr size new else Cas addr size 0 0

-- the copy lies in the 64-byte line that was evicted
abbrev pub is_evicted : Cache → ℕ → Option ℕ → Bool
is_evicted cache line None = false
is_evicted cache line (Some addr) = l2_line (line * width cache) == l2_line addr

-- the access writes into the copy's line, and the copy does not follow by itself: `own` says that the
-- copy is of the core that asked, whose data copy takes its own store
abbrev pub is_written : Cache → ℕ → Bool → Op → Bool
is_written cache line own (Fetch addr way) = false
is_written cache line own (Load addr size way) = false
is_written cache line own (Cas addr size expect new) = false
is_written cache line own (Swap addr size new) = line_of cache addr == line
is_written Icache line own (Store addr size value) = line_of Icache addr == line
is_written Dcache line true (Store addr size value) = false
is_written Dcache line false (Store addr size value) = line_of Dcache addr == line

-- the copy that a slot shows has to go
abbrev pub is_doomed : Cache → Bool → Option ℕ → Op → Option ℕ → Bool
is_doomed cache own evicted op None = false
is_doomed cache own evicted op (Some line) = is_evicted cache line evicted || is_written cache line own op

abbrev pub kill_at : Shape → ℕ → Cache → ℕ → KillData
kill_at shape core cache slot = record { core = core; cache = cache; set = slot / (layout shape cache).ways; way = slot % (layout shape cache).ways }

-- the kills of one core and cache, over the tags that the directory shows from a slot on, sets ascending
abbrev pub kills_here : Shape → ℕ → Cache → Bool → Option ℕ → Op → List (Option ℕ) → ℕ → List KillData
kills_here shape core cache own evicted op [] slot = []
kills_here shape core cache own evicted op (tag ∷ tags) slot =
    if is_doomed cache own evicted op tag then kill_at shape core cache slot ∷ kills_here shape core cache own evicted op tags (suc slot)
    else kills_here shape core cache own evicted op tags (suc slot)

-- the kills of the first cores, ascending, data before instruction; `shown` gives the tags of a core
-- and cache, and `asker` is the core that asked
abbrev pub kills_below : Shape → (ℕ → Cache → List (Option ℕ)) → ℕ → Option ℕ → Op → ℕ → List KillData
kills_below shape shown asker evicted op zero = []
kills_below shape shown asker evicted op (suc core) =
    kills_below shape shown asker evicted op core
    ++ kills_here shape core Dcache (asker == core) evicted op (shown core Dcache) 0
    ++ kills_here shape core Icache (asker == core) evicted op (shown core Icache) 0

-- ---- fills

-- the way of a fill: that of the slot where the directory shows the line, else the one asked for
abbrev pub way_for : Layout → Option ℕ → ℕ → ℕ
way_for g None asked = asked
way_for g (Some slot) asked = slot % g.ways

abbrev pub fill_way_in : Shape → Cache → List (Option ℕ) → ℕ → ℕ → ℕ
fill_way_in shape cache tags line asked = way_for (layout shape cache) (slot_of (layout shape cache) tags line) asked

-- a fetch fills the asker's instruction cache and a load its data cache; nothing else fills
abbrev pub fill_way : Shape → (ℕ → Cache → List (Option ℕ)) → ℕ → Op → Option ℕ
fill_way shape shown asker (Fetch addr asked) = Some (fill_way_in shape Icache (shown asker Icache) (line_of Icache addr) asked)
fill_way shape shown asker (Load addr size asked) = Some (fill_way_in shape Dcache (shown asker Dcache) (line_of Dcache addr) asked)
fill_way shape shown asker (Store addr size value) = None
fill_way shape shown asker (Swap addr size new) = None
fill_way shape shown asker (Cas addr size expect new) = None
