-- The two L1 caches of a core, and what kills and replies do to the slots of one
-- (OpenSPARC T1 Microarchitecture Specification, chapters 2 to 4).
use Rattle.std.specs.Prelude.{ℕ, ◌+◌, ◌*◌, ◌/◌, ◌%◌, ◌==◌, ◌&&◌, nat_lt, Bool, true, false, if◌then◌else◌, List, [], ◌∷◌, set, take, Option, Some, None}
use Rattle.t1_shape.specs.Shapes.{Shape}
use Rattle.t1_num.specs.declared.chip.ChipKind.TheVariants.{T1, T2}
use Rattle.t1_shape.specs.Numbers.{banks}
use Rattle.t1_shape.specs.Slots.{Layout, Line, slot_of, tags_of, with_bytes_at, with_fill, pointers_with_fill}
use Rattle.t1_packet.specs.declared.cache.Cache.{Cache}
use Rattle.t1_packet.specs.declared.cache.Cache.TheVariants.{Dcache, Icache}
use Rattle.t1_packet.specs.declared.op.Op.{Op}
use Rattle.t1_packet.specs.declared.op.Op.TheVariants.{Fetch, Load, Store, Swap, Cas}
use Rattle.t1_packet.specs.Data.{KillData}

abbrev pub layout : Shape → Cache → Layout
layout T1 Dcache = record { ways = 4; sets = 128 }
layout T1 Icache = record { ways = 4; sets = 128 }
layout T2 Dcache = record { ways = 4; sets = 128 }
layout T2 Icache = record { ways = 8; sets = 64 }

-- the bytes of a line
abbrev pub width : Cache → ℕ
width Dcache = 16
width Icache = 32

-- the lines of a cache that lie in one 64-byte line of the L2
abbrev pub lines_in : Cache → ℕ
lines_in Dcache = 4
lines_in Icache = 2

-- the number of the line that holds an address
abbrev pub line_of : Cache → ℕ → ℕ
line_of cache addr = addr / width cache

-- the bank of a line; all lines of a set are of one bank
abbrev pub bank_of : Shape → Cache → ℕ → ℕ
bank_of shape cache line = line / lines_in cache % banks shape

abbrev pub same_cache : Cache → Cache → Bool
same_cache Dcache Dcache = true
same_cache Icache Icache = true
same_cache Dcache Icache = false
same_cache Icache Dcache = false

-- ---- kills

-- a kill of this core and cache, whose set and way are of the cache
abbrev pub is_kill_of : Shape → ℕ → Cache → KillData → Bool
is_kill_of shape core cache kill =
    (kill.core == core) && same_cache kill.cache cache && nat_lt kill.set (layout shape cache).sets && nat_lt kill.way (layout shape cache).ways

abbrev pub slot_killed : Shape → KillData → ℕ
slot_killed shape kill = (layout shape kill.cache).ways * kill.set + kill.way

-- the slots of one core and cache after these kills; other kills are passed over
abbrev pub with_kills : {A : Type 0} → Shape → ℕ → Cache → List KillData → List (Option A) → List (Option A)
with_kills shape core cache [] slots = slots
with_kills shape core cache (kill ∷ kills) slots =
    with_kills shape core cache kills (if is_kill_of shape core cache kill then set slots (slot_killed shape kill) None else slots)

-- ---- fills and stores

-- the line that an access fills in a cache: a fetch in the instruction cache, a load in the data cache
abbrev pub filled_line : Cache → Op → Option ℕ
filled_line Icache (Fetch addr way) = Some (line_of Icache addr)
filled_line Dcache (Load addr size way) = Some (line_of Dcache addr)
filled_line Dcache (Fetch addr way) = None
filled_line Icache (Load addr size way) = None
filled_line cache (Store addr size value) = None
filled_line cache (Swap addr size new) = None
filled_line cache (Cas addr size expect new) = None

-- a line of the cache, of the bytes at the head of a reply's
abbrev pub line_from : Cache → List ℕ → ℕ → Line
line_from cache bytes number = record { number = number; bytes = take (width cache) bytes }

-- the slots of a cache after an access of the core's own is answered: a fill where there is a way, or
-- the bytes of a store in the data line, where that is present
abbrev pub with_answer : Shape → Cache → Op → Option ℕ → List ℕ → List (Option Line) → List (Option Line)
with_answer shape Dcache (Store addr size value) way bytes slots =
    with_bytes_at (slot_of (layout shape Dcache) (tags_of slots) (line_of Dcache addr)) (addr % width Dcache) size value slots
with_answer shape Icache (Store addr size value) way bytes slots = slots
with_answer shape cache (Fetch addr asked) way bytes slots =
    with_fill (layout shape cache) (filled_line cache (Fetch addr asked)) way (line_from cache bytes) slots
with_answer shape cache (Load addr size asked) way bytes slots =
    with_fill (layout shape cache) (filled_line cache (Load addr size asked)) way (line_from cache bytes) slots
with_answer shape cache (Swap addr size new) way bytes slots = slots
with_answer shape cache (Cas addr size expect new) way bytes slots = slots

-- the pointers of its sets after that
abbrev pub pointers_with_answer : Shape → Cache → Op → Option ℕ → List ℕ → List ℕ
pointers_with_answer shape cache op way pointers = pointers_with_fill (layout shape cache) (filled_line cache op) way pointers
