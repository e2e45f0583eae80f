-- The rule of a bank: one request gives the served access and the state after
-- (OpenSPARC T1 Microarchitecture Specification, chapter 4).
use Rattle.std.specs.Prelude.{ℕ, ◌*◌, ◌%◌, ◌==◌, ◌&&◌, ◌||◌, nat_lt, Bool, if◌then◌else◌, List, [], ◌∷◌, length, replicate, Option, None}
use Rattle.t1_shape.specs.Shapes.{Shape}
use Rattle.t1_shape.specs.Numbers.{bank_at, l2_line}
use Rattle.t1_packet.specs.declared.cache.Cache.TheVariants.{Dcache, Icache}
use Rattle.t1_packet.specs.declared.op.Op.{Op}
use Rattle.t1_packet.specs.declared.op.Op.TheVariants.{Fetch, Load, Store, Swap, Cas}
use Rattle.t1_packet.specs.declared.served.Served.{Served}
use Rattle.t1_packet.specs.Data.{RequestData, KillData}
use Rattle.t1_packet.specs.Ops.{op_addr, op_size, asked_way}
use Rattle.t1_packet.specs.Caches.{layout, width, line_of}
use Rattle.t1_l2.specs.Array.{ArrayState, array_start, ensured, evicted_for, read_at, bytes_at, written_at}
use Rattle.t1_dir.specs.Directory.{DirectoryState, directory_start, tags_at, without_kills, filled_by}
use Rattle.t1_event.specs.Kills.{effect, kills_below, fill_way}

-- a bank: the cores and bytes of RAM of its machine, the directory of its lines in their L1 caches,
-- and the array of its L2 over its part of RAM
pub record BankState : Type 0 where
  pub cores : ℕ
  pub ram : ℕ
  pub directory : DirectoryState
  pub array : ArrayState

abbrev pub bank_start : Shape → ℕ → ℕ → ℕ → List ℕ → BankState
bank_start shape bank cores sets image = record {
  cores = cores;
  ram = length image;
  directory = directory_start shape cores;
  array = array_start shape bank sets image;
}

-- ---- which requests are served

abbrev pub is_size : ℕ → Bool
is_size size = (size == 1) || (size == 2) || (size == 4) || (size == 8)

-- the ways of the cache that an access fills; 1 where it fills none, and carries the way 0
abbrev pub ways_for : Shape → Op → ℕ
ways_for shape (Fetch addr way) = (layout shape Icache).ways
ways_for shape (Load addr size way) = (layout shape Dcache).ways
ways_for shape (Store addr size value) = 1
ways_for shape (Swap addr size new) = 1
ways_for shape (Cas addr size expect new) = 1

-- an aligned access of a size that there is, to an address of this bank's RAM
unfoldable pub is_own_access : Shape → ℕ → ℕ → ℕ → ℕ → Bool
is_own_access shape ram bank addr size = nat_lt addr ram && (bank_at shape addr == bank) && is_size size && (addr % size == 0)

-- a request that a bank serves; any strand may ask
unfoldable pub fits : Shape → ℕ → ℕ → ℕ → RequestData → Bool
fits shape cores ram bank r =
    nat_lt r.core cores && nat_lt (asked_way r.op) (ways_for shape r.op) && is_own_access shape ram bank (op_addr r.op) (op_size r.op)

abbrev pub is_fit : BankState → RequestData → Bool
is_fit b r = fits b.array.shape b.cores b.ram b.array.bank r

-- ---- what is served

-- the line of a fill, with zeros after it to 32 bytes; zeros where there is no fill
abbrev pub fill_bytes : ArrayState → Op → List ℕ
fill_bytes a (Fetch addr way) = bytes_at a (line_of Icache addr * width Icache) (width Icache)
fill_bytes a (Load addr size way) = bytes_at a (line_of Dcache addr * width Dcache) (width Dcache)
fill_bytes a (Store addr size value) = replicate 32 0
fill_bytes a (Swap addr size new) = replicate 32 0
fill_bytes a (Cas addr size expect new) = replicate 32 0

-- the value before the access
abbrev pub old_of : BankState → RequestData → ℕ
old_of b r = read_at b.array (op_addr r.op) (op_size r.op)

abbrev pub evicted_of : BankState → RequestData → Option ℕ
evicted_of b r = evicted_for b.array (l2_line (op_addr r.op))

abbrev pub kills_of : BankState → RequestData → List KillData
kills_of b r = kills_below b.directory.shape (tags_at b.directory) r.core (evicted_of b r) (effect r.op (old_of b r)) b.cores

abbrev pub way_of : BankState → RequestData → Option ℕ
way_of b r = fill_way b.directory.shape (tags_at b.directory) r.core r.op

abbrev pub served_well : BankState → RequestData → Served
served_well b r = record { request = r; old = old_of b r; way = way_of b r; line = fill_bytes b.array r.op; evicted = evicted_of b r; kills = kills_of b r }

-- what is out of the conditions is served with nothing, as the I/O bridge serves all
abbrev pub refused : RequestData → Served
refused r = record { request = r; old = 0; way = None; line = replicate 32 0; evicted = None; kills = [] }

unfoldable pub served_by : BankState → RequestData → Served
served_by b r = if is_fit b r then served_well b r else refused r

-- ---- the state after

-- the array after an access whose effect is known (a compare here is one that failed): its line is
-- present, and written where it writes
abbrev pub array_after : ArrayState → Op → ArrayState
array_after a (Fetch addr way) = ensured a (l2_line addr)
array_after a (Load addr size way) = ensured a (l2_line addr)
array_after a (Store addr size value) = written_at (ensured a (l2_line addr)) addr size value
array_after a (Swap addr size new) = written_at (ensured a (l2_line addr)) addr size new
array_after a (Cas addr size expect new) = ensured a (l2_line addr)

abbrev pub bank_well : BankState → RequestData → BankState
bank_well b r = record b {
  directory = filled_by (without_kills b.directory (kills_of b r)) r.core r.op (way_of b r);
  array = array_after b.array (effect r.op (old_of b r));
}

-- one request
unfoldable pub bank_with : BankState → RequestData → BankState
bank_with b r = if is_fit b r then bank_well b r else b

-- requests, one after another
abbrev pub bank_after : BankState → List RequestData → BankState
bank_after b [] = b
bank_after b (r ∷ rs) = bank_after (bank_with b r) rs
