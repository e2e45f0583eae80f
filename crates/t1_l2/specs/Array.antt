-- A bank's L2: which lines stand in which ways, and the bank's part of memory as it is read.
use Rattle.std.specs.Prelude.{ℕ, zero, suc, ◌+◌, ◌-◌, ◌*◌, ◌/◌, ◌%◌, ◌<◌, ◌≡◌, ◌++◌, length, List, [], ◌∷◌, get_or, set, take, drop, replicate, Option, Some, None}
use Rattle.t1_num.specs.Memory.{number_at, with_number_at}
use Rattle.t1_shape.specs.Shapes.{Shape}
use Rattle.t1_shape.specs.Numbers.{banks, l2_ways, l2_line, bank_at, place_in_bank}
use Rattle.t1_shape.specs.Slots.{Layout, set_of, first_slot, scan, next_way, victim_of}

-- a tag is the number of a line of 64 bytes among all of memory; `memory` has the bank's lines as they
-- are read, whether the L2 holds them or RAM alone: entry `place_in_bank l` is line l
pub record ArrayState : Type 0 where
  pub shape : Shape
  pub bank : ℕ
  pub sets : ℕ
  pub tags : List (Option ℕ)
  pub pointers : List ℕ
  pub memory : List (List ℕ)

-- ---- where a line stands, and where it is filled

-- the array is a cache of the bank's own lines, which are numbered by their places
abbrev pub l2_layout : Shape → ℕ → Layout
l2_layout shape sets = record { ways = l2_ways shape; sets = sets }

abbrev pub layout_of : ArrayState → Layout
layout_of a = l2_layout a.shape a.sets

abbrev pub place_of : ArrayState → ℕ → ℕ
place_of a line = place_in_bank a.shape line

unfoldable pub slot_in : ArrayState → ℕ → Option ℕ
slot_in a line = scan a.tags line (first_slot (layout_of a) (place_of a line)) (l2_ways a.shape)

-- the way that makes room for a line: the first empty one of its set, else the set's pointer
abbrev pub victim_in : ArrayState → ℕ → ℕ
victim_in a line = victim_of (layout_of a) a.tags a.pointers (place_of a line)

abbrev pub victim_slot : ArrayState → ℕ → ℕ
victim_slot a line = first_slot (layout_of a) (place_of a line) + victim_in a line

-- a line filled into a way of its set; the set's pointer is one past it
abbrev pub filled : ArrayState → ℕ → ℕ → ArrayState
filled a line way = record a {
  tags = set a.tags (first_slot (layout_of a) (place_of a line) + way) (Some line);
  pointers = set a.pointers (set_of (layout_of a) (place_of a line)) (next_way (layout_of a) way);
}

abbrev pub ensured_by : ArrayState → ℕ → Option ℕ → ArrayState
ensured_by a line (Some slot) = a
ensured_by a line None = filled a line (victim_in a line)

-- the array with the line present
abbrev pub ensured : ArrayState → ℕ → ArrayState
ensured a line = ensured_by a line (slot_in a line)

-- the first address of the line that a slot holds
abbrev pub address_of : Option ℕ → Option ℕ
address_of None = None
address_of (Some line) = Some (line * 64)

abbrev pub evicted_by : ArrayState → ℕ → Option ℕ → Option ℕ
evicted_by a line (Some slot) = None
evicted_by a line None = address_of (get_or a.tags (victim_slot a line) None)

-- the address of the line that makes room for a line, where one does
abbrev pub evicted_for : ArrayState → ℕ → Option ℕ
evicted_for a line = evicted_by a line (slot_in a line)

abbrev pub IsPresent : List (Option ℕ) → ℕ → Type 0
IsPresent tags line = (slot : ℕ) × (get_or tags slot None ≡ Some line)

abbrev pub IsAbsent : List (Option ℕ) → ℕ → Type 0
IsAbsent tags line = (slot : ℕ) → get_or tags slot None ≡ Some line → ⊥

-- ---- bytes

-- the address lies in the bank's part of memory
pub record IsOwn (a : ArrayState) (addr : ℕ) : Type 0 where
  pub within : place_of a (l2_line addr) < length a.memory
  pub bank : bank_at a.shape addr ≡ a.bank

-- the 64 bytes round an address
abbrev pub line_at : ArrayState → ℕ → List ℕ
line_at a addr = get_or a.memory (place_of a (l2_line addr)) []

-- the number of so many bytes at an address
abbrev pub read_at : ArrayState → ℕ → ℕ → ℕ
read_at a addr size = number_at (line_at a addr) (addr % 64) size

-- so many bytes from an address on, and zeros after them to 32
abbrev pub bytes_at : ArrayState → ℕ → ℕ → List ℕ
bytes_at a addr size = take size (drop (addr % 64) (line_at a addr)) ++ replicate (32 - size) 0

-- the low bytes of a number put at an address
abbrev pub written_at : ArrayState → ℕ → ℕ → ℕ → ArrayState
written_at a addr size value = record a { memory = set a.memory (place_of a (l2_line addr)) (with_number_at (line_at a addr) (addr % 64) size value) }

-- ---- the start

-- line i of a bank: lines of memory go round the banks
abbrev pub line_of_bank : Shape → ℕ → List ℕ → ℕ → List ℕ
line_of_bank shape bank ram i = take 64 (drop (64 * (banks shape * i + bank)) ram)

-- the first n of a bank's lines
abbrev pub lines_of_bank : Shape → ℕ → List ℕ → ℕ → List (List ℕ)
lines_of_bank shape bank ram zero = []
lines_of_bank shape bank ram (suc n) = lines_of_bank shape bank ram n ++ line_of_bank shape bank ram n ∷ []

-- an array over a RAM that holds nothing
abbrev pub array_start : Shape → ℕ → ℕ → List ℕ → ArrayState
array_start shape bank sets ram = record {
  shape = shape;
  bank = bank;
  sets = sets;
  tags = replicate (l2_ways shape * sets) None;
  pointers = replicate sets 0;
  memory = lines_of_bank shape bank ram (length ram / 64 / banks shape);
}
