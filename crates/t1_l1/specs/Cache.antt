-- One cache: its layout, the bytes of a line, its slots, and the pointers of its sets.
use Rattle.std.specs.Prelude.{ℕ, ◌≡◌, ◌+◌, ◌-◌, ◌*◌, ◌/◌, ◌%◌, ◌<◌, List, [], get_or, set, replicate, All, Option, Some, None}
use Rattle.t1_num.specs.Memory.{number_at}
use Rattle.t1_shape.specs.Slots.{Layout, Line, slots_in, set_of, first_slot, slot_of, tags_of, with_bytes_at, with_fill, pointers_with_fill, victim_of}

pub record CacheState : Type 0 where
  pub layout : Layout
  pub width : ℕ
  pub slots : List (Option Line)
  pub pointers : List ℕ

-- no line is valid
unfoldable pub empty_cache : Layout → ℕ → CacheState
empty_cache layout width = record { layout = layout; width = width; slots = replicate (slots_in layout) None; pointers = replicate layout.sets 0 }

-- each pointer is a way
abbrev pub ArePointers : ℕ → List ℕ → Type 0
ArePointers ways pointers = All (λ way. way < ways) pointers

-- the number of the line of an address
abbrev pub line_at : CacheState → ℕ → ℕ
line_at c addr = addr / c.width

-- ---- look-up

abbrev pub way_from : ℕ → Option ℕ → Option ℕ
way_from first None = None
way_from first (Some slot) = Some (slot - first)

-- the lowest way that holds the line of an address
unfoldable pub look_of : CacheState → ℕ → Option ℕ
look_of c addr = way_from (first_slot c.layout (line_at c addr)) (slot_of c.layout (tags_of c.slots) (line_at c addr))

-- a way holds the line of an address
pub record IsAt (c : CacheState) (addr way : ℕ) : Type 0 where
  pub below : way < c.layout.ways
  pub line : get_or (tags_of c.slots) (first_slot c.layout (line_at c addr) + way) None ≡ Some (line_at c addr)

abbrev pub bytes_of : Option Line → List ℕ
bytes_of None = []
bytes_of (Some line) = line.bytes

-- the number at an address, in a way that holds its line
unfoldable pub get_of : CacheState → ℕ → ℕ → ℕ → ℕ
get_of c addr size way = number_at (bytes_of (get_or c.slots (first_slot c.layout (line_at c addr) + way) None)) (addr % c.width) size

abbrev pub read_in : CacheState → ℕ → ℕ → Option ℕ → Option ℕ
read_in c addr size None = None
read_in c addr size (Some way) = Some (get_of c addr size way)

-- the number at an address, where its line is present
unfoldable pub read_of : CacheState → ℕ → ℕ → Option ℕ
read_of c addr size = read_in c addr size (look_of c addr)

-- the way that a fill of the line of an address takes
unfoldable pub victim_at : CacheState → ℕ → ℕ
victim_at c addr = victim_of c.layout c.slots c.pointers (line_at c addr)

-- ---- changes

abbrev pub line_with : List ℕ → ℕ → Line
line_with bytes number = record { number = number; bytes = bytes }

-- the line of an address fills a way
unfoldable pub filled : CacheState → ℕ → ℕ → List ℕ → CacheState
filled c addr way bytes = record {
  layout = c.layout;
  width = c.width;
  slots = with_fill c.layout (Some (line_at c addr)) (Some way) (line_with bytes) c.slots;
  pointers = pointers_with_fill c.layout (Some (line_at c addr)) (Some way) c.pointers;
}

-- a way of a set is emptied
unfoldable pub emptied : CacheState → ℕ → ℕ → CacheState
emptied c at way = record { layout = c.layout; width = c.width; slots = set c.slots (c.layout.ways * at + way) None; pointers = c.pointers }

-- the bytes of a store, in the lowest way that holds its line, where one does
unfoldable pub updated : CacheState → ℕ → ℕ → ℕ → CacheState
updated c addr size value = record {
  layout = c.layout;
  width = c.width;
  slots = with_bytes_at (slot_of c.layout (tags_of c.slots) (line_at c addr)) (addr % c.width) size value c.slots;
  pointers = c.pointers;
}
