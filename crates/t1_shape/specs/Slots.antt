-- The slots of a set-associative cache: way w of set s is the slot `ways * s + w`.
use Rattle.std.specs.Prelude.{ℕ, zero, suc, ◌≡◌, ◌+◌, ◌*◌, ◌%◌, ◌<◌, ◌≤◌, ◌==◌, Bool, false, is_none, if◌then◌else◌, List, get_or, map, set, Option, Some, None}
use Rattle.t1_num.specs.Memory.{with_number_at}

-- how a cache is laid out
pub record Layout : Type 0 where
  pub ways : ℕ
  pub sets : ℕ

abbrev pub slots_in : Layout → ℕ
slots_in g = g.ways * g.sets

-- the set of a line: lines are numbered along memory, and neighbours stand in neighbouring sets
abbrev pub set_of : Layout → ℕ → ℕ
set_of g line = line % g.sets

-- the first slot of a line's set
abbrev pub first_slot : Layout → ℕ → ℕ
first_slot g line = g.ways * set_of g line

-- a slot is one of the line's set
pub record InSet (g : Layout) (line slot : ℕ) : Type 0 where
  pub above : first_slot g line ≤ slot
  pub below : slot < first_slot g line + g.ways

-- a slot's tag is the number of the line that it holds
abbrev pub holds : Option ℕ → ℕ → Bool
holds None line = false
holds (Some held) line = held == line

-- the lowest of n slots, from a slot on, that holds the line
abbrev pub scan : List (Option ℕ) → ℕ → ℕ → ℕ → Option ℕ
scan tags line slot zero = None
scan tags line slot (suc n) = if holds (get_or tags slot None) line then Some slot else scan tags line (suc slot) n

-- the slot of a line: the lowest of its set that holds it
unfoldable pub slot_of : Layout → List (Option ℕ) → ℕ → Option ℕ
slot_of g tags line = scan tags line (first_slot g line) g.ways

-- each line stands in its own set, and in one slot alone
pub record IsOnce (g : Layout) (tags : List (Option ℕ)) : Type 0 where
  pub own : (slot line : ℕ) → get_or tags slot None ≡ Some line → InSet g line slot
  pub once : (i k line : ℕ) → get_or tags i None ≡ Some line → get_or tags k None ≡ Some line → i ≡ k

-- ---- caches that hold the bytes of their lines

-- a line of memory: its number, and its bytes
pub record Line : Type 0 where
  pub number : ℕ
  pub bytes : List ℕ

abbrev pub tag : Option Line → Option ℕ
tag None = None
tag (Some line) = Some line.number

abbrev pub tags_of : List (Option Line) → List (Option ℕ)
tags_of slots = map tag slots

-- the line of this number, where a slot holds it
abbrev pub at_slot : List (Option Line) → Option ℕ → Option Line
at_slot slots None = None
at_slot slots (Some slot) = get_or slots slot None

abbrev pub line_in : Layout → List (Option Line) → ℕ → Option Line
line_in g slots line = at_slot slots (slot_of g (tags_of slots) line)

-- a line with the low bytes of a number put at a byte of it
abbrev pub with_bytes : ℕ → ℕ → ℕ → Option Line → Option Line
with_bytes offset size value None = None
with_bytes offset size value (Some line) = Some (record { number = line.number; bytes = with_number_at line.bytes offset size value })

-- the slots with these bytes put into one of them
abbrev pub with_bytes_at : Option ℕ → ℕ → ℕ → ℕ → List (Option Line) → List (Option Line)
with_bytes_at None offset size value slots = slots
with_bytes_at (Some slot) offset size value slots = set slots slot (with_bytes offset size value (get_or slots slot None))

-- ---- fills, for lines and for tags alike

-- the slots after a fill of a line at a way of its set; with no line or no way there is no fill
abbrev pub with_fill : {A : Type 0} → Layout → Option ℕ → Option ℕ → (ℕ → A) → List (Option A) → List (Option A)
with_fill g None way what slots = slots
with_fill g (Some line) None what slots = slots
with_fill g (Some line) (Some way) what slots = set slots (first_slot g line + way) (Some (what line))

-- a set's pointer is one past the way that was filled last
abbrev pub next_way : Layout → ℕ → ℕ
next_way g way = (way + 1) % g.ways

abbrev pub pointers_with_fill : Layout → Option ℕ → Option ℕ → List ℕ → List ℕ
pointers_with_fill g None way pointers = pointers
pointers_with_fill g (Some line) None pointers = pointers
pointers_with_fill g (Some line) (Some way) pointers = set pointers (set_of g line) (next_way g way)

-- the lowest of n ways, from a way on, whose slot is empty; `first` is the set's first slot
abbrev pub empty_way : {A : Type 0} → List (Option A) → ℕ → ℕ → ℕ → Option ℕ
empty_way slots first way zero = None
empty_way slots first way (suc n) = if is_none (get_or slots (first + way) None) then Some way else empty_way slots first (suc way) n

abbrev pub way_or : Option ℕ → ℕ → ℕ
way_or None pointer = pointer
way_or (Some way) pointer = way

-- the way that a line's fill takes, by this project's profile: the first empty one of its set, else the
-- set's pointer
unfoldable pub victim_of : {A : Type 0} → Layout → List (Option A) → List ℕ → ℕ → ℕ
victim_of g slots pointers line = way_or (empty_way slots (first_slot g line) 0 g.ways) (get_or pointers (set_of g line) 0)
