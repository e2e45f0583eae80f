-- What a store buffer says of an access of its own strand.
use Rattle.std.specs.Prelude.{ℕ, ◌+◌, ◌-◌, ◌*◌, ◌/◌, ◌%◌, ◌^◌, Bool, ◌&&◌, nat_lt, nat_le, if◌then◌else◌, List, [], ◌∷◌}
use Rattle.t1_sbuf.specs.declared.entry.Entry.{Entry}
use Rattle.t1_sbuf.specs.declared.entry.Look.{Look}
use Rattle.t1_sbuf.specs.declared.entry.Look.TheVariants.{Clear, Covers, Overlaps}

-- the entry and the access share a byte
abbrev pub overlaps : Entry → ℕ → ℕ → Bool
overlaps e addr size = nat_lt e.addr (addr + size) && nat_lt addr (e.addr + e.size)

-- the entry holds all bytes of the access
abbrev pub holds_all : Entry → ℕ → ℕ → Bool
holds_all e addr size = nat_le e.addr addr && nat_le (addr + size) (e.addr + e.size)

-- the bytes of the access in the entry's value, which end so many bytes before its end
abbrev pub bytes_in : Entry → ℕ → ℕ → ℕ
bytes_in e addr size = e.value / 2 ^ (8 * (e.addr + e.size - (addr + size))) % 2 ^ (8 * size)

-- what an entry that overlaps the access answers, at its place from the oldest
abbrev pub answer_of : Entry → ℕ → ℕ → ℕ → Look
answer_of e place addr size = if holds_all e addr size then Covers (bytes_in e addr size) else Overlaps place

-- the youngest entry that overlaps the access decides: each answers in place of the older ones
unfoldable pub look_from : Look → ℕ → List Entry → ℕ → ℕ → Look
look_from older place [] addr size = older
look_from older place (e ∷ es) addr size =
    look_from (if overlaps e addr size then answer_of e place addr size else older) (place + 1) es addr size

-- what a buffer says of an access
abbrev pub look_of : List Entry → ℕ → ℕ → Look
look_of es addr size = look_from Clear 0 es addr size
