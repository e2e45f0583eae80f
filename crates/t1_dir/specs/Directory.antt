-- The shadow directory of a bank: for each core and cache a line or nothing in each slot
-- (OpenSPARC T1 Microarchitecture Specification, chapter 4).
use Rattle.std.specs.Prelude.{ℕ, ◌+◌, ◌%◌, ◌<◌, ◌≡◌, List, [], ◌∷◌, length, get_or, set, replicate, Option, Some, None}
use Rattle.t1_shape.specs.Shapes.{Shape}
use Rattle.t1_shape.specs.Slots.{Layout, slots_in, first_slot, slot_of}
use Rattle.t1_packet.specs.declared.cache.Cache.{Cache}
use Rattle.t1_packet.specs.declared.cache.Cache.TheVariants.{Dcache, Icache}
use Rattle.t1_packet.specs.declared.op.Op.{Op}
use Rattle.t1_packet.specs.Data.{KillData}
use Rattle.t1_packet.specs.Caches.{layout, filled_line, slot_killed}

-- the slots of a cache that holds nothing; opaque, since so many slots that a goal computes stop a check
unfoldable pub no_tags : Shape → Cache → List (Option ℕ)
no_tags shape cache = replicate (slots_in (layout shape cache)) None

-- the tags of each core, for its data cache and for its instruction cache
pub record DirectoryState : Type 0 where
  pub shape : Shape
  pub dcache : List (List (Option ℕ))
  pub icache : List (List (Option ℕ))

abbrev pub directory_start : Shape → ℕ → DirectoryState
directory_start shape cores = record { shape = shape; dcache = replicate cores (no_tags shape Dcache); icache = replicate cores (no_tags shape Icache) }

-- what the directory shows of one core and cache
abbrev pub tags_at : DirectoryState → ℕ → Cache → List (Option ℕ)
tags_at d core Dcache = get_or d.dcache core []
tags_at d core Icache = get_or d.icache core []

-- the way in which the directory shows a line, the lowest of its set, or none
abbrev pub way_in : Layout → Option ℕ → Option ℕ
way_in g None = None
way_in g (Some slot) = Some (slot % g.ways)

abbrev pub way_of : DirectoryState → ℕ → Cache → ℕ → Option ℕ
way_of d core cache line = way_in (layout d.shape cache) (slot_of (layout d.shape cache) (tags_at d core cache) line)

-- ---- one slot changed

abbrev pub row_with : List (List (Option ℕ)) → ℕ → ℕ → Option ℕ → List (List (Option ℕ))
row_with rows core slot tag = set rows core (set (get_or rows core []) slot tag)

abbrev pub dcache_with : Cache → List (List (Option ℕ)) → ℕ → ℕ → Option ℕ → List (List (Option ℕ))
dcache_with Dcache rows core slot tag = row_with rows core slot tag
dcache_with Icache rows core slot tag = rows

abbrev pub icache_with : Cache → List (List (Option ℕ)) → ℕ → ℕ → Option ℕ → List (List (Option ℕ))
icache_with Dcache rows core slot tag = rows
icache_with Icache rows core slot tag = row_with rows core slot tag

abbrev pub directory_with : DirectoryState → ℕ → Cache → ℕ → Option ℕ → DirectoryState
directory_with d core cache slot tag = record { shape = d.shape; dcache = dcache_with cache d.dcache core slot tag; icache = icache_with cache d.icache core slot tag }

-- ---- after an access: its kills, then its fill

abbrev pub without_kills : DirectoryState → List KillData → DirectoryState
without_kills d [] = d
without_kills d (kill ∷ kills) = without_kills (directory_with d kill.core kill.cache (slot_killed d.shape kill) None) kills

-- a line put into a way of its set, in one core and cache; no line or no way changes nothing
abbrev pub filled_at : DirectoryState → ℕ → Cache → Option ℕ → Option ℕ → DirectoryState
filled_at d core cache None way = d
filled_at d core cache (Some line) None = d
filled_at d core cache (Some line) (Some way) = directory_with d core cache (first_slot (layout d.shape cache) line + way) (Some line)

-- an access fills one cache of the core that asked, at most
abbrev pub filled_by : DirectoryState → ℕ → Op → Option ℕ → DirectoryState
filled_by d core op way = filled_at (filled_at d core Dcache (filled_line Dcache op) way) core Icache (filled_line Icache op) way

-- the core is one of the directory's
pub record HasCore (d : DirectoryState) (core : ℕ) : Type 0 where
  pub dcache : core < length d.dcache
  pub icache : core < length d.icache

-- no core, or no core but one, shows the line
abbrev pub IsHidden : DirectoryState → Cache → ℕ → Type 0
IsHidden d cache line = (core : ℕ) → slot_of (layout d.shape cache) (tags_at d core cache) line ≡ None

abbrev pub IsHiddenBut : DirectoryState → ℕ → Cache → ℕ → Type 0
IsHiddenBut d own cache line = (core : ℕ) → (core ≡ own → ⊥) → slot_of (layout d.shape cache) (tags_at d core cache) line ≡ None
