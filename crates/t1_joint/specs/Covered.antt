-- Coverage: the tags of each core's L1 caches are what the directories show of them.
use Rattle.std.specs.Prelude.{ℕ, ◌≡◌, ◌<◌, ◌≤◌, length, get_or, Some, None}
use Rattle.t1_shape.specs.Slots.{Line, tags_of}
use Rattle.t1_packet.specs.declared.cache.Cache.{Cache}
use Rattle.t1_event.specs.Shadow.{directory_at}
use Rattle.t1_event.specs.Posts.{l1_at, memory_line}
use Rattle.t1_event.specs.Log.{memory_at}
use Rattle.t1_event.specs.Places.{Run}

-- a run's log is covered, at each length of it
pub record IsCovered (h : Run) : Type 0 where
  pub tags : (core : ℕ) (cache : Cache) (n : ℕ) → core < h.cores → n ≤ length h.log
      → tags_of (l1_at h.shape h.strands h.image h.log core cache n) ≡ directory_at h.shape h.strands h.log core cache n

-- each valid line of a cache holds its bytes of memory at that time
abbrev pub LinesHoldMemory : Run → Type 0
LinesHoldMemory h =
    (core : ℕ) (cache : Cache) (t slot : ℕ) (line : Line) → core < h.cores → t ≤ length h.log
    → get_or (l1_at h.shape h.strands h.image h.log core cache t) slot None ≡ Some line
    → line.bytes ≡ memory_line cache (memory_at h.image h.log t) line.number
