-- Laws of one cache.
use Rattle.std.specs.Prelude.{ℕ, ◌<◌, List}
use Rattle.t1_l1.specs.Cache.{CacheState, ArePointers, victim_at, filled, emptied, updated, empty_cache}
use Rattle.t1_shape.specs.Slots.{Layout}

-- where the pointers are ways so is each victim, and no change makes a pointer another number
pub record PointersAreWays : Type 0 where
  pub victim : (c : CacheState) (addr : ℕ) → 0 < c.layout.ways → ArePointers c.layout.ways c.pointers → victim_at c addr < c.layout.ways
  pub empty : (layout : Layout) (width : ℕ) → 0 < layout.ways → ArePointers layout.ways (empty_cache layout width).pointers
  pub fill : (c : CacheState) (addr way : ℕ) (bytes : List ℕ) → 0 < c.layout.ways → ArePointers c.layout.ways c.pointers
      → ArePointers c.layout.ways (filled c addr way bytes).pointers
