-- The arrays that a cache is kept in: the tags and the bytes of all slots, and the pointers.
use Rattle.std.specs.Prelude.{ℕ, ◌≡◌, ◌*◌, ◌<◌, ◌≤◌, List, [], ◌∷◌, length, Option, Some, None}
use Rattle.t1_shape.specs.Slots.{Line}
use Rattle.t1_l1.specs.Layouts.{IsWays, IsSets, IsWidth}
use Rattle.t1_l1.specs.Cache.{CacheState, ArePointers, line_with}

-- the line in a slot with this tag and these bytes
abbrev pub line_of_tag : Option ℕ → List ℕ → Option Line
line_of_tag None bytes = None
line_of_tag (Some number) bytes = Some (line_with bytes number)

-- the slots with these tags and bytes
unfoldable pub slots_with : List (Option ℕ) → List (List ℕ) → List (Option Line)
slots_with [] lines = []
slots_with (tag ∷ tags) [] = line_of_tag tag [] ∷ slots_with tags []
slots_with (tag ∷ tags) (bytes ∷ lines) = line_of_tag tag bytes ∷ slots_with tags lines

-- the cache that these arrays stand for
abbrev pub shown : ℕ → ℕ → ℕ → List (Option ℕ) → List (List ℕ) → List ℕ → CacheState
shown ways sets width tags lines pointers =
    record { layout = record { ways = ways; sets = sets }; width = width; slots = slots_with tags lines; pointers = pointers }

-- arrays of a cache of these numbers
pub record AreArrays (ways sets width : ℕ) (tags : List (Option ℕ)) (lines : List (List ℕ)) (pointers : List ℕ) : Type 0 where
  pub ways_are : IsWays ways
  pub few_ways : ways ≤ 8
  pub some_ways : 0 < ways
  pub sets_are : IsSets sets
  pub width_is : IsWidth width
  pub some_width : 0 < width
  pub tag_count : length tags ≡ ways * sets
  pub line_count : length lines ≡ ways * sets
  pub pointer_count : length pointers ≡ sets
  pub pointers_are : ArePointers ways pointers
