-- The lines that are read, those held in the L2 over those of RAM; and what its tags and pointers keep.
use Rattle.std.specs.Prelude.{ℕ, ◌*◌, ◌/◌, ◌%◌, ◌^◌, ◌<◌, ◌≤◌, ◌≡◌, List, [], ◌∷◌, length, get_or, set, Option, Some, None}
use Rattle.t1_shape.specs.Shapes.{Shape}
use Rattle.t1_shape.specs.Numbers.{banks, l2_ways, most_l2_sets, place_in_bank}
use Rattle.t1_shape.specs.Slots.{InSet}
use Rattle.t1_l2.specs.Array.{l2_layout}

-- d is the number of banks: line x is line `x / d` of its bank's own
abbrev pub put_over : ℕ → Option ℕ → List ℕ → List (List ℕ) → List (List ℕ)
put_over d None line memory = memory
put_over d (Some x) line memory = set memory (x / d) line

unfoldable pub overlay : ℕ → List (Option ℕ) → List (List ℕ) → List (List ℕ) → List (List ℕ)
overlay d [] lines ram = ram
overlay d (tag ∷ tags) [] ram = ram
overlay d (tag ∷ tags) (line ∷ lines) ram = put_over d tag line (overlay d tags lines ram)

-- the tags and pointers of bank `bank`, of `sets` sets, over `count` lines
pub record IsL2 (shape : Shape) (bank sets count : ℕ) (tags : List (Option ℕ)) (pointers : List ℕ) : Type 0 where
  pub some : 0 < sets
  pub few : sets ≤ most_l2_sets shape
  pub bank_is : bank < banks shape
  pub room : count < 2 ^ 40
  pub size : length tags ≡ l2_ways shape * sets
  pub counts : length pointers ≡ sets
  pub low : (s : ℕ) → get_or pointers s 0 < l2_ways shape
  pub own : (k line : ℕ) → get_or tags k None ≡ Some line → InSet (l2_layout shape sets) (place_in_bank shape line) k
  pub mine : (k line : ℕ) → get_or tags k None ≡ Some line → line % banks shape ≡ bank
  pub within : (k line : ℕ) → get_or tags k None ≡ Some line → place_in_bank shape line < count
  pub once : (i k line : ℕ) → get_or tags i None ≡ Some line → get_or tags k None ≡ Some line → i ≡ k

-- no two slots hold one place of the bank's memory
abbrev pub AreApart : ℕ → List (Option ℕ) → Type 0
AreApart d tags = (i k l m : ℕ) → get_or tags i None ≡ Some l → get_or tags k None ≡ Some m → l / d ≡ m / d → i ≡ k

-- no slot holds this place
abbrev pub NoneAt : ℕ → List (Option ℕ) → ℕ → Type 0
NoneAt d tags place = (k line : ℕ) → get_or tags k None ≡ Some line → line / d ≡ place → ⊥

-- the whole array: the tags and pointers, a line for each slot, the bank's lines of RAM, and the slot looked at first
pub record IsArray (shape : Shape) (bank sets : ℕ) (tags : List (Option ℕ)) (pointers : List ℕ) (lines ram : List (List ℕ)) (recent : ℕ) : Type 0 where
  pub l2 : IsL2 shape bank sets (length ram) tags pointers
  pub full : length lines ≡ l2_ways shape * sets
  pub first : recent < l2_ways shape * sets
