-- Posts of one commit, where the ends of its cores know of free slots.
use Rattle.std.specs.Prelude.{ℕ, ◌+◌, ◌<◌, ◌≤◌, List, [], ◌∷◌, get_or}
use Rattle.t1_xbar.specs.declared.admitted.Post.{Post}

-- each is for a core of its own, ascending from one on
abbrev pub CanPost : ℕ → List Post → List ℕ → Type 0
CanPost low [] rooms = Unit {0}
CanPost low (post ∷ posts) rooms = (low ≤ post.core) × (0 < get_or rooms post.core 0) × CanPost (post.core + 1) posts rooms
