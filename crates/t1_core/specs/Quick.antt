-- Steps that need no ring, and what a core would do.
use Rattle.std.specs.Prelude.{ℕ, ◌≡◌, ◌||◌, Bool, true, false, List, [], ◌∷◌, slice_get, Option, Some, None}
use Rattle.t1_sbuf.specs.declared.entry.Entry.{Entry}
use Rattle.t1_core.specs.declared.asker.Asker.{Asker}
use Rattle.t1_core.specs.declared.quick.Quick.{Quick}
use Rattle.t1_core.specs.declared.quick.Quick.TheVariants as quick
use Rattle.t1_core.specs.declared.answers.Did.{Did}
use Rattle.t1_core.specs.declared.answers.Did.TheVariants as did
use Rattle.t1_core.specs.declared.answers.Drained.{Drained}
use Rattle.t1_core.specs.declared.answers.Drained.TheVariants as drained
use Rattle.t1_core.specs.Threads.{ThreadState}
use Rattle.t1_core.specs.Steps.{CoreState}
use Rattle.t1_core.specs.Turns.{Turned}

-- the same asker, where other rings have room
abbrev pub in_room : Asker → ℕ → Asker
in_room x room = record { chip = x.chip; number = x.number; strand = x.strand; room = room; time = x.time; ram = x.ram }

abbrev pub IsWait : Did → Type 0
IsWait did.Moved = ⊥
IsWait (did.Sent d r) = ⊥
IsWait (did.Waits w) = Unit {0}

-- what needs a ring is sent, or waits
abbrev pub IsHeld : Did → Type 0
IsHeld did.Moved = ⊥
IsHeld (did.Sent d r) = Unit {0}
IsHeld (did.Waits w) = Unit {0}

-- a turn moved a strand, and nothing was sent
pub record TurnMovedTo (after : CoreState) (a : Turned) : Type 0 where
  pub core : after ≡ a.core
  pub did : a.did ≡ Some did.Moved

-- what did not move changed nothing
abbrev pub QuickStill : {A : Type 0} → A → A → Quick → Type 0
QuickStill before after quick.Moved = Unit {0}
QuickStill before after quick.Waits = after ≡ before
QuickStill before after quick.Asks = after ≡ before

-- what a quick step came to, where the whole step makes `acted` and does d
pub record IsQuick {A : Type 0} (after acted : A) (d : Did) (q : Quick) : Type 0 where
  pub moved : q ≡ quick.Moved → (after ≡ acted) × (d ≡ did.Moved)
  pub waits : q ≡ quick.Waits → IsWait d
  pub asks : q ≡ quick.Asks → IsHeld d

-- ---- stores

abbrev pub is_store_held : List Entry → Bool
is_store_held [] = false
is_store_held (e ∷ es) = true

-- some strand holds a store
abbrev pub are_stores_held : List ThreadState → Bool
are_stores_held [] = false
are_stores_held (t ∷ ts) = is_store_held t.stores || are_stores_held ts

-- no strand holds a store
pub record HoldNoStore (threads : List ThreadState) : Type 0 where
  pub each : (i : ℕ) (t : ThreadState) → slice_get threads i ≡ Some t → t.stores ≡ []

-- a store was sent
abbrev pub is_drain : Drained → Bool
is_drain (drained.Sent d r) = true
is_drain drained.Empty = false
is_drain drained.Out = false
is_drain (drained.NoRoom d) = false
