-- Agents in a row, and agents that are in a thread or wait for their turns here.
use Rattle.std.specs.Prelude.{◌≡◌, Bool, true, List, [], ◌∷◌}
use Rattle.t1_crew.specs.Id.{Id}
use Rattle.t1_crew.specs.declared.agent.Agent as agent
use Rattle.t1_crew.specs.declared.agent.Slot.{Slot}
use Rattle.t1_crew.specs.declared.agent.Slot.TheVariants.{Away, Here}

module _ {A : Type 0} {g : agent.Ghosts A} where
  abbrev pub slot_id : Slot A g → Id
  slot_id (Away handle) = g.id (handle.promise.0.value).agent
  slot_id (Here kept) = g.id kept.agent

  abbrev pub slot_ids : List (Slot A g) → List Id
  slot_ids [] = []
  slot_ids (slot ∷ slots) = slot_id slot ∷ slot_ids slots

module _ {A : Type 0} where
  abbrev pub ids : (A → Id) → List A → List Id
  ids id [] = []
  ids id (a ∷ rest) = id a ∷ ids id rest

  -- each of them is over
  abbrev pub AreOver : (A → Bool) → List A → Type 0
  AreOver over [] = Unit {0}
  AreOver over (a ∷ rest) = (over a ≡ true) × AreOver over rest
