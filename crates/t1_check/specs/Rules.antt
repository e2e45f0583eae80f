-- Load-op, store-store and barrier on positions.
use Rattle.std.specs.Prelude.{ℕ, ◌≡◌, ◌<◌, List, [], length}
use Rattle.std.proofs.Common.{get_or}
use Rattle.t1_event.specs.declared.item.Item.{Item}
use Rattle.t1_event.specs.declared.report.Place.{Place}
use Rattle.t1_event.specs.Kinds.{IsRead, IsWrite, IsAccess}
use Rattle.t1_event.specs.Items.{IsBarrier}
use Rattle.t1_check.specs.declared.rules.Rule.{Rule}
use Rattle.t1_check.specs.declared.rules.Rule.TheVariants.{LoadOp, StoreStore, Barrier}
use Rattle.t1_check.specs.Positions.{item_of}

-- because of item i, item w has to stand before item j: w is i, or for a barrier an earlier write
abbrev pub Binds : Rule → List Item → ℕ → ℕ → ℕ → Type 0
Binds LoadOp items w i j = (w ≡ i) × IsRead (item_of items i).kind × IsAccess (item_of items j).kind
Binds StoreStore items w i j = (w ≡ i) × IsWrite (item_of items i).kind × IsWrite (item_of items j).kind
Binds Barrier items w i j = (w < i) × IsWrite (item_of items w).kind × IsBarrier (item_of items i) × IsRead (item_of items j).kind

-- a later item j stands before one that has to stand before it because of i
pub record IsCross (rule : Rule) (items : List Item) (row : List ℕ) (i j : ℕ) : Type 0 where
  pub w : ℕ
  pub later : i < j
  pub within : j < length items
  pub binds : Binds rule items w i j
  pub below : get_or row j 0 < get_or row w 0

abbrev pub IsObeyed : Rule → List Item → List ℕ → Type 0
IsObeyed rule items row = (i j : ℕ) → IsCross rule items row i j → ⊥

-- the first item of a strand that is crossed, and the first that crosses it
pub record IsFirstCross (rule : Rule) (items : List Item) (row : List ℕ) (i j : ℕ) : Type 0 where
  pub cross : IsCross rule items row i j
  pub least : (a b : ℕ) → a < i → IsCross rule items row a b → ⊥
  pub next : (b : ℕ) → b < j → IsCross rule items row i b → ⊥

-- the first strands obey the rule
abbrev pub AreObeyed : Rule → List (List Item) → List (List ℕ) → ℕ → Type 0
AreObeyed rule traces table n = (strand : ℕ) → strand < n → IsObeyed rule (get_or traces strand []) (get_or table strand [])

-- the first strand that does not, and what is crossed there
pub record IsFirstFault (rule : Rule) (traces : List (List Item)) (table : List (List ℕ)) (strand first second : ℕ) : Type 0 where
  pub before : AreObeyed rule traces table strand
  pub within : strand < length traces
  pub here : IsFirstCross rule (get_or traces strand []) (get_or table strand []) first second

-- the same, by places
pub record IsFaultAt (rule : Rule) (traces : List (List Item)) (table : List (List ℕ)) (first second : Place) : Type 0 where
  pub fault : IsFirstFault rule traces table first.strand first.item second.item
  pub strand : second.strand ≡ first.strand
