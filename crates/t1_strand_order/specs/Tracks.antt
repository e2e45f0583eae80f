-- What program order sees of a strand, and what each event makes of it.
use Rattle.std.specs.Prelude.{ℕ, zero, suc, ◌+◌, List, [], ◌∷◌, ◌++◌, length, Option, Some, None}
use Rattle.t1_event.specs.declared.item.Item.{Item}
use Rattle.t1_event.specs.declared.item.How.{How}
use Rattle.t1_event.specs.declared.item.How.TheVariants.{Commit}

-- a fetch, load or atomic that is out: its kind, address and size, and the time at which it was sent
pub record Asked : Type 0 where
  pub item : Item
  pub seen : ℕ

pub record Track : Type 0 where
  pub items : List Item
  pub waiting : List ℕ  -- the numbers of the buffer's stores, oldest first
  pub sent : List ℕ  -- the times at which the oldest of these were sent
  pub out : Option Asked
  pub clock : ℕ

pub data Event : Type 0 where
  Read : Item → Event  -- a fetch or load is answered at the clock
  Fence : Item → Event  -- a membar or flush
  Push : Item → Event  -- a store comes into the buffer
  Ask : Item → Event  -- a fetch, load or atomic goes out
  Send : Event  -- the oldest store that is not sent goes out
  Answer : ℕ → Item → Event  -- the packet of this index answers what is out, and makes this item
  Acknowledge : ℕ → Event  -- the packet of this index acknowledges the oldest store
  Pass : ℕ → Event  -- the clock goes on to this time

-- a strand that has done nothing, at a clock
abbrev pub begun : ℕ → Track
begun clock = record { items = []; waiting = []; sent = []; out = None; clock = clock }

-- the items, of which this one gets a place
abbrev pub placed_at : List Item → ℕ → How → List Item
placed_at [] number how = []
placed_at (item ∷ items) zero how = record item { how = how } ∷ items
placed_at (item ∷ items) (suc number) how = item ∷ placed_at items number how

-- the oldest store gets its place, and leaves the buffer
abbrev pub acknowledged : Track → ℕ → List ℕ → List ℕ → Track
acknowledged s index [] sent = s
acknowledged s index (number ∷ waiting) [] = s
acknowledged s index (number ∷ waiting) (seen ∷ sent) = record {
  items = placed_at s.items number (Commit index seen);
  waiting = waiting;
  sent = sent;
  out = s.out;
  clock = index + 1;
}

abbrev pub with_item : Track → Item → Track
with_item s item = record s { items = s.items ++ item ∷ [] }

abbrev pub after : Track → Event → Track
after s (Read item) = with_item s item
after s (Fence item) = with_item s item
after s (Push item) = record (with_item s item) { waiting = s.waiting ++ length s.items ∷ [] }
after s (Ask item) = record s { out = Some (record { item = item; seen = s.clock }) }
after s Send = record s { sent = s.sent ++ s.clock ∷ [] }
after s (Answer index item) = record (with_item s item) { out = None; clock = index + 1 }
after s (Acknowledge index) = acknowledged s index s.waiting s.sent
after s (Pass time) = record s { clock = time }

abbrev pub after_all : Track → List Event → Track
after_all s [] = s
after_all s (event ∷ events) = after_all (after s event) events
