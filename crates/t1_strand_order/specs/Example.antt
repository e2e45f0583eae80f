-- Histories that a strand allows. In the first a store goes into the buffer and out, a fetch goes out behind it, the
-- store is acknowledged, and then the fetch is answered.
use Rattle.std.specs.Prelude.{List, [], ◌∷◌}
use Rattle.t1_event.specs.declared.item.How.TheVariants.{Commit}
use Rattle.t1_event.specs.Items.{fetch_item, store_item}
use Rattle.t1_strand_order.specs.Tracks.{Event, Push, Ask, Send, Answer, Acknowledge}

abbrev pub example : List Event
example = Push (store_item 64 8 5) ∷ Send ∷ Ask (fetch_item 0 0) ∷ Acknowledge 3 ∷ Answer 7 (record (fetch_item 0 9) { how = Commit 7 0 }) ∷ []

-- two stores into one line go out, one behind the other, and then both are acknowledged
abbrev pub two_stores : List Event
two_stores = Push (store_item 64 8 5) ∷ Push (store_item 72 8 6) ∷ Send ∷ Send ∷ Acknowledge 3 ∷ Acknowledge 4 ∷ []
