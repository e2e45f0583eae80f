-- The order of two stores of a strand, where what is out goes to one destination.
use Rattle.std.proofs.Common.{◌≡◌, ℕ, not, ◌==◌, true, ap, inl, inr}
use Rattle.std.proofs.lemmas.Bool.{cases_Bool, eqb-true}
use Rattle.t1_shape.specs.Shapes.{Shape}
use Rattle.t1_packet.specs.Ops.{dest_of}
use Rattle.t1_event.specs.declared.item.Item.{Item}
use Rattle.t1_joint.specs.Waits.{IsDoneBy, LetsSend}
use Rattle.t1_strand_order.specs.Laws.{one_destination, StoresKeepOrder, SentStoresKeepOrder}

-- a store that was done where it goes to another destination lets the later one go
lets_send : (shape : Shape) (t : ℕ) (x y : Item) → (one_destination shape x.addr y.addr ≡ true → IsDoneBy t x.how) → LetsSend shape (dest_of shape y.addr) t x
lets_send shape t x y done =
    elim (cases_Bool (dest_of shape x.addr == dest_of shape y.addr)) [
      | inl same ↦ inl (eqb-true (dest_of shape x.addr) (dest_of shape y.addr) same)
      | inr other ↦ inr (done (ap not other))
    ]

pub stores_keep_order : StoresKeepOrder
stores_keep_order shape s i j x y k lt has_x has_y sx sy placed =
    let f = k.orderly.stores i j x y lt has_x has_y sx sy placed in
    record { index = f.index; sent = lets_send shape _ x y f.sent }

pub sent_stores_keep_order : SentStoresKeepOrder
sent_stores_keep_order shape items clock i j t x y well lt has_x has_y sx = lets_send shape t x y (well.alone i x y lt has_x has_y sx)
