-- The stores of a strand that are not acknowledged, and the times at which the first of them were sent.
use Rattle.std.specs.Prelude.{ℕ, ◌≡◌, true, false, List, [], ◌∷◌}
use Rattle.t1_packet.specs.declared.op.Op.{Op}
use Rattle.t1_packet.specs.declared.op.Op.TheVariants as op
use Rattle.t1_sbuf.specs.declared.entry.Entry.{Entry}

-- the first stores were sent at these times, and no other is sent
abbrev pub AreSent : List Entry → List ℕ → Type 0
AreSent [] [] = Unit {0}
AreSent [] (t ∷ times) = ⊥
AreSent (e ∷ es) [] = (e.sent ≡ false) × AreSent es []
AreSent (e ∷ es) (t ∷ times) = (e.sent ≡ true) × AreSent es times

-- what a store asks of its destination
abbrev pub store_op : Entry → Op
store_op e = op.Store e.addr e.size e.value
