-- What the record of a commit keeps of the item that it names.
use Rattle.std.specs.Prelude.{ℕ, true, false, Option}
use Rattle.t1_packet.specs.declared.op.Op.{Op}
use Rattle.t1_packet.specs.declared.op.Op.TheVariants as op
use Rattle.t1_event.specs.declared.item.Item.{Item}
use Rattle.t1_event.specs.declared.item.ItemKind.{ItemKind}
use Rattle.t1_event.specs.declared.item.ItemKind.TheVariants.{Fetch, Load, Store, Atomic, Membar, Flush}
use Rattle.t1_event.specs.Log.{way_or_zero}

-- the op of an item of this kind, in its plain form, with the way that was filled; a barrier has none, and
-- a compare of zeros stands for it
abbrev pub op_of : Item → Option ℕ → ItemKind → Op
op_of item way Fetch = op.Fetch item.addr (way_or_zero way)
op_of item way Load = op.Load item.addr item.size (way_or_zero way)
op_of item way Store = op.Store item.addr item.size item.put
op_of item way (Atomic true) = op.Swap item.addr item.size item.put
op_of item way (Atomic false) = op.Cas item.addr item.size 0 0
op_of item way Membar = op.Cas 0 0 0 0
op_of item way Flush = op.Cas 0 0 0 0

-- the value before it: what a read got, and none of a store
abbrev pub old_of : Item → ItemKind → ℕ
old_of item Fetch = item.got
old_of item Load = item.got
old_of item (Atomic wrote) = item.got
old_of item Store = 0
old_of item Membar = 0
old_of item Flush = 0
