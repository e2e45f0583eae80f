-- The two ends of a port, as contracts see them.
use Rattle.std.specs.Prelude.{ℕ, List}
use denote.RawPtr.{Ptr}
use Rattle.rtrb.specs.Shared.{Names}
use Rattle.atomic_table.specs.Seated.{TableId}

-- which request queue it is: it never changes
abbrev pub QueueName : Type 0
QueueName = TableId

-- what two ends have in common that meet: their port, or the queue and the core of a seat. It never changes
pub data Mark : Type 0 where
  Port : Ptr → Ptr → Names → Mark
  Seat : QueueName → ℕ → Mark

-- what was sent, and how many free slots the end knows of
pub record TxState (T : Type 0) : Type 0 where
  pub mark : Mark
  pub sent : List T
  pub room : ℕ

-- what was received, and the items that the end knows of and has not popped
pub record RxState (T : Type 0) : Type 0 where
  pub mark : Mark
  pub received : List T
  pub known : List T
