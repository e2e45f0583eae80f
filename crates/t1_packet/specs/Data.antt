-- Kills, requests and replies as contracts see them.
use Rattle.std.specs.Prelude.{ℕ, List, Option}
use Rattle.t1_packet.specs.declared.op.Op.{Op}
use Rattle.t1_packet.specs.declared.cache.Cache.{Cache}

-- a copy of a line that a core drops
pub record KillData : Type 0 where
  pub core : ℕ
  pub cache : Cache
  pub set : ℕ
  pub way : ℕ

-- what a core asks of a destination
pub record RequestData : Type 0 where
  pub core : ℕ
  pub strand : ℕ
  pub item : ℕ
  pub seen : ℕ
  pub op : Op

-- what comes back to the core that asked
pub record ReplyData : Type 0 where
  pub strand : ℕ
  pub item : ℕ
  pub seen : ℕ
  pub op : Op
  pub old : ℕ
  pub way : Option ℕ
  pub line : List ℕ
