-- What a contract sees of a source or a sink in memory.
use Rattle.std.specs.Prelude.{ℕ, List}
use Rattle.t1_io.specs.Plan.{Planned}
use Rattle.t1_io.specs.Store.{Kept}

-- the bytes not yet read, the most bytes of one call, and the calls that fail
pub record SourceState : Type 0 where
  pub left : List ℕ
  pub piece : ℕ
  pub plan : Planned

-- the bytes that were written, the most bytes of one call, and the calls that fail
pub record SinkState : Type 0 where
  pub kept : Kept
  pub piece : ℕ
  pub plan : Planned
