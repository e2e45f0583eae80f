-- What stays the same of an agent, wherever it is turned.
use Rattle.std.specs.Prelude.{ℕ, List}
use Rattle.t1_joint.specs.Start.{Setup}
use Rattle.t1_ring.specs.Ends.{Mark}

-- what its run begins with, its number, and the marks of its sending and receiving ends and seats
pub record Id : Type 0 where
  pub setup : Setup
  pub number : ℕ
  pub to : List Mark
  pub from : List Mark
