use Rattle.t1_core_idle.proofs.laws.undrained_buffers_are_empty.Goals as goal
use Rattle.t1_core_idle.proofs.Buffers.{undrained_buffers_are_empty}

pub returns : goal.returns
returns c = undrained_buffers_are_empty
