-- What the types of a trace's numbers say of them.
use Rattle.std.specs.Prelude.{◌^◌, ◌<◌}
use Rattle.t1_event.specs.declared.trace.Trace.{Trace}

-- the units and the PC of a trace are words of 32 and of 64 bits
pub record AreWords (trace : Trace) : Type 0 where
  pub units : trace.units < 2 ^ 32
  pub pc : trace.pc < 2 ^ 64
