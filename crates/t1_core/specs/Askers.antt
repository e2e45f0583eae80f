-- Who may ask.
use Rattle.std.specs.Prelude.{◌<◌}
use Rattle.t1_exec.specs.Needs.{IsRam}
use Rattle.t1_core.specs.declared.asker.Asker.{Asker}

-- a strand of a core, over a RAM that there can be
pub record IsAsker (x : Asker) : Type 0 where
  pub core : x.number < 8
  pub strand : x.strand < 8
  pub ram : IsRam x.ram
