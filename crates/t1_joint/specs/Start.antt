-- Where the strands of a machine begin, and how far their replays go.
use Rattle.std.specs.Prelude.{ℕ, ◌*◌}
use Rattle.t1_state.specs.declared.strand.Strand.{Strand}
use Rattle.t1_state.specs.Registers.{start_of}
use Rattle.t1_event.specs.declared.report.Config.{Config}
use Rattle.t1_elf.specs.declared.object.Image.{Image}
use Rattle.t1_joint.specs.Replay.{Bounds}

-- the start state of a strand, which is numbered over all cores, at this entry
abbrev pub start_in : Config → ℕ → ℕ → Strand
start_in config entry number = start_of number (config.cores * config.strands) entry config.hyper

abbrev pub bounds_in : Config → Bounds
bounds_in config = record { ram = config.ram; budget = config.budget }

-- what a run begins with: the machine, and what its memory holds at first
pub record Setup : Type 0 where
  pub config : Config
  pub image : Image
