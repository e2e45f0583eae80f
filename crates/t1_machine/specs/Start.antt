-- The machine at its start, and the states that it comes to.
use Rattle.std.specs.Prelude.{ℕ, zero, suc, ◌≡◌, ◌+◌, ◌*◌, ◌%◌, ◌<◌, ◌≤◌, ◌^◌, List, [], ◌∷◌, length, replicate}
use Rattle.t1_shape.specs.Numbers.{banks, most_strands, most_l2_sets}
use Rattle.t1_event.specs.declared.report.Config.{Config}
use Rattle.t1_event.specs.BankRule.{BankState}
use Rattle.t1_elf.specs.declared.object.Image.{Image}
use Rattle.t1_joint.specs.Start.{Setup}
use Rattle.t1_joint.specs.Fit.{destination_start}
use Rattle.t1_core.specs.Steps.{CoreState}
use Rattle.t1_core.specs.Start.{new_core}
use Rattle.t1_machine.specs.Slots.{most_cores}
use Rattle.t1_machine.specs.Machine.{MachineState, most_dests}
use Rattle.t1_machine.specs.Runs.{machine_after}

-- a configuration within the limits, with an image of its RAM and an aligned entry
pub record IsRunnable (w : Setup) : Type 0 where
  pub some_cores : 0 < w.config.cores
  pub few_cores : w.config.cores ≤ most_cores
  pub some_strands : 0 < w.config.strands
  pub few_strands : w.config.strands ≤ most_strands w.config.chip
  pub blocks : w.config.ram % 65536 ≡ 0
  pub few_bytes : w.config.ram ≤ 2 ^ 28
  pub some_sets : 0 < w.config.sets
  pub few_sets : w.config.sets ≤ most_l2_sets w.config.chip
  pub some_units : 0 < w.config.budget
  pub few_units : w.config.budget * (w.config.cores * w.config.strands) ≤ 1000000
  pub image : length w.image.ram ≡ w.config.ram
  pub entry : w.image.entry % 4 ≡ 0

-- the chip, with this configuration and image
abbrev pub setup_of : Config → Image → Setup
setup_of config image = record { config = config; image = image }

-- a unit has two commits at the most: its fetch, and its load, store or atomic
abbrev pub most_commits : Config → ℕ
most_commits config = config.cores * (config.strands * (2 * config.budget))

-- n cores, numbered from one on
unfoldable pub cores_from : Config → ℕ → ℕ → ℕ → List CoreState
cores_from config entry core zero = []
cores_from config entry core (suc n) = new_core config core entry ∷ cores_from config entry (core + 1) n

-- n banks, numbered from one on
unfoldable pub banks_from : Setup → ℕ → ℕ → List BankState
banks_from w bank zero = []
banks_from w bank (suc n) = destination_start w bank ∷ banks_from w (bank + 1) n

unfoldable pub machine_start : Setup → MachineState
machine_start w = record {
  chip = w.config.chip;
  cores = cores_from w.config w.image.entry 0 w.config.cores;
  requests = replicate (most_dests * w.config.cores) [];
  served = replicate most_dests [];
  replies = replicate w.config.cores [];
  banks = banks_from w 0 (banks w.config.chip);
  tried = replicate most_dests 0;
  xbar = record { log = []; room = most_commits w.config; cores = w.config.cores; strands = w.config.strands };
}

-- a machine that a list of slots leads to, from a start
pub record IsReached (m : MachineState) : Type 0 where
  pub setup : Setup
  pub runnable : IsRunnable setup
  pub numbers : List ℕ
  pub is : m ≡ machine_after (machine_start setup) numbers
