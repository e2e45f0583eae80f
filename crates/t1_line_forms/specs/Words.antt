-- Numbers of printed lines are words of 64 bits, as their types say.
use Rattle.std.specs.Prelude.{ℕ, ◌≡◌, ◌<◌, ◌^◌, All, Some}
use Rattle.t1_packet.specs.Data.{KillData}
use Rattle.t1_event.specs.declared.commit.Commit.{Commit}
use Rattle.t1_event.specs.declared.item.How.{How}
use Rattle.t1_event.specs.declared.item.How.TheVariants as how
use Rattle.t1_event.specs.declared.report.Config.{Config}

abbrev pub IsWord : ℕ → Type 0
IsWord number = number < 2 ^ 64

pub record AreConfigWords (config : Config) : Type 0 where
  pub cores : IsWord config.cores
  pub strands : IsWord config.strands
  pub ram : IsWord config.ram
  pub sets : IsWord config.sets
  pub budget : IsWord config.budget

-- where an access stands
abbrev pub ArePlaceWords : How → Type 0
ArePlaceWords how.Unplaced = Unit {0}
ArePlaceWords (how.Forward time) = IsWord time
ArePlaceWords (how.Hit time) = IsWord time
ArePlaceWords (how.Commit index seen) = IsWord index × IsWord seen

pub record AreKillWords (kill : KillData) : Type 0 where
  pub core : IsWord kill.core
  pub set : IsWord kill.set
  pub way : IsWord kill.way

pub record AreCommitWords (commit : Commit) : Type 0 where
  pub dest : IsWord commit.dest
  pub strand : IsWord commit.strand
  pub item : IsWord commit.item
  pub way : (way : ℕ) → commit.way ≡ Some way → IsWord way
  pub kills : All AreKillWords commit.kills
