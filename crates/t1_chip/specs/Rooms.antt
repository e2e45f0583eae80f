-- The room of a report.
use Rattle.std.specs.Prelude.{ℕ, ◌≡◌, ◌≤◌, List, []}
use Rattle.t1_event.specs.declared.report.Config.{Config}
use Rattle.t1_event.specs.declared.report.Place.{Place}
use Rattle.t1_event.specs.declared.trace.Trace.{Trace}
use Rattle.t1_machine.specs.Start.{most_commits}

-- empty lists, with room for 64 traces, and for two places and two bytes of each unit
pub record IsRoomFor (config : Config) (traces : List Trace) (order : List Place) (console : List ℕ) (strands places bytes : ℕ) : Type 0 where
  pub no_trace : traces ≡ []
  pub no_place : order ≡ []
  pub no_byte : console ≡ []
  pub all_strands : 64 ≤ strands
  pub all_places : most_commits config ≤ places
  pub all_bytes : most_commits config ≤ bytes
