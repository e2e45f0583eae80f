-- The agents as contracts see them.
use Rattle.std.specs.Prelude.{ℕ, ◌+◌, Bool, true, List, Option}
use Rattle.t1_shape.specs.Numbers.{destinations}
use Rattle.t1_packet.specs.declared.packet.Packet.{Packet}
use Rattle.t1_packet.specs.declared.served.Served.{Served}
use Rattle.t1_packet.specs.Data.{RequestData}
use Rattle.t1_event.specs.BankRule.{BankState}
use Rattle.t1_joint.specs.Start.{Setup}
use Rattle.t1_core.specs.Steps.{CoreState}
use Rattle.t1_core.specs.Ends.{finished_of}
use Rattle.t1_xbar.specs.Admission.{XbarState}
use Rattle.t1_ring.specs.Ends.{Mark}
use Rattle.t1_crew.specs.Id.{Id}
use Rattle.t1_live.specs.Rules.{IsCoreSide, IsDestinationSide, IsCrossbarSide}

-- a core, with what it sent to each destination, and what came to it
pub record CoreSide : Type 0 where
  pub setup : Setup
  pub number : ℕ
  pub core : CoreState
  pub sent : List (List RequestData)
  pub received : List Packet
  pub to : List Mark
  pub from : List Mark

-- a destination, a bank or the I/O bridge, with what came from each core, and what it served
pub record DestinationSide : Type 0 where
  pub setup : Setup
  pub dest : ℕ
  pub bank : Option BankState
  pub received : List (List RequestData)
  pub served : List Served
  pub to : List Mark
  pub from : List Mark

-- the crossbar, with what it holds of each destination, what came from each, and what it sent to each core
pub record CrossbarSide : Type 0 where
  pub setup : Setup
  pub xbar : XbarState
  pub held : List (Option Served)
  pub received : List (List Served)
  pub posted : List (List Packet)
  pub to : List Mark
  pub from : List Mark

-- ---- identities: cores are the agents 0 to 7, destinations those from 8 on, and the crossbar the one behind them

abbrev pub core_id : CoreSide → Id
core_id side = record { setup = side.setup; number = side.number; to = side.to; from = side.from }

abbrev pub destination_id : DestinationSide → Id
destination_id side = record { setup = side.setup; number = 8 + side.dest; to = side.to; from = side.from }

abbrev pub crossbar_id : CrossbarSide → Id
crossbar_id side = record { setup = side.setup; number = 8 + destinations side.setup.config.chip; to = side.to; from = side.from }

-- a core is over where each of its strands has ended, with an empty buffer
abbrev pub is_core_over : CoreSide → Bool
is_core_over side = finished_of side.core

abbrev pub is_over : {A : Type 0} → A → Bool
is_over side = true

-- ---- rules

abbrev pub CoreKeeps : CoreSide → Type 0
CoreKeeps side = IsCoreSide side.setup side.number side.core side.sent side.received

abbrev pub DestinationKeeps : DestinationSide → Type 0
DestinationKeeps side = IsDestinationSide side.setup side.dest side.bank side.received side.served

abbrev pub CrossbarKeeps : CrossbarSide → Type 0
CrossbarKeeps side = IsCrossbarSide side.setup side.xbar side.held side.received side.posted
