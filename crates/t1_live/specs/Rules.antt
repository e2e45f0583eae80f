-- What each agent keeps, over its own state and what its own ends sent and received.
use Rattle.std.specs.Prelude.{ℕ, ◌≡◌, ◌<◌, ◌≤◌, ◌==◌, List, [], ◌∷◌, ◌++◌, length, get_or, map, Option, Some, None}
use Rattle.std.specs.List.{slice_get, filter}
use Rattle.t1_shape.specs.Numbers.{banks, io_bridge, destinations}
use Rattle.t1_packet.specs.declared.packet.Packet.{Packet}
use Rattle.t1_packet.specs.declared.served.Served.{Served}
use Rattle.t1_packet.specs.Data.{RequestData}
use Rattle.t1_event.specs.declared.commit.Commit.{Commit}
use Rattle.t1_event.specs.Log.{commit_of}
use Rattle.t1_event.specs.BankRule.{BankState, served_by, bank_with, bank_after, refused}
use Rattle.t1_joint.specs.Start.{Setup}
use Rattle.t1_joint.specs.Parts.{posts_from, requests_of}
use Rattle.t1_joint.specs.Fit.{destination_start, IsDestination}
use Rattle.t1_received.specs.Requests.{sent_to}
use Rattle.t1_core.specs.declared.answers.Did.{Did}
use Rattle.t1_core.specs.declared.answers.Did.TheVariants as did
use Rattle.t1_core.specs.Steps.{CoreState}
use Rattle.t1_core_rule.specs.Laws.{IsHistory}
use Rattle.t1_machine.specs.Start.{IsRunnable}
use Rattle.t1_xbar.specs.Admission.{XbarState}
use Rattle.t1_ring.specs.Ends.{Mark}
use Rattle.t1_ring.specs.Row.{with_more}
use Rattle.t1_live.specs.Lanes.{AreOf}

-- ---- a core: it is what its calls made of it, which took what came and sent what its ends sent

pub record IsCoreSide (w : Setup) (number : ℕ) (core : CoreState) (sent : List (List RequestData)) (received : List Packet) : Type 0 where
  pub runs : IsRunnable w
  pub within : number < w.config.cores
  pub ends : length sent ≡ destinations w.config.chip
  -- the requests, in the order in which they were sent
  pub requests : List RequestData
  pub history : IsHistory w number (record { core = core; received = received; sent = requests })
  pub each : (d : ℕ) → get_or sent d [] ≡ sent_to w.config.chip d requests

-- what was sent to each destination, after an exec
abbrev pub sent_after : List (List RequestData) → Did → List (List RequestData)
sent_after sent did.Moved = sent
sent_after sent (did.Waits wait) = sent
sent_after sent (did.Sent dest request) = with_more sent dest request

-- the seats are of the core that sent it
abbrev pub AreOfSender : Did → List Mark → Type 0
AreOfSender did.Moved marks = Unit {0}
AreOfSender (did.Waits wait) marks = Unit {0}
AreOfSender (did.Sent dest request) marks = AreOf request.core marks

-- there is room for what is sent
abbrev pub HasSlot : List ℕ → Did → Type 0
HasSlot rooms did.Moved = Unit {0}
HasSlot rooms (did.Waits wait) = Unit {0}
HasSlot rooms (did.Sent dest request) = (dest < length rooms) × (0 < get_or rooms dest 0)

-- ---- a destination: its rule of a fitting part, and its bank is what the requests that it served made of it

abbrev pub IsBank : Setup → ℕ → List Served → Option BankState → Type 0
IsBank w d served (Some bank) = (d < banks w.config.chip) × (bank ≡ bank_after (destination_start w d) (requests_of served))
IsBank w d served None = d ≡ io_bridge w.config.chip

pub record IsDestinationSide (w : Setup) (d : ℕ) (bank : Option BankState) (received : List (List RequestData)) (served : List Served) : Type 0 where
  pub part : IsDestination w d (record { received = λ core. get_or received core []; served = served })
  pub bank_is : IsBank w d served bank

-- a bank serves a request by its rule, and the I/O bridge serves all alike
abbrev pub served_with : Option BankState → RequestData → Served
served_with (Some bank) request = served_by bank request
served_with None request = refused request

abbrev pub bank_after_one : Option BankState → RequestData → Option BankState
bank_after_one (Some bank) request = Some (bank_with bank request)
bank_after_one None request = None

-- ---- the crossbar: what came from each destination is what was admitted of it, and then what is held

-- an access that was admitted, and the destination whose end it came from
pub record Admission : Type 0 where
  pub dest : ℕ
  pub access : Served

abbrev pub accesses_of : List Admission → List Served
accesses_of admissions = map (λ admission. admission.access) admissions

-- those that came from one destination
abbrev pub come_from : ℕ → List Admission → List Served
come_from dest admissions = accesses_of (filter (λ admission. admission.dest == dest) admissions)

abbrev pub record_of : Setup → Admission → Commit
record_of w admission = commit_of w.config.strands admission.dest admission.access

abbrev pub held_of : Option Served → List Served
held_of None = []
held_of (Some access) = access ∷ []

pub record IsCrossbarSide (w : Setup) (xbar : XbarState) (held : List (Option Served)) (received : List (List Served)) (posted : List (List Packet)) : Type 0 where
  pub runs : IsRunnable w
  pub cores : xbar.cores ≡ w.config.cores
  pub strands : xbar.strands ≡ w.config.strands
  pub all_ends : length posted ≡ w.config.cores
  pub all_held : length held ≡ destinations w.config.chip
  pub all_received : length received ≡ destinations w.config.chip
  pub short : length xbar.log ≤ 4294967295
  -- the accesses that were admitted, in the log's order
  pub admissions : List Admission
  pub log : xbar.log ≡ map (record_of w) admissions
  pub came : (d : ℕ) → come_from d admissions ++ held_of (get_or held d None) ≡ get_or received d []
  pub seen : (n : ℕ) (access : Served) → slice_get (accesses_of admissions) n ≡ Some access → access.request.seen ≤ n
  pub posts : (c : ℕ) → c < w.config.cores → get_or posted c [] ≡ posts_from c 0 (accesses_of admissions)
