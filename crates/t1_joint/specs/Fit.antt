-- Parts that fit: rings between them, each core's rule, each destination's, and the crossbar's.
use Rattle.std.specs.Prelude.{ℕ, ◌≡◌, ◌<◌, ◌≤◌, nat_lt, if◌then◌else◌, zero, suc, List, [], ◌∷◌, ◌++◌, length, map, Some}
use Rattle.std.specs.List.{slice_get}
use Rattle.t1_shape.specs.Shapes.{Shape}
use Rattle.t1_shape.specs.Numbers.{banks}
use Rattle.t1_packet.specs.declared.served.Served.{Served}
use Rattle.t1_packet.specs.Data.{RequestData}
use Rattle.t1_packet.specs.Ops.{op_dest}
use Rattle.t1_event.specs.declared.commit.Commit.{Commit}
use Rattle.t1_event.specs.declared.trace.Ending.{Ending}
use Rattle.t1_event.specs.declared.trace.Trace.{Trace}
use Rattle.t1_event.specs.Log.{commit_of}
use Rattle.t1_event.specs.BankRule.{BankState, bank_start, served_by, bank_with, refused}
use Rattle.t1_joint.specs.Lists.{IsIn, IsPrefix}
use Rattle.t1_joint.specs.Start.{Setup}
use Rattle.t1_joint.specs.Parts.{Ended, CorePart, DestinationPart, CrossbarPart, Parts, posts_from, requests_of, asked_by, served_at}
use Rattle.t1_joint.specs.CoreRule.{IsCore}

-- ---- rings: what was received is what was sent, as far as it came

pub record AreRinged (p : Parts) : Type 0 where
  pub to_destination : (c d : ℕ) → IsPrefix ((p.destination d).received c) ((p.core c).sent d)
  pub to_crossbar : (d : ℕ) → IsPrefix (p.crossbar.received d) (p.destination d).served
  pub to_core : (c : ℕ) → IsPrefix (p.core c).received (p.crossbar.posted c)

-- ---- destinations: the banks by their rule, and the I/O bridge, which serves all alike and keeps nothing

abbrev pub destination_start : Setup → ℕ → BankState
destination_start w d = bank_start w.config.chip d w.config.cores w.config.sets w.image.ram

abbrev pub serves : Shape → ℕ → BankState → RequestData → Served
serves shape d b r = if nat_lt d (banks shape) then served_by b r else refused r

abbrev pub destination_with : Shape → ℕ → BankState → RequestData → BankState
destination_with shape d b r = if nat_lt d (banks shape) then bank_with b r else b

abbrev pub AreServed : Shape → ℕ → BankState → List Served → Type 0
AreServed shape d b [] = Unit {0}
AreServed shape d b (access ∷ accesses) =
    (access ≡ serves shape d b access.request) × AreServed shape d (destination_with shape d b access.request) accesses

-- what destination d served: where each request that it received names the core that it came from, the
-- requests of each core in order; and by the rule, from the image on
pub record IsDestination (w : Setup) (d : ℕ) (p : DestinationPart) : Type 0 where
  pub order : ((c : ℕ) (r : RequestData) → IsIn r (p.received c) → r.core ≡ c) → (c : ℕ) → requests_of (asked_by c p.served) ≡ p.received c
  pub rule : AreServed w.config.chip d (destination_start w d) p.served

-- ---- the crossbar

abbrev pub log_of : Setup → List Served → List Commit
log_of w accesses = map (λ access. commit_of w.config.strands (op_dest w.config.chip access.request.op) access) accesses

-- the log is of the accesses that were admitted, and those of a destination are the first that came from it
pub record HasAdmitted (w : Setup) (p : CrossbarPart) : Type 0 where
  pub log : p.log ≡ log_of w p.admitted
  pub admits : (d : ℕ) → IsPrefix (served_at w.config.chip d p.admitted) (p.received d)

-- the rule of the log is said where each access that came from a destination is of that destination
pub record IsCrossbar (w : Setup) (p : CrossbarPart) : Type 0 where
  pub short : length p.log ≤ 4294967295
  pub rule : ((d i : ℕ) (a : Served) → slice_get (p.received d) i ≡ Some a → op_dest w.config.chip a.request.op ≡ d) → HasAdmitted w p
  pub seen : (n : ℕ) (a : Served) → slice_get p.admitted n ≡ Some a → a.request.seen ≤ n
  pub posts : (c : ℕ) → p.posted c ≡ posts_from c 0 p.admitted

-- ---- parts that fit

-- a core beyond the configuration has no strand and sent nothing
pub record IsNoCore (p : CorePart) : Type 0 where
  pub traces : p.traces ≡ []
  pub sent : (d : ℕ) → p.sent d ≡ []

pub record Fit (w : Setup) (p : Parts) : Type 0 where
  pub rings : AreRinged p
  pub cores : (c : ℕ) → c < w.config.cores → IsCore w c (p.core c)
  pub no_cores : (c : ℕ) → w.config.cores ≤ c → IsNoCore (p.core c)
  pub destinations : (d : ℕ) → IsDestination w d (p.destination d)
  pub crossbar : IsCrossbar w p.crossbar

-- a strand has ended, with an empty buffer
pub record HasEnded (p : CorePart) (s : ℕ) : Type 0 where
  pub ending : Ending
  pub is : p.standing s ≡ Ended ending
  pub empty : p.waiting s ≡ []

abbrev pub AreOver : Setup → Parts → Type 0
AreOver w p = (c s : ℕ) → c < w.config.cores → s < w.config.strands → HasEnded (p.core c) s

-- ---- the traces of all strands, core by core

abbrev pub traces_from : (ℕ → CorePart) → ℕ → ℕ → List Trace
traces_from core c zero = []
traces_from core c (suc n) = (core c).traces ++ traces_from core (suc c) n

abbrev pub traces_of : Setup → Parts → List Trace
traces_of w p = traces_from p.core 0 w.config.cores
