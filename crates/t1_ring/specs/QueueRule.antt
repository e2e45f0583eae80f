-- The rule of a request queue. Its entries of a core are that core's pushes from some number on: entry number k of a
-- core, counted from the first that was ever there, is the k-th request that its seat pushed, and the destination took
-- the first of them. Where a seat was given back, the destination's keeps the list that it had pushed.
use Rattle.std.specs.Prelude.{ℕ, ◌≡◌, ◌≢◌, ◌<◌, ◌≤◌, true, false, List, [], ◌∷◌, ◌++◌}
use mathlib.Core.Option.{Option, some, none}
use lib.ListN.{get_elem?}
use Rattle.crossbeam_queue.specs.Passes.{Pass, view}
use Rattle.t1_packet.specs.Data.{RequestData}
use Rattle.t1_ring.specs.declared.rule.Returned.{Returned}
use Rattle.t1_ring.specs.declared.rule.Account.{Account}
use Rattle.t1_ring.specs.Queue.{of_core}

-- ---- what a pass knows

abbrev pub known : Pass RequestData Account → Account
known pass = view pass

-- that of the destination, that of a core, and one that was given back
abbrev pub taking : List RequestData → ℕ → List Returned → Account
taking taken cores back = record { pushes = false; takes = true; core = 0; pushed = []; taken = taken; cores = cores; back = back }

abbrev pub pushing : ℕ → List RequestData → Account
pushing core pushed = record { pushes = true; takes = false; core = core; pushed = pushed; taken = []; cores = 0; back = [] }

abbrev pub spent : Account
spent = record { pushes = false; takes = false; core = 0; pushed = []; taken = []; cores = 0; back = [] }

abbrev pub returned : ℕ → List RequestData → Returned
returned core pushed = record { core = core; pushed = pushed }

-- the seat that came back last, as the pass that it was, and those before it
abbrev pub last_back : List Returned → Account
last_back [] = spent
last_back (seat ∷ seats) = pushing seat.core seat.pushed

abbrev pub before_last : List Returned → List Returned
before_last [] = []
before_last (seat ∷ seats) = seats

-- a push, and a pop
abbrev pub PushesOne : Account → RequestData → Account → Type 0
PushesOne before request after = after ≡ pushing before.core (before.pushed ++ request ∷ [])

abbrev pub TakesOne : Account → RequestData → Account → Type 0
TakesOne before request after = (after ≡ taking (before.taken ++ request ∷ []) before.cores before.back) × (request.core < before.cores)

-- ---- the rule

-- what the queue keeps count of: the destination's pass, the pass of each core that has one, what each core pushed in all,
-- and what was taken
pub record Counts : Type 0 where
  pub reader : ℕ
  pub seat : ℕ → Option ℕ
  pub pushed : ℕ → List RequestData
  pub got : List RequestData

-- a core has one pass, which knows what the core pushed
abbrev pub IsCorePass : Counts → ℕ → Account → Type 0
IsCorePass n pass v = v.pushes ≡ true → (n.seat v.core ≡ some pass) × (v.pushed ≡ n.pushed v.core)

-- of a core whose seat is back the whole list is known
abbrev pub IsBack : Counts → ℕ → Returned → Type 0
IsBack n cores seat = (seat.core < cores) × (n.seat seat.core ≡ none) × (seat.pushed ≡ n.pushed seat.core)

-- of no core is more than one seat back
abbrev pub IsAbsent : ℕ → List Returned → Type 0
IsAbsent core [] = Unit {0}
IsAbsent core (seat ∷ seats) = (seat.core ≢ core) × IsAbsent core seats

abbrev pub AreBack : Counts → ℕ → List Returned → Type 0
AreBack n cores [] = Unit {0}
AreBack n cores (seat ∷ seats) = IsBack n cores seat × IsAbsent seat.core seats × AreBack n cores seats

-- no core from one on has a seat or pushed anything
abbrev pub NoneFrom : Counts → ℕ → Type 0
NoneFrom n cores = (core : ℕ) → cores ≤ core → (n.seat core ≡ none) × (n.pushed core ≡ [])

-- the destination has one pass, which knows what was taken
abbrev pub IsDestPass : Counts → ℕ → Account → Type 0
IsDestPass n pass v = v.takes ≡ true → (pass ≡ n.reader) × (v.taken ≡ n.got) × NoneFrom n v.cores × AreBack n v.cores v.back

pub record IsInOrder (items : List RequestData) (views : List Account) : Type 0 where
  pub counts : Counts
  pub order : (core : ℕ) → of_core core (counts.got ++ items) ≡ counts.pushed core
  pub passes : (pass : ℕ) (v : Account) → get_elem? views pass ≡ some v → IsCorePass counts pass v × IsDestPass counts pass v
