-- A store buffer, as the list of its entries from the oldest: which are sent, and which is next.
use Rattle.std.specs.Prelude.{ℕ, ◌≡◌, ◌*◌, ◌^◌, ◌<◌, ◌≤◌, ◌==◌, Bool, true, false, not, ◌&&◌, ◌||◌, if◌then◌else◌, suc, List, [], ◌∷◌, length, All, slice_get, IsTrue, IsSomeAnd, Option, Some, None}
use Rattle.t1_num.specs.Memory.{IsSize}
use Rattle.t1_sbuf.specs.declared.entry.Entry.{Entry}
use Rattle.t1_sbuf.specs.Access.{IsAligned}

-- a store: of a size, aligned, with a value that fits the size
pub record IsStore (e : Entry) : Type 0 where
  pub size : IsSize e.size
  pub aligned : IsAligned e.addr e.size
  pub value : e.value < 2 ^ (8 * e.size)

-- no entry is sent
abbrev pub are_unsent : List Entry → Bool
are_unsent [] = true
are_unsent (e ∷ es) = not e.sent && are_unsent es

-- an entry that is not sent has none after it that is
abbrev pub AreSentFirst : List Entry → Type 0
AreSentFirst [] = Unit {0}
AreSentFirst (e ∷ es) = (e.sent ≡ false → are_unsent es ≡ true) × AreSentFirst es

-- each entry that is sent goes to this destination
abbrev pub are_sent_to : ℕ → List Entry → Bool
are_sent_to dest [] = true
are_sent_to dest (e ∷ es) = (not e.sent || (e.dest == dest)) && are_sent_to dest es

-- the entries that are sent go to one destination
abbrev pub AreTogether : List Entry → Type 0
AreTogether [] = Unit {0}
AreTogether (e ∷ es) = (e.sent ≡ true → are_sent_to e.dest es ≡ true) × AreTogether es

-- at most eight stores, of which those that are sent are the oldest and go to one destination
pub record AreEntries (es : List Entry) : Type 0 where
  pub few : length es ≤ 8
  pub stores : All IsStore es
  pub front : AreSentFirst es
  pub together : AreTogether es

-- the oldest entry is sent
abbrev pub IsOldestSent : List Entry → Type 0
IsOldestSent es = IsSomeAnd (slice_get es 0) (λ e. IsTrue e.sent)

-- the oldest entry that is not sent
abbrev pub next_unsent : List Entry → Option Entry
next_unsent [] = None
next_unsent (e ∷ es) = if e.sent then next_unsent es else Some e

-- the place of the oldest entry that is not sent, past the last one where each is sent
unfoldable pub next_place : List Entry → ℕ
next_place [] = 0
next_place (e ∷ es) = if e.sent then suc (next_place es) else 0

abbrev pub if_together : List Entry → Option Entry → Option Entry
if_together es None = None
if_together es (Some e) = if are_sent_to e.dest es then Some e else None

-- the store that may be sent next: the oldest that is not sent, where each that is sent goes to its
-- destination
unfoldable pub next_to_send_of : List Entry → Option Entry
next_to_send_of es = if_together es (next_unsent es)

-- the oldest entry that is not sent is sent
unfoldable pub sent_next : List Entry → List Entry
sent_next [] = []
sent_next (e ∷ es) = if e.sent then e ∷ sent_next es else record e { sent = true } ∷ es
