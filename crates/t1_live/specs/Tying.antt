-- Ends and seats that meet, and ties as far as they have come.
use Rattle.std.specs.Prelude.{ℕ, ◌≡◌, ◌<◌, List, [], length, get_or, Some}
use Rattle.std.specs.List.{slice_get}
use Rattle.t1_joint.specs.Lists.{IsPrefix}
use Rattle.t1_live.specs.Sides.{CoreSide, DestinationSide, CrossbarSide, CoreKeeps, DestinationKeeps}

-- ---- ends that meet

pub record RequestEndsMeet (core : CoreSide) (dest : DestinationSide) (c d : ℕ) : Type 0 where
  pub here : d < length core.to
  pub there : c < length dest.from
  pub meet : slice_get core.to d ≡ slice_get dest.from c

abbrev pub RowMeets : CoreSide → List DestinationSide → ℕ → Type 0
RowMeets core dests c = (d : ℕ) (dest : DestinationSide) → slice_get dests d ≡ Some dest → RequestEndsMeet core dest c d

abbrev pub RowsMeet : List CoreSide → List DestinationSide → Type 0
RowsMeet cores dests = (c : ℕ) (core : CoreSide) → slice_get cores c ≡ Some core → RowMeets core dests c

abbrev pub ServedEndsMeet : List DestinationSide → CrossbarSide → Type 0
ServedEndsMeet dests crossbar =
    (d : ℕ) (dest : DestinationSide) → slice_get dests d ≡ Some dest → (d < length crossbar.from) × (slice_get dest.to 0 ≡ slice_get crossbar.from d)

abbrev pub PacketEndsMeet : List CoreSide → CrossbarSide → Type 0
PacketEndsMeet cores crossbar =
    (c : ℕ) (core : CoreSide) → slice_get cores c ≡ Some core → (c < length crossbar.to) × (slice_get crossbar.to c ≡ slice_get core.from 0)

-- ---- ties, of the first n

abbrev pub RowTied : CoreSide → List DestinationSide → ℕ → ℕ → Type 0
RowTied core dests c n = (d : ℕ) → d < n → (dest : DestinationSide) → slice_get dests d ≡ Some dest → IsPrefix (get_or dest.received c []) (get_or core.sent d [])

abbrev pub RowsTied : List CoreSide → List DestinationSide → ℕ → Type 0
RowsTied cores dests n = (c : ℕ) → c < n → (core : CoreSide) → slice_get cores c ≡ Some core → RowTied core dests c (length dests)

-- with what the agents keep: a destination's ends are as many as the lists that came from them
abbrev pub DestinationStands : DestinationSide → Type 0
DestinationStands dest = DestinationKeeps dest × (length dest.received ≡ length dest.from)

abbrev pub ServedTied : List DestinationSide → CrossbarSide → ℕ → Type 0
ServedTied dests crossbar n =
    (d : ℕ) → d < n → (dest : DestinationSide) → slice_get dests d ≡ Some dest → IsPrefix (get_or crossbar.received d []) dest.served × DestinationStands dest

abbrev pub PacketsTied : List CoreSide → CrossbarSide → ℕ → Type 0
PacketsTied cores crossbar n =
    (c : ℕ) → c < n → (core : CoreSide) → slice_get cores c ≡ Some core → IsPrefix core.received (get_or crossbar.posted c []) × CoreKeeps core
