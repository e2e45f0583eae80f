-- What a verdict says.
use Rattle.std.specs.Prelude.{ℕ, ◌≡◌, ◌<◌, ◌⊎◌, List, length, Option, Some, None, slice_index}
use Rattle.std.specs.List.{slice_get}
use Rattle.t1_event.specs.declared.item.Item.{Item}
use Rattle.t1_event.specs.declared.report.Place.{Place}
use Rattle.t1_event.specs.Kinds.{IsRead, IsWrite, IsAccess}
use Rattle.t1_event.specs.Items.{Covers, byte_got, byte_put, IsIo, IsBarrier}
use Rattle.t1_event.specs.Order.{Act, place_of, Earlier, Before, IsListing, LoadOp, StoreStore, Barrier, IsCandidate, IsLastWrite, Value, ObeysTso}
use Rattle.t1_check.specs.declared.rules.Rule.{Rule}
use Rattle.t1_check.specs.declared.rules.Rule.TheVariants as rule
use Rattle.t1_check.specs.declared.verdict.Axiom.{Axiom}
use Rattle.t1_check.specs.declared.verdict.Axiom.TheVariants as law
use Rattle.t1_check.specs.declared.verdict.Verdict.{Verdict}
use Rattle.t1_check.specs.declared.verdict.Verdict.TheVariants.{Holds, Broken}
use Rattle.t1_check.specs.Places.{IsPlaceBelow, IsUnlisted}

-- ---- load-op, store-store, barrier

abbrev pub RuleHolds : Rule → List (List Item) → List Place → Type 0
RuleHolds rule.LoadOp traces order = LoadOp traces order
RuleHolds rule.StoreStore traces order = StoreStore traces order
RuleHolds rule.Barrier traces order = Barrier traces order

-- x should precede a later item y of its strand and does not; of a barrier x, an earlier write should
abbrev pub IsCrossed : Rule → {traces : List (List Item)} → List Place → Act traces → Act traces → Type 0
IsCrossed rule.LoadOp order x y = Earlier x y × IsRead x.item.kind × IsAccess y.item.kind × (Before order x y → ⊥)
IsCrossed rule.StoreStore order x y = Earlier x y × IsWrite x.item.kind × IsWrite y.item.kind × (Before order x y → ⊥)
IsCrossed rule.Barrier order x y =
    Earlier x y × IsBarrier x.item × IsRead y.item.kind
    × ((write : Act _) × Earlier write x × IsWrite write.item.kind × (Before order write y → ⊥))

-- the least item that is crossed, and the least that crosses it
pub record IsFirstCrossed (rule : Rule) (traces : List (List Item)) (order : List Place) (first second : Place) : Type 0 where
  pub x : Act traces
  pub y : Act traces
  pub first_is : place_of x ≡ first
  pub second_is : place_of y ≡ second
  pub crossed : IsCrossed rule order x y
  pub least : (v w : Act traces) → IsPlaceBelow (place_of v) first → IsCrossed rule order v w → ⊥
  pub next : (w : Act traces) → w.number < y.number → IsCrossed rule order x w → ⊥

-- ---- value

-- a byte of a read is that of its last write, or, with no such write, the image's
abbrev pub IsRightByte : {traces : List (List Item)} → List ℕ → List Place → Act traces → ℕ → Type 0
IsRightByte image order read addr =
    ((write : Act _) × IsLastWrite order read addr write × (byte_got read.item addr ≡ byte_put write.item addr))
    ⊎ (((write : Act _) → IsCandidate order read addr write → ⊥) × (byte_got read.item addr ≡ slice_index image addr))

-- the write that a byte should have come from, none for the image
abbrev pub IsSource : {traces : List (List Item)} → List Place → Act traces → ℕ → Option Place → Type 0
IsSource order read addr None = (write : Act _) → IsCandidate order read addr write → ⊥
IsSource order read addr (Some p) = (write : Act _) × IsLastWrite order read addr write × (place_of write ≡ p)

-- each byte of the memory that a read got below an address is right
abbrev pub AreRightBelow : {traces : List (List Item)} → List ℕ → List Place → Act traces → ℕ → Type 0
AreRightBelow image order read end = (addr : ℕ) → addr < end → addr < length image → Covers read.item addr → IsRightByte image order read addr

-- the lowest wrong byte, and its source
pub record IsLowestWrong {traces : List (List Item)} (image : List ℕ) (order : List Place) (read : Act traces) (source : Option Place) : Type 0 where
  pub addr : ℕ
  pub within : addr < length image
  pub covers : Covers read.item addr
  pub wrong : IsRightByte image order read addr → ⊥
  pub source_is : IsSource order read addr source
  pub lowest : AreRightBelow image order read addr

-- a read of I/O whose bytes of memory, if any, are right got something else than 0
pub record IsWrongIo {traces : List (List Item)} (image : List ℕ) (order : List Place) (read : Act traces) (source : Option Place) : Type 0 where
  pub io : IsIo read.item.addr
  pub wrong : read.item.got ≡ 0 → ⊥
  pub right : (addr : ℕ) → addr < length image → Covers read.item addr → IsRightByte image order read addr
  pub none : source ≡ None

-- a read got what it should, in memory and in I/O
pub record IsRightRead {traces : List (List Item)} (image : List ℕ) (order : List Place) (read : Act traces) : Type 0 where
  pub memory : (addr : ℕ) → addr < length image → Covers read.item addr → IsRightByte image order read addr
  pub io : IsIo read.item.addr → read.item.got ≡ 0

-- the first read in memory order that got a wrong byte, and the source of its lowest such byte
pub record IsFirstWrong (image : List ℕ) (traces : List (List Item)) (order : List Place) (first : Place) (second : Option Place) : Type 0 where
  pub line : ℕ
  pub read : Act traces
  pub stands : slice_get order line ≡ Some (place_of read)
  pub first_is : place_of read ≡ first
  pub reads : IsRead read.item.kind
  pub wrong : IsLowestWrong image order read second ⊎ IsWrongIo image order read second
  pub before : (k : ℕ) (x : Act traces) → k < line → slice_get order k ≡ Some (place_of x) → IsRead x.item.kind → IsRightRead image order x

-- ---- verdicts

abbrev pub OfTwo : Option Place → (Place → Type 0) → Type 0
OfTwo None P = ⊥
OfTwo (Some second) P = P second

-- the axiom fails, first at these places, and those before it hold
abbrev pub IsBroken : Axiom → List ℕ → List (List Item) → List Place → Place → Option Place → Type 0
IsBroken law.Listing image traces order first second = IsUnlisted traces order first × (second ≡ None)
IsBroken law.LoadOp image traces order first second =
    IsListing traces order × OfTwo second (IsFirstCrossed rule.LoadOp traces order first)
IsBroken law.StoreStore image traces order first second =
    IsListing traces order × LoadOp traces order × OfTwo second (IsFirstCrossed rule.StoreStore traces order first)
IsBroken law.Value image traces order first second =
    IsListing traces order × LoadOp traces order × StoreStore traces order × IsFirstWrong image traces order first second
IsBroken law.Barrier image traces order first second =
    IsListing traces order × LoadOp traces order × StoreStore traces order × Value image traces order
    × OfTwo second (IsFirstCrossed rule.Barrier traces order first)

-- the order is a listing and obeys total store order, or the first axiom that fails is named
abbrev pub Judges : Verdict → List ℕ → List (List Item) → List Place → Type 0
Judges Holds image traces order = IsListing traces order × ObeysTso image traces order
Judges (Broken which first second) image traces order = IsBroken which image traces order first second

-- it holds exactly where the order is a listing and obeys total store order
abbrev pub HoldsExactly : Verdict → List ℕ → List (List Item) → List Place → Type 0
HoldsExactly verdict image traces order =
    (verdict ≡ Holds → IsListing traces order × ObeysTso image traces order)
    × (IsListing traces order → ObeysTso image traces order → verdict ≡ Holds)
