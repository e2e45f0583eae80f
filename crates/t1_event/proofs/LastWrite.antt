-- Memory after the items below a number: each byte is that of the last write of it.
use Rattle.std.proofs.Common.{◌≡◌, ℕ, zero, suc, ◌+◌, ◌<◌, ◌≤◌, Bool, true, false, cond, List, [], ◌∷◌, length, take, slice_index, true≢false, Some, refl, sym, ◌∙◌, subst, inl, inr, ◌⊎◌, arith}
use Rattle.std.proofs.lemmas.Bool.{cases_lt}
use Rattle.std.proofs.lemmas.Option.{none-some, same_Some}
use Rattle.std.specs.List.{slice_get}
use Rattle.t1_num.specs.Memory.{with_number_at}
use Rattle.t1_num.specs.MemoryLaws.{AreBytes}
use Rattle.t1_event.specs.declared.item.Item.{Item}
use Rattle.t1_event.specs.Kinds.{is_changing, IsChanging}
use Rattle.t1_event.specs.Items.{Covers, byte_put}
use Rattle.t1_event.specs.FlatMemory.{memory_with, memory_after, ActsAt, ActsOn}
use Rattle.t1_num.proofs.MemoryLaws.{length-with_number_at, outside, inside, bytes_stay}

-- ---- one item

pub length-memory_with : (memory : List ℕ) (item : Item) → length (memory_with memory item) ≡ length memory
length-memory_with memory item = by (is_changing item.kind)
  where
    by : (b : Bool) → length (cond b (with_number_at memory item.addr item.size item.put) memory) ≡ length memory
    by true = length-with_number_at memory item.addr item.size item.put
    by false = refl

pub bytes_stay_with : (memory : List ℕ) (item : Item) → AreBytes memory → AreBytes (memory_with memory item)
bytes_stay_with memory item small = by (is_changing item.kind)
  where
    by : (b : Bool) → AreBytes (cond b (with_number_at memory item.addr item.size item.put) memory)
    by true = bytes_stay memory item.addr item.size item.put small
    by false = small

abbrev pub Writes : Item → ℕ → Type 0
Writes item a = IsChanging item.kind × Covers item a

covers_cases : (item : Item) (a : ℕ) → Covers item a ⊎ ((a < item.addr) ⊎ (item.addr + item.size ≤ a))
covers_cases item a =
    elim (cases_lt a item.addr) [
      | inl below ↦ inr (inl below)
      | inr above ↦ elim (cases_lt a (item.addr + item.size)) [ inl within ↦ inl (above, within) | inr past ↦ inr (inr past) ]
    ]

-- the byte after an item is the one that the item wrote, or the one before
pub byte_with : (memory : List ℕ) (item : Item) (a : ℕ) → a < length memory
    → (Writes item a × (slice_index (memory_with memory item) a ≡ byte_put item a))
    ⊎ ((Writes item a → ⊥) × (slice_index (memory_with memory item) a ≡ slice_index memory a))
byte_with memory item a within = by (is_changing item.kind) refl
  where
    by : (b : Bool) → is_changing item.kind ≡ b
        → (Writes item a × (slice_index (cond b (with_number_at memory item.addr item.size item.put) memory) a ≡ byte_put item a))
        ⊎ ((Writes item a → ⊥) × (slice_index (cond b (with_number_at memory item.addr item.size item.put) memory) a ≡ slice_index memory a))
    by true e =
        elim (covers_cases item a) [
          | inl covers ↦ inl ((e, covers), inside memory item.addr item.size item.put a covers.0 covers.1 within)
          | inr off ↦ inr (λ w. omega (arith, w.1), outside memory item.addr item.size item.put a off)
        ]
    by false e = inr (λ w. true≢false (sym w.0 ∙ e), refl)

-- ---- the items below a number

abbrev pub memory_at : List ℕ → List Item → ℕ → List ℕ
memory_at memory items n = memory_after memory (take n items)

-- the last of the items below a number that writes a byte
pub record LastWrite (items : List Item) (n a : ℕ) : Type 0 where
  pub index : ℕ
  pub item : Item
  pub below : index < n
  pub stands : slice_get items index ≡ Some item
  pub writes : Writes item a
  pub last : (k : ℕ) (other : Item) → index < k → k < n → slice_get items k ≡ Some other → Writes other a → ⊥

-- none of the items below a number writes a byte
abbrev pub NoWrite : List Item → ℕ → ℕ → Type 0
NoWrite items n a = (k : ℕ) (other : Item) → k < n → slice_get items k ≡ Some other → Writes other a → ⊥

abbrev pub IsByteAt : List ℕ → List Item → ℕ → ℕ → ℕ → Type 0
IsByteAt memory items n a byte =
    ((w : LastWrite items n a) × (byte ≡ byte_put w.item a)) ⊎ (NoWrite items n a × (byte ≡ slice_index memory a))

-- with one more item in front
written_later : (item : Item) (items : List Item) (n a : ℕ) → LastWrite items n a → LastWrite (item ∷ items) (suc n) a
written_later item items n a w = record {
  index = suc w.index;
  item = w.item;
  below = omega (arith, w.below);
  stands = w.stands;
  writes = w.writes;
  last = elim [ zero ↦ λ other above. absurd (omega arith) | suc k ↦ λ other above below. w.last k other (omega arith) (omega arith) ];
}

written_first : (item : Item) (items : List Item) (n a : ℕ) → NoWrite items n a → Writes item a → LastWrite (item ∷ items) (suc n) a
written_first item items n a none writes = record {
  index = 0;
  item = item;
  below = omega arith;
  stands = refl;
  writes = writes;
  last = elim [ zero ↦ λ other above. absurd (omega arith) | suc k ↦ λ other above below. none k other (omega arith) ];
}

no_write : (item : Item) (items : List Item) (n a : ℕ) → NoWrite items n a → (Writes item a → ⊥) → NoWrite (item ∷ items) (suc n) a
no_write item items n a none off zero other below e w = off (subst (λ (i : Item). Writes i a) (sym (same_Some item other e)) w)
no_write item items n a none off (suc k) other below e w = none k other (omega arith) e w

byte_step : (memory : List ℕ) (item : Item) (items : List Item) (n a byte : ℕ) → a < length memory
    → IsByteAt (memory_with memory item) items n a byte → IsByteAt memory (item ∷ items) (suc n) a byte
unfolding written_later written_first
byte_step memory item items n a byte within (inl (w, e)) = inl (written_later item items n a w, e)
byte_step memory item items n a byte within (inr (none, e)) =
    elim (byte_with memory item a within) [
      | inl (writes, put) ↦ inl (written_first item items n a none writes, e ∙ put)
      | inr (off, same) ↦ inr (no_write item items n a none off, e ∙ same)
    ]

pub byte_at : (memory : List ℕ) (items : List Item) (n a : ℕ) → a < length memory → IsByteAt memory items n a (slice_index (memory_at memory items n) a)
unfolding memory_after
byte_at memory items zero a within = inr (λ k other below. absurd (omega arith), refl)
byte_at memory [] (suc n) a within = inr (λ k other below e. absurd (none-some other e), refl)
byte_at memory (item ∷ items) (suc n) a within =
    let within' : a < length (memory_with memory item) = omega (arith, length-memory_with memory item) in
    byte_step memory item items n a (slice_index (memory_at (memory_with memory item) items n) a) within (byte_at (memory_with memory item) items n a within')

pub length-memory_at : (memory : List ℕ) (items : List Item) (n : ℕ) → length (memory_at memory items n) ≡ length memory
unfolding memory_after
length-memory_at memory items zero = refl
length-memory_at memory [] (suc n) = refl
length-memory_at memory (item ∷ items) (suc n) = length-memory_at (memory_with memory item) items n ∙ length-memory_with memory item

pub bytes_stay_at : (memory : List ℕ) (items : List Item) (n : ℕ) → AreBytes memory → AreBytes (memory_at memory items n)
unfolding memory_after
bytes_stay_at memory items zero small = small
bytes_stay_at memory [] (suc n) small = small
bytes_stay_at memory (item ∷ items) (suc n) small = bytes_stay_at (memory_with memory item) items n (bytes_stay_with memory item small)

-- an item acts on the memory after the items before it
pub acts_at : (memory : List ℕ) (items : List Item) (n : ℕ) (item : Item) → ActsOn memory items → slice_get items n ≡ Some item → ActsAt (memory_at memory items n) item
unfolding memory_after ActsOn
acts_at memory [] n x acts e = absurd (none-some x e)
acts_at memory (item ∷ items) zero x acts e = subst (ActsAt memory) (same_Some item x e) acts.0
acts_at memory (item ∷ items) (suc n) x acts e = acts_at (memory_with memory item) items n x acts.1 e
