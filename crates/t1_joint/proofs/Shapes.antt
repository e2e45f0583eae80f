-- The items of a replay are shaped: each access has a size, is aligned, and lies where it may.
use Rattle.std.proofs.Common.{◌≡◌, ℕ, zero, suc, ◌+◌, ◌*◌, ◌%◌, ◌^◌, ◌≤◌, ◌==◌, nat_lt, inl, inr, Bool, true, false, List, [], ◌∷◌, ◌++◌, map, Option, Some, None, refl, ap, ◌∙◌, subst}
use Rattle.std.proofs.lemmas.Bool.{ltb-true, eqb-true, and_parts}
use Rattle.std.specs.List.{slice_get}
use Rattle.t1_decode.specs.Words.{insn_of}
use Rattle.t1_state.specs.declared.strand.Strand.{Strand}
use Rattle.t1_state.specs.Interrupts.{due_of}
use Rattle.t1_exec.specs.declared.need.Need.{Need}
use Rattle.t1_exec.specs.declared.need.Need.TheVariants as need
use Rattle.t1_exec.specs.declared.need.AtomicOp.{AtomicOp}
use Rattle.t1_exec.specs.declared.need.AtomicOp.TheVariants.{Swap, Cas}
use Rattle.t1_exec.specs.Needs.{need_of}
use Rattle.t1_event.specs.declared.item.Item.{Item}
use Rattle.t1_event.specs.declared.item.ItemKind.{ItemKind}
use Rattle.t1_event.specs.declared.item.ItemKind.TheVariants as kind
use Rattle.t1_event.specs.Kinds.{IsAccess}
use Rattle.t1_event.specs.Items.{fetch_item, load_item, unplaced, reads_of}
use Rattle.t1_joint.specs.Replay.{End, Running, Starved, Done, Replay, Bounds, atomic_item, with_value, with_read, met, with_word, fetched, is_fetchable, begun, begun_or_spent, unit_at, units, started}
use Rattle.t1_joint.specs.Shaped.{IsShaped, LiesRightly, ItemsAreShaped}
use Rattle.t1_joint.proofs.Needs.{IsAligned, IsShapedNeed, need_shaped, fits_in}

abbrev pub IsFine : ℕ → Item → Type 0
IsFine ram x = IsAccess x.kind → IsShaped ram x

abbrev pub AllFine : ℕ → List Item → Type 0
AllFine ram [] = Unit {0}
AllFine ram (x ∷ xs) = IsFine ram x × AllFine ram xs

fine_more : (ram : ℕ) (xs : List Item) (x : Item) → AllFine ram xs → IsFine ram x → AllFine ram (xs ++ x ∷ [])
fine_more ram [] x a f = (f, tt)
fine_more ram (y ∷ xs) x a f = (a.0, fine_more ram xs x a.1 f)

pub fine_at : (ram : ℕ) (xs : List Item) (k : ℕ) (x : Item) → AllFine ram xs → slice_get xs k ≡ Some x → IsFine ram x
fine_at ram [] k x a e = cc
fine_at ram (y ∷ xs) zero x a e = let same : y ≡ x = cc (e) in subst (λ (z : Item). IsFine ram z) same a.0
fine_at ram (y ∷ xs) (suc k) x a e = fine_at ram xs k x a.1 e

module _ (b : Bounds) (blocks : b.ram % 65536 ≡ 0) where
  value_fine : (s : Strand) (word : ℕ) (items : List Item) (make : ℕ → Item) (value : ℕ) (reads : List ℕ) (fits : Bool) → AllFine b.ram items → IsFine b.ram (make value)
      → AllFine b.ram (with_value s word items make value reads fits).items
  value_fine s word items make value reads true a f = fine_more b.ram items (make value) a f
  value_fine s word items make value reads false a f = a

  read_fine : (s : Strand) (word : ℕ) (items : List Item) (size : ℕ) (make : ℕ → Item) (reads : List ℕ) → AllFine b.ram items → ((value : ℕ) → IsFine b.ram (make value))
      → AllFine b.ram (with_read s word items size make reads).items
  read_fine s word items size make [] a f = a
  read_fine s word items size make (value ∷ reads) a f = value_fine s word items make value reads (nat_lt value (2 ^ (8 * size))) a (f value)

  atomic_fine : (addr size : ℕ) (op : AtomicOp) (value : ℕ) → IsAligned addr size × (addr + size ≤ b.ram) → IsFine b.ram (atomic_item addr size op value)
  atomic_fine addr size (Swap new) value p access = record { size = p.0.size_is; aligned = p.0.aligned; lies = p.1 }
  atomic_fine addr size (Cas expect new) value p access = record { size = p.0.size_is; aligned = p.0.aligned; lies = p.1 }

  met_fine : (s : Strand) (word : ℕ) (items : List Item) (reads : List ℕ) (n : Need) → IsShapedNeed b.ram n → AllFine b.ram items → AllFine b.ram (met s word items reads n).items
  met_fine s word items reads need.Plain p a = a
  met_fine s word items reads need.Halt p a = a
  met_fine s word items reads (need.Trap number) p a = a
  met_fine s word items reads (need.Membar mask) p a = fine_more b.ram items _ a (λ access. cc)
  met_fine s word items reads need.Flush p a = fine_more b.ram items _ a (λ access. cc)
  met_fine s word items reads (need.Store addr size value) p a =
      fine_more b.ram items _ a (λ access. record { size = p.0.size_is; aligned = p.0.aligned; lies = p.1 })
  met_fine s word items reads (need.Load addr size) p a =
      read_fine s word items size (load_item addr size) reads a (λ value access. record { size = p.0.size_is; aligned = p.0.aligned; lies = p.1 })
  met_fine s word items reads (need.Atomic addr size op) p a = read_fine s word items size (atomic_item addr size op) reads a (λ value. atomic_fine addr size op value p)

  -- a fetch of a word in RAM
  pub fetch_fine : (pc word : ℕ) → is_fetchable b.ram pc ≡ true → IsFine b.ram (fetch_item pc word)
  fetch_fine pc word e access =
      let p = and_parts (nat_lt pc b.ram) (pc % 4 == 0) e in
      let below = ltb-true pc b.ram p.0 in
      let aligned = eqb-true (pc % 4) 0 p.1 in
      record { size = inr (inr (inl refl)); aligned = aligned; lies = (refl, fits_in pc 4 b.ram (inr (inr (inl refl))) aligned blocks below) }

  word_fine : (s : Strand) (items : List Item) (word : ℕ) (reads : List ℕ) (fits : Bool) → is_fetchable b.ram s.pc ≡ true → AllFine b.ram items
      → AllFine b.ram (with_word b s items word reads fits).items
  word_fine s items word reads true e a =
      met_fine s word (items ++ fetch_item s.pc word ∷ []) reads (need_of s (insn_of word) b.ram) (need_shaped b.ram blocks s (insn_of word))
      (fine_more b.ram items (fetch_item s.pc word) a (fetch_fine s.pc word e))
  word_fine s items word reads false e a = a

  fetched_fine : (s : Strand) (items : List Item) (reads : List ℕ) → is_fetchable b.ram s.pc ≡ true → AllFine b.ram items → AllFine b.ram (fetched b s items reads).items
  fetched_fine s items [] e a = a
  fetched_fine s items (word ∷ reads) e a = word_fine s items word reads (nat_lt word (2 ^ 32)) e a

  begun_fine : (s : Strand) (items : List Item) (reads : List ℕ) (due : Option ℕ) (can : Bool) → is_fetchable b.ram s.pc ≡ can → AllFine b.ram items
      → AllFine b.ram (begun b s items reads due can).items
  begun_fine s items reads (Some number) can e a = a
  begun_fine s items reads None true e a = fetched_fine s items reads e a
  begun_fine s items reads None false e a = a

  spent_fine : (s : Strand) (items : List Item) (reads : List ℕ) (spent : Bool) → AllFine b.ram items → AllFine b.ram (begun_or_spent b s items reads spent).items
  spent_fine s items reads true a = a
  spent_fine s items reads false a = begun_fine s items reads (due_of s) (is_fetchable b.ram s.pc) refl a

  unit_fine : (r : Replay) (e : End) → AllFine b.ram r.items → AllFine b.ram (unit_at b r e).items
  unit_fine r Running a = spent_fine r.strand r.items r.reads (r.strand.units == b.budget) a
  unit_fine r Starved a = a
  unit_fine r (Done ending) a = a

  pub units_fine : (n : ℕ) (r : Replay) → AllFine b.ram r.items → AllFine b.ram (units b n r).items
  units_fine zero r a = a
  units_fine (suc n) r a = unit_fine (units b n r) (units b n r).end (units_fine n r a)

  -- each item of a replay from the start
  pub replay_shaped : (from : Strand) (reads : List ℕ) (n k : ℕ) (x : Item) → slice_get (units b n (started from reads)).items k ≡ Some x → IsAccess x.kind → IsShaped b.ram x
  replay_shaped from reads n k x e access = fine_at b.ram (units b n (started from reads)).items k x (units_fine n (started from reads) tt) e access

-- ---- of items with their places

-- the item at a place, without its place
pub unplaced_at : (xs : List Item) (k : ℕ) (x : Item) → slice_get xs k ≡ Some x → slice_get (map unplaced xs) k ≡ Some (unplaced x)
unplaced_at [] k x e = cc
unplaced_at (y ∷ xs) zero x e = ap (λ (o : Option Item). o) (let same : y ≡ x = cc (e) in ap (λ (z : Item). Some (unplaced z)) same)
unplaced_at (y ∷ xs) (suc k) x e = unplaced_at xs k x e

-- the place says nothing of the shape
pub placed_shape : (ram : ℕ) (x : Item) → IsShaped ram (unplaced x) → IsShaped ram x
placed_shape ram x s = record { size = s.size; aligned = s.aligned; lies = go x.kind s.lies }
  where
    go : (k : ItemKind) → LiesRightly ram (unplaced x) k → LiesRightly ram x k
    go kind.Fetch l = l
    go kind.Load l = l
    go kind.Store l = l
    go (kind.Atomic wrote) l = l
    go kind.Membar l = l
    go kind.Flush l = l

pub items_shaped : ItemsAreShaped
items_shaped b from trace number item blocks f e access =
    let here : slice_get (units b f.count (started from (reads_of trace.items))).items number ≡ Some (unplaced item) =
    ap (λ (xs : List Item). slice_get xs number) f.is.items ∙ unplaced_at trace.items number item e in
    placed_shape b.ram item (replay_shaped b blocks from (reads_of trace.items) f.count number (unplaced item) here access)
