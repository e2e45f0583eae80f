-- The fields of an item that mean nothing for its kind are 0, in every replay.
use Rattle.std.proofs.Common.{◌≡◌, ℕ, zero, suc, ◌*◌, ◌%◌, ◌^◌, ◌<◌, ◌==◌, ◌&&◌, nat_lt, Bool, true, false, if◌then◌else◌, List, [], ◌∷◌, ◌++◌, map, Option, Some, None, refl, subst, inl, inr, arith}
use Rattle.std.specs.List.{slice_get}
use Rattle.std.proofs.lemmas.Bool.{cases_Bool}
use Rattle.t1_insn.specs.declared.instruction.Insn.{Insn}
use Rattle.t1_insn.specs.declared.instruction.Insn.TheVariants as insn
use Rattle.t1_decode.specs.Words.{insn_of}
use Rattle.t1_state.specs.declared.strand.Strand.{Strand}
use Rattle.t1_state.specs.Interrupts.{due_of}
use Rattle.t1_space.specs.Spaces.{is_scratchpad}
use Rattle.t1_exec.specs.declared.need.Need.{Need}
use Rattle.t1_exec.specs.declared.need.Need.TheVariants as need
use Rattle.t1_exec.specs.declared.need.AtomicOp.{AtomicOp}
use Rattle.t1_exec.specs.declared.need.AtomicOp.TheVariants.{Swap, Cas}
use Rattle.t1_exec.specs.Operands.{xor_of}
use Rattle.t1_exec.specs.Spaces.{space_of}
use Rattle.t1_exec.specs.Traps.{traps_of, first_of}
use Rattle.t1_exec.specs.Needs.{need_of, asked_of, atomic_of, asked_in, or_need}
use Rattle.t1_event.specs.declared.item.Item.{Item}
use Rattle.t1_event.specs.declared.item.ItemKind.{ItemKind}
use Rattle.t1_event.specs.declared.item.ItemKind.TheVariants as kind
use Rattle.t1_event.specs.declared.trace.Trace.{Trace}
use Rattle.t1_event.specs.Kinds.{IsRead, IsAccess, IsChanging}
use Rattle.t1_event.specs.Items.{fetch_item, load_item, store_item, membar_item, flush_item, reads_of, unplaced}
use Rattle.t1_joint.specs.Replay.{End, Running, Starved, Done, Replay, Bounds, atomic_item, with_value, with_read, met, with_word, fetched, is_fetchable, begun, begun_or_spent, unit_at, units, started}
use Rattle.t1_joint.specs.Follows.{Follows}
use Rattle.t1_reads_back.proofs.Masks.{HasMask, insn_mask}

-- the size of a barrier is its mask, or 0
abbrev pub IsBarrierSize : ItemKind → ℕ → Type 0
IsBarrierSize kind.Membar mask = mask < 128
IsBarrierSize kind.Flush size = size ≡ 0
IsBarrierSize kind.Fetch size = Unit {0}
IsBarrierSize kind.Load size = Unit {0}
IsBarrierSize kind.Store size = Unit {0}
IsBarrierSize (kind.Atomic wrote) size = Unit {0}

pub record IsBlank (x : Item) : Type 0 where
  pub size : IsBarrierSize x.kind x.size
  pub addr : (IsAccess x.kind → ⊥) → x.addr ≡ 0
  pub got : (IsRead x.kind → ⊥) → x.got ≡ 0
  pub put : (IsChanging x.kind → ⊥) → x.put ≡ 0

abbrev AllBlank : List Item → Type 0
AllBlank [] = Unit {0}
AllBlank (x ∷ xs) = IsBlank x × AllBlank xs

blank_more : (xs : List Item) (x : Item) → AllBlank xs → IsBlank x → AllBlank (xs ++ x ∷ [])
blank_more [] x a h = (h, tt)
blank_more (y ∷ xs) x a h = (a.0, blank_more xs x a.1 h)

-- ---- items

fetch_blank : (pc word : ℕ) → IsBlank (fetch_item pc word)
fetch_blank pc word = record { size = tt; addr = λ none. absurd (none refl); got = λ none. absurd (none refl); put = λ none. refl }

load_blank : (addr size value : ℕ) → IsBlank (load_item addr size value)
load_blank addr size value = record { size = tt; addr = λ none. absurd (none refl); got = λ none. absurd (none refl); put = λ none. refl }

store_blank : (addr size value : ℕ) → IsBlank (store_item addr size value)
store_blank addr size value = record { size = tt; addr = λ none. absurd (none refl); got = λ none. refl; put = λ none. absurd (none refl) }

membar_blank : (mask : ℕ) → mask < 128 → IsBlank (membar_item mask)
membar_blank mask l = record { size = l; addr = λ none. refl; got = λ none. refl; put = λ none. refl }

flush_blank : IsBlank flush_item
flush_blank = record { size = refl; addr = λ none. refl; got = λ none. refl; put = λ none. refl }

atomic_blank : (addr size : ℕ) (op : AtomicOp) (value : ℕ) → IsBlank (atomic_item addr size op value)
atomic_blank addr size (Swap new) value = record { size = tt; addr = λ none. absurd (none refl); got = λ none. absurd (none refl); put = λ none. absurd (none refl) }
atomic_blank addr size (Cas expect new) value =
    record { size = tt; addr = λ none. absurd (none refl); got = λ none. absurd (none refl); put = by (value == expect) }
  where
    by : (b : Bool) → (IsChanging (kind.Atomic b) → ⊥) → (if b then new else 0) ≡ 0
    by true none = absurd (none refl)
    by false none = refl

-- ---- needs

abbrev NeedMask : Need → Type 0
NeedMask (need.Membar mask) = mask < 128
NeedMask _ = Unit {0}

in_mask : (space : ℕ) (asked : Need) → NeedMask asked → NeedMask (asked_in space asked)
in_mask space asked p = elim (cases_Bool (is_scratchpad space)) [ inl e ↦ rw e tt | inr e ↦ rw e p ]

halt_mask : (b : Bool) → NeedMask (if b then need.Halt else need.Plain)
halt_mask true = tt
halt_mask false = tt

asked_mask : (s : Strand) (i : Insn) → HasMask i → NeedMask (asked_of s i)
unfolding asked_of atomic_of
asked_mask s (insn.Load kind rd rs1 mem) h = in_mask (space_of s mem) _ tt
asked_mask s (insn.Store kind rd rs1 mem) h = in_mask (space_of s mem) _ tt
asked_mask s (insn.Membar mask) h = h
asked_mask s insn.Stbar h = omega arith
asked_mask s (insn.WriteAsr asr rs1 src) h = halt_mask ((asr == 0x1a) && (xor_of s rs1 src % 2 == 0))
asked_mask s _ h = tt

or_mask : (o : Option ℕ) (asked : Need) → NeedMask asked → NeedMask (or_need o asked)
or_mask (Some number) asked p = tt
or_mask None asked p = p

need_mask : (s : Strand) (word ram : ℕ) → NeedMask (need_of s (insn_of word) ram)
unfolding need_of
need_mask s word ram = or_mask (first_of (traps_of s (insn_of word) ram)) (asked_of s (insn_of word)) (asked_mask s (insn_of word) (insn_mask word))

-- ---- replays

module _ (b : Bounds) where
  value_blank : (s : Strand) (word : ℕ) (items : List Item) (make : ℕ → Item) (value : ℕ) (reads : List ℕ) (fits : Bool) → AllBlank items → IsBlank (make value)
      → AllBlank (with_value s word items make value reads fits).items
  value_blank s word items make value reads true a h = blank_more items (make value) a h
  value_blank s word items make value reads false a h = a

  read_blank : (s : Strand) (word : ℕ) (items : List Item) (size : ℕ) (make : ℕ → Item) (reads : List ℕ) → AllBlank items → ((value : ℕ) → IsBlank (make value))
      → AllBlank (with_read s word items size make reads).items
  read_blank s word items size make [] a h = a
  read_blank s word items size make (value ∷ reads) a h = value_blank s word items make value reads (nat_lt value (2 ^ (8 * size))) a (h value)

  met_blank : (s : Strand) (word : ℕ) (items : List Item) (reads : List ℕ) (n : Need) → NeedMask n → AllBlank items → AllBlank (met s word items reads n).items
  met_blank s word items reads need.Plain p a = a
  met_blank s word items reads need.Halt p a = a
  met_blank s word items reads (need.Trap number) p a = a
  met_blank s word items reads (need.Membar mask) p a = blank_more items (membar_item mask) a (membar_blank mask p)
  met_blank s word items reads need.Flush p a = blank_more items flush_item a flush_blank
  met_blank s word items reads (need.Store addr size value) p a = blank_more items (store_item addr size value) a (store_blank addr size value)
  met_blank s word items reads (need.Load addr size) p a = read_blank s word items size (load_item addr size) reads a (load_blank addr size)
  met_blank s word items reads (need.Atomic addr size op) p a = read_blank s word items size (atomic_item addr size op) reads a (atomic_blank addr size op)

  word_blank : (s : Strand) (items : List Item) (word : ℕ) (reads : List ℕ) (fits : Bool) → AllBlank items → AllBlank (with_word b s items word reads fits).items
  word_blank s items word reads true a =
      met_blank s word (items ++ fetch_item s.pc word ∷ []) reads (need_of s (insn_of word) b.ram) (need_mask s word b.ram)
      (blank_more items (fetch_item s.pc word) a (fetch_blank s.pc word))
  word_blank s items word reads false a = a

  fetched_blank : (s : Strand) (items : List Item) (reads : List ℕ) → AllBlank items → AllBlank (fetched b s items reads).items
  fetched_blank s items [] a = a
  fetched_blank s items (word ∷ reads) a = word_blank s items word reads (nat_lt word (2 ^ 32)) a

  begun_blank : (s : Strand) (items : List Item) (reads : List ℕ) (due : Option ℕ) (can : Bool) → AllBlank items → AllBlank (begun b s items reads due can).items
  begun_blank s items reads (Some number) can a = a
  begun_blank s items reads None true a = fetched_blank s items reads a
  begun_blank s items reads None false a = a

  spent_blank : (s : Strand) (items : List Item) (reads : List ℕ) (spent : Bool) → AllBlank items → AllBlank (begun_or_spent b s items reads spent).items
  spent_blank s items reads true a = a
  spent_blank s items reads false a = begun_blank s items reads (due_of s) (is_fetchable b.ram s.pc) a

  unit_blank : (r : Replay) (e : End) → AllBlank r.items → AllBlank (unit_at b r e).items
  unit_blank r Running a = spent_blank r.strand r.items r.reads (r.strand.units == b.budget) a
  unit_blank r Starved a = a
  unit_blank r (Done e) a = a

  units_blank : (n : ℕ) (r : Replay) → AllBlank r.items → AllBlank (units b n r).items
  units_blank zero r a = a
  units_blank (suc n) r a = unit_blank (units b n r) (units b n r).end (units_blank n r a)

  -- a place says nothing of it
  blank_at : (xs : List Item) (k : ℕ) (x : Item) → AllBlank (map unplaced xs) → slice_get xs k ≡ Some x → IsBlank x
  blank_at [] k x a e = let clash : ◌≡◌ {A = Option Item} None (Some x) = e in cc
  blank_at (y ∷ xs) zero x a e =
      let same : y ≡ x = cc (e) in
      let h = a.0 in
      subst (λ (z : Item). IsBlank z) same (record { size = h.size; addr = h.addr; got = h.got; put = h.put })
  blank_at (y ∷ xs) (suc k) x a e = blank_at xs k x a.1 e

  pub trace_blank : (from : Strand) (trace : Trace) (k : ℕ) (x : Item) → Follows b from trace → slice_get trace.items k ≡ Some x → IsBlank x
  trace_blank from trace k x f e =
      blank_at trace.items k x (subst (λ (xs : List Item). AllBlank xs) f.is.items (units_blank f.count (started from (reads_of trace.items)) tt)) e
