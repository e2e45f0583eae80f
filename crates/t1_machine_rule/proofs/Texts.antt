-- The numbers of a replay fit: what its items got and put, and the trap that ended it.
use Rattle.std.proofs.Common.{◌≡◌, ℕ, zero, suc, ◌*◌, ◌^◌, ◌<◌, ◌==◌, nat_lt, Bool, true, false, if◌then◌else◌, List, [], ◌∷◌, ◌++◌, map, Option, Some, None, refl, ◌∙◌, subst, inl, inr, arith}
use Rattle.std.specs.List.{slice_get}
use Rattle.std.proofs.lemmas.Bool.{cases_Bool, ltb-true}
use Rattle.std.proofs.lemmas.Nat.{pow_pos}
use Rattle.t1_decode.specs.Words.{insn_of}
use Rattle.t1_state.specs.declared.strand.Strand.{Strand}
use Rattle.t1_state.specs.Interrupts.{due_of}
use Rattle.t1_exec.specs.declared.need.Need.{Need}
use Rattle.t1_exec.specs.declared.need.Need.TheVariants as need
use Rattle.t1_exec.specs.declared.need.AtomicOp.{AtomicOp}
use Rattle.t1_exec.specs.declared.need.AtomicOp.TheVariants.{Swap, Cas}
use Rattle.t1_exec.specs.Needs.{need_of, OpFits}
use Rattle.t1_event.specs.declared.item.Item.{Item}
use Rattle.t1_event.specs.declared.trace.Trace.{Trace}
use Rattle.t1_event.specs.declared.trace.Ending.{Ending}
use Rattle.t1_event.specs.declared.trace.Ending.TheVariants as ending
use Rattle.t1_event.specs.Kinds.{IsRead, IsChanging}
use Rattle.t1_event.specs.Items.{fetch_item, load_item, store_item, membar_item, flush_item, reads_of, unplaced}
use Rattle.t1_joint.specs.Replay.{End, Running, Starved, Done, Replay, Bounds, atomic_item, trapped, with_value, with_read, met, with_word, fetched, is_fetchable, begun, begun_or_spent, unit_at, units, started}
use Rattle.t1_joint.specs.Follows.{ending_of, Follows}
use Rattle.t1_machine_rule.proofs.Values.{IsSmall, IsSmallNeed, due_small, need_small}

-- what an item got and put are numbers of its size
pub record HasNumbers (x : Item) : Type 0 where
  pub got : IsRead x.kind → x.got < 2 ^ (8 * x.size)
  pub put : IsChanging x.kind → x.put < 2 ^ (8 * x.size)

abbrev AllNumbers : List Item → Type 0
AllNumbers [] = Unit {0}
AllNumbers (x ∷ xs) = HasNumbers x × AllNumbers xs

numbers_more : (xs : List Item) (x : Item) → AllNumbers xs → HasNumbers x → AllNumbers (xs ++ x ∷ [])
numbers_more [] x a h = (h, tt)
numbers_more (y ∷ xs) x a h = (a.0, numbers_more xs x a.1 h)

-- the trap that ended it
abbrev pub IsSmallEnding : Ending → Type 0
IsSmallEnding ending.Halted = Unit {0}
IsSmallEnding ending.Spent = Unit {0}
IsSmallEnding (ending.Fault number) = number < 512

abbrev IsSmallEnd : End → Type 0
IsSmallEnd Running = Unit {0}
IsSmallEnd Starved = Unit {0}
IsSmallEnd (Done e) = IsSmallEnding e

record Fits (r : Replay) : Type 0 where
  items : AllNumbers r.items
  end : IsSmallEnd r.end

-- ---- items

fetch_numbers : (pc word : ℕ) → word < 2 ^ 32 → HasNumbers (fetch_item pc word)
fetch_numbers pc word l = record { got = λ read. l; put = λ changes. cc }

load_numbers : (addr size value : ℕ) → value < 2 ^ (8 * size) → HasNumbers (load_item addr size value)
load_numbers addr size value l = record { got = λ read. l; put = λ changes. cc }

store_numbers : (addr size value : ℕ) → value < 2 ^ (8 * size) → HasNumbers (store_item addr size value)
store_numbers addr size value l = record { got = λ read. cc; put = λ changes. l }

membar_numbers : (mask : ℕ) → HasNumbers (membar_item mask)
membar_numbers mask = record { got = λ read. cc; put = λ changes. cc }

flush_numbers : HasNumbers flush_item
flush_numbers = record { got = λ read. cc; put = λ changes. cc }

atomic_numbers : (addr size : ℕ) (op : AtomicOp) (value : ℕ) → OpFits size op → value < 2 ^ (8 * size) → HasNumbers (atomic_item addr size op value)
atomic_numbers addr size (Swap new) value p l = record { got = λ read. l; put = λ changes. p }
atomic_numbers addr size (Cas expect new) value p l = record { got = λ read. l; put = λ changes. by (value == expect) }
  where
    by : (b : Bool) → (if b then new else 0) < 2 ^ (8 * size)
    by true = p.1
    by false = pow_pos (8 * size)

module _ (b : Bounds) where
  trap_fits : (s : Strand) (items : List Item) (reads : List ℕ) (number : ℕ) → number < 512 → AllNumbers items → Fits (trapped s items reads number)
  trap_fits s items reads number l a = record { items = a; end = elim (cases_Bool (s.tl == 6)) [ inl e ↦ rw e l | inr e ↦ rw e tt ] }

  value_fits : (s : Strand) (word : ℕ) (items : List Item) (make : ℕ → Item) (value : ℕ) (reads : List ℕ) (fits : Bool) → AllNumbers items → (fits ≡ true → HasNumbers (make value))
      → Fits (with_value s word items make value reads fits)
  value_fits s word items make value reads true a h = record { items = numbers_more items (make value) a (h refl); end = tt }
  value_fits s word items make value reads false a h = record { items = a; end = tt }

  read_fits : (s : Strand) (word : ℕ) (items : List Item) (size : ℕ) (make : ℕ → Item) (reads : List ℕ) → AllNumbers items → ((value : ℕ) → value < 2 ^ (8 * size) → HasNumbers (make value))
      → Fits (with_read s word items size make reads)
  read_fits s word items size make [] a h = record { items = a; end = tt }
  read_fits s word items size make (value ∷ reads) a h =
      value_fits s word items make value reads (nat_lt value (2 ^ (8 * size))) a (λ e. h value (ltb-true value (2 ^ (8 * size)) e))

  met_fits : (s : Strand) (word : ℕ) (items : List Item) (reads : List ℕ) (n : Need) → IsSmallNeed n → AllNumbers items → Fits (met s word items reads n)
  met_fits s word items reads need.Plain p a = record { items = a; end = tt }
  met_fits s word items reads need.Halt p a = record { items = a; end = tt }
  met_fits s word items reads (need.Trap number) p a = trap_fits s items reads number p a
  met_fits s word items reads (need.Membar mask) p a = record { items = numbers_more items (membar_item mask) a (membar_numbers mask); end = tt }
  met_fits s word items reads need.Flush p a = record { items = numbers_more items flush_item a flush_numbers; end = tt }
  met_fits s word items reads (need.Store addr size value) p a = record { items = numbers_more items (store_item addr size value) a (store_numbers addr size value p); end = tt }
  met_fits s word items reads (need.Load addr size) p a = read_fits s word items size (load_item addr size) reads a (λ value l. load_numbers addr size value l)
  met_fits s word items reads (need.Atomic addr size op) p a = read_fits s word items size (atomic_item addr size op) reads a (λ value l. atomic_numbers addr size op value p l)

  word_fits : (s : Strand) (items : List Item) (word : ℕ) (reads : List ℕ) (fits : Bool) → nat_lt word (2 ^ 32) ≡ fits → AllNumbers items → Fits (with_word b s items word reads fits)
  word_fits s items word reads true e a =
      met_fits s word (items ++ fetch_item s.pc word ∷ []) reads (need_of s (insn_of word) b.ram) (need_small s (insn_of word) b.ram)
      (numbers_more items (fetch_item s.pc word) a (fetch_numbers s.pc word (ltb-true word (2 ^ 32) e)))
  word_fits s items word reads false e a = record { items = a; end = tt }

  fetched_fits : (s : Strand) (items : List Item) (reads : List ℕ) → AllNumbers items → Fits (fetched b s items reads)
  fetched_fits s items [] a = record { items = a; end = tt }
  fetched_fits s items (word ∷ reads) a = word_fits s items word reads (nat_lt word (2 ^ 32)) refl a

  begun_fits : (s : Strand) (items : List Item) (reads : List ℕ) (due : Option ℕ) (can : Bool) → IsSmall due → AllNumbers items → Fits (begun b s items reads due can)
  begun_fits s items reads (Some number) can l a = trap_fits s items reads number l a
  begun_fits s items reads None true l a = fetched_fits s items reads a
  begun_fits s items reads None false l a = trap_fits s items reads 0x00a (omega arith) a

  spent_fits : (s : Strand) (items : List Item) (reads : List ℕ) (spent : Bool) → AllNumbers items → Fits (begun_or_spent b s items reads spent)
  spent_fits s items reads true a = record { items = a; end = tt }
  spent_fits s items reads false a = begun_fits s items reads (due_of s) (is_fetchable b.ram s.pc) (due_small s) a

  unit_fits : (r : Replay) (e : End) → Fits r → Fits (unit_at b r e)
  unit_fits r Running f = spent_fits r.strand r.items r.reads (r.strand.units == b.budget) f.items
  unit_fits r Starved f = f
  unit_fits r (Done e) f = f

  units_fit : (n : ℕ) (r : Replay) → Fits r → Fits (units b n r)
  units_fit zero r f = f
  units_fit (suc n) r f = unit_fits (units b n r) (units b n r).end (units_fit n r f)

  -- ---- a trace that follows the table

  numbers_at : (xs : List Item) (k : ℕ) (x : Item) → AllNumbers (map unplaced xs) → slice_get xs k ≡ Some x → HasNumbers x
  numbers_at [] k x a e = let clash : ◌≡◌ {A = Option Item} None (Some x) = e in cc
  numbers_at (y ∷ xs) zero x a e =
      let same : y ≡ x = cc (e) in
      let h = a.0 in
      subst (λ (z : Item). HasNumbers z) same (record { got = h.got; put = h.put })
  numbers_at (y ∷ xs) (suc k) x a e = numbers_at xs k x a.1 e

  end_small : (e : End) (last : Ending) → IsSmallEnd e → ending_of e ≡ Some last → IsSmallEnding last
  end_small Running last p e = let clash : ◌≡◌ {A = Option Ending} None (Some last) = e in cc
  end_small Starved last p e = let clash : ◌≡◌ {A = Option Ending} None (Some last) = e in cc
  end_small (Done x) last p e = let same : x ≡ last = cc (e) in subst (λ (y : Ending). IsSmallEnding y) same p

  replay_fits : (from : Strand) (trace : Trace) (f : Follows b from trace) → Fits (units b f.count (started from (reads_of trace.items)))
  replay_fits from trace f = units_fit f.count (started from (reads_of trace.items)) (record { items = tt; end = tt })

  pub trace_numbers : (from : Strand) (trace : Trace) (k : ℕ) (x : Item) → Follows b from trace → slice_get trace.items k ≡ Some x → HasNumbers x
  trace_numbers from trace k x f e = numbers_at trace.items k x (subst (λ (xs : List Item). AllNumbers xs) f.is.items (replay_fits from trace f).items) e

  pub trace_ending : (from : Strand) (trace : Trace) (last : Ending) → Follows b from trace → trace.ending ≡ Some last → IsSmallEnding last
  trace_ending from trace last f e =
      end_small (units b f.count (started from (reads_of trace.items))).end last (replay_fits from trace f).end (f.is.ending ∙ e)
