-- A replay makes at most two items for each unit.
use Rattle.std.proofs.Common.{◌≡◌, ℕ, zero, suc, ◌+◌, ◌*◌, ◌^◌, ◌<◌, ◌≤◌, ◌==◌, nat_lt, Bool, true, false, List, [], ◌∷◌, ◌++◌, length, Option, Some, None, refl, ap, sym, ◌∙◌, subst, inl, inr, arith, length-append}
use Rattle.std.proofs.lemmas.Bool.{cases_Bool, eqb-false}
use Rattle.std.proofs.lemmas.List.{length-map}
use Rattle.t1_decode.specs.Words.{insn_of}
use Rattle.t1_state.specs.declared.strand.Strand.{Strand}
use Rattle.t1_state.specs.Interrupts.{due_of}
use Rattle.t1_state.specs.Traps.{in_handler}
use Rattle.t1_exec.specs.declared.need.Need.{Need}
use Rattle.t1_exec.specs.declared.need.Need.TheVariants as need
use Rattle.t1_exec.specs.Needs.{need_of}
use Rattle.t1_exec.specs.Meanings.{after_of}
use Rattle.t1_event.specs.declared.item.Item.{Item}
use Rattle.t1_event.specs.declared.trace.Trace.{Trace}
use Rattle.t1_event.specs.Items.{fetch_item, load_item, store_item, membar_item, flush_item, reads_of, unplaced}
use Rattle.t1_joint.specs.Replay.{End, Running, Starved, Done, Replay, Bounds, fetch_trap, atomic_item, trapped, with_value, with_read, met, with_word, fetched, is_fetchable, begun, begun_or_spent, unit_at, units, started}
use Rattle.t1_joint.specs.Follows.{IsStopped, Follows}
use Rattle.t1_bound.proofs.Units.{after_units}

one_longer : (items : List Item) (x : Item) → length (items ++ x ∷ []) ≡ length items + 1
one_longer items x = length-append items (x ∷ [])

module _ (b : Bounds) where
  -- the items of so many units; one that has stopped may have stopped in the midst of a unit
  abbrev IsFew : ℕ → ℕ → End → Type 0
  IsFew count units Running = (count ≤ 2 * units) × (units ≤ b.budget)
  IsFew count units Starved = count ≤ 2 * b.budget
  IsFew count units (Done e) = count ≤ 2 * b.budget

  abbrev AreFew : Replay → Type 0
  AreFew r = IsFew (length r.items) r.strand.units r.end

  trap_few : (s : Strand) (items : List Item) (reads : List ℕ) (number : ℕ) → length items ≤ 2 * s.units + 2 → s.units < b.budget → AreFew (trapped s items reads number)
  unfolding in_handler
  trap_few s items reads number l u = elim (cases_Bool (s.tl == 6)) [ inl e ↦ rw e (omega (arith, l, u)) | inr e ↦ rw e (omega (arith, l), omega (arith, u)) ]

  act_few : (s : Strand) (word value : ℕ) (count : ℕ) → count ≤ 2 * s.units + 2 → s.units < b.budget → IsFew count (after_of s (insn_of word) value).units Running
  act_few s word value count l u = let n = after_units s (insn_of word) value in (omega (arith, l, n), omega (arith, u, n))

  more_few : (s : Strand) (word : ℕ) (items : List Item) (x : Item) → length items ≤ 2 * s.units + 1 → s.units < b.budget → IsFew (length (items ++ x ∷ [])) (after_of s (insn_of word) 0).units Running
  more_few s word items x l u = act_few s word 0 (length (items ++ x ∷ [])) (let n = one_longer items x in omega (arith, l, n)) u

  value_few : (s : Strand) (word : ℕ) (items : List Item) (make : ℕ → Item) (value : ℕ) (reads : List ℕ) (fits : Bool) → length items ≤ 2 * s.units + 1 → s.units < b.budget
      → AreFew (with_value s word items make value reads fits)
  value_few s word items make value reads true l u = act_few s word value (length (items ++ make value ∷ [])) (let n = one_longer items (make value) in omega (arith, l, n)) u
  value_few s word items make value reads false l u = omega (arith, l, u)

  read_few : (s : Strand) (word : ℕ) (items : List Item) (size : ℕ) (make : ℕ → Item) (reads : List ℕ) → length items ≤ 2 * s.units + 1 → s.units < b.budget
      → AreFew (with_read s word items size make reads)
  read_few s word items size make [] l u = omega (arith, l, u)
  read_few s word items size make (value ∷ reads) l u = value_few s word items make value reads (nat_lt value (2 ^ (8 * size))) l u

  met_few : (s : Strand) (word : ℕ) (items : List Item) (reads : List ℕ) (n : Need) → length items ≤ 2 * s.units + 1 → s.units < b.budget → AreFew (met s word items reads n)
  met_few s word items reads need.Plain l u = act_few s word 0 (length items) (omega (arith, l)) u
  met_few s word items reads need.Halt l u = omega (arith, l, u)
  met_few s word items reads (need.Trap number) l u = trap_few s items reads number (omega (arith, l)) u
  met_few s word items reads (need.Membar mask) l u = more_few s word items (membar_item mask) l u
  met_few s word items reads need.Flush l u = more_few s word items flush_item l u
  met_few s word items reads (need.Store addr size value) l u = more_few s word items (store_item addr size value) l u
  met_few s word items reads (need.Load addr size) l u = read_few s word items size (load_item addr size) reads l u
  met_few s word items reads (need.Atomic addr size op) l u = read_few s word items size (atomic_item addr size op) reads l u

  word_few : (s : Strand) (items : List Item) (word : ℕ) (reads : List ℕ) (fits : Bool) → length items ≤ 2 * s.units → s.units < b.budget → AreFew (with_word b s items word reads fits)
  word_few s items word reads true l u =
      met_few s word (items ++ fetch_item s.pc word ∷ []) reads (need_of s (insn_of word) b.ram) (let n = one_longer items (fetch_item s.pc word) in omega (arith, l, n)) u
  word_few s items word reads false l u = omega (arith, l, u)

  fetched_few : (s : Strand) (items : List Item) (reads : List ℕ) → length items ≤ 2 * s.units → s.units < b.budget → AreFew (fetched b s items reads)
  fetched_few s items [] l u = omega (arith, l, u)
  fetched_few s items (word ∷ reads) l u = word_few s items word reads (nat_lt word (2 ^ 32)) l u

  begun_few : (s : Strand) (items : List Item) (reads : List ℕ) (due : Option ℕ) (can : Bool) → length items ≤ 2 * s.units → s.units < b.budget → AreFew (begun b s items reads due can)
  begun_few s items reads (Some number) can l u = trap_few s items reads number (omega (arith, l)) u
  begun_few s items reads None true l u = fetched_few s items reads l u
  begun_few s items reads None false l u = trap_few s items reads fetch_trap (omega (arith, l)) u

  spent_few : (s : Strand) (items : List Item) (reads : List ℕ) (spent : Bool) → (s.units == b.budget) ≡ spent → length items ≤ 2 * s.units → s.units ≤ b.budget
      → AreFew (begun_or_spent b s items reads spent)
  spent_few s items reads true e l u = omega (arith, l, u)
  spent_few s items reads false e l u =
      begun_few s items reads (due_of s) (is_fetchable b.ram s.pc) l (let ne = eqb-false s.units b.budget e in omega (arith, ne, u))

  unit_few : (r : Replay) (e : End) → IsFew (length r.items) r.strand.units e → r.end ≡ e → AreFew (unit_at b r e)
  unit_few r Running l is = spent_few r.strand r.items r.reads (r.strand.units == b.budget) refl l.0 l.1
  unit_few r Starved l is = subst (λ (e : End). IsFew (length r.items) r.strand.units e) (sym is) l
  unit_few r (Done ending) l is = subst (λ (e : End). IsFew (length r.items) r.strand.units e) (sym is) l

  units_few : (n : ℕ) (r : Replay) → AreFew r → AreFew (units b n r)
  units_few zero r l = l
  units_few (suc n) r l = unit_few (units b n r) (units b n r).end (units_few n r l) refl

  stopped_few : (count units : ℕ) (e : End) → IsStopped e → IsFew count units e → count ≤ 2 * b.budget
  stopped_few count units Running h l = absurd h
  stopped_few count units Starved h l = l
  stopped_few count units (Done e) h l = l

  -- a trace that follows the table, from a strand that has done nothing
  pub trace_few : (from : Strand) (trace : Trace) → from.units ≡ 0 → Follows b from trace → length trace.items ≤ 2 * b.budget
  trace_few from trace none f =
      let r : Replay = units b f.count (started from (reads_of trace.items)) in
      let few : AreFew r = units_few f.count (started from (reads_of trace.items)) (omega arith, omega (arith, none)) in
      let l : length r.items ≤ 2 * b.budget = stopped_few (length r.items) r.strand.units r.end f.is.stopped few in
      let same : length r.items ≡ length trace.items = ap (λ (xs : List Item). length xs) f.is.items ∙ length-map trace.items unplaced in
      omega (arith, l, same)
