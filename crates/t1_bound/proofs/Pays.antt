-- What a strand pays for what it does.
use Rattle.std.proofs.Common.{◌≡◌, ◌≤◌, ◌+◌, ◌-◌, ◌*◌, ◌<◌, ◌==◌, ℕ, Bool, true, false, List, [], ◌∷◌, ◌++◌, length, refl, arith, if◌then◌else◌}
use Rattle.std.proofs.lemmas.Bool.{eqb-false}
use Rattle.t1_shape.specs.Shapes.{Shape}
use Rattle.t1_decode.specs.Words.{insn_of}
use Rattle.t1_state.specs.declared.strand.Strand.{Strand}
use Rattle.t1_state.specs.declared.strand.Entered.TheVariants as entry
use Rattle.t1_state.specs.Traps.{in_handler}
use Rattle.t1_exec.specs.Meanings.{after_of}
use Rattle.t1_packet.specs.Ops.{dest_of}
use Rattle.t1_sbuf.specs.declared.entry.Entry.{Entry}
use Rattle.t1_event.specs.declared.item.Item.{Item}
use Rattle.t1_event.specs.declared.item.How.{How}
use Rattle.t1_event.specs.declared.trace.Ending.{Ending}
use Rattle.t1_event.specs.declared.trace.Ending.TheVariants as ending
use Rattle.t1_event.specs.Items.{fetch_item, store_item, load_item}
use Rattle.t1_core.specs.declared.phase.Phase.{Phase}
use Rattle.t1_core.specs.declared.phase.Phase.TheVariants as phase
use Rattle.t1_core.specs.Threads.{ThreadState, word_of, thread_need, next_phase, entry_phase, placed, read_item, unit_done, halted, trapped, word_came, load_came, value_came, stored}
use Rattle.t1_bound.specs.Weights.{Weights, phase_weight, store_weight, buffer_weight, thread_weight, thread_tokens}
use Rattle.t1_bound.specs.Sound.{IsLiveAt, IsLive}
use Rattle.t1_bound.proofs.Lists.{times_next}
use Rattle.t1_bound.proofs.Units.{after_units, handler_units}

-- a strand pays: from its weight, and from its tokens with what its units gave
pub record Pays (w : Weights) (paid : ℕ) (before after : ThreadState) : Type 0 where
  pub weight : thread_weight w after + paid ≤ thread_weight w before
  pub tokens : thread_tokens w after + w.fetch * before.strand.units + paid ≤ thread_tokens w before + w.fetch * after.strand.units
  pub live : IsLive after

-- a phase can pay, however many units are left
abbrev pub CanPay : Weights → ℕ → Phase → Type 0
CanPay w paid p = (units : ℕ) → paid + w.fetch * units ≤ phase_weight w units p

-- a phase can pay for another one
abbrev pub CanGo : Weights → ℕ → Phase → Phase → Type 0
CanGo w paid p q = (units : ℕ) → phase_weight w units q + paid ≤ phase_weight w units p

-- ---- the next phase, where a unit ended with u of b done before

next_weight : (w : Weights) (u b : ℕ) → u < b → phase_weight w (b - (u + 1 + 1)) (next_phase (u + 1) b) ≤ w.fetch * (b - (u + 1))
next_weight w u b h = at (u + 1 == b) refl
  where
    at : (e : Bool) → (u + 1 == b) ≡ e → phase_weight w (b - (u + 1 + 1)) (if e then phase.Ended ending.Spent else phase.Fetch) ≤ w.fetch * (b - (u + 1))
    at true e = omega arith
    at false e =
        let ne = eqb-false (u + 1) b e in
        let more : b - (u + 1) ≡ b - (u + 1 + 1) + 1 = omega (arith, ne) in
        let r = times_next w.fetch (b - (u + 1 + 1)) in
        rw more (omega (arith, r))

next_tokens : (w : Weights) (u b : ℕ) → phase_weight w 0 (next_phase u b) ≤ w.fetch
next_tokens w u b = at (u == b)
  where
    at : (e : Bool) → phase_weight w 0 (if e then phase.Ended ending.Spent else phase.Fetch) ≤ w.fetch
    at true = omega arith
    at false = omega arith

next_live : (u b : ℕ) → u < b → IsLiveAt (u + 1) b (next_phase (u + 1) b)
next_live u b h = at (u + 1 == b) refl
  where
    at : (e : Bool) → (u + 1 == b) ≡ e → IsLiveAt (u + 1) b (if e then phase.Ended ending.Spent else phase.Fetch)
    at true e = tt
    at false e = let ne = eqb-false (u + 1) b e in omega (arith, ne)

push_weight : (w : Weights) (es : List Entry) (e : Entry) → buffer_weight w (es ++ e ∷ []) ≡ buffer_weight w es + store_weight w e.sent
push_weight w [] e = omega arith
push_weight w (f ∷ fs) e = let k = push_weight w fs e in omega (arith, k)

module _ (w : Weights) (paid : ℕ) (t : ThreadState) where
  -- a unit ends, with more stores in the buffer
  ends_pays : (more : ℕ) (s : Strand) (es : List Entry) (xs : List Item) → t.strand.units < t.budget → s.units ≡ t.strand.units + 1
      → buffer_weight w es ≡ buffer_weight w t.stores + more → CanPay w (paid + more) t.phase
      → Pays w paid t (record t { strand = s; phase = next_phase s.units t.budget; stores = es; items = xs })
  ends_pays more s es xs live one buffer can =
      let now = can (t.budget - (t.strand.units + 1)) in
      let alone = can 0 in
      let n = next_weight w t.strand.units t.budget live in
      let k = next_tokens w (t.strand.units + 1) t.budget in
      let gives = times_next w.fetch t.strand.units in
      record {
        weight = rw one (omega (arith, n, now, buffer));
        tokens = rw one (omega (arith, k, alone, buffer, gives));
        live = rw one (next_live t.strand.units t.budget live);
      }

  -- the strand ends, with no fewer units done
  over_pays : (s : Strand) (e : Ending) → w.fetch * t.strand.units ≤ w.fetch * s.units → CanPay w paid t.phase → Pays w paid t (record t { strand = s; phase = phase.Ended e })
  over_pays s e more can =
      let now = can (t.budget - (t.strand.units + 1)) in
      let alone = can 0 in
      record { weight = omega (arith, now); tokens = omega (arith, alone, more); live = tt }

  -- the unit goes on in another phase
  pub goes_pay : (q : Phase) (xs : List Item) → IsLiveAt t.strand.units t.budget q → CanGo w paid t.phase q → Pays w paid t (record t { phase = q; items = xs })
  goes_pay q xs live can =
      let now = can (t.budget - (t.strand.units + 1)) in
      let alone = can 0 in
      record { weight = omega (arith, now); tokens = omega (arith, alone); live = live }

  -- ---- what happens to a strand

  pub done_pays : (value : ℕ) (xs : List Item) → t.strand.units < t.budget → CanPay w paid t.phase → Pays w paid t (unit_done t value xs)
  unfolding unit_done
  done_pays value xs live can =
      ends_pays 0 (after_of t.strand (insn_of (word_of t.phase)) value) t.stores (t.items ++ xs) live (after_units t.strand (insn_of (word_of t.phase)) value) (omega arith)
      (λ units. let now = can units in omega (arith, now))

  pub loads_pay : (addr size value : ℕ) (how : How) → t.strand.units < t.budget → CanPay w paid t.phase → Pays w paid t (load_came t addr size value how)
  unfolding load_came
  loads_pay addr size value how live can = done_pays value (placed (load_item addr size value) how ∷ []) live can

  pub value_pays : (ram value : ℕ) (how : How) → t.strand.units < t.budget → CanPay w paid t.phase → Pays w paid t (value_came ram t value how)
  unfolding value_came
  value_pays ram value how live can = done_pays value (placed (read_item (thread_need ram t) value) how ∷ []) live can

  pub halt_pays : CanPay w paid t.phase → Pays w paid t (halted t)
  unfolding halted
  halt_pays can =
      let one = after_units t.strand (insn_of (word_of t.phase)) 0 in
      let gives = times_next w.fetch t.strand.units in
      over_pays (after_of t.strand (insn_of (word_of t.phase)) 0) ending.Halted (rw one (omega (arith, gives))) can

  pub store_pays : (chip : Shape) (addr size value : ℕ) → t.strand.units < t.budget → CanPay w (paid + w.store) t.phase → Pays w paid t (stored chip t addr size value)
  unfolding stored unit_done
  store_pays chip addr size value live can =
      let e : Entry = record { item = length t.items; addr = addr; size = size; value = value; sent = false; dest = dest_of chip addr } in
      ends_pays w.store (after_of t.strand (insn_of (word_of t.phase)) 0) (t.stores ++ e ∷ []) (t.items ++ store_item addr size value ∷ []) live
      (after_units t.strand (insn_of (word_of t.phase)) 0) (push_weight w t.stores e) can

  trap_at : (last : Bool) (number : ℕ) (s : Strand) → s.units ≡ t.strand.units + 1 → t.strand.units < t.budget → CanPay w paid t.phase
      → Pays w paid t (record t { strand = if last then t.strand else s; phase = entry_phase (if last then entry.Fault number else entry.Taken) (if last then t.strand else s).units t.budget })
  trap_at true number s one live can = over_pays t.strand (ending.Fault number) (omega arith) can
  trap_at false number s one live can = ends_pays 0 s t.stores t.items live one (omega arith) (λ units. let now = can units in omega (arith, now))

  pub trap_pays : (number : ℕ) → t.strand.units < t.budget → CanPay w paid t.phase → Pays w paid t (trapped t number)
  unfolding trapped
  trap_pays number live can = trap_at (t.strand.tl == 6) number (in_handler t.strand number) (handler_units t.strand number) live can

  pub word_pays : (word : ℕ) (how : How) → t.strand.units < t.budget → CanGo w paid t.phase (phase.Have word) → Pays w paid t (word_came t word how)
  unfolding word_came
  word_pays word how live can = goes_pay (phase.Have word) (t.items ++ placed (fetch_item t.strand.pc word) how ∷ []) live can

  -- with fewer stores in the buffer, or the same
  pub buffer_pays : (es : List Entry) (ts : List ℕ) (xs : List Item) → IsLive t → buffer_weight w es + paid ≤ buffer_weight w t.stores
      → Pays w paid t (record t { stores = es; times = ts; items = xs })
  buffer_pays es ts xs live less = record { weight = omega (arith, less); tokens = omega (arith, less); live = live }
