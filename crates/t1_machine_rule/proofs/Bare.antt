-- A membar or flush of a strand never gets a place: what happens to a strand keeps this.
use Rattle.t1_shape.specs.Shapes.{Shape}
use Rattle.std.proofs.Common.{◌≡◌, ℕ, ◌==◌, false, List, [], ◌∷◌, ◌++◌, length, set, drop, Option, Some, None, refl, sym, subst, inl, inr}
use Rattle.std.specs.List.{slice_get}
use Rattle.std.proofs.lemmas.Bool.{cases_Bool}
use Rattle.std.proofs.lemmas.List.{append-nil}
use Rattle.std.proofs.lemmas.Option.{slice_get_within}
use Rattle.t1_tso.proofs.Joint.{store_access}
use Rattle.t1_decode.specs.Words.{insn_of}
use Rattle.t1_state.specs.declared.strand.Strand.{Strand}
use Rattle.t1_state.specs.declared.strand.Entered.{Entered}
use Rattle.t1_state.specs.declared.strand.Entered.TheVariants as entry
use Rattle.t1_state.specs.Traps.{entered_by}
use Rattle.t1_exec.specs.declared.need.Need.{Need}
use Rattle.t1_exec.specs.declared.need.Need.TheVariants as need
use Rattle.t1_exec.specs.declared.need.AtomicOp.TheVariants.{Swap, Cas}
use Rattle.t1_exec.specs.Needs.{need_of}
use Rattle.t1_exec.specs.Meanings.{after_of}
use Rattle.t1_packet.specs.Ops.{dest_of}
use Rattle.t1_sbuf.specs.declared.entry.Entry.{Entry}
use Rattle.t1_sbuf.specs.Entries.{sent_next}
use Rattle.t1_event.specs.declared.item.Item.{Item}
use Rattle.t1_event.specs.declared.item.ItemKind.TheVariants as kind
use Rattle.t1_event.specs.declared.item.How.{How}
use Rattle.t1_event.specs.declared.item.How.TheVariants.{Unplaced}
use Rattle.t1_event.specs.Kinds.{IsAccess}
use Rattle.t1_event.specs.Items.{fetch_item, load_item, store_item}
use Rattle.t1_joint.specs.Waits.{HasItem}
use Rattle.t1_fit.proofs.Lists.{slice_front}
use Rattle.t1_core.specs.declared.phase.Phase.{Phase}
use Rattle.t1_core.specs.declared.phase.Phase.TheVariants as phase
use Rattle.t1_core.specs.Threads.{ThreadState, word_of, thread_need, next_phase, entry_phase, placed, unit_done, halted, trapped, word_came, load_came, read_item, value_came, stored, in_phase, placed_at, store_sent, acknowledged}
use Rattle.t1_core.specs.Replays.{IsReading}
use Rattle.t1_machine_rule.proofs.Lists.{slice_push, slice_cases, slice_behind}

-- an item has a place only where it is an access
abbrev pub IsBareItem : Item → Type 0
IsBareItem x = (IsAccess x.kind → ⊥) → x.how ≡ Unplaced

pub bare_access : (x : Item) → IsAccess x.kind → IsBareItem x
bare_access x a none = absurd (none a)

-- a store stands at this number
abbrev pub IsStoreAt : List Item → ℕ → Type 0
IsStoreAt items k = (x : Item) × HasItem items k x × (x.kind ≡ kind.Store)

abbrev pub AreStoresAt : List Item → List Entry → Type 0
AreStoresAt items [] = Unit {0}
AreStoresAt items (e ∷ es) = IsStoreAt items e.item × AreStoresAt items es

-- where a strand awaits a value, its instruction reads one
abbrev pub AsksRead : ℕ → Strand → Phase → Type 0
AsksRead ram s phase.Fetch = Unit {0}
AsksRead ram s (phase.Have word) = Unit {0}
AsksRead ram s (phase.OutFetch way seen) = Unit {0}
AsksRead ram s (phase.OutData word way seen) = IsReading (need_of s (insn_of word) ram)
AsksRead ram s (phase.Ended e) = Unit {0}

pub record IsBare (ram : ℕ) (t : ThreadState) : Type 0 where
  pub items : (i : ℕ) (x : Item) → HasItem t.items i x → IsBareItem x
  pub stores : AreStoresAt t.items t.stores
  pub asks : AsksRead ram t.strand t.phase

-- ---- phases

pub next_asks : (ram units budget : ℕ) (s : Strand) → AsksRead ram s (next_phase units budget)
next_asks ram units budget s = elim (cases_Bool (units == budget)) [ inl e ↦ rw e tt | inr e ↦ rw e tt ]

entry_asks : (ram units budget : ℕ) (s : Strand) (e : Entered) → AsksRead ram s (entry_phase e units budget)
entry_asks ram units budget s entry.Taken = next_asks ram units budget s
entry_asks ram units budget s (entry.Fault number) = tt

-- ---- items

store_more : (items : List Item) (xs : List Item) (k : ℕ) → IsStoreAt items k → IsStoreAt (items ++ xs) k
store_more items xs k s = (s.0, slice_front items xs k s.0 s.1, s.2)

stores_more : (items xs : List Item) (es : List Entry) → AreStoresAt items es → AreStoresAt (items ++ xs) es
stores_more items xs [] a = tt
stores_more items xs (e ∷ es) a = (store_more items xs e.item a.0, stores_more items xs es a.1)

more_items : (items : List Item) (y : Item) → ((i : ℕ) (x : Item) → HasItem items i x → IsBareItem x) → IsBareItem y → (i : ℕ) (x : Item) → HasItem (items ++ y ∷ []) i x → IsBareItem x
more_items items y old new i x h =
    elim (slice_push items y i x h) [
      | inl p ↦ old i x p
      | inr p ↦ subst (λ (z : Item). IsBareItem z) p.1 new
    ]

-- ---- what happens to a strand

module _ (chip : Shape) (ram : ℕ) where
  -- one item more, and another state and phase
  pub item_bare : (t : ThreadState) (y : Item) (s : Strand) (p : Phase) → IsBare ram t → IsBareItem y → AsksRead ram s p → IsBare ram (record t { strand = s; items = t.items ++ y ∷ []; phase = p })
  item_bare t y s p b i a = record {
    items = more_items t.items y b.items i;
    stores = stores_more t.items (y ∷ []) t.stores b.stores;
    asks = a;
  }

  -- no item more
  pub same_bare : (t : ThreadState) (s : Strand) (p : Phase) → IsBare ram t → AsksRead ram s p → IsBare ram (record t { strand = s; phase = p })
  same_bare t s p b a = record { items = b.items; stores = b.stores; asks = a }

  pub unit_bare : (t : ThreadState) (value : ℕ) (y : Item) → IsBare ram t → IsBareItem y → IsBare ram (unit_done t value (y ∷ []))
  unfolding unit_done
  unit_bare t value y b i =
      let s : Strand = after_of t.strand (insn_of (word_of t.phase)) value in item_bare t y s (next_phase s.units t.budget) b i (next_asks ram s.units t.budget s)

  pub act_bare : (t : ThreadState) → IsBare ram t → IsBare ram (unit_done t 0 [])
  unfolding unit_done
  act_bare t b =
      let s : Strand = after_of t.strand (insn_of (word_of t.phase)) 0 in
      record {
        items = λ i x h. b.items i x (subst (λ (xs : List Item). HasItem xs i x) (append-nil t.items) h);
        stores = stores_more t.items [] t.stores b.stores;
        asks = next_asks ram s.units t.budget s;
      }

  pub halted_bare : (t : ThreadState) → IsBare ram t → IsBare ram (halted t)
  unfolding halted
  halted_bare t b = record { items = b.items; stores = b.stores; asks = tt }

  pub trapped_bare : (t : ThreadState) (number : ℕ) → IsBare ram t → IsBare ram (trapped t number)
  unfolding trapped
  trapped_bare t number b = record { items = b.items; stores = b.stores; asks = entry_asks ram _ t.budget _ (entered_by t.strand number) }

  pub word_bare : (t : ThreadState) (word : ℕ) (how : How) → IsBare ram t → IsBare ram (word_came t word how)
  unfolding word_came
  word_bare t word how b = item_bare t (placed (fetch_item t.strand.pc word) how) t.strand (phase.Have word) b (bare_access (placed (fetch_item t.strand.pc word) how) refl) tt

  pub load_bare : (t : ThreadState) (addr size value : ℕ) (how : How) → IsBare ram t → IsBare ram (load_came t addr size value how)
  unfolding load_came
  load_bare t addr size value how b = unit_bare t value (placed (load_item addr size value) how) b (bare_access (placed (load_item addr size value) how) refl)

  read_bare : (n : Need) (value : ℕ) (how : How) → IsReading n → IsBareItem (placed (read_item n value) how)
  read_bare (need.Load addr size) value how r = bare_access (placed (load_item addr size value) how) refl
  read_bare (need.Atomic addr size (Swap new)) value how r = λ none. absurd (none refl)
  read_bare (need.Atomic addr size (Cas expect new)) value how r = λ none. absurd (none refl)
  read_bare need.Plain value how r = absurd r
  read_bare need.Halt value how r = absurd r
  read_bare (need.Trap number) value how r = absurd r
  read_bare (need.Store addr size put) value how r = absurd r
  read_bare (need.Membar mask) value how r = absurd r
  read_bare need.Flush value how r = absurd r

  pub value_bare : (t : ThreadState) (value : ℕ) (how : How) → IsBare ram t → IsReading (thread_need ram t) → IsBare ram (value_came ram t value how)
  unfolding value_came
  value_bare t value how b r = unit_bare t value (placed (read_item (thread_need ram t) value) how) b (read_bare (thread_need ram t) value how r)

  stores_push : (items : List Item) (es : List Entry) (e : Entry) → AreStoresAt items es → IsStoreAt items e.item → AreStoresAt items (es ++ e ∷ [])
  stores_push items [] e a s = (s, tt)
  stores_push items (f ∷ es) e a s = (a.0, stores_push items es e a.1 s)

  pub stored_bare : (t : ThreadState) (addr size value : ℕ) → IsBare ram t → IsBare ram (stored chip t addr size value)
  unfolding stored unit_done
  stored_bare t addr size value b =
      let y : Item = store_item addr size value in
      let e : Entry = record { item = length t.items; addr = addr; size = size; value = value; sent = false; dest = dest_of chip addr } in
      let s : Strand = after_of t.strand (insn_of (word_of t.phase)) 0 in
      record {
        items = more_items t.items y b.items (bare_access y refl);
        stores = stores_push (t.items ++ y ∷ []) t.stores e (stores_more t.items (y ∷ []) t.stores b.stores) (y, slice_behind t.items [] y, refl);
        asks = next_asks ram s.units t.budget s;
      }

  pub phase_bare : (t : ThreadState) (p : Phase) → IsBare ram t → AsksRead ram t.strand p → IsBare ram (in_phase t p)
  phase_bare t p b a = same_bare t t.strand p b a

  next_stores : (items : List Item) (es : List Entry) → AreStoresAt items es → AreStoresAt items (sent_next es)
  unfolding sent_next
  next_stores items [] a = tt
  next_stores items (e ∷ es) a = elim (cases_Bool e.sent) [ inl s ↦ rw s (a.0, next_stores items es a.1) | inr s ↦ rw s (a.0, a.1) ]

  pub sent_bare : (t : ThreadState) (time : ℕ) → IsBare ram t → IsBare ram (store_sent t time)
  sent_bare t time b = record { items = b.items; stores = next_stores t.items t.stores b.stores; asks = b.asks }

  -- ---- the oldest store gets its place

  -- an item that gets a place is a store, and stays one
  set_store : (items : List Item) (k : ℕ) (x : Item) (how : How) (j : ℕ) → HasItem items k x → x.kind ≡ kind.Store → IsStoreAt items j → IsStoreAt (set items k (placed x how)) j
  set_store items k x how j h s a =
      slice_cases (λ (o : Option Item). (z : Item) × (o ≡ Some z) × (z.kind ≡ kind.Store)) items k (placed x how) j (slice_get_within items k x h)
      (λ e. (placed x how, refl, s))
      (λ ne. (a.0, a.1, a.2))

  set_stores : (items : List Item) (k : ℕ) (x : Item) (how : How) (es : List Entry) → HasItem items k x → x.kind ≡ kind.Store → AreStoresAt items es → AreStoresAt (set items k (placed x how)) es
  set_stores items k x how [] h s a = tt
  set_stores items k x how (e ∷ es) h s a = (set_store items k x how e.item h s a.0, set_stores items k x how es h s a.1)

  rest_stores : (items : List Item) (es : List Entry) → AreStoresAt items es → AreStoresAt items (drop 1 es)
  rest_stores items [] a = tt
  rest_stores items (e ∷ es) a = a.1

  placed_bare : (t : ThreadState) (k : ℕ) (x : Item) (how : How) (es : List Entry) (ts : List ℕ) → HasItem t.items k x → x.kind ≡ kind.Store → IsBare ram t → AreStoresAt t.items es
      → IsBare ram (record t { stores = es; times = ts; items = set t.items k (placed x how) })
  placed_bare t k x how es ts h s b a = record {
    items = λ i z g.
        slice_cases (λ (o : Option Item). (v : Item) → o ≡ Some v → IsBareItem v) t.items k (placed x how) i (slice_get_within t.items k x h)
        (λ e v g. let same : placed x how ≡ v = cc (g) in subst (λ (u : Item). IsBareItem u) same (λ none. absurd (none (store_access x.kind s))))
        (λ ne v g. b.items i v g) z g;
    stores = set_stores t.items k x how es h s a;
    asks = b.asks;
  }

  pub acknowledged_bare : (t : ThreadState) (e : Entry) (how : How) → slice_get t.stores 0 ≡ Some e → IsBare ram t → IsBare ram (acknowledged t e how)
  unfolding acknowledged
  acknowledged_bare t e how is b =
      let first : IsStoreAt t.items e.item = oldest t.stores is b.stores in
      subst (λ (o : Option Item). IsBare ram (record t { stores = drop 1 t.stores; times = drop 1 t.times; items = placed_at t.items e.item how o })) (sym first.1)
      (placed_bare t e.item first.0 how (drop 1 t.stores) (drop 1 t.times) first.1 first.2 b (rest_stores t.items t.stores b.stores))
    where
      oldest : (es : List Entry) → slice_get es 0 ≡ Some e → AreStoresAt t.items es → IsStoreAt t.items e.item
      oldest [] f a = let clash : ◌≡◌ {A = Option Entry} None (Some e) = f in cc
      oldest (g ∷ es) f a = let same : g ≡ e = cc (f) in subst (λ (h : Entry). IsStoreAt t.items h.item) same a.0
