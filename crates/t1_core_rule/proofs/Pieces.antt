-- Pieces of what an exec does to a strand.
use Rattle.t1_shape.specs.Shapes.{Shape}
use Rattle.std.proofs.Common.{◌≡◌, ◌<◌, ℕ, ◌==◌, false, List, [], ◌∷◌, ◌++◌, None, refl, ap, inl, inr, arith}
use Rattle.std.proofs.lemmas.Bool.{cases_Bool}
use Rattle.t1_num.specs.Memory.{IsSize}
use Rattle.t1_state.specs.declared.strand.Strand.{Strand}
use Rattle.t1_state.specs.declared.strand.Entered.{Entered}
use Rattle.t1_state.specs.declared.strand.Entered.TheVariants as entry
use Rattle.t1_exec.specs.declared.need.Need.{Need}
use Rattle.t1_exec.specs.declared.need.Need.TheVariants as need
use Rattle.t1_exec.specs.declared.need.AtomicOp.TheVariants.{Swap, Cas}
use Rattle.t1_packet.specs.Data.{RequestData}
use Rattle.t1_packet.specs.Ops.{is_store}
use Rattle.t1_sbuf.specs.declared.entry.Entry.{Entry}
use Rattle.t1_event.specs.declared.item.Item.{Item}
use Rattle.t1_core.specs.Stores.{AreSent}
use Rattle.t1_core.specs.Threads.{next_phase, entry_phase, op_for}
use Rattle.t1_core_rule.specs.Outs.{store_request, stores_out, read_out, asked_of, IsEntryOf, AreEntriesOf}
use Rattle.t1_core_rule.specs.Steady.{IsGoodEntry, AreGoodEntries}

pub size_some : (size : ℕ) → IsSize size → 0 < size
size_some size s = elim s [ inl e ↦ omega (arith, e) | inr (inl e) ↦ omega (arith, e) | inr (inr (inl e)) ↦ omega (arith, e) | inr (inr (inr e)) ↦ omega (arith, e) ]

pub next_reads : (core strand ram : ℕ) (s : Strand) (k u b : ℕ) → read_out core strand ram s k (next_phase u b) ≡ []
next_reads core strand ram s k u b = elim (cases_Bool (u == b)) [ inl e ↦ rw e refl | inr e ↦ rw e refl ]

pub entry_reads : (core strand ram : ℕ) (s : Strand) (k : ℕ) (e : Entered) (u b : ℕ) → read_out core strand ram s k (entry_phase e u b) ≡ []
entry_reads core strand ram s k entry.Taken u b = next_reads core strand ram s k u b
entry_reads core strand ram s k (entry.Fault number) u b = refl

pub next_asked : (ram : ℕ) (s : Strand) (u b : ℕ) → asked_of ram s (next_phase u b) ≡ None
next_asked ram s u b = elim (cases_Bool (u == b)) [ inl e ↦ rw e refl | inr e ↦ rw e refl ]

pub entry_asked : (ram : ℕ) (s : Strand) (e : Entered) (u b : ℕ) → asked_of ram s (entry_phase e u b) ≡ None
entry_asked ram s entry.Taken u b = next_asked ram s u b
entry_asked ram s (entry.Fault number) u b = refl

pub sent_push : (es : List Entry) (ts : List ℕ) (e : Entry) → e.sent ≡ false → AreSent es ts → AreSent (es ++ e ∷ []) ts
sent_push [] [] e q f = (q, tt)
sent_push [] (t ∷ ts) e q f = absurd f
sent_push (d ∷ ds) [] e q f = (f.0, sent_push ds [] e q f.1)
sent_push (d ∷ ds) (t ∷ ts) e q f = (f.0, sent_push ds ts e q f.1)

pub good_push : (chip : Shape) (ram : ℕ) (es : List Entry) (e : Entry) → IsGoodEntry chip ram e → AreGoodEntries chip ram es → AreGoodEntries chip ram (es ++ e ∷ [])
good_push chip ram [] e q g = (q, tt)
good_push chip ram (d ∷ ds) e q g = (g.0, good_push chip ram ds e q g.1)

pub stores_push : (core strand : ℕ) (es : List Entry) (ts : List ℕ) (e : Entry) → AreSent es ts → stores_out core strand (es ++ e ∷ []) ts ≡ stores_out core strand es ts
stores_push core strand [] [] e f = refl
stores_push core strand [] (t ∷ ts) e f = absurd f
stores_push core strand (d ∷ ds) [] e f = refl
stores_push core strand (d ∷ ds) (t ∷ ts) e f = ap (λ (rs : List RequestData). store_request core strand d t ∷ rs) (stores_push core strand ds ts e f.1)

pub entries_more : (items : List Item) (es : List Entry) (e : Entry) → AreEntriesOf items es → IsEntryOf items e → AreEntriesOf items (es ++ e ∷ [])
entries_more items [] e b n = (n, tt)
entries_more items (d ∷ ds) e b n = (b.0, entries_more items ds e b.1 n)

pub op_reads : (n : Need) (way : ℕ) → is_store (op_for n way) ≡ false
op_reads (need.Load a z) way = refl
op_reads (need.Atomic a z (Swap new)) way = refl
op_reads (need.Atomic a z (Cas expect new)) way = refl
op_reads need.Plain way = refl
op_reads need.Halt way = refl
op_reads (need.Trap number) way = refl
op_reads (need.Store a z p) way = refl
op_reads (need.Membar mask) way = refl
op_reads need.Flush way = refl
