-- The parts of a core's part of a run: its strands by number, and what is unanswered.
use Rattle.t1_shape.specs.Shapes.{Shape}
use Rattle.std.proofs.Common.{◌≡◌, ◌≤◌, ℕ, zero, suc, ◌==◌, Bool, true, false, List, [], ◌∷◌, ◌++◌, length, map, drop, get_or, Option, Some, None, refl, ap, sym, ◌∙◌, subst, inl, inr, arith}
use Rattle.std.specs.List.{slice_get, filter}
use Rattle.std.proofs.lemmas.Bool.{cases_Bool}
use Rattle.t1_packet.specs.Data.{RequestData}
use Rattle.t1_packet.specs.Ops.{op_dest, is_store}
use Rattle.t1_sbuf.specs.declared.entry.Entry.{Entry}
use Rattle.t1_event.specs.declared.item.Item.{Item}
use Rattle.t1_event.specs.declared.trace.Trace.{Trace}
use Rattle.t1_event.specs.Items.{items_of}
use Rattle.t1_joint.specs.Lists.{IsIn, AreDistinct}
use Rattle.t1_joint.specs.Waits.{HasItem}
use Rattle.t1_joint.specs.CoreRule.{SeenAscends}
use Rattle.t1_strand_order.specs.Kept.{Ascends, IsSentWell, AreSentWell}
use Rattle.t1_strand_order.specs.Laws.{one_destination}
use Rattle.t1_strand_order.proofs.Items.{ascends_above}
use Rattle.t1_received.specs.Requests.{is_of, of_class, sent_to}
use Rattle.t1_received.proofs.Lists.{in_filter, filter_in}
use Rattle.t1_received.proofs.Sorts.{own_class}
use Rattle.t1_core.specs.Threads.{ThreadState}
use Rattle.t1_core.specs.Ends.{trace_of}
use Rattle.t1_core_rule.specs.Outs.{store_request, stores_out, numbers_of}

-- ---- strands by number

pub items_at : (threads : List ThreadState) (s : ℕ) (t : ThreadState) → slice_get threads s ≡ Some t → get_or (items_of (map trace_of threads)) s [] ≡ t.items
items_at [] s t e = let clash : ◌≡◌ {A = Option ThreadState} None (Some t) = e in cc
items_at (u ∷ threads) zero t e = let same : u ≡ t = cc (e) in ap (λ (v : ThreadState). v.items) same
items_at (u ∷ threads) (suc s) t e = items_at threads s t e

no_items : (threads : List ThreadState) (s : ℕ) → slice_get threads s ≡ None → get_or (items_of (map trace_of threads)) s [] ≡ []
no_items [] s e = refl
no_items (u ∷ threads) zero e = let clash : ◌≡◌ {A = Option ThreadState} (Some u) None = e in cc
no_items (u ∷ threads) (suc s) e = no_items threads s e

pub trace_at : (threads : List ThreadState) (s : ℕ) (trace : Trace) → slice_get (map trace_of threads) s ≡ Some trace → (t : ThreadState) × (slice_get threads s ≡ Some t) × (trace_of t ≡ trace)
trace_at [] s trace e = let clash : ◌≡◌ {A = Option Trace} None (Some trace) = e in cc
trace_at (u ∷ threads) zero trace e = (u, refl, (let same : trace_of u ≡ trace = cc (e) in same))
trace_at (u ∷ threads) (suc s) trace e = trace_at threads s trace e

-- the strand of an item
pub record Stands (threads : List ThreadState) (s i : ℕ) (x : Item) : Type 0 where
  pub thread : ThreadState
  pub at : slice_get threads s ≡ Some thread
  pub has : HasItem thread.items i x

pub stands : (threads : List ThreadState) (s i : ℕ) (x : Item) → HasItem (get_or (items_of (map trace_of threads)) s []) i x → Stands threads s i x
stands threads s i x h = by (slice_get threads s) refl
  where
    by : (o : Option ThreadState) → slice_get threads s ≡ o → Stands threads s i x
    by None e =
        let none : HasItem [] i x = subst (λ (ys : List Item). HasItem ys i x) (no_items threads s e) h in
        let clash : ◌≡◌ {A = Option Item} None (Some x) = none in cc
    by (Some t) e = record { thread = t; at = e; has = subst (λ (ys : List Item). HasItem ys i x) (items_at threads s t e) h }

pub there : (threads : List ThreadState) (s i : ℕ) (x : Item) (t : ThreadState) → slice_get threads s ≡ Some t → HasItem t.items i x → HasItem (get_or (items_of (map trace_of threads)) s []) i x
there threads s i x t e h = subst (λ (ys : List Item). HasItem ys i x) (sym (items_at threads s t e)) h

pub one_thread : (threads : List ThreadState) (s : ℕ) (t u : ThreadState) → slice_get threads s ≡ Some t → slice_get threads s ≡ Some u → t ≡ u
one_thread threads s t u e f = let q : Some t ≡ Some u = sym e ∙ f in cc

-- ---- what is unanswered

pub drop_front : {A : Type 0} (xs ys : List A) → drop (length xs) (xs ++ ys) ≡ ys
drop_front [] ys = refl
drop_front (x ∷ xs) ys = drop_front xs ys

-- ---- nothing stands twice

pub distinct_filter : {A : Type 0} (f : A → Bool) (xs : List A) → AreDistinct xs → AreDistinct (filter f xs)
distinct_filter f [] d = tt
distinct_filter f (x ∷ xs) d =
    elim (cases_Bool (f x)) [
      | inl e ↦ rw e ((λ h. d.0 (filter_in f x xs h).0), distinct_filter f xs d.1)
      | inr e ↦ rw e (distinct_filter f xs d.1)
    ]

class_cons : (i : ℕ) (b : Bool) (r : RequestData) (rs : List RequestData) → is_of i b r ≡ true → of_class i b (r ∷ rs) ≡ r ∷ of_class i b rs
class_cons i b r rs e = rw e refl

class_skip : (i : ℕ) (b : Bool) (r : RequestData) (rs : List RequestData) → is_of i b r ≡ false → of_class i b (r ∷ rs) ≡ of_class i b rs
class_skip i b r rs e = rw e refl

class_tail : (i : ℕ) (b : Bool) (r : RequestData) (rs : List RequestData) → AreDistinct (of_class i b (r ∷ rs)) → AreDistinct (of_class i b rs)
class_tail i b r rs d =
    elim (cases_Bool (is_of i b r)) [
      | inl e ↦ (subst (λ (qs : List RequestData). AreDistinct qs) (class_cons i b r rs e) d).1
      | inr e ↦ subst (λ (qs : List RequestData). AreDistinct qs) (class_skip i b r rs e) d
    ]

class_head : (r : RequestData) (rs : List RequestData) → AreDistinct (of_class r.strand (is_store r.op) (r ∷ rs)) → IsIn r rs → ⊥
class_head r rs d h =
    let e : AreDistinct (r ∷ of_class r.strand (is_store r.op) rs) = subst (λ (qs : List RequestData). AreDistinct qs) (class_cons r.strand (is_store r.op) r rs (own_class r)) d in
    e.0 (in_filter (λ (q : RequestData). is_of r.strand (is_store r.op) q) r rs h (own_class r))

-- a list is distinct where each of its classes is
pub distinct_classes : (rs : List RequestData) → ((i : ℕ) (b : Bool) → AreDistinct (of_class i b rs)) → AreDistinct rs
distinct_classes [] d = tt
distinct_classes (r ∷ rs) d = ((λ h. class_head r rs (d r.strand (is_store r.op)) h), distinct_classes rs (λ i b. class_tail i b r rs (d i b)))

out_numbers : (core strand : ℕ) (es : List Entry) (ts : List ℕ) (r : RequestData) → IsIn r (stores_out core strand es ts) → IsIn r.item (numbers_of es)
out_numbers core strand [] ts r h = absurd h
out_numbers core strand (e ∷ es) [] r h = absurd h
out_numbers core strand (e ∷ es) (t ∷ ts) r (inl same) = inl (ap (λ (q : RequestData). q.item) same)
out_numbers core strand (e ∷ es) (t ∷ ts) r (inr h) = inr (out_numbers core strand es ts r h)

pub stored_numbers : (core strand : ℕ) (es : List Entry) (ts : List ℕ) (r : RequestData) → IsIn r (stores_out core strand es ts) → (is_store r.op ≡ true) × IsIn r.item (numbers_of es)
stored_numbers core strand es ts r h = (kinds es ts h, out_numbers core strand es ts r h)
  where
    kinds : (ds : List Entry) (us : List ℕ) → IsIn r (stores_out core strand ds us) → is_store r.op ≡ true
    kinds [] us g = absurd g
    kinds (d ∷ ds) [] g = absurd g
    kinds (d ∷ ds) (u ∷ us) (inl same) = ap (λ (q : RequestData). is_store q.op) same
    kinds (d ∷ ds) (u ∷ us) (inr g) = kinds ds us g

pub stores_distinct : (core strand low : ℕ) (es : List Entry) (ts : List ℕ) → Ascends low (numbers_of es) → AreDistinct (stores_out core strand es ts)
stores_distinct core strand low [] ts a = tt
stores_distinct core strand low (e ∷ es) [] a = tt
stores_distinct core strand low (e ∷ es) (t ∷ ts) a = (
  λ h. (let n = out_numbers core strand es ts (store_request core strand e t) h in let b = ascends_above (suc e.item) (numbers_of es) e.item a.1 n in omega (arith, b)),
  stores_distinct core strand (suc e.item) es ts a.1,
)

-- the entry of a store that is out, which was sent well at its time
pub record IsOutStore (chip : Shape) (core strand : ℕ) (items : List Item) (clock : ℕ) (es : List Entry) (r : RequestData) : Type 0 where
  pub entry : Entry
  pub among : IsIn entry es
  pub is : r ≡ store_request core strand entry r.seen
  pub well : IsSentWell (one_destination chip) items clock entry.item r.seen

pub out_store : (chip : Shape) (core strand : ℕ) (items : List Item) (clock : ℕ) (es : List Entry) (ts : List ℕ) (r : RequestData) → AreSentWell (one_destination chip) items clock (numbers_of es) ts
    → IsIn r (stores_out core strand es ts) → IsOutStore chip core strand items clock es r
out_store chip core strand items clock [] ts r well h = absurd h
out_store chip core strand items clock (e ∷ es) [] r well h = absurd h
out_store chip core strand items clock (e ∷ es) (t ∷ ts) r well (inl same) =
    let seen : t ≡ r.seen = ap (λ (q : RequestData). q.seen) (sym same) in
    record {
      entry = e;
      among = inl refl;
      is = same ∙ ap (λ (v : ℕ). store_request core strand e v) seen;
      well = subst (λ (v : ℕ). IsSentWell (one_destination chip) items clock e.item v) seen well.0;
    }
out_store chip core strand items clock (e ∷ es) (t ∷ ts) r well (inr h) =
    let o = out_store chip core strand items clock es ts r well.1 h in
    record { entry = o.entry; among = inr o.among; is = o.is; well = o.well }

-- ---- `seen` along one destination

pub ascends_lower : (low lower : ℕ) (rs : List RequestData) → lower ≤ low → SeenAscends low rs → SeenAscends lower rs
ascends_lower low lower [] l a = tt
ascends_lower low lower (r ∷ rs) l a = (let b = a.0 in (omega (arith, l, b), a.1))

pub ascends_to : (chip : Shape) (low d : ℕ) (rs : List RequestData) → SeenAscends low rs → SeenAscends low (sent_to chip d rs)
ascends_to chip low d [] a = tt
ascends_to chip low d (r ∷ rs) a =
    elim (cases_Bool (op_dest chip r.op == d)) [
      | inl e ↦ rw e (a.0, ascends_to chip r.seen d rs a.1)
      | inr e ↦ rw e (ascends_to chip low d rs (ascends_lower r.seen low rs a.0 a.1))
    ]
