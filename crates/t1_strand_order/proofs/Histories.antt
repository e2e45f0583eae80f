-- The laws of a strand's order.
use Rattle.std.proofs.Common.{◌≡◌, ℕ, ◌≤◌, ◌⊎◌, Bool, List, [], ◌∷◌, ◌++◌, length, Option, Some, None, refl, sym, subst, inl, inr, arith}
use Rattle.t1_shape.specs.Shapes.{Shape}
use Rattle.t1_event.specs.declared.item.Item.{Item}
use Rattle.t1_event.specs.declared.item.ItemKind.{ItemKind}
use Rattle.t1_event.specs.declared.item.ItemKind.TheVariants as kind
use Rattle.t1_event.specs.declared.item.How.{How}
use Rattle.t1_event.specs.declared.item.How.TheVariants.{Commit}
use Rattle.t1_event.specs.Kinds.{IsAccess}
use Rattle.t1_event.specs.Times.{at_of}
use Rattle.t1_joint.specs.Rows.{Caches, StoreRow, RowIn}
use Rattle.t1_strand_order.specs.Tracks.{Asked, Track, Event, Read, Fence, Push, Ask, Send, Answer, Acknowledge, Pass, placed_at, acknowledged, begun, after, after_all}
use Rattle.t1_strand_order.specs.Allowed.{IsFence, IsPush, IsAnswer, IsAcknowledged, AreAllowed}
use Rattle.t1_strand_order.specs.Kept.{IsKept}
use Rattle.t1_strand_order.specs.Places.{AreInRows, OutRow, ArePlacedRightly, AreUpTo}
use Rattle.t1_strand_order.specs.Laws.{EventsKeepOrder, HistoriesKeepOrder, EventsKeepPlaces}
use Rattle.t1_strand_order.proofs.Items.{has_push, has_placed, length_placed}
use Rattle.t1_strand_order.proofs.Held.{same_refl, same_push, same_placed}
use Rattle.t1_strand_order.proofs.Events.{kept_begun, kept_pass, kept_read, kept_fence, kept_push, kept_ask, kept_send, asked_well, kept_answer}
use Rattle.t1_strand_order.proofs.Acks.{IsOldest, oldest, kept_acknowledge}
use Rattle.t1_strand_order.proofs.Rows.{row_moves, row_answered}

-- ---- order

pub events_keep_order : EventsKeepOrder
events_keep_order apart s (Read x) a k = kept_read apart s x a k
events_keep_order apart s (Fence x) a k = kept_fence apart s x a k
events_keep_order apart s (Push x) a k = kept_push apart s x a k
events_keep_order apart s (Ask x) a k = kept_ask apart s x a k
events_keep_order apart s Send a k = kept_send apart s a k
events_keep_order apart s (Answer n x) a k = kept_answer apart s n x a k
events_keep_order apart s (Acknowledge n) a k = kept_acknowledge apart s n a k
events_keep_order apart s (Pass t) a k = kept_pass apart s t a k

walk : (apart : ℕ → ℕ → Bool) (s : Track) (events : List Event) → AreAllowed apart s events → IsKept apart s → IsKept apart (after_all s events)
walk apart s [] a k = k
walk apart s (event ∷ events) a k = walk apart (after s event) events a.1 (events_keep_order apart s event a.0 k)

pub histories_keep_order : HistoriesKeepOrder
histories_keep_order apart clock events a = walk apart (begun clock) events a (kept_begun apart clock)

-- ---- places

module _ (shape : Shape) (ram : ℕ) (caches later : Caches) (apart : ℕ → ℕ → Bool) (s : Track) (k : IsKept apart s) (same : AreUpTo s.clock caches later) (right : ArePlacedRightly shape ram caches s) where
  -- one item more, whose row is given over the items before it
  rows_push : (x : Item) → (IsAccess x.kind → RowIn shape ram later s.items (length s.items) x x.kind) → AreInRows shape ram later (s.items ++ x ∷ [])
  rows_push x row j y has access =
      elim (has_push s.items x j y has) [
        | inl p ↦
            let t = k.orderly.times j y p.1 in
            let l = p.0 in
            row_moves shape ram caches later s.items (s.items ++ x ∷ []) j y (same_push s.items x j (at_of y.how) (omega (arith, l))) (same (at_of y.how) t) (right.items j y p.1 access)
        | inr p ↦
            let r : RowIn shape ram later s.items (length s.items) x x.kind = row (subst (λ (v : Item). IsAccess v.kind) (sym p.1) access) in
            let r' : RowIn shape ram later (s.items ++ x ∷ []) (length s.items) x x.kind =
            row_moves shape ram later later s.items (s.items ++ x ∷ []) (length s.items) x (same_push s.items x (length s.items) (at_of x.how) (omega arith)) refl r in
            let r'' : RowIn shape ram later (s.items ++ x ∷ []) j x x.kind = subst (λ (n : ℕ). RowIn shape ram later (s.items ++ x ∷ []) n x x.kind) (sym p.0) r' in
            subst (λ (v : Item). RowIn shape ram later (s.items ++ x ∷ []) j v v.kind) p.1 r''
      ]

  rows_same : AreInRows shape ram later s.items
  rows_same j y has access =
      row_moves shape ram caches later s.items s.items j y (same_refl s.items j (at_of y.how)) (same (at_of y.how) (k.orderly.times j y has)) (right.items j y has access)

  out_same : (out : Option Asked) → s.out ≡ out → OutRow shape ram later s.items out
  out_same None e = tt
  out_same (Some asked) e =
      let past = (asked_well apart s asked e k).past in
      let r : OutRow shape ram caches s.items (Some asked) = subst (λ (o : Option Asked). OutRow shape ram caches s.items o) e right.out in
      row_moves shape ram caches later s.items s.items (length s.items) (record asked.item { how = Commit 0 asked.seen }) (same_refl s.items (length s.items) asked.seen) (same asked.seen past) r

  no_out : (items : List Item) → s.out ≡ None → OutRow shape ram later items s.out
  no_out items e = subst (λ (o : Option Asked). OutRow shape ram later items o) (sym e) tt

  places_read : (x : Item) → s.out ≡ None → RowIn shape ram later s.items (length s.items) x x.kind → ArePlacedRightly shape ram later (after s (Read x))
  places_read x free row = record { items = rows_push x (λ a. row); out = no_out (s.items ++ x ∷ []) free }

  fence_no_access : (v : ItemKind) → (v ≡ kind.Membar) ⊎ (v ≡ kind.Flush) → IsAccess v → ⊥
  fence_no_access v (inl e) a = let clash : IsAccess kind.Membar = subst (λ (w : ItemKind). IsAccess w) e a in cc
  fence_no_access v (inr e) a = let clash : IsAccess kind.Flush = subst (λ (w : ItemKind). IsAccess w) e a in cc

  places_fence : (x : Item) → IsFence s x → ArePlacedRightly shape ram later (after s (Fence x))
  places_fence x f = record { items = rows_push x (λ a. absurd (fence_no_access x.kind f.kind a)); out = no_out (s.items ++ x ∷ []) f.free }

  places_push : (x : Item) → IsPush s x → ArePlacedRightly shape ram later (after s (Push x))
  places_push x p =
      let row : RowIn shape ram later s.items (length s.items) x x.kind =
      subst (λ (v : ItemKind). RowIn shape ram later s.items (length s.items) x v) (sym p.kind) (subst (λ (w : How). StoreRow w) (sym p.how) tt) in
      record { items = rows_push x (λ a. row); out = no_out (s.items ++ x ∷ []) p.free }

  places_answer : (n : ℕ) (x : Item) → IsAnswer s n x → ArePlacedRightly shape ram later (after s (Answer n x))
  places_answer n x a =
      let out : OutRow shape ram later s.items (Some a.asked) = out_same (Some a.asked) a.is in
      record { items = rows_push x (λ access. row_answered shape ram later s.items (length s.items) n a.asked.seen x a.asked.item a.addr a.size a.how a.kind out); out = tt }

  out_placed : (n number seen : ℕ) (o : IsOldest s number) → s.clock ≤ n → (out : Option Asked) → s.out ≡ out → OutRow shape ram later (placed_at s.items number (Commit n seen)) out
  out_placed n number seen o late None e = tt
  out_placed n number seen o late (Some asked) e =
      let past = (asked_well apart s asked e k).past in
      let new = placed_at s.items number (Commit n seen) in
      let r : RowIn shape ram later new (length s.items) (record asked.item { how = Commit 0 asked.seen }) asked.item.kind =
      row_moves shape ram later later s.items new (length s.items) (record asked.item { how = Commit 0 asked.seen })
      (same_placed s.items number n seen o.item o.has o.store o.how (length s.items) asked.seen (omega (arith, past, late))) refl (out_same (Some asked) e) in
      subst (λ (m : ℕ). RowIn shape ram later new m (record asked.item { how = Commit 0 asked.seen }) asked.item.kind) (sym (length_placed s.items number (Commit n seen))) r

  rows_placed : (n number seen : ℕ) (o : IsOldest s number) → s.clock ≤ n → AreInRows shape ram later (placed_at s.items number (Commit n seen))
  rows_placed n number seen o late j y has access =
      let new = placed_at s.items number (Commit n seen) in
      elim (has_placed s.items number (Commit n seen) o.item j y o.has has) [
        | inl p ↦
            let r : RowIn shape ram later new j (record o.item { how = Commit n seen }) o.item.kind =
            subst (λ (v : ItemKind). RowIn shape ram later new j (record o.item { how = Commit n seen }) v) (sym o.store) tt in
            subst (λ (v : Item). RowIn shape ram later new j v v.kind) p.1 r
        | inr p ↦
            let t = k.orderly.times j y p.1 in
            row_moves shape ram caches later s.items new j y
            (same_placed s.items number n seen o.item o.has o.store o.how j (at_of y.how) (omega (arith, t, late))) (same (at_of y.how) t) (right.items j y p.1 access)
      ]

  places_acknowledge : (n : ℕ) → IsAcknowledged s n → ArePlacedRightly shape ram later (after s (Acknowledge n))
  places_acknowledge n a =
      let o = oldest apart s n a k in
      let new : ArePlacedRightly shape ram later (acknowledged s n (a.number ∷ a.waiting) (a.seen ∷ a.sent)) =
      record { items = rows_placed n a.number a.seen o a.late; out = out_placed n a.number a.seen o a.late s.out refl } in
      subst (λ (ws : List ℕ). ArePlacedRightly shape ram later (acknowledged s n ws s.sent)) (sym a.waits)
      (subst (λ (ts : List ℕ). ArePlacedRightly shape ram later (acknowledged s n (a.number ∷ a.waiting) ts)) (sym a.times) new)

pub events_keep_places : EventsKeepPlaces
events_keep_places shape ram caches later apart s (Read x) a k same row right = places_read shape ram caches later apart s k same right x a.free row
events_keep_places shape ram caches later apart s (Fence x) a k same row right = places_fence shape ram caches later apart s k same right x a
events_keep_places shape ram caches later apart s (Push x) a k same row right = places_push shape ram caches later apart s k same right x a
events_keep_places shape ram caches later apart s (Ask x) a k same row right = record { items = rows_same shape ram caches later apart s k same right; out = row }
events_keep_places shape ram caches later apart s Send a k same row right =
    record { items = rows_same shape ram caches later apart s k same right; out = out_same shape ram caches later apart s k same right s.out refl }
events_keep_places shape ram caches later apart s (Answer n x) a k same row right = places_answer shape ram caches later apart s k same right n x a
events_keep_places shape ram caches later apart s (Acknowledge n) a k same row right = places_acknowledge shape ram caches later apart s k same right n a
events_keep_places shape ram caches later apart s (Pass t) a k same row right =
    record { items = rows_same shape ram caches later apart s k same right; out = out_same shape ram caches later apart s k same right s.out refl }
