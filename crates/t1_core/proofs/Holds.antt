-- The stores that a core holds.
use Rattle.std.proofs.Common.{◌≡◌, ◌<◌, ◌||◌, ℕ, zero, suc, Bool, true, false, List, [], ◌∷◌, length, get_or, Option, Some, None, is_some, refl, ap, sym, ◌∙◌, subst}
use Rattle.std.specs.List.{slice_get}
use Rattle.t1_sbuf.specs.declared.entry.Entry.{Entry}
use Rattle.t1_core.specs.declared.answers.Did.{Did}
use Rattle.t1_core.specs.declared.answers.Drained.TheVariants as drained
use Rattle.t1_core.specs.Threads.{ThreadState}
use Rattle.t1_core.specs.Steps.{CoreState, exec_of, drain_at, drain_of, thread_drain}
use Rattle.t1_core.specs.Turns.{is_ready, next_place, Turned, turned_at, turn_of}
use Rattle.t1_core.specs.Quick.{is_store_held, are_stores_held, HoldNoStore}
use Rattle.t1_core.proofs.Quiet.{turn_some, turn_none}

-- ---- stores

no_store : (es : List Entry) → is_store_held es ≡ false → es ≡ []
no_store [] e = refl
no_store (x ∷ es) e = let clash : true ≡ false = e in cc

or_left : (a b : Bool) → a || b ≡ false → a ≡ false
or_left false b e = refl
or_left true b e = e

or_right : (a b : Bool) → a || b ≡ false → b ≡ false
or_right false b e = e
or_right true b e = let clash : true ≡ false = e in cc

none_at : (ts : List ThreadState) (i : ℕ) (t : ThreadState) → are_stores_held ts ≡ false → slice_get ts i ≡ Some t → t.stores ≡ []
none_at [] i t e at = let clash : ◌≡◌ {A = Option ThreadState} None (Some t) = at in cc
none_at (u ∷ ts) zero t e at =
    let same : u ≡ t = cc in
    subst (λ (v : ThreadState). v.stores ≡ []) same (no_store u.stores (or_left (is_store_held u.stores) (are_stores_held ts) e))
none_at (u ∷ ts) (suc i) t e at = none_at ts i t (or_right (is_store_held u.stores) (are_stores_held ts) e) at

pub none_held : (ts : List ThreadState) → are_stores_held ts ≡ false → HoldNoStore ts
none_held ts e = record { each = λ i t at. none_at ts i t e at }

empty_entry : (c : CoreState) (i room : ℕ) (t : ThreadState) → t.stores ≡ [] → (drain_at c i room (Some t)).did ≡ drained.Empty
unfolding thread_drain
empty_entry c i room t e = rw e refl

empty_at : (c : CoreState) (i room : ℕ) (o : Option ThreadState) → slice_get c.threads i ≡ o → HoldNoStore c.threads → (drain_at c i room o).did ≡ drained.Empty
empty_at c i room None e n = refl
empty_at c i room (Some t) e n = empty_entry c i room t (n.each i t e)

-- where no store is held there is nothing to drain
pub drain_empty : (c : CoreState) (i room : ℕ) → HoldNoStore c.threads → (drain_of c i room).did ≡ drained.Empty
unfolding drain_of
drain_empty c i room n = empty_at c i room (slice_get c.threads i) refl n
