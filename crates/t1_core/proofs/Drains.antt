-- Which store is sent, and the list forms of the tests that the code makes.
use Rattle.std.proofs.Common.{◌≡◌, ℕ, zero, suc, true, false, List, [], ◌∷◌, get_or, length, set, Option, Some, None, refl, ap, sym, ◌∙◌, subst, arith}
use Rattle.std.specs.Prelude.{IsSome}
use Rattle.std.specs.List.{slice_get, All}
use Rattle.std.proofs.lemmas.List.Elements.{All-head}
use Rattle.t1_sbuf.specs.declared.entry.Entry.{Entry}
use Rattle.t1_sbuf.specs.Entries.{next_to_send_of, AreEntries, IsStore}
use Rattle.t1_core.specs.declared.asker.Asker.{Asker}
use Rattle.t1_core.specs.declared.answers.Drained.TheVariants as drained
use Rattle.t1_core.specs.Threads.{ThreadState}
use Rattle.t1_core.specs.Steps.{ThreadDrained, drain_stores, drain_next, stays}

pub some_from : (o : Option Entry) (e : Entry) → o ≡ Some e → IsSome o
some_from None e h = cc
some_from (Some f) e h = refl

-- where there is a store, the next one is looked for
pub drain_some : (x : Asker) (t : ThreadState) (es : List Entry) (e : Entry) → slice_get es 0 ≡ Some e → drain_stores x t es ≡ drain_next x t (next_to_send_of es)
drain_some x t [] e h = let clash : ◌≡◌ {A = Option Entry} None (Some e) = h in cc
drain_some x t (f ∷ es) e h = refl

pub drain_none : (x : Asker) (t : ThreadState) (es : List Entry) → slice_get es 0 ≡ None → drain_stores x t es ≡ stays t drained.Empty
drain_none x t [] h = refl
drain_none x t (f ∷ es) h = let clash : ◌≡◌ {A = Option Entry} (Some f) None = h in cc

no_entry : (e : Entry) → ◌≡◌ {A = Option Entry} None (Some e) → ⊥
no_entry e h = cc

-- each entry of a buffer is a store
pub oldest_store : (es : List Entry) (e : Entry) → AreEntries es → slice_get es 0 ≡ Some e → IsStore e
oldest_store [] e a h = absurd (no_entry e h)
oldest_store (f ∷ es) e a h =
    let same : f ≡ e = cc in
    subst IsStore same (All-head IsStore f es a.stores)
