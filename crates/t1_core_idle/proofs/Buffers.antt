-- Where each ring has room and no store of a buffer is sent, a drain sends the oldest.
use Rattle.std.proofs.Common.{◌≡◌, ℕ, List, [], ◌∷◌, Option, Some, None, refl, sym, ◌∙◌, subst}
use Rattle.std.specs.List.{slice_get}
use Rattle.t1_packet.specs.Data.{RequestData}
use Rattle.t1_packet.specs.Ops.{op_addr, op_dest}
use Rattle.t1_sbuf.specs.declared.entry.Entry.{Entry}
use Rattle.t1_sbuf.specs.Entries.{next_to_send_of}
use Rattle.t1_joint.specs.Start.{Setup}
use Rattle.t1_core.specs.declared.asker.Asker.{Asker}
use Rattle.t1_core.specs.Stores.{AreSent, store_op}
use Rattle.t1_core.specs.Threads.{ThreadState}
use Rattle.t1_core.specs.Steps.{asker, request_of, drain_next, drain_stores, thread_drain, drain_at, drain_of}
use Rattle.t1_packet.proofs.Caches.{dest_below}
use Rattle.t1_core_rule.specs.Histories.{History, drained_by}
use Rattle.t1_core_rule.specs.Outs.{store_request, stores_out, numbers_of}
use Rattle.t1_core_rule.specs.Parts.{waiting_at, sending_at, part_of}
use Rattle.t1_core_rule.specs.Steady.{IsSteady}
use Rattle.t1_core_rule.specs.Laws.{history_of}
use Rattle.t1_core_rule.proofs.Nexts.{next_of_none_out}
use Rattle.t1_core_rule.proofs.Walks.{history_steady}
use Rattle.t1_core_idle.specs.Laws.{HasAllRoom, UndrainedBuffersAreEmpty}

-- of these stores none is sent
none_out : (core strand : ℕ) (es : List Entry) (ts : List ℕ) → AreSent es ts → stores_out core strand es ts ≡ [] → AreSent es []
none_out core strand [] ts f e = tt
none_out core strand (d ∷ ds) [] f e = f
none_out core strand (d ∷ ds) (t ∷ ts) f e = let clash : ◌≡◌ {A = List RequestData} (store_request core strand d t ∷ stores_out core strand ds ts) [] = e in cc

module _ (x : Asker) (t : ThreadState) (room : HasAllRoom x.room) where
  -- one that may be sent is sent
  next_drains : (e : Entry) → drained_by (drain_next x t (Some e)).did ≡ [] → ⊥
  next_drains e none =
      let g : drained_by (drain_next x t (Some e)).did ≡ request_of x e.item (store_op e) ∷ [] = rw (room (op_dest x.chip (store_op e)) (dest_below x.chip (op_addr (store_op e)))) refl in
      let clash : ◌≡◌ {A = List RequestData} (request_of x e.item (store_op e) ∷ []) [] = sym g ∙ none in
      cc

  stores_drain : (es : List Entry) → AreSent es [] → drained_by (drain_stores x t es).did ≡ [] → numbers_of es ≡ []
  stores_drain [] f none = refl
  stores_drain (e ∷ es) f none =
      let next : next_to_send_of (e ∷ es) ≡ Some e = next_of_none_out e es f in
      absurd (next_drains e (subst (λ (o : Option Entry). drained_by (drain_next x t o).did ≡ []) next none))

  thread_drains : AreSent t.stores [] → drained_by (thread_drain x t).did ≡ [] → numbers_of t.stores ≡ []
  unfolding thread_drain
  thread_drains f none = stores_drain t.stores f none

module _ (w : Setup) (core : ℕ) (h : History) (strand room : ℕ) (s : IsSteady w core h) (all : HasAllRoom room) where
  -- a buffer of which a drain sends nothing is empty, where none of its stores is sent
  pub is_drained : drained_by (drain_of h.core strand room).did ≡ [] → (part_of w.config.chip h).sending strand ≡ [] → (part_of w.config.chip h).waiting strand ≡ []
  unfolding drain_of
  is_drained none out = by (slice_get h.core.threads strand) refl none out
    where
      by : (o : Option ThreadState) → slice_get h.core.threads strand ≡ o → drained_by (drain_at h.core strand room o).did ≡ [] → sending_at h.core.number strand o ≡ [] → waiting_at o ≡ []
      by None e n out = refl
      by (Some t) e n out = thread_drains (asker h.core strand room) t all (none_out h.core.number strand t.stores t.times (s.threads strand t e).sent out) n

pub undrained_buffers_are_empty : UndrainedBuffersAreEmpty
undrained_buffers_are_empty w core strand room calls whole all none out = is_drained w core (history_of w core calls) strand room (history_steady w core calls whole) all none out
