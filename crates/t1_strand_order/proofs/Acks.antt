-- The acknowledgement of the oldest store keeps a strand's order.
use Rattle.std.proofs.Common.{◌≡◌, ℕ, ◌+◌, ◌<◌, ◌≤◌, Bool, true, List, [], ◌∷◌, length, Option, Some, None, refl, sym, subst, inl, inr, arith, suc}
use Rattle.t1_event.specs.declared.item.Item.{Item}
use Rattle.t1_event.specs.declared.item.ItemKind.{ItemKind}
use Rattle.t1_event.specs.declared.item.ItemKind.TheVariants as kind
use Rattle.t1_event.specs.declared.item.How.{How}
use Rattle.t1_event.specs.declared.item.How.TheVariants.{Unplaced, Commit}
use Rattle.t1_event.specs.Items.{IsBarrier}
use Rattle.t1_event.specs.Times.{at_of, index_of}
use Rattle.t1_joint.specs.Lists.{IsIn}
use Rattle.t1_joint.specs.Waits.{HasItem, IsDoneBy, HasBarrier, WaitsFor}
use Rattle.t1_joint.specs.Rows.{FewAreHeldIn}
use Rattle.t1_strand_order.specs.Tracks.{Asked, Track, Acknowledge, placed_at, acknowledged, after}
use Rattle.t1_strand_order.specs.Allowed.{IsAcknowledged}
use Rattle.t1_strand_order.specs.Kept.{IsReady, IsAlone, Follow, IsSentWell, AreSentWell, IsOutWell, IsOrderly, IsKept}
use Rattle.t1_strand_order.proofs.Items.{has_placed, placed_has_other, length_placed, ascends_above, ascends_lower, done_later, store_not_read, store_not_barrier}
use Rattle.t1_strand_order.proofs.Held.{same_placed, few_moves}

-- a store without a place gets one, in the packet n
module _ (xs : List Item) (k n seen : ℕ) (x : Item) (has : HasItem xs k x) (store : x.kind ≡ kind.Store) (how : x.how ≡ Unplaced) where
  abbrev new : List Item
  new = placed_at xs k (Commit n seen)

  abbrev given : Item
  given = record x { how = Commit n seen }

  barrier_placed : (i j : ℕ) → HasBarrier new i j → HasBarrier xs i j
  barrier_placed i j f =
      elim (has_placed xs k (Commit n seen) x f.number f.item has f.has) [
        | inl p ↦ absurd (store_not_barrier given store (subst (λ (v : Item). IsBarrier v) (sym p.1) f.barrier))
        | inr p ↦ record { number = f.number; item = f.item; after = f.after; before = f.before; has = p.1; barrier = f.barrier }
      ]

  waits_placed : (i j : ℕ) (y z : ItemKind) → WaitsFor new i y j z → WaitsFor xs i y j z
  waits_placed i j y z (inl p) = inl p
  waits_placed i j y z (inr (inl p)) = inr (inl p)
  waits_placed i j y z (inr (inr p)) = inr (inr (p.0, barrier_placed i j p.1, p.2))

  -- what waits for the store would have had to wait for a place
  ready_placed : (j : ℕ) (y : ItemKind) (t : ℕ) → IsReady xs j y t → IsReady new j y t
  ready_placed j y t d i z lt has_z b =
      elim (has_placed xs k (Commit n seen) x i z has has_z) [
        | inl p ↦
            let b' : WaitsFor xs i x.kind j y = waits_placed i j x.kind y (subst (λ (v : Item). WaitsFor new i v.kind j y) (sym p.1) b) in
            let here : HasItem xs i x = subst (λ (m : ℕ). HasItem xs m x) (sym p.0) has in
            absurd (subst (λ (w : How). IsDoneBy t w) how (d i x lt here b'))
        | inr p ↦ d i z lt p.1 (waits_placed i j z.kind y b)
      ]

  alone_placed : (apart : ℕ → ℕ → Bool) (j t : ℕ) → k < j → IsAlone apart xs j t → IsAlone apart new j t
  alone_placed apart j t above f i y z lt has_y has_z sy far =
      elim (has_placed xs k (Commit n seen) x j z has has_z) [
        | inl q ↦ absurd (let a = q.0 in omega (arith, a, above))
        | inr q ↦ elim (has_placed xs k (Commit n seen) x i y has has_y) [
          | inl r ↦
              let far' : apart x.addr z.addr ≡ true = subst (λ (v : Item). apart v.addr z.addr ≡ true) (sym r.1) far in
              absurd (subst (λ (w : How). IsDoneBy t w) how (f k x z above has q.1 store far'))
          | inr r ↦ f i y z lt r.1 q.1 sy far
        ]
      ]

  sent_placed : (apart : ℕ → ℕ → Bool) (clock : ℕ) (ks ts : List ℕ) → clock ≤ n → ((i : ℕ) → IsIn i ks → k < i) → AreSentWell apart xs clock ks ts → AreSentWell apart new (n + 1) ks ts
  sent_placed apart clock ks [] le above f = tt
  sent_placed apart clock [] (t ∷ ts) le above f = absurd f
  sent_placed apart clock (j ∷ js) (t ∷ ts) le above f =
      let early = f.0.past in (
        record { past = omega (arith, early, le); ready = ready_placed j kind.Store t f.0.ready; alone = alone_placed apart j t (above j (inl refl)) f.0.alone },
        sent_placed apart clock js ts le (λ i h. above i (inr h)) f.1,
      )

  out_placed : (clock : ℕ) (out : Option Asked) → clock ≤ n → IsOutWell xs clock out → IsOutWell new (n + 1) out
  out_placed clock None le f = tt
  out_placed clock (Some asked) le f =
      let past = f.past in
      let e = length_placed xs k (Commit n seen) in
      record {
        read = f.read;
        past = omega (arith, past, le);
        ready = subst (λ (m : ℕ). IsReady new m asked.item.kind asked.seen) (sym e) (ready_placed (length xs) asked.item.kind asked.seen f.ready);
        few = subst (λ (m : ℕ). FewAreHeldIn new m asked.seen) (sym e)
            (few_moves xs new (length xs) asked.seen (same_placed xs k n seen x has store how (length xs) asked.seen (omega (arith, past, le))) f.few);
      }

  orderly_placed : (apart : ℕ → ℕ → Bool) (rest : List ℕ) (clock : ℕ) → IsOrderly apart xs (k ∷ rest) clock → IsSentWell apart xs clock k seen → clock ≤ n → IsOrderly apart new rest (n + 1)
  orderly_placed apart rest clock o ok le =
      let early = ok.past in
      let le' : clock ≤ n + 1 = omega (arith, le) in
      let asc = o.ascend in
      let room = o.room in
      record {
        order = λ i j z y lt has_z h p b.
            elim (has_placed xs k (Commit n seen) x j y has h) [
              | inl q ↦
                  let d : IsReady new k x.kind seen = subst (λ (v : ItemKind). IsReady new k v seen) (sym store) (ready_placed k kind.Store seen ok.ready) in
                  let d' : IsReady new j x.kind seen = subst (λ (m : ℕ). IsReady new m x.kind seen) (sym q.0) d in
                  let d'' : IsReady new j y.kind (at_of y.how) = subst (λ (v : Item). IsReady new j v.kind (at_of v.how)) q.1 d' in
                  d'' i z lt has_z b
              | inr q ↦
                  let old : IsReady xs j y.kind (at_of y.how) = λ m w below has_w waits. o.order m j w y below has_w q.1 p waits in
                  ready_placed j y.kind (at_of y.how) old i z lt has_z b
            ];
        stores = λ i j y z lt has_y has_z sy sz p.
            elim (has_placed xs k (Commit n seen) x j z has has_z) [
              | inl q ↦ elim (has_placed xs k (Commit n seen) x i y has has_y) [
                | inl r ↦ absurd (let a = q.0 in let b = r.0 in omega (arith, a, b, lt))
                | inr r ↦
                    let lt' : i < k = (let a = q.0 in omega (arith, a, lt)) in
                    let done : IsDoneBy n y.how = elim (o.waits i y r.1 sy) [
                      | inl d ↦ done_later clock n y.how le d
                      | inr (inl e) ↦ absurd (omega (arith, e, lt'))
                      | inr (inr more) ↦ absurd (let b = ascends_above (suc k) rest i asc.1 more in omega (arith, b, lt'))
                    ] in
                    let new_one : Follow apart y given = record { index = done; sent = λ far. ok.alone i y x lt' r.1 has sy far } in
                    subst (λ (v : Item). Follow apart y v) q.1 new_one
              ]
              | inr q ↦ elim (has_placed xs k (Commit n seen) x i y has has_y) [
                | inl r ↦
                    let lt' : k < j = (let b = r.0 in omega (arith, b, lt)) in
                    absurd (subst (λ (w : How). IsDoneBy (index_of z.how) w) how (o.stores k j x z lt' has q.1 store sz p).index)
                | inr r ↦ o.stores i j y z lt r.1 q.1 sy sz p
              ]
            ];
        behind = λ i y h st f.
            elim (has_placed xs k (Commit n seen) x i y has h) [
              | inl q ↦ subst (λ (v : Item). IsDoneBy (n + 1) v.how) q.1 (omega arith)
              | inr q ↦
                  let f' : HasBarrier xs i (length xs) = barrier_placed i (length xs) (subst (λ (m : ℕ). HasBarrier new i m) (length_placed xs k (Commit n seen)) f) in
                  done_later clock (n + 1) y.how le' (o.behind i y q.1 st f')
            ];
        times = λ i y h.
            elim (has_placed xs k (Commit n seen) x i y has h) [
              | inl q ↦ subst (λ (v : Item). at_of v.how ≤ n + 1) q.1 (omega (arith, early, le))
              | inr q ↦ (let t = o.times i y q.1 in omega (arith, t, le))
            ];
        reads = λ i y h r.
            elim (has_placed xs k (Commit n seen) x i y has h) [
              | inl q ↦ absurd (store_not_read y.kind (subst (λ (v : Item). v.kind ≡ kind.Store) q.1 store) r)
              | inr q ↦ done_later clock (n + 1) y.how le' (o.reads i y q.1 r)
            ];
        waits = λ i y h st.
            elim (has_placed xs k (Commit n seen) x i y has h) [
              | inl q ↦ inl (subst (λ (v : Item). IsDoneBy (n + 1) v.how) q.1 (omega arith))
              | inr q ↦ elim (o.waits i y q.1 st) [
                | inl d ↦ inl (done_later clock (n + 1) y.how le' d)
                | inr (inl e) ↦ absurd (q.0 e)
                | inr (inr more) ↦ inr more
              ]
            ];
        held = λ i h.
            let v = o.held i (inr h) in
            let above = ascends_above (suc k) rest i asc.1 h in
            (v.0, placed_has_other xs k (Commit n seen) i v.0 (λ e. omega (arith, e, above)) v.1, v.2, v.3);
        ascend = ascends_lower (suc k) 0 rest (omega arith) asc.1;
        room = omega (arith, room);
        few = λ i y h r.
            elim (has_placed xs k (Commit n seen) x i y has h) [
              | inl q ↦ absurd (store_not_read y.kind (subst (λ (v : Item). v.kind ≡ kind.Store) q.1 store) r)
              | inr q ↦ (let t = o.times i y q.1 in
                  few_moves xs new i (at_of y.how) (same_placed xs k n seen x has store how i (at_of y.how) (omega (arith, t, le))) (o.few i y q.1 r))
            ];
      }

-- the oldest store, which gets its place
pub record IsOldest (s : Track) (number : ℕ) : Type 0 where
  pub item : Item
  pub has : HasItem s.items number item
  pub store : item.kind ≡ kind.Store
  pub how : item.how ≡ Unplaced

pub oldest : (apart : ℕ → ℕ → Bool) (s : Track) (n : ℕ) (a : IsAcknowledged s n) → IsKept apart s → IsOldest s a.number
oldest apart s n a k =
    let w = k.orderly.held a.number (subst (λ (ws : List ℕ). IsIn a.number ws) (sym a.waits) (inl refl)) in
    record { item = w.0; has = w.1; store = w.2; how = w.3 }

pub kept_acknowledge : (apart : ℕ → ℕ → Bool) (s : Track) (n : ℕ) → IsAcknowledged s n → IsKept apart s → IsKept apart (after s (Acknowledge n))
kept_acknowledge apart s n a k =
    let o = oldest apart s n a k in
    let orderly : IsOrderly apart s.items (a.number ∷ a.waiting) s.clock = subst (λ (ws : List ℕ). IsOrderly apart s.items ws s.clock) a.waits k.orderly in
    let both : AreSentWell apart s.items s.clock (a.number ∷ a.waiting) (a.seen ∷ a.sent) =
    subst (λ (ws : List ℕ). AreSentWell apart s.items s.clock ws (a.seen ∷ a.sent)) a.waits
    (subst (λ (ts : List ℕ). AreSentWell apart s.items s.clock s.waiting ts) a.times k.sent) in
    let above : (i : ℕ) → IsIn i a.waiting → a.number < i = λ i h.
    (let b = ascends_above (suc a.number) a.waiting i orderly.ascend.1 h in omega (arith, b)) in
    let new : IsKept apart (acknowledged s n (a.number ∷ a.waiting) (a.seen ∷ a.sent)) = record {
      orderly = orderly_placed s.items a.number n a.seen o.item o.has o.store o.how apart a.waiting s.clock orderly both.0 a.late;
      sent = sent_placed s.items a.number n a.seen o.item o.has o.store o.how apart s.clock a.waiting a.sent a.late above both.1;
      out = out_placed s.items a.number n a.seen o.item o.has o.store o.how s.clock s.out a.late k.out;
    } in
    subst (λ (ws : List ℕ). IsKept apart (acknowledged s n ws s.sent)) (sym a.waits)
    (subst (λ (ts : List ℕ). IsKept apart (acknowledged s n (a.number ∷ a.waiting) ts)) (sym a.times) new)
