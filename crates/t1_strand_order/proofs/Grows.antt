-- A strand gets an item more.
use Rattle.std.proofs.Common.{◌≡◌, ℕ, ◌<◌, ◌≤◌, ◌⊎◌, Bool, List, [], ◌∷◌, ◌++◌, length, refl, sym, subst, inl, inr, arith}
use mathlib.Core.List.{append-nil}
use Rattle.t1_event.specs.declared.item.Item.{Item}
use Rattle.t1_event.specs.declared.item.ItemKind.{ItemKind}
use Rattle.t1_event.specs.declared.item.ItemKind.TheVariants as kind
use Rattle.t1_event.specs.declared.item.How.TheVariants.{Unplaced}
use Rattle.t1_event.specs.Kinds.{IsRead, IsWrite}
use Rattle.t1_event.specs.Items.{IsBarrier}
use Rattle.t1_event.specs.Times.{at_of, IsPlaced}
use Rattle.t1_joint.specs.Lists.{IsIn}
use Rattle.t1_joint.specs.Waits.{HasItem, IsDoneBy, HasBarrier, WaitsFor}
use Rattle.t1_joint.specs.Rows.{FewAreHeldIn}
use Rattle.t1_strand_order.specs.Kept.{Ascends, IsReady, IsAlone, AreSentWell, IsOrderly}
use Rattle.t1_strand_order.proofs.Items.{has_push, push_has, push_last, has_below, length_push, in_contains, done_later, late_done}
use Rattle.t1_strand_order.proofs.Held.{same_push, few_moves}

-- ---- what waits

barrier_old : (xs : List Item) (v : Item) (i j : ℕ) → j ≤ length xs → HasBarrier (xs ++ v ∷ []) i j → HasBarrier xs i j
barrier_old xs v i j l f =
    elim (has_push xs v f.number f.item f.has) [
      | inl p ↦ record { number = f.number; item = f.item; after = f.after; before = f.before; has = p.1; barrier = f.barrier }
      | inr p ↦ absurd (omega (arith, p.0, f.before, l))
    ]

waits_old : (xs : List Item) (v : Item) (i j : ℕ) (x y : ItemKind) → j ≤ length xs → WaitsFor (xs ++ v ∷ []) i x j y → WaitsFor xs i x j y
waits_old xs v i j x y l (inl p) = inl p
waits_old xs v i j x y l (inr (inl p)) = inr (inl p)
waits_old xs v i j x y l (inr (inr p)) = inr (inr (p.0, barrier_old xs v i j l p.1, p.2))

pub ready_push : (xs : List Item) (v : Item) (j : ℕ) (y : ItemKind) (t : ℕ) → j ≤ length xs → IsReady xs j y t → IsReady (xs ++ v ∷ []) j y t
ready_push xs v j y t l d i x lt has b =
    elim (has_push xs v i x has) [
      | inl p ↦ d i x lt p.1 (waits_old xs v i j x.kind y l b)
      | inr p ↦ absurd (omega (arith, p.0, lt, l))
    ]

-- all is done by now, where the access is no write or the buffer is empty
pub ready_now : (apart : ℕ → ℕ → Bool) (items : List Item) (waiting : List ℕ) (clock : ℕ) (k : ItemKind) → IsOrderly apart items waiting clock
    → (IsWrite k → ⊥) ⊎ (waiting ≡ []) → IsReady items (length items) k clock
ready_now apart items waiting clock k o free i x lt has b =
    elim b [
      | inl p ↦ o.reads i x has p.0
      | inr (inl p) ↦ elim free [
        | inl off ↦ absurd (off p.2)
        | inr e ↦ elim (o.waits i x has p.0) [
          | inl d ↦ d
          | inr h ↦ absurd (subst (λ (ks : List ℕ). IsIn i ks) e h)
        ]
      ]
      | inr (inr p) ↦ o.behind i x has p.0 p.1
    ]

-- at most eight are held now: those of the buffer
pub few_now : (apart : ℕ → ℕ → Bool) (items : List Item) (waiting : List ℕ) (clock : ℕ) → IsOrderly apart items waiting clock → FewAreHeldIn items (length items) clock
few_now apart items waiting clock o = record {
  numbers = waiting;
  few = o.room;
  all = λ i x h.
      elim (o.waits i x h.has h.kind_is) [
        | inl d ↦ absurd (late_done clock x.how h.late d)
        | inr w ↦ in_contains waiting i w
      ];
}

-- ---- the new item

-- what it has to show at a clock that may be later, with the buffer after it
pub record IsNew (items : List Item) (waiting after : List ℕ) (later : ℕ) (x : Item) : Type 0 where
  pub placed : IsPlaced x.how → IsReady items (length items) x.kind (at_of x.how)
  pub read : IsRead x.kind → IsDoneBy later x.how
  pub few : IsRead x.kind → FewAreHeldIn items (length items) (at_of x.how)
  pub store : x.kind ≡ kind.Store → IsIn (length items) after
  pub fresh : x.kind ≡ kind.Store → IsPlaced x.how → ⊥
  pub barrier : IsBarrier x → waiting ≡ []
  pub time : at_of x.how ≤ later
  pub kept : (i : ℕ) → IsIn i waiting → IsIn i after
  pub held : (i : ℕ) → IsIn i after → IsIn i waiting ⊎ ((i ≡ length items) × (x.kind ≡ kind.Store) × (x.how ≡ Unplaced))
  pub ascend : Ascends 0 after
  pub room : length after ≤ 8

module _ (apart : ℕ → ℕ → Bool) (items : List Item) (waiting : List ℕ) (clock later : ℕ) (o : IsOrderly apart items waiting clock) (le : clock ≤ later) (x : Item) where
  pub orderly_push : (after : List ℕ) → IsNew items waiting after later x → IsOrderly apart (items ++ x ∷ []) after later
  orderly_push after new = record {
    order = λ i j w y lt has_w has p b.
        elim (has_push items x j y has) [
          | inl q ↦
              let old : IsReady items j y.kind (at_of y.how) = λ m z below has_z waits. o.order m j z y below has_z q.1 p waits in
              ready_push items x j y.kind (at_of y.how) (omega (arith, q.0)) old i w lt has_w b
          | inr q ↦
              let p' : IsPlaced x.how = subst (λ (v : Item). IsPlaced v.how) (sym q.1) p in
              let d : IsReady (items ++ x ∷ []) (length items) x.kind (at_of x.how) =
              ready_push items x (length items) x.kind (at_of x.how) (omega arith) (new.placed p') in
              let d' : IsReady (items ++ x ∷ []) j x.kind (at_of x.how) = subst (λ (n : ℕ). IsReady (items ++ x ∷ []) n x.kind (at_of x.how)) (sym q.0) d in
              let d'' : IsReady (items ++ x ∷ []) j y.kind (at_of y.how) = subst (λ (v : Item). IsReady (items ++ x ∷ []) j v.kind (at_of v.how)) q.1 d' in
              d'' i w lt has_w b
        ];
    stores = λ i j y z lt has_y has_z sy sz p.
        elim (has_push items x j z has_z) [
          | inl q ↦ elim (has_push items x i y has_y) [
            | inl r ↦ o.stores i j y z lt r.1 q.1 sy sz p
            | inr r ↦ absurd (let a = q.0 in let b = r.0 in omega (arith, a, b, lt))
          ]
          | inr q ↦ absurd (new.fresh (subst (λ (v : Item). v.kind ≡ kind.Store) (sym q.1) sz) (subst (λ (v : Item). IsPlaced v.how) (sym q.1) p))
        ];
    behind = λ i y has s f.
        elim (has_push items x i y has) [
          | inl q ↦ elim (has_push items x f.number f.item f.has) [
            | inl g ↦ done_later clock later y.how le
                (o.behind i y q.1 s (record { number = f.number; item = f.item; after = f.after; before = g.0; has = g.1; barrier = f.barrier }))
            | inr g ↦ elim (o.waits i y q.1 s) [
              | inl d ↦ done_later clock later y.how le d
              | inr h ↦ absurd (subst (λ (ks : List ℕ). IsIn i ks) (new.barrier (subst (λ (v : Item). IsBarrier v) (sym g.1) f.barrier)) h)
            ]
          ]
          | inr q ↦ absurd (let l = length_push items x in omega (arith, q.0, f.after, f.before, l))
        ];
    times = λ i y has.
        elim (has_push items x i y has) [
          | inl q ↦ let t = o.times i y q.1 in omega (arith, t, le)
          | inr q ↦ subst (λ (v : Item). at_of v.how ≤ later) q.1 new.time
        ];
    reads = λ i y has r.
        elim (has_push items x i y has) [
          | inl q ↦ done_later clock later y.how le (o.reads i y q.1 r)
          | inr q ↦ subst (λ (v : Item). IsDoneBy later v.how) q.1 (new.read (subst (λ (v : Item). IsRead v.kind) (sym q.1) r))
        ];
    waits = λ i y has s.
        elim (has_push items x i y has) [
          | inl q ↦ elim (o.waits i y q.1 s) [ inl d ↦ inl (done_later clock later y.how le d) | inr h ↦ inr (new.kept i h) ]
          | inr q ↦ inr (subst (λ (n : ℕ). IsIn n after) (sym q.0) (new.store (subst (λ (v : Item). v.kind ≡ kind.Store) (sym q.1) s)))
        ];
    held = λ i h.
        elim (new.held i h) [
          | inl old ↦ let w = o.held i old in (w.0, push_has items x i w.0 w.1, w.2, w.3)
          | inr q ↦ (x, subst (λ (n : ℕ). HasItem (items ++ x ∷ []) n x) (sym q.0) (push_last items x), q.1, q.2)
        ];
    ascend = new.ascend;
    room = new.room;
    few = λ i y has r.
        elim (has_push items x i y has) [
          | inl q ↦ (let l = q.0 in few_moves items (items ++ x ∷ []) i (at_of y.how) (same_push items x i (at_of y.how) (omega (arith, l))) (o.few i y q.1 r))
          | inr q ↦
              let f : FewAreHeldIn items (length items) (at_of x.how) = new.few (subst (λ (v : Item). IsRead v.kind) (sym q.1) r) in
              let f' : FewAreHeldIn (items ++ x ∷ []) (length items) (at_of x.how) =
              few_moves items (items ++ x ∷ []) (length items) (at_of x.how) (same_push items x (length items) (at_of x.how) (omega arith)) f in
              let f'' : FewAreHeldIn (items ++ x ∷ []) i (at_of x.how) = subst (λ (n : ℕ). FewAreHeldIn (items ++ x ∷ []) n (at_of x.how)) (sym q.0) f' in
              subst (λ (v : Item). FewAreHeldIn (items ++ x ∷ []) i (at_of v.how)) q.1 f''
        ];
  }

-- ---- the stores that are sent

alone_push : (apart : ℕ → ℕ → Bool) (xs : List Item) (v : Item) (j t : ℕ) → j < length xs → IsAlone apart xs j t → IsAlone apart (xs ++ v ∷ []) j t
alone_push apart xs v j t l f i x y lt has_x has_y st far =
    elim (has_push xs v i x has_x) [
      | inl p ↦ elim (has_push xs v j y has_y) [
        | inl q ↦ f i x y lt p.1 q.1 st far
        | inr q ↦ absurd (let e = q.0 in omega (arith, e, l))
      ]
      | inr p ↦ absurd (let e = p.0 in omega (arith, e, lt, l))
    ]

-- more items, a later clock, and more behind the stores that wait
pub sent_more : (apart : ℕ → ℕ → Bool) (items : List Item) (clock later : ℕ) (x : Item) (ks more ts : List ℕ) → clock ≤ later → ((k : ℕ) → IsIn k ks → k < length items)
    → AreSentWell apart items clock ks ts → AreSentWell apart (items ++ x ∷ []) later (ks ++ more) ts
sent_more apart items clock later x ks more [] le b f = tt
sent_more apart items clock later x [] more (t ∷ ts) le b f = absurd f
sent_more apart items clock later x (k ∷ ks) more (t ∷ ts) le b f =
    let s = f.0 in
    let l : k < length items = b k (inl refl) in
    let early = s.past in (
      record {
        past = omega (arith, early, le);
        ready = ready_push items x k kind.Store t (omega (arith, l)) s.ready;
        alone = alone_push apart items x k t l s.alone;
      },
      sent_more apart items clock later x ks more ts le (λ i h. b i (inr h)) f.1,
    )

pub waiting_below : (apart : ℕ → ℕ → Bool) (items : List Item) (waiting : List ℕ) (clock : ℕ) → IsOrderly apart items waiting clock → (k : ℕ) → IsIn k waiting → k < length items
waiting_below apart items waiting clock o k h = let w = o.held k h in has_below items k w.0 w.1

pub sent_push : (apart : ℕ → ℕ → Bool) (items : List Item) (waiting : List ℕ) (clock later : ℕ) (x : Item) (ts : List ℕ) → clock ≤ later → IsOrderly apart items waiting clock
    → AreSentWell apart items clock waiting ts → AreSentWell apart (items ++ x ∷ []) later waiting ts
sent_push apart items waiting clock later x ts le o f =
    subst (λ (ws : List ℕ). AreSentWell apart (items ++ x ∷ []) later ws ts) (append-nil waiting)
    (sent_more apart items clock later x waiting [] ts le (waiting_below apart items waiting clock o) f)
