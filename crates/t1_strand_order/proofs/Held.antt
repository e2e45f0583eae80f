-- The same stores are held: after an item more, and after an acknowledgement.
use Rattle.std.proofs.Common.{◌≡◌, ℕ, ◌≤◌, List, [], ◌∷◌, ◌++◌, length, refl, ap, sym, subst, inl, inr, arith}
use Rattle.std.proofs.lemmas.Bool.{cases_eq}
use Rattle.t1_event.specs.declared.item.Item.{Item}
use Rattle.t1_event.specs.declared.item.ItemKind.TheVariants as kind
use Rattle.t1_event.specs.declared.item.How.{How}
use Rattle.t1_event.specs.declared.item.How.TheVariants.{Unplaced, Commit}
use Rattle.t1_joint.specs.Waits.{HasItem, IsLate, IsHeldIn}
use Rattle.t1_joint.specs.Rows.{FewAreHeldIn}
use Rattle.t1_strand_order.specs.Tracks.{placed_at}
use Rattle.t1_strand_order.specs.Places.{IsSame, SameAreHeld}
use Rattle.t1_strand_order.proofs.Items.{has_push, push_has, has_placed, placed_has_other, placed_has_same, one_item}

pub same_item : (x : Item) → IsSame x x
same_item x = record { addr = refl; size = refl; put = refl }

pub same_refl : (xs : List Item) (j t : ℕ) → SameAreHeld xs xs j t
same_refl xs j t = record { there = λ i x h. (x, h, same_item x); back = λ i y h. (y, h, same_item y) }

pub same_push : (xs : List Item) (v : Item) (j t : ℕ) → j ≤ length xs → SameAreHeld xs (xs ++ v ∷ []) j t
same_push xs v j t le = record {
  there = λ i x h. (x, record { earlier = h.earlier; has = push_has xs v i x h.has; kind_is = h.kind_is; late = h.late }, same_item x);
  back = λ i y h.
      elim (has_push xs v i y h.has) [
        | inl p ↦ (y, record { earlier = h.earlier; has = p.1; kind_is = h.kind_is; late = h.late }, same_item y)
        | inr p ↦ absurd (let e = h.earlier in omega (arith, p.0, e, le))
      ];
}

-- a store gets an index that is not below the reader's time
module _ (xs : List Item) (k n seen : ℕ) (v : Item) (has : HasItem xs k v) (store : v.kind ≡ kind.Store) (how : v.how ≡ Unplaced) where
  held_placed : (j t i : ℕ) (x : Item) → t ≤ n → IsHeldIn xs j t i x → (y : Item) × IsHeldIn (placed_at xs k (Commit n seen)) j t i y × IsSame x y
  held_placed j t i x le h =
      elim (cases_eq i k) [
        | inl e ↦
            let same : x ≡ v = one_item xs k x v (subst (λ (m : ℕ). HasItem xs m x) e h.has) has in (
              record v { how = Commit n seen },
              record {
                earlier = h.earlier;
                has = subst (λ (m : ℕ). HasItem (placed_at xs k (Commit n seen)) m (record v { how = Commit n seen })) (sym e) (placed_has_same xs k (Commit n seen) v has);
                kind_is = store;
                late = le;
              },
              record { addr = ap (λ (z : Item). z.addr) same; size = ap (λ (z : Item). z.size) same; put = ap (λ (z : Item). z.put) same },
            )
        | inr ne ↦ (x, record { earlier = h.earlier; has = placed_has_other xs k (Commit n seen) i x ne h.has; kind_is = h.kind_is; late = h.late }, same_item x)
      ]

  placed_held : (j t i : ℕ) (y : Item) → IsHeldIn (placed_at xs k (Commit n seen)) j t i y → (x : Item) × IsHeldIn xs j t i x × IsSame x y
  placed_held j t i y h =
      elim (has_placed xs k (Commit n seen) v i y has h.has) [
        | inl p ↦ (
          v,
          record { earlier = h.earlier; has = subst (λ (m : ℕ). HasItem xs m v) (sym p.0) has; kind_is = store; late = subst (λ (w : How). IsLate t w) (sym how) tt },
          record { addr = ap (λ (z : Item). z.addr) p.1; size = ap (λ (z : Item). z.size) p.1; put = ap (λ (z : Item). z.put) p.1 },
        )
        | inr p ↦ (y, record { earlier = h.earlier; has = p.1; kind_is = h.kind_is; late = h.late }, same_item y)
      ]

  pub same_placed : (j t : ℕ) → t ≤ n → SameAreHeld xs (placed_at xs k (Commit n seen)) j t
  same_placed j t le = record { there = λ i x h. held_placed j t i x le h; back = λ i y h. placed_held j t i y h }

pub few_moves : (old new : List Item) (j t : ℕ) → SameAreHeld old new j t → FewAreHeldIn old j t → FewAreHeldIn new j t
few_moves old new j t same f = record { numbers = f.numbers; few = f.few; all = λ i y h. (let x = same.back i y h in f.all i x.0 x.1) }
