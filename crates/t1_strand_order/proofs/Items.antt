-- Items at a number, numbers in a list, and what is done by a time.
use Rattle.std.proofs.Common.{◌≡◌, ◌≢◌, ℕ, zero, suc, ◌+◌, ◌<◌, ◌≤◌, ◌⊎◌, true, false, List, [], ◌∷◌, ◌++◌, length, Option, Some, None, refl, sym, ◌∙◌, subst, inl, inr, arith, length-append}
use Rattle.std.specs.List.{Contains}
use Rattle.t1_event.specs.declared.item.Item.{Item}
use Rattle.t1_event.specs.declared.item.ItemKind.{ItemKind}
use Rattle.t1_event.specs.declared.item.ItemKind.TheVariants as kind
use Rattle.t1_event.specs.declared.item.How.{How}
use Rattle.t1_event.specs.declared.item.How.TheVariants.{Unplaced, Forward, Hit, Commit}
use Rattle.t1_event.specs.Kinds.{IsRead, IsAccess}
use Rattle.t1_event.specs.Items.{IsBarrier}
use Rattle.t1_joint.specs.Lists.{IsIn}
use Rattle.t1_joint.specs.Waits.{HasItem, IsDoneBy, IsLate}
use Rattle.t1_strand_order.specs.Tracks.{placed_at}
use Rattle.t1_strand_order.specs.Kept.{Ascends}

-- ---- items

none_has : (i : ℕ) (x : Item) → HasItem [] i x → ⊥
none_has i x e = let clash : ◌≡◌ {A = Option Item} None (Some x) = e in cc

pub has_push : (xs : List Item) (v : Item) (i : ℕ) (x : Item) → HasItem (xs ++ v ∷ []) i x
    → ((i < length xs) × HasItem xs i x) ⊎ ((i ≡ length xs) × (v ≡ x))
has_push [] v zero x e = inr (refl, (let q : v ≡ x = cc (e) in q))
has_push [] v (suc i) x e = absurd (none_has i x e)
has_push (y ∷ ys) v zero x e = inl (omega arith, e)
has_push (y ∷ ys) v (suc i) x e =
    elim (has_push ys v i x e) [
      | inl p ↦ inl (omega (arith, p.0), p.1)
      | inr p ↦ inr (omega (arith, p.0), p.1)
    ]

pub push_has : (xs : List Item) (v : Item) (i : ℕ) (x : Item) → HasItem xs i x → HasItem (xs ++ v ∷ []) i x
push_has [] v i x e = absurd (none_has i x e)
push_has (y ∷ ys) v zero x e = e
push_has (y ∷ ys) v (suc i) x e = push_has ys v i x e

pub push_last : (xs : List Item) (v : Item) → HasItem (xs ++ v ∷ []) (length xs) v
push_last [] v = refl
push_last (y ∷ ys) v = push_last ys v

pub has_below : (xs : List Item) (i : ℕ) (x : Item) → HasItem xs i x → i < length xs
has_below [] i x e = absurd (none_has i x e)
has_below (y ∷ ys) zero x e = omega arith
has_below (y ∷ ys) (suc i) x e = let l = has_below ys i x e in omega (arith, l)

pub one_item : (xs : List Item) (i : ℕ) (x y : Item) → HasItem xs i x → HasItem xs i y → x ≡ y
one_item xs i x y e f = let q : Some x ≡ Some y = sym e ∙ f in cc

pub length_push : (xs : List Item) (x : Item) → length (xs ++ x ∷ []) ≡ length xs + 1
length_push xs x = length-append xs (x ∷ [])

-- ---- the item that gets a place

pub length_placed : (xs : List Item) (k : ℕ) (how : How) → length (placed_at xs k how) ≡ length xs
length_placed [] k how = refl
length_placed (y ∷ ys) zero how = refl
length_placed (y ∷ ys) (suc k) how = let e = length_placed ys k how in omega (arith, e)

pub has_placed : (xs : List Item) (k : ℕ) (how : How) (v : Item) (i : ℕ) (x : Item) → HasItem xs k v → HasItem (placed_at xs k how) i x
    → ((i ≡ k) × ((record v { how = how }) ≡ x)) ⊎ ((i ≢ k) × HasItem xs i x)
has_placed [] k how v i x h e = absurd (none_has k v h)
has_placed (y ∷ ys) zero how v zero x h e =
    inl (refl, (let same : y ≡ v = cc (h) in let q : (record y { how = how }) ≡ x = cc (e) in subst (λ (z : Item). (record z { how = how }) ≡ x) same q))
has_placed (y ∷ ys) zero how v (suc i) x h e = inr ((λ q. omega (arith, q)), e)
has_placed (y ∷ ys) (suc k) how v zero x h e = inr ((λ q. omega (arith, q)), e)
has_placed (y ∷ ys) (suc k) how v (suc i) x h e =
    elim (has_placed ys k how v i x h e) [
      | inl p ↦ inl (omega (arith, p.0), p.1)
      | inr p ↦ inr ((λ q. p.0 (omega (arith, q))), p.1)
    ]

pub placed_has_other : (xs : List Item) (k : ℕ) (how : How) (i : ℕ) (x : Item) → i ≢ k → HasItem xs i x → HasItem (placed_at xs k how) i x
placed_has_other [] k how i x ne e = absurd (none_has i x e)
placed_has_other (y ∷ ys) zero how zero x ne e = absurd (ne refl)
placed_has_other (y ∷ ys) zero how (suc i) x ne e = e
placed_has_other (y ∷ ys) (suc k) how zero x ne e = e
placed_has_other (y ∷ ys) (suc k) how (suc i) x ne e = placed_has_other ys k how i x (λ q. ne (omega (arith, q))) e

pub placed_has_same : (xs : List Item) (k : ℕ) (how : How) (x : Item) → HasItem xs k x → HasItem (placed_at xs k how) k (record x { how = how })
placed_has_same [] k how x e = absurd (none_has k x e)
placed_has_same (y ∷ ys) zero how x e =
    let same : y ≡ x = cc (e) in subst (λ (z : Item). HasItem ((record y { how = how }) ∷ ys) zero (record z { how = how })) same refl
placed_has_same (y ∷ ys) (suc k) how x e = placed_has_same ys k how x e

-- ---- numbers

pub in_push : (ks : List ℕ) (n k : ℕ) → IsIn k (ks ++ n ∷ []) → IsIn k ks ⊎ (k ≡ n)
in_push [] n k h = elim h [ inl e ↦ inr e | inr e ↦ absurd e ]
in_push (x ∷ xs) n k (inl e) = inl (inl e)
in_push (x ∷ xs) n k (inr h) = elim (in_push xs n k h) [ inl p ↦ inl (inr p) | inr p ↦ inr p ]

pub push_in : (ks : List ℕ) (n k : ℕ) → IsIn k ks → IsIn k (ks ++ n ∷ [])
push_in [] n k h = absurd h
push_in (x ∷ xs) n k (inl e) = inl e
push_in (x ∷ xs) n k (inr h) = inr (push_in xs n k h)

pub push_in_last : (ks : List ℕ) (n : ℕ) → IsIn n (ks ++ n ∷ [])
push_in_last [] n = inl refl
push_in_last (x ∷ xs) n = inr (push_in_last xs n)

pub in_middle : (pre : List ℕ) (k : ℕ) (post : List ℕ) → IsIn k (pre ++ k ∷ post)
in_middle [] k post = inl refl
in_middle (x ∷ xs) k post = inr (in_middle xs k post)

pub in_contains : (ks : List ℕ) (k : ℕ) → IsIn k ks → Contains ks k
in_contains [] k h = absurd h
in_contains (x ∷ xs) k (inl e) = (0, omega arith, sym e)
in_contains (x ∷ xs) k (inr h) = let c = in_contains xs k h in (suc c.0, (let l = c.1 in omega (arith, l)), c.2)

pub ascends_push : (low : ℕ) (ks : List ℕ) (n : ℕ) → low ≤ n → Ascends low ks → ((k : ℕ) → IsIn k ks → k < n) → Ascends low (ks ++ n ∷ [])
ascends_push low [] n l a below = (l, tt)
ascends_push low (x ∷ xs) n l a below =
    let lx : x < n = below x (inl refl) in
    (a.0, ascends_push (suc x) xs n lx a.1 (λ k h. below k (inr h)))

pub ascends_above : (low : ℕ) (ks : List ℕ) (k : ℕ) → Ascends low ks → IsIn k ks → low ≤ k
ascends_above low [] k a h = absurd h
ascends_above low (x ∷ xs) k a (inl e) = omega (arith, e, a.0)
ascends_above low (x ∷ xs) k a (inr h) = let l = ascends_above (suc x) xs k a.1 h in omega (arith, l, a.0)

pub ascends_lower : (low lower : ℕ) (ks : List ℕ) → lower ≤ low → Ascends low ks → Ascends lower ks
ascends_lower low lower [] l a = tt
ascends_lower low lower (x ∷ xs) l a = (omega (arith, l, a.0), a.1)

-- the smaller numbers of an ascending list stand before
pub in_before : (low : ℕ) (pre : List ℕ) (k : ℕ) (post : List ℕ) (i : ℕ) → Ascends low (pre ++ k ∷ post) → IsIn i (pre ++ k ∷ post) → i < k → IsIn i pre
in_before low [] k post i a (inl e) l = absurd (omega (arith, e, l))
in_before low [] k post i a (inr h) l = absurd (let b = ascends_above (suc k) post i a.1 h in omega (arith, b, l))
in_before low (x ∷ xs) k post i a (inl e) l = inl e
in_before low (x ∷ xs) k post i a (inr h) l = inr (in_before (suc x) xs k post i a.1 h l)

-- ---- times

pub done_later : (t u : ℕ) (how : How) → t ≤ u → IsDoneBy t how → IsDoneBy u how
done_later t u Unplaced l d = absurd d
done_later t u (Forward v) l d = omega (arith, l, d)
done_later t u (Hit v) l d = omega (arith, l, d)
done_later t u (Commit n s) l d = omega (arith, l, d)

pub late_done : (t : ℕ) (how : How) → IsLate t how → IsDoneBy t how → ⊥
late_done t Unplaced late d = d
late_done t (Forward v) late d = late
late_done t (Hit v) late d = late
late_done t (Commit n s) late d = omega (arith, late, d)

-- ---- kinds

pub not_true : false ≡ true → ⊥
not_true e = cc

pub read_not_store : (k : ItemKind) → IsRead k → k ≡ kind.Store → ⊥
read_not_store k r e = not_true (subst (λ (v : ItemKind). IsRead v) e r)

pub store_not_read : (k : ItemKind) → k ≡ kind.Store → IsRead k → ⊥
store_not_read k e r = read_not_store k r e

pub read_not_barrier : (x : Item) → IsRead x.kind → IsBarrier x → ⊥
read_not_barrier x r (inl e) = not_true (subst (λ (v : ItemKind). IsRead v) e r)
read_not_barrier x r (inr p) = not_true (subst (λ (v : ItemKind). IsRead v) p.0 r)

pub store_not_barrier : (x : Item) → x.kind ≡ kind.Store → IsBarrier x → ⊥
store_not_barrier x s (inl e) = let clash : kind.Store ≡ kind.Flush = sym s ∙ e in cc
store_not_barrier x s (inr p) = let clash : kind.Store ≡ kind.Membar = sym s ∙ p.0 in cc

pub read_access : (k : ItemKind) → IsRead k → IsAccess k
read_access kind.Fetch r = refl
read_access kind.Load r = refl
read_access (kind.Atomic wrote) r = refl
read_access kind.Store r = absurd (not_true r)
read_access kind.Membar r = absurd (not_true r)
read_access kind.Flush r = absurd (not_true r)
