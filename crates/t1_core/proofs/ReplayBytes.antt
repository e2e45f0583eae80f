-- The caches of a core hold bytes, so that what they answer fits its size.
use Rattle.std.proofs.Common.{◌≡◌, ◌≢◌, ◌⊎◌, ◌+◌, ◌*◌, ◌/◌, ◌%◌, ◌^◌, ◌<◌, ◌≤◌, ℕ, zero, suc, true, List, [], ◌∷◌, length, get_or, set, take, replicate, Option, Some, None, refl, ap, sym, ◌∙◌, subst, inl, inr, arith, nat_lt, lit<}
use Rattle.std.specs.List.{slice_get}
use Rattle.std.proofs.lemmas.Bool.{lt-ltb, cases_lt}
use Rattle.t1_num.specs.Memory.{number_at, with_number_at}
use Rattle.t1_num.specs.MemoryLaws.{AreBytes}
use Rattle.t1_num.proofs.MemoryLaws.{number_at_fits, bytes_stay}
use Rattle.t1_shape.specs.Slots.{Layout, Line, slot_of, tags_of, with_bytes, with_bytes_at, with_fill, first_slot}
use Rattle.t1_l1.specs.Cache.{CacheState, line_at, line_with, look_of, bytes_of, get_of, read_in, read_of, empty_cache, filled, emptied, updated}
use Rattle.t1_core.specs.Replays.{AreByteLines}

pub got_set : {A : Type 0} (xs : List A) (k : ℕ) (v : A) (i : ℕ) (x : A) → slice_get (set xs k v) i ≡ Some x → ((i ≡ k) × (v ≡ x)) ⊎ ((i ≢ k) × (slice_get xs i ≡ Some x))
got_set {A} [] k v i x e = let clash : ◌≡◌ {A = Option A} None (Some x) = e in cc
got_set (y ∷ ys) zero v zero x e = inl (refl, (let q : v ≡ x = cc (e) in q))
got_set (y ∷ ys) zero v (suc i) x e = inr ((λ q. omega (arith, q)), e)
got_set (y ∷ ys) (suc k) v zero x e = inr ((λ q. omega (arith, q)), e)
got_set (y ∷ ys) (suc k) v (suc i) x e =
    elim (got_set ys k v i x e) [
      | inl p ↦ inl (omega (arith, p.0), p.1)
      | inr p ↦ inr ((λ q. p.0 (omega (arith, q))), p.1)
    ]

no_bytes : AreBytes []
no_bytes i = lit< tt

-- the bytes of a slot
slot_bytes : (slots : List (Option Line)) (k : ℕ) → AreByteLines slots → AreBytes (bytes_of (get_or slots k None))
slot_bytes [] k a = no_bytes
slot_bytes (None ∷ slots) zero a = no_bytes
slot_bytes (Some line ∷ slots) zero a = a 0 line refl
slot_bytes (s ∷ slots) (suc k) a = slot_bytes slots k (λ j line e. a (suc j) line e)

read_in_fits : (c : CacheState) (addr size v : ℕ) (o : Option ℕ) → AreByteLines c.slots → read_in c addr size o ≡ Some v → nat_lt v (2 ^ (8 * size)) ≡ true
unfolding get_of
read_in_fits c addr size v None a e = let clash : ◌≡◌ {A = Option ℕ} None (Some v) = e in cc
read_in_fits c addr size v (Some way) a e =
    let bytes : List ℕ = bytes_of (get_or c.slots (first_slot c.layout (line_at c addr) + way) None) in
    let low : number_at bytes (addr % c.width) size < 2 ^ (8 * size) = number_at_fits bytes (addr % c.width) size (slot_bytes c.slots (first_slot c.layout (line_at c addr) + way) a) in
    let same : number_at bytes (addr % c.width) size ≡ v = cc in
    subst (λ (n : ℕ). nat_lt n (2 ^ (8 * size)) ≡ true) same (lt-ltb (number_at bytes (addr % c.width) size) (2 ^ (8 * size)) low)

pub read_fits : (c : CacheState) (addr size v : ℕ) → AreByteLines c.slots → read_of c addr size ≡ Some v → nat_lt v (2 ^ (8 * size)) ≡ true
unfolding read_of
read_fits c addr size v a e = read_in_fits c addr size v (look_of c addr) a e

-- ---- each change keeps them

set_some : (slots : List (Option Line)) (k : ℕ) (line : Line) → AreByteLines slots → AreBytes line.bytes → AreByteLines (set slots k (Some line))
set_some slots k line a b j other e = elim (got_set slots k (Some line) j (Some other) e) [
  | inl p ↦ let same : line ≡ other = cc (p.1) in subst (λ (l : Line). AreBytes l.bytes) same b
  | inr p ↦ a j other p.1
]

set_none : (slots : List (Option Line)) (k : ℕ) → AreByteLines slots → AreByteLines (set slots k None)
set_none slots k a j other e = elim (got_set slots k None j (Some other) e) [
  | inl p ↦ absurd (none_some other p.1)
  | inr p ↦ a j other p.1
] where
  none_some : (line : Line) → ◌≡◌ {A = Option Line} None (Some line) → ⊥
  none_some line h = cc

pub filled_bytes : (c : CacheState) (addr way : ℕ) (bytes : List ℕ) → AreByteLines c.slots → AreBytes bytes → AreByteLines (filled c addr way bytes).slots
unfolding filled
filled_bytes c addr way bytes a b = set_some c.slots (first_slot c.layout (line_at c addr) + way) (line_with bytes (line_at c addr)) a b

pub emptied_bytes : (c : CacheState) (at way : ℕ) → AreByteLines c.slots → AreByteLines (emptied c at way).slots
unfolding emptied
emptied_bytes c at way a = set_none c.slots (c.layout.ways * at + way) a

rewritten : (slots : List (Option Line)) (k at size value : ℕ) (o : Option Line) → get_or slots k None ≡ o → AreByteLines slots → AreByteLines (set slots k (with_bytes at size value o))
rewritten slots k at size value None e a = set_none slots k a
rewritten slots k at size value (Some line) e a =
    let bytes : AreBytes line.bytes = subst (λ (o : Option Line). AreBytes (bytes_of o)) e (slot_bytes slots k a) in
    set_some slots k (record { number = line.number; bytes = with_number_at line.bytes at size value }) a (bytes_stay line.bytes at size value bytes)

updated_at : (slots : List (Option Line)) (at size value : ℕ) (o : Option ℕ) → AreByteLines slots → AreByteLines (with_bytes_at o at size value slots)
updated_at slots at size value None a = a
updated_at slots at size value (Some k) a = rewritten slots k at size value (get_or slots k None) refl a

pub updated_bytes : (c : CacheState) (addr size value : ℕ) → AreByteLines c.slots → AreByteLines (updated c addr size value).slots
unfolding updated
updated_bytes c addr size value a = updated_at c.slots (addr % c.width) size value (slot_of c.layout (tags_of c.slots) (line_at c addr)) a

none_there : (n k : ℕ) (line : Line) → slice_get (replicate n None) k ≡ Some (Some line) → ⊥
none_there zero k line e = cc
none_there (suc n) zero line e = cc
none_there (suc n) (suc k) line e = none_there n k line e

pub empty_bytes : (layout : Layout) (width : ℕ) → AreByteLines (empty_cache layout width).slots
unfolding empty_cache
empty_bytes layout width k line e = absurd (none_there (layout.ways * layout.sets) k line e)

pub take_bytes : (n : ℕ) (xs : List ℕ) → AreBytes xs → AreBytes (take n xs)
take_bytes zero xs a i = lit< tt
take_bytes (suc n) [] a i = lit< tt
take_bytes (suc n) (x ∷ xs) a zero = a 0
take_bytes (suc n) (x ∷ xs) a (suc i) = take_bytes n xs (λ j. a (suc j)) i
