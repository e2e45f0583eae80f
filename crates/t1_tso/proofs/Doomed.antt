-- The kills of a commit empty each doomed slot.
use Rattle.std.proofs.Common.{◌≡◌, ℕ, zero, suc, ◌+◌, ◌/◌, ◌%◌, ◌<◌, ◌⊎◌, ◌==◌, nat_lt, inl, inr, Bool, true, cond, List, [], ◌∷◌, ◌++◌, get_or, set, Option, Some, None, refl, sym, ◌∙◌, subst, arith}
use Rattle.std.proofs.lemmas.Bool.{cases_eq, cases_Bool, lt-ltb, eq-eqb}
use Rattle.t1_shape.specs.Shapes.{Shape}
use Rattle.t1_shape.proofs.Slots.{slot_split}
use Rattle.t1_shape.proofs.Once.{set_read}
use Rattle.t1_packet.specs.declared.cache.Cache.{Cache}
use Rattle.t1_packet.specs.declared.cache.Cache.TheVariants.{Dcache, Icache}
use Rattle.t1_packet.specs.declared.op.Op.{Op}
use Rattle.t1_packet.specs.Data.{KillData}
use Rattle.t1_packet.specs.Caches.{layout, same_cache, is_kill_of, slot_killed, with_kills}
use Rattle.t1_event.specs.Kills.{is_doomed, kill_at, kills_here, kills_below}
use Rattle.t1_packet.proofs.Caches.{set_below, way_below}
use Rattle.t1_tso.proofs.Once.{left_by_kills}

-- a kill of this slot is in the list
abbrev pub Hits : (shape : Shape) → ℕ → Cache → ℕ → List KillData → Type 0
Hits shape core cache k [] = ⊥
Hits shape core cache k (y ∷ ys) = ((is_kill_of shape core cache y ≡ true) × (slot_killed shape y ≡ k)) ⊎ Hits shape core cache k ys

hits_left : (shape : Shape) (core : ℕ) (cache : Cache) (k : ℕ) (xs ys : List KillData) → Hits shape core cache k xs → Hits shape core cache k (xs ++ ys)
hits_left shape core cache k [] ys h = absurd h
hits_left shape core cache k (x ∷ xs) ys (inl p) = inl p
hits_left shape core cache k (x ∷ xs) ys (inr p) = inr (hits_left shape core cache k xs ys p)

hits_right : (shape : Shape) (core : ℕ) (cache : Cache) (k : ℕ) (xs ys : List KillData) → Hits shape core cache k ys → Hits shape core cache k (xs ++ ys)
hits_right shape core cache k [] ys h = h
hits_right shape core cache k (x ∷ xs) ys h = inr (hits_right shape core cache k xs ys h)

-- a killed slot is empty afterwards
pub hit_empty : {A : Type 0} (shape : Shape) (core : ℕ) (cache : Cache) (ks : List KillData) (slots : List (Option A)) (k : ℕ) (l : A)
    → Hits shape core cache k ks → get_or (with_kills shape core cache ks slots) k None ≡ Some l → ⊥
hit_empty shape core cache [] slots k l h e = h
hit_empty {A} shape core cache (y ∷ ys) slots k l (inl p) e =
    let e' : get_or (with_kills shape core cache ys (set slots (slot_killed shape y) None)) k None ≡ Some l = rw (p.0) at e in
    elim (set_read slots (slot_killed shape y) None k l (left_by_kills shape core cache ys (set slots (slot_killed shape y) None) k l e')) [
      | inl q ↦ let clash : ◌≡◌ {A = Option A} None (Some l) = q.1 in cc
      | inr q ↦ q.0 (sym p.1)
    ]
hit_empty {A} shape core cache (y ∷ ys) slots k l (inr p) e = hit_empty shape core cache ys (cond (is_kill_of shape core cache y) (set slots (slot_killed shape y) None) slots) k l p e

same_cache_self : (cache : Cache) → same_cache cache cache ≡ true
same_cache_self Dcache = refl
same_cache_self Icache = refl

-- a kill of a slot of the cache is a kill of it
own_kill : (shape : Shape) (core : ℕ) (cache : Cache) (slot : ℕ) → slot < 512 → is_kill_of shape core cache (kill_at shape core cache slot) ≡ true
own_kill shape core cache slot l =
    let set_is : nat_lt (slot / (layout shape cache).ways) (layout shape cache).sets ≡ true = lt-ltb _ _ (set_below shape cache slot l) in
    let way_is : nat_lt (slot % (layout shape cache).ways) (layout shape cache).ways ≡ true = lt-ltb _ _ (way_below shape cache slot) in
    rw (eq-eqb core core refl, same_cache_self cache, set_is, way_is) refl

-- each doomed slot is in the list
hits_here : (shape : Shape) (core : ℕ) (cache : Cache) (own : Bool) (evicted : Option ℕ) (op : Op) (tags : List (Option ℕ)) (from k : ℕ) (line : ℕ) → from + k < 512
    → get_or tags k None ≡ Some line → is_doomed cache own evicted op (Some line) ≡ true → Hits shape core cache (from + k) (kills_here shape core cache own evicted op tags from)
hits_here shape core cache own evicted op [] from k line l e d = let clash : ◌≡◌ {A = Option ℕ} None (Some line) = e in cc
hits_here shape core cache own evicted op (t ∷ ts) from zero line l e d =
    let d' : is_doomed cache own evicted op t ≡ true = subst (λ (o : Option ℕ). is_doomed cache own evicted op o ≡ true) (sym e) d in
    rw d' (inl (own_kill shape core cache from (omega (arith, l)), slot_split (layout shape cache) from ∙ omega arith))
hits_here shape core cache own evicted op (t ∷ ts) from (suc k) line l e d =
    let rest : Hits shape core cache (from + suc k) (kills_here shape core cache own evicted op ts (suc from)) =
    subst (λ (n : ℕ). Hits shape core cache n (kills_here shape core cache own evicted op ts (suc from))) (omega arith) (hits_here shape core cache own evicted op ts (suc from) k line (omega (arith, l)) e d) in
    elim (cases_Bool (is_doomed cache own evicted op t)) [
      | inl q ↦ rw q (inr rest)
      | inr q ↦ rw q rest
    ]

hits_from_zero : (shape : Shape) (core : ℕ) (cache : Cache) (own : Bool) (evicted : Option ℕ) (op : Op) (tags : List (Option ℕ)) (k : ℕ) (line : ℕ) → k < 512
    → get_or tags k None ≡ Some line → is_doomed cache own evicted op (Some line) ≡ true → Hits shape core cache k (kills_here shape core cache own evicted op tags 0)
hits_from_zero shape core cache own evicted op tags k line l e d =
    subst (λ (n : ℕ). Hits shape core cache n (kills_here shape core cache own evicted op tags 0)) (omega arith)
    (hits_here shape core cache own evicted op tags 0 k line (omega (arith, l)) e d)

-- and so in that of all cores
pub hits_below : (shape : Shape) (shown : ℕ → Cache → List (Option ℕ)) (asker : ℕ) (evicted : Option ℕ) (op : Op) (cores core : ℕ) (cache : Cache) (k line : ℕ) → core < cores → k < 512
    → get_or (shown core cache) k None ≡ Some line → is_doomed cache (asker == core) evicted op (Some line) ≡ true
    → Hits shape core cache k (kills_below shape shown asker evicted op cores)
hits_below shape shown asker evicted op zero core cache k line l s e d = absurd (omega (arith, l))
hits_below shape shown asker evicted op (suc m) core cache k line l s e d =
    let before = kills_below shape shown asker evicted op m in
    let ds = kills_here shape m Dcache (asker == m) evicted op (shown m Dcache) 0 in
    let is = kills_here shape m Icache (asker == m) evicted op (shown m Icache) 0 in
    elim (cases_eq core m) [
      | inl same ↦ last cache e d same
      | inr apart ↦
          hits_left shape core cache k (before ++ ds) is
          (hits_left shape core cache k before ds (hits_below shape shown asker evicted op m core cache k line (omega arith) s e d))
    ]
  where
    last : (κ : Cache) → get_or (shown core κ) k None ≡ Some line → is_doomed κ (asker == core) evicted op (Some line) ≡ true → core ≡ m
        → Hits shape core κ k (kills_below shape shown asker evicted op (suc m))
    last Dcache f g same =
        let before = kills_below shape shown asker evicted op m in
        let ds = kills_here shape m Dcache (asker == m) evicted op (shown m Dcache) 0 in
        let is = kills_here shape m Icache (asker == m) evicted op (shown m Icache) 0 in
        let here : Hits shape core Dcache k ds =
        subst (λ (i : ℕ). Hits shape core Dcache k (kills_here shape i Dcache (asker == i) evicted op (shown i Dcache) 0)) same
        (hits_from_zero shape core Dcache (asker == core) evicted op (shown core Dcache) k line s f g) in
        hits_left shape core Dcache k (before ++ ds) is (hits_right shape core Dcache k before ds here)
    last Icache f g same =
        let before = kills_below shape shown asker evicted op m in
        let ds = kills_here shape m Dcache (asker == m) evicted op (shown m Dcache) 0 in
        let is = kills_here shape m Icache (asker == m) evicted op (shown m Icache) 0 in
        let here : Hits shape core Icache k is =
        subst (λ (i : ℕ). Hits shape core Icache k (kills_here shape i Icache (asker == i) evicted op (shown i Icache) 0)) same
        (hits_from_zero shape core Icache (asker == core) evicted op (shown core Icache) k line s f g) in
        hits_right shape core Icache k (before ++ ds) is here
