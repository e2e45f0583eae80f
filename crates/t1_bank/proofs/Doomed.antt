-- Each doomed slot is in the kills, and is empty after them.
use Rattle.std.proofs.Common.{◌≡◌, ℕ, ◌+◌, ◌<◌, ◌==◌, Bool, true, cond, List, [], ◌∷◌, ◌++◌, get_or, set, Option, Some, None, refl, sym, ◌∙◌, subst, inl, inr, ◌⊎◌, arith, zero, suc}
use Rattle.std.proofs.lemmas.Bool.{cases_eq, cases_Bool, eq-eqb, and_from}
use Rattle.t1_bank.proofs.Rule.{cleared, cleared_left, is_of, kills_in}
use Rattle.t1_dir.specs.Directory.{DirectoryState, tags_at}
use Rattle.t1_event.specs.Kills.{is_doomed, kills_here}
use Rattle.t1_packet.specs.Caches.{layout, same_cache, slot_killed}
use Rattle.t1_packet.specs.Data.{KillData}
use Rattle.t1_packet.specs.declared.cache.Cache.{Cache}
use Rattle.t1_packet.specs.declared.cache.Cache.TheVariants.{Dcache, Icache}
use Rattle.t1_packet.specs.declared.op.Op.{Op}
use Rattle.t1_shape.proofs.Once.{set_read}
use Rattle.t1_shape.proofs.Slots.{slot_split}
use Rattle.t1_shape.specs.Shapes.{Shape}

-- a kill of this slot is in the list
abbrev pub Hits : Shape → ℕ → Cache → ℕ → List KillData → Type 0
Hits shape core cache k [] = ⊥
Hits shape core cache k (y ∷ ys) = ((is_of core cache y ≡ true) × (slot_killed shape y ≡ k)) ⊎ Hits shape core cache k ys

hits_left : (shape : Shape) (core : ℕ) (cache : Cache) (k : ℕ) (xs ys : List KillData) → Hits shape core cache k xs → Hits shape core cache k (xs ++ ys)
hits_left shape core cache k [] ys h = absurd h
hits_left shape core cache k (x ∷ xs) ys (inl p) = inl p
hits_left shape core cache k (x ∷ xs) ys (inr p) = inr (hits_left shape core cache k xs ys p)

hits_right : (shape : Shape) (core : ℕ) (cache : Cache) (k : ℕ) (xs ys : List KillData) → Hits shape core cache k ys → Hits shape core cache k (xs ++ ys)
hits_right shape core cache k [] ys h = h
hits_right shape core cache k (x ∷ xs) ys h = inr (hits_right shape core cache k xs ys h)

-- a killed slot is empty afterwards
pub hit_empty : {A : Type 0} (shape : Shape) (core : ℕ) (cache : Cache) (ks : List KillData) (slots : List (Option A)) (k : ℕ) (l : A)
    → Hits shape core cache k ks → get_or (cleared shape core cache ks slots) k None ≡ Some l → ⊥
hit_empty shape core cache [] slots k l h e = h
hit_empty {A} shape core cache (y ∷ ys) slots k l (inl p) e =
    let e' : get_or (cleared shape core cache ys (set slots (slot_killed shape y) None)) k None ≡ Some l = rw (p.0) at e in
    elim (set_read slots (slot_killed shape y) None k l (cleared_left shape core cache ys (set slots (slot_killed shape y) None) k l e')) [
      | inl q ↦ let clash : ◌≡◌ {A = Option A} None (Some l) = q.1 in cc
      | inr q ↦ q.0 (sym p.1)
    ]
hit_empty {A} shape core cache (y ∷ ys) slots k l (inr p) e = hit_empty shape core cache ys (cond (is_of core cache y) (set slots (slot_killed shape y) None) slots) k l p e

same_cache_self : (cache : Cache) → same_cache cache cache ≡ true
same_cache_self Dcache = refl
same_cache_self Icache = refl

-- each doomed slot is in the list
hits_here : (shape : Shape) (core : ℕ) (cache : Cache) (own : Bool) (v : Option ℕ) (op : Op) (tags : List (Option ℕ)) (from k : ℕ) (line : ℕ)
    → get_or tags k None ≡ Some line → is_doomed cache own v op (Some line) ≡ true → Hits shape core cache (from + k) (kills_here shape core cache own v op tags from)
hits_here shape core cache own v op [] from k line e d = let clash : ◌≡◌ {A = Option ℕ} None (Some line) = e in cc
hits_here shape core cache own v op (t ∷ ts) from zero line e d =
    let d' : is_doomed cache own v op t ≡ true = subst (λ (o : Option ℕ). is_doomed cache own v op o ≡ true) (sym e) d in
    rw d' (inl (and_from (core == core) (same_cache cache cache) (eq-eqb core core refl) (same_cache_self cache), slot_split (layout shape cache) from ∙ omega arith))
hits_here shape core cache own v op (t ∷ ts) from (suc k) line e d =
    let rest : Hits shape core cache (from + suc k) (kills_here shape core cache own v op ts (suc from)) =
    subst (λ (n : ℕ). Hits shape core cache n (kills_here shape core cache own v op ts (suc from))) (omega arith) (hits_here shape core cache own v op ts (suc from) k line e d) in
    elim (cases_Bool (is_doomed cache own v op t)) [
      | inl q ↦ rw q (inr rest)
      | inr q ↦ rw q rest
    ]

here_from_zero : (shape : Shape) (core : ℕ) (cache : Cache) (own : Bool) (v : Option ℕ) (op : Op) (tags : List (Option ℕ)) (k : ℕ) (line : ℕ)
    → get_or tags k None ≡ Some line → is_doomed cache own v op (Some line) ≡ true → Hits shape core cache k (kills_here shape core cache own v op tags 0)
here_from_zero shape core cache own v op tags k line e d =
    subst (λ (n : ℕ). Hits shape core cache n (kills_here shape core cache own v op tags 0)) (omega arith) (hits_here shape core cache own v op tags 0 k line e d)

hits_last : (d : DirectoryState) (own : ℕ) (v : Option ℕ) (op : Op) (m core : ℕ) (cache : Cache) (k line : ℕ)
    → get_or (tags_at d core cache) k None ≡ Some line → is_doomed cache (own == core) v op (Some line) ≡ true → core ≡ m
    → Hits d.shape core cache k (kills_in d own v op (suc m))
hits_last d own v op m core Dcache k line e q same =
    let here : Hits d.shape core Dcache k (kills_here d.shape m Dcache (own == m) v op (tags_at d m Dcache) 0) =
    subst (λ (i : ℕ). Hits d.shape core Dcache k (kills_here d.shape i Dcache (own == i) v op (tags_at d i Dcache) 0)) same
    (here_from_zero d.shape core Dcache (own == core) v op (tags_at d core Dcache) k line e q) in
    hits_left d.shape core Dcache k (kills_in d own v op m ++ kills_here d.shape m Dcache (own == m) v op (tags_at d m Dcache) 0) (kills_here d.shape m Icache (own == m) v op (tags_at d m Icache) 0)
    (hits_right d.shape core Dcache k (kills_in d own v op m) (kills_here d.shape m Dcache (own == m) v op (tags_at d m Dcache) 0) here)
hits_last d own v op m core Icache k line e q same =
    let here : Hits d.shape core Icache k (kills_here d.shape m Icache (own == m) v op (tags_at d m Icache) 0) =
    subst (λ (i : ℕ). Hits d.shape core Icache k (kills_here d.shape i Icache (own == i) v op (tags_at d i Icache) 0)) same
    (here_from_zero d.shape core Icache (own == core) v op (tags_at d core Icache) k line e q) in
    hits_right d.shape core Icache k (kills_in d own v op m ++ kills_here d.shape m Dcache (own == m) v op (tags_at d m Dcache) 0) (kills_here d.shape m Icache (own == m) v op (tags_at d m Icache) 0) here

pub hits_below : (d : DirectoryState) (own : ℕ) (v : Option ℕ) (op : Op) (cores core : ℕ) (cache : Cache) (k line : ℕ) → core < cores
    → get_or (tags_at d core cache) k None ≡ Some line → is_doomed cache (own == core) v op (Some line) ≡ true
    → Hits d.shape core cache k (kills_in d own v op cores)
hits_below d own v op zero core cache k line l e q = absurd (omega (arith, l))
hits_below d own v op (suc m) core cache k line l e q =
    elim (cases_eq core m) [
      | inl same ↦ hits_last d own v op m core cache k line e q same
      | inr apart ↦
          hits_left d.shape core cache k (kills_in d own v op m ++ kills_here d.shape m Dcache (own == m) v op (tags_at d m Dcache) 0) (kills_here d.shape m Icache (own == m) v op (tags_at d m Icache) 0)
          (hits_left d.shape core cache k (kills_in d own v op m) (kills_here d.shape m Dcache (own == m) v op (tags_at d m Dcache) 0)
          (hits_below d own v op m core cache k line (omega arith) e q))
    ]
