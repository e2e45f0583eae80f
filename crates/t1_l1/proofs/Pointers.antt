-- Pointers are ways, whatever a cache goes through, and so are victims.
use Rattle.std.proofs.Common.{◌≡◌, ◌+◌, ◌*◌, ◌%◌, ◌<◌, ◌≤◌, ◌⊎◌, inl, inr, ℕ, zero, suc, Bool, true, false, List, [], ◌∷◌, length, get_or, set, replicate, Option, Some, None, is_none, refl, ap, sym, ◌∙◌, subst, arith, if◌then◌else◌}
use Rattle.std.proofs.lemmas.Nat.{mod_below}
use Rattle.std.proofs.lemmas.Bool.{cases_lt}
use Rattle.std.proofs.lemmas.List.{get_or_past}
use Rattle.std.proofs.lemmas.List.Elements.{All-set, All-replicate}
use Rattle.t1_shape.specs.Slots.{Layout, Line, first_slot, set_of, empty_way, way_or, victim_of}
use Rattle.t1_l1.specs.Cache.{CacheState, ArePointers, empty_cache, line_at, victim_at, filled}
use Rattle.t1_l1.specs.Laws.{PointersAreWays}

pub pointers_filled : (ways s way : ℕ) (pointers : List ℕ) → 0 < ways → ArePointers ways pointers → ArePointers ways (set pointers s ((way + 1) % ways))
pointers_filled ways s way pointers some are =
    All-set (λ (n : ℕ). n < ways) pointers s ((way + 1) % ways) (mod_below (way + 1) ways some) are

pub pointer_below : (ways s : ℕ) (pointers : List ℕ) → 0 < ways → ArePointers ways pointers → get_or pointers s 0 < ways
pointer_below ways s pointers some are = elim (cases_lt s (length pointers)) [
  | inl within ↦ are s 0 within
  | inr past ↦ rw (get_or_past pointers s 0 past) some
]

way_below : (o : Option ℕ) (pointer ways : ℕ) → ((way : ℕ) → o ≡ Some way → way < ways) → pointer < ways → way_or o pointer < ways
way_below None pointer ways f p = p
way_below (Some way) pointer ways f p = f way refl

empty_test : {A : Type 0} (slots : List (Option A)) (first way n ways found : ℕ) (b : Bool) → way < ways
    → (empty_way slots first (suc way) n ≡ Some found → found < ways) → (if b then Some way else empty_way slots first (suc way) n) ≡ Some found → found < ways
empty_test slots first way n ways found true h f e = let same : way ≡ found = cc in subst (λ (k : ℕ). k < ways) same h
empty_test slots first way n ways found false h f e = f e

pub empty_below : {A : Type 0} (slots : List (Option A)) (first way n ways found : ℕ) → way + n ≤ ways → empty_way slots first way n ≡ Some found → found < ways
empty_below slots first way zero ways found h e = cc
empty_below slots first way (suc n) ways found h e =
    empty_test slots first way n ways found (is_none (get_or slots (first + way) None)) (omega arith)
    (λ f. empty_below slots first (suc way) n ways found (omega arith) f) e

pub victim_below : (c : CacheState) (addr : ℕ) → 0 < c.layout.ways → ArePointers c.layout.ways c.pointers → victim_at c addr < c.layout.ways
unfolding victim_at victim_of
victim_below c addr some are =
    let first : ℕ = first_slot c.layout (line_at c addr) in
    way_below (empty_way c.slots first 0 c.layout.ways) (get_or c.pointers (set_of c.layout (line_at c addr)) 0) c.layout.ways
    (λ way e. empty_below c.slots first 0 c.layout.ways c.layout.ways way (omega arith) e)
    (pointer_below c.layout.ways (set_of c.layout (line_at c addr)) c.pointers some are)

pointers_empty : (layout : Layout) (width : ℕ) → 0 < layout.ways → ArePointers layout.ways (empty_cache layout width).pointers
unfolding empty_cache
pointers_empty layout width some = All-replicate (λ (n : ℕ). n < layout.ways) layout.sets 0 some

pointers_after_fill : (c : CacheState) (addr way : ℕ) (bytes : List ℕ) → 0 < c.layout.ways → ArePointers c.layout.ways c.pointers
    → ArePointers c.layout.ways (filled c addr way bytes).pointers
unfolding filled
pointers_after_fill c addr way bytes some are = pointers_filled c.layout.ways (set_of c.layout (line_at c addr)) way c.pointers some are

pub pointers_are_ways : PointersAreWays
pointers_are_ways = record { victim = victim_below; empty = pointers_empty; fill = pointers_after_fill }
