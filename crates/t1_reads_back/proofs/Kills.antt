-- The kills of a commit of OpenSPARC T1 are of cores, sets and ways that there are, and the way of a fill is of
-- its cache.
use Rattle.std.proofs.Common.{◌≡◌, ℕ, zero, suc, ◌+◌, ◌<◌, ◌≤◌, ◌==◌, inl, inr, Bool, List, [], ◌∷◌, ◌++◌, length, set, Option, Some, None, refl, ◌∙◌, subst, arith}
use Rattle.std.specs.List.{slice_get}
use Rattle.std.proofs.lemmas.Bool.{cases_Bool}
use Rattle.std.proofs.lemmas.List.{length-set, length-replicate}
use Rattle.t1_shape.specs.Shapes.{Shape}
use Rattle.t1_num.specs.declared.chip.ChipKind.TheVariants.{T1, T2}
use Rattle.t1_shape.specs.Slots.{Layout, slots_in, first_slot, with_fill}
use Rattle.t1_packet.specs.declared.cache.Cache.{Cache}
use Rattle.t1_packet.specs.declared.cache.Cache.TheVariants.{Dcache, Icache}
use Rattle.t1_packet.specs.declared.op.Op.{Op}
use Rattle.t1_packet.specs.declared.op.Op.TheVariants.{Store, Swap, Cas}
use Rattle.t1_packet.specs.Data.{KillData}
use Rattle.t1_packet.specs.Caches.{layout, is_kill_of, slot_killed, with_kills, filled_line}
use Rattle.t1_packet.proofs.Caches.{slots_are, set_below, way_below}
use Rattle.t1_dir.specs.Directory.{no_tags}
use Rattle.t1_event.specs.declared.commit.Commit.{Commit}
use Rattle.t1_event.specs.Log.{core_of}
use Rattle.t1_event.specs.Kills.{is_doomed, kills_here, kills_below}
use Rattle.t1_event.specs.Shadow.{with_commit, directory_at}
use Rattle.t1_take.specs.WellFormed.{IsGoodKill}

-- ---- directories have 512 slots

length-with_kills : (shape : Shape) (core : ℕ) (cache : Cache) (ks : List KillData) (tags : List (Option ℕ)) → length (with_kills shape core cache ks tags) ≡ length tags
length-with_kills shape core cache [] tags = refl
length-with_kills shape core cache (k ∷ ks) tags =
    elim (cases_Bool (is_kill_of shape core cache k)) [
      | inl e ↦ rw e (length-with_kills shape core cache ks (set tags (slot_killed shape k) None) ∙ length-set tags (slot_killed shape k) None)
      | inr e ↦ rw e (length-with_kills shape core cache ks tags)
    ]

length-with_fill : (g : Layout) (line way : Option ℕ) (tags : List (Option ℕ)) → length (with_fill g line way (λ l. l) tags) ≡ length tags
length-with_fill g None way tags = refl
length-with_fill g (Some line) None tags = refl
length-with_fill g (Some line) (Some way) tags = length-set tags (first_slot g line + way) (Some line)

length-with_commit : (shape : Shape) (strands core : ℕ) (cache : Cache) (tags : List (Option ℕ)) (o : Option Commit) → length (with_commit shape strands core cache tags o) ≡ length tags
length-with_commit shape strands core cache tags None = refl
length-with_commit shape strands core cache tags (Some c) =
    let left = length-with_kills shape core cache c.kills tags in
    elim (cases_Bool (core_of strands c == core)) [
      | inl e ↦ rw e (length-with_fill (layout shape cache) (filled_line cache c.op) c.way (with_kills shape core cache c.kills tags) ∙ left)
      | inr e ↦ rw e left
    ]

length-no_tags : (shape : Shape) (cache : Cache) → length (no_tags shape cache) ≡ 512
unfolding no_tags
length-no_tags shape cache = length-replicate (slots_in (layout shape cache)) None ∙ slots_are shape cache

pub length-directory : (shape : Shape) (strands : ℕ) (log : List Commit) (core : ℕ) (cache : Cache) (n : ℕ) → length (directory_at shape strands log core cache n) ≡ 512
length-directory shape strands log core cache zero = length-no_tags shape cache
length-directory shape strands log core cache (suc n) =
    length-with_commit shape strands core cache (directory_at shape strands log core cache n) (slice_get log n) ∙ length-directory shape strands log core cache n

-- ---- kills

abbrev pub AllGood : ℕ → List KillData → Type 0
AllGood cores [] = Unit {0}
AllGood cores (k ∷ ks) = IsGoodKill cores k × AllGood cores ks

good_append : (cores : ℕ) (xs ys : List KillData) → AllGood cores xs → AllGood cores ys → AllGood cores (xs ++ ys)
good_append cores [] ys a b = b
good_append cores (x ∷ xs) ys a b = (a.0, good_append cores xs ys a.1 b)

pub good_at : (cores : ℕ) (ks : List KillData) (n : ℕ) (k : KillData) → AllGood cores ks → slice_get ks n ≡ Some k → IsGoodKill cores k
good_at cores [] n k a e = let clash : ◌≡◌ {A = Option KillData} None (Some k) = e in cc
good_at cores (x ∷ ks) zero k a e = let same : x ≡ k = cc (e) in subst (λ (v : KillData). IsGoodKill cores v) same a.0
good_at cores (x ∷ ks) (suc n) k a e = good_at cores ks n k a.1 e

sets_are : (shape : Shape) (cache : Cache) → shape ≡ T1 → (layout shape cache).sets ≡ 128
sets_are T1 Dcache first = refl
sets_are T1 Icache first = refl
sets_are T2 cache first = absurd (let bad : ◌≡◌ {A = Shape} T2 T1 = first in cc)

pub ways_are : (shape : Shape) (cache : Cache) → shape ≡ T1 → (layout shape cache).ways ≡ 4
ways_are T1 Dcache first = refl
ways_are T1 Icache first = refl
ways_are T2 cache first = absurd (let bad : ◌≡◌ {A = Shape} T2 T1 = first in cc)

here_good : (shape : Shape) → shape ≡ T1 → (cores core : ℕ) (cache : Cache) (own : Bool) (evicted : Option ℕ) (op : Op) (tags : List (Option ℕ)) (from : ℕ) → core < cores → from + length tags ≤ 512
    → AllGood cores (kills_here shape core cache own evicted op tags from)
here_good shape first cores core cache own evicted op [] from lc l = tt
here_good shape first cores core cache own evicted op (t ∷ tags) from lc l =
    let rest = here_good shape first cores core cache own evicted op tags (suc from) lc (omega (arith, l)) in
    let s = set_below shape cache from (omega (arith, l)) in
    let w = way_below shape cache from in
    elim (cases_Bool (is_doomed cache own evicted op t)) [
      | inl e ↦ rw e (record { core = lc; set = omega (arith, s, sets_are shape cache first); way = omega (arith, w, ways_are shape cache first) }, rest)
      | inr e ↦ rw e rest
    ]

pub kills_good : (shape : Shape) → shape ≡ T1 → (shown : ℕ → Cache → List (Option ℕ)) (asker : ℕ) (evicted : Option ℕ) (op : Op) (cores k : ℕ) → k ≤ cores → ((c : ℕ) (cache : Cache) → length (shown c cache) ≤ 512)
    → AllGood cores (kills_below shape shown asker evicted op k)
kills_good shape first shown asker evicted op cores zero le len = tt
kills_good shape first shown asker evicted op cores (suc k) le len =
    let before = kills_below shape shown asker evicted op k in
    let ds = kills_here shape k Dcache (asker == k) evicted op (shown k Dcache) 0 in
    let is = kills_here shape k Icache (asker == k) evicted op (shown k Icache) 0 in
    good_append cores (before ++ ds) is
    (good_append cores before ds (kills_good shape first shown asker evicted op cores k (omega (arith, le)) len)
    (here_good shape first cores k Dcache (asker == k) evicted op (shown k Dcache) 0 (omega (arith, le)) (let l = len k Dcache in omega (arith, l))))
    (here_good shape first cores k Icache (asker == k) evicted op (shown k Icache) 0 (omega (arith, le)) (let l = len k Icache in omega (arith, l)))

-- ---- ways

-- what an op fills
pub none_filled_store : (addr size value : ℕ) (cache : Cache) → filled_line cache (Store addr size value) ≡ None
none_filled_store addr size value Dcache = refl
none_filled_store addr size value Icache = refl

pub none_filled_swap : (addr size new : ℕ) (cache : Cache) → filled_line cache (Swap addr size new) ≡ None
none_filled_swap addr size new Dcache = refl
none_filled_swap addr size new Icache = refl

pub none_filled_cas : (addr size expect new : ℕ) (cache : Cache) → filled_line cache (Cas addr size expect new) ≡ None
none_filled_cas addr size expect new Dcache = refl
none_filled_cas addr size expect new Icache = refl
