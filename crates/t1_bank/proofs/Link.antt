-- The directory and memory of a bank, by its served accesses alone.
use Rattle.std.proofs.Common.{cond, ◌≡◌, ℕ, ◌==◌, ◌&&◌, nat_lt, Bool, true, false, List, [], ◌∷◌, set, Option, Some, None, refl, ap, sym, ◌∙◌, subst, inl, inr}
use Rattle.std.proofs.lemmas.Bool.{cases_Bool, and_parts, and_from, lt-ltb}
use Rattle.t1_bank.proofs.Rule.{cleared, is_of, way_for_fill}
use Rattle.t1_bank.specs.Copies.{AreOfCaches}
use Rattle.t1_bank.specs.Laws.{tags_with}
use Rattle.t1_bank.specs.Sound.{IsSound}
use Rattle.t1_dir.specs.Directory.{tags_at, without_kills}
use Rattle.t1_event.specs.BankRule.{BankState, bank_well, bank_with, is_fit, kills_of, served_by, served_well}
use Rattle.t1_event.specs.Kills.{effect, is_doomed}
use Rattle.t1_event.specs.Log.{plain_op, written}
use Rattle.t1_packet.specs.Caches.{filled_line, is_kill_of, layout, same_cache, slot_killed, with_kills}
use Rattle.t1_packet.specs.Data.{KillData, RequestData}
use Rattle.t1_packet.specs.declared.cache.Cache.{Cache}
use Rattle.t1_packet.specs.declared.cache.Cache.TheVariants.{Dcache, Icache}
use Rattle.t1_packet.specs.declared.op.Op.{Op}
use Rattle.t1_packet.specs.declared.op.Op.TheVariants.{Cas, Fetch, Load, Store, Swap}
use Rattle.t1_shape.specs.Shapes.{Shape}
use Rattle.t1_shape.specs.Slots.{Layout, with_fill}
use Rattle.t1_bank.proofs.Agree.{kills_ranged}
use Rattle.t1_bank.proofs.DirTags.{shape_cleared, tags_cleared, tags_filled}

pub filled_plain : (cache : Cache) (op : Op) (old : ℕ) (way : Option ℕ) → filled_line cache (plain_op op old way) ≡ filled_line cache op
filled_plain Dcache (Fetch addr w) old way = refl
filled_plain Icache (Fetch addr w) old way = refl
filled_plain Dcache (Load addr size w) old way = refl
filled_plain Icache (Load addr size w) old way = refl
filled_plain cache (Store addr size value) old way = refl
filled_plain cache (Swap addr size new) old way = refl
filled_plain cache (Cas addr size expect new) old way = elim (cases_Bool (old == expect)) [ inl t ↦ rw t refl | inr t ↦ rw t refl ]

pub written_plain : (m : List ℕ) (op : Op) (old : ℕ) (way : Option ℕ) → written m (plain_op op old way) ≡ written m (effect op old)
written_plain m (Fetch addr w) old way = refl
written_plain m (Load addr size w) old way = refl
written_plain m (Store addr size value) old way = refl
written_plain m (Swap addr size new) old way = refl
written_plain m (Cas addr size expect new) old way = refl

pub doomed_plain : (cache : Cache) (own : Bool) (v : Option ℕ) (op : Op) (old : ℕ) (way t : Option ℕ)
    → is_doomed cache own v (plain_op op old way) t ≡ is_doomed cache own v (effect op old) t
doomed_plain cache own v op old way None = refl
doomed_plain cache own v (Fetch addr w) old way (Some l) = refl
doomed_plain cache own v (Load addr size w) old way (Some l) = refl
doomed_plain cache own v (Store addr size value) old way (Some l) = refl
doomed_plain cache own v (Swap addr size new) old way (Some l) = refl
doomed_plain cache own v (Cas addr size expect new) old way (Some l) = refl

same_cache_is : (κ cache : Cache) → same_cache κ cache ≡ true → κ ≡ cache
same_cache_is Dcache Dcache e = refl
same_cache_is Icache Icache e = refl
same_cache_is Dcache Icache e = cc
same_cache_is Icache Dcache e = cc

-- kills of sets and ways that there are take the slots that they name
kills_same : {A : Type 0} (shape : Shape) (cores core : ℕ) (cache : Cache) (ks : List KillData) (slots : List (Option A)) → AreOfCaches shape cores ks
    → cleared shape core cache ks slots ≡ with_kills shape core cache ks slots
kills_same shape cores core cache [] slots a = refl
kills_same {A} shape cores core cache (k ∷ ks) slots a =
    elim (cases_Bool (is_of core cache k)) [
      | inl t ↦
          let same = same_cache_is k.cache cache (and_parts (k.core == core) (same_cache k.cache cache) t).1 in
          let set_is : nat_lt k.set (layout shape cache).sets ≡ true = subst (λ (c : Cache). nat_lt k.set (layout shape c).sets ≡ true) same (lt-ltb k.set (layout shape k.cache).sets a.0.1) in
          let way_is : nat_lt k.way (layout shape cache).ways ≡ true = subst (λ (c : Cache). nat_lt k.way (layout shape c).ways ≡ true) same (lt-ltb k.way (layout shape k.cache).ways a.0.2) in
          let u : is_kill_of shape core cache k ≡ true =
          and_from (is_of core cache k && nat_lt k.set (layout shape cache).sets) (nat_lt k.way (layout shape cache).ways)
          (and_from (is_of core cache k) (nat_lt k.set (layout shape cache).sets) t set_is) way_is in
          ap (λ (b : Bool). cleared shape core cache ks (cond b (set slots (slot_killed shape k) None) slots)) t
          ∙ (kills_same shape cores core cache ks (set slots (slot_killed shape k) None) a.1
          ∙ ap (λ (b : Bool). with_kills shape core cache ks (cond b (set slots (slot_killed shape k) None) slots)) (sym u))
      | inr f ↦
          let u : is_kill_of shape core cache k ≡ false = off (is_of core cache k) (nat_lt k.set (layout shape cache).sets) (nat_lt k.way (layout shape cache).ways) f in
          ap (λ (b : Bool). cleared shape core cache ks (cond b (set slots (slot_killed shape k) None) slots)) f
          ∙ (kills_same shape cores core cache ks slots a.1
          ∙ ap (λ (b : Bool). with_kills shape core cache ks (cond b (set slots (slot_killed shape k) None) slots)) (sym u))
    ]
  where
    off : (p q v : Bool) → p ≡ false → (p && q && v) ≡ false
    off false q v e = refl
    off true q v e = cc

no_fill : (g : Layout) (fill : Option ℕ) (own : Bool) (ts : List (Option ℕ)) → ts ≡ cond own (with_fill g fill None (λ (l : ℕ). l) ts) ts
no_fill g None true ts = refl
no_fill g (Some l) true ts = refl
no_fill g fill false ts = refl

module _ (b : BankState) (r : RequestData) (core : ℕ) (cache : Cache) (s : IsSound b) where
  abbrev tags : List (Option ℕ)
  tags = tags_at b.directory core cache

  abbrev filled_after : Shape → List (Option ℕ) → List (Option ℕ)
  filled_after q left = cond (r.core == core) (with_fill (layout q cache) (filled_line cache r.op) (way_for_fill b.directory r.core r.op) (λ (l : ℕ). l) left) left

  follows_well : tags_at (bank_well b r).directory core cache ≡ tags_with b.directory.shape core cache (served_well b r) tags
  follows_well =
      tags_filled (without_kills b.directory (kills_of b r)) r.core r.op (way_for_fill b.directory r.core r.op) core cache
      ∙ (ap (λ (q : Shape). filled_after q (tags_at (without_kills b.directory (kills_of b r)) core cache)) (shape_cleared (kills_of b r) b.directory)
      ∙ (ap (λ (left : List (Option ℕ)). filled_after b.directory.shape left) (tags_cleared (kills_of b r) b.directory core cache)
      ∙ ap (λ (left : List (Option ℕ)). filled_after b.directory.shape left) (kills_same b.directory.shape b.cores core cache (kills_of b r) tags (kills_ranged b r s))))

  pub follows : tags_at (bank_with b r).directory core cache ≡ tags_with b.directory.shape core cache (served_by b r) tags
  unfolding bank_with served_by
  follows =
      elim (cases_Bool (is_fit b r)) [
        | inl t ↦ rw t follows_well
        | inr t ↦ rw t (no_fill (layout b.directory.shape cache) (filled_line cache r.op) (r.core == core) tags)
      ]
