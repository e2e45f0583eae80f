-- The tags of caches through kills, fills and stores.
use Rattle.std.proofs.Common.{◌≡◌, ℕ, zero, suc, ◌+◌, ◌%◌, ◌≤◌, ◌==◌, inl, inr, Bool, false, cond, List, [], ◌∷◌, length, get_or, set, Option, Some, None, refl, ap, sym, ◌∙◌}
use Rattle.std.specs.List.{filter}
use Rattle.std.proofs.lemmas.Bool.{cases_Bool}
use Rattle.std.proofs.lemmas.List.{map-set, set-get_or, take_all}
use Rattle.t1_shape.specs.Shapes.{Shape}
use Rattle.t1_shape.specs.Slots.{Layout, Line, first_slot, slot_of, tag, tags_of, with_bytes, with_bytes_at, with_fill}
use Rattle.t1_packet.specs.declared.cache.Cache.{Cache}
use Rattle.t1_packet.specs.declared.cache.Cache.TheVariants.{Dcache, Icache}
use Rattle.t1_packet.specs.declared.op.Op.{Op}
use Rattle.t1_packet.specs.declared.op.Op.TheVariants.{Fetch, Load, Store, Swap, Cas}
use Rattle.t1_packet.specs.Data.{KillData}
use Rattle.t1_packet.specs.Caches.{layout, width, line_of, is_kill_of, slot_killed, with_kills, filled_line, line_from, with_answer}
use Rattle.t1_packet.specs.Packets.{kills_to}

-- the tag of a slot
pub tag_at : (slots : List (Option Line)) (j : ℕ) → get_or (tags_of slots) j None ≡ tag (get_or slots j None)
tag_at [] j = refl
tag_at (s ∷ ss) zero = refl
tag_at (s ∷ ss) (suc j) = tag_at ss j

-- ---- kills

-- kills of other cores are passed over
other_kill : (shape : Shape) (core : ℕ) (cache : Cache) (kill : KillData) → (kill.core == core) ≡ false → is_kill_of shape core cache kill ≡ false
other_kill shape core cache kill e = rw e refl

with_kills-own : {A : Type 0} (shape : Shape) (core : ℕ) (cache : Cache) (ks : List KillData) (slots : List (Option A))
    → with_kills shape core cache (filter (λ k. k.core == core) ks) slots ≡ with_kills shape core cache ks slots
with_kills-own shape core cache [] slots = refl
with_kills-own {A} shape core cache (k ∷ ks) slots =
    let own : List KillData = filter (λ k. k.core == core) ks in
    let next : List (Option A) = cond (is_kill_of shape core cache k) (set slots (slot_killed shape k) None) slots in
    elim (cases_Bool (k.core == core)) [
      | inl e ↦ ap (λ (b : Bool). with_kills {A = A} shape core cache (cond b (k ∷ own) own) slots) e ∙ with_kills-own shape core cache ks next
      | inr e ↦
          ap (λ (b : Bool). with_kills {A = A} shape core cache (cond b (k ∷ own) own) slots) e
          ∙ with_kills-own shape core cache ks slots
          ∙ sym (ap (λ (b : Bool). with_kills {A = A} shape core cache ks (cond b (set slots (slot_killed shape k) None) slots)) (other_kill shape core cache k e))
    ]

-- a packet's kills are all of its core's
pub with_kills-first : {A : Type 0} (shape : Shape) (core : ℕ) (cache : Cache) (ks : List KillData) (slots : List (Option A)) → length (filter (λ k. k.core == core) ks) ≤ 8
    → with_kills shape core cache (kills_to core ks) slots ≡ with_kills shape core cache ks slots
with_kills-first {A} shape core cache ks slots few =
    ap (λ (l : List KillData). with_kills {A = A} shape core cache l slots) (take_all 8 (filter (λ k. k.core == core) ks) few) ∙ with_kills-own shape core cache ks slots

pub tags-with_kills : (shape : Shape) (core : ℕ) (cache : Cache) (ks : List KillData) (slots : List (Option Line)) → tags_of (with_kills shape core cache ks slots) ≡ with_kills shape core cache ks (tags_of slots)
tags-with_kills shape core cache [] slots = refl
tags-with_kills shape core cache (k ∷ ks) slots =
    elim (cases_Bool (is_kill_of shape core cache k)) [
      | inl e ↦ rw e (tags-with_kills shape core cache ks (set slots (slot_killed shape k) None) ∙ ap (λ (l : List (Option ℕ)). with_kills shape core cache ks l) (map-set tag slots (slot_killed shape k) None))
      | inr e ↦ rw e (tags-with_kills shape core cache ks slots)
    ]

-- ---- fills and stores

tags-with_fill : (g : Layout) (cache : Cache) (line way : Option ℕ) (bytes : List ℕ) (slots : List (Option Line))
    → tags_of (with_fill g line way (line_from cache bytes) slots) ≡ with_fill g line way (λ number. number) (tags_of slots)
tags-with_fill g cache None way bytes slots = refl
tags-with_fill g cache (Some line) None bytes slots = refl
tags-with_fill g cache (Some line) (Some way) bytes slots = map-set tag slots (first_slot g line + way) (Some (line_from cache bytes line))

tag-with_bytes : (off size value : ℕ) (o : Option Line) → tag (with_bytes off size value o) ≡ tag o
tag-with_bytes off size value None = refl
tag-with_bytes off size value (Some l) = refl

tags-with_bytes_at : (j : Option ℕ) (off size value : ℕ) (slots : List (Option Line)) → tags_of (with_bytes_at j off size value slots) ≡ tags_of slots
tags-with_bytes_at None off size value slots = refl
tags-with_bytes_at (Some j) off size value slots =
    map-set tag slots j (with_bytes off size value (get_or slots j None))
    ∙ (ap (λ (o : Option ℕ). set (tags_of slots) j o) (tag-with_bytes off size value (get_or slots j None) ∙ sym (tag_at slots j))
    ∙ set-get_or (tags_of slots) j None)

pub tags-with_answer : (shape : Shape) (cache : Cache) (op : Op) (way : Option ℕ) (bytes : List ℕ) (slots : List (Option Line))
    → tags_of (with_answer shape cache op way bytes slots) ≡ with_fill (layout shape cache) (filled_line cache op) way (λ number. number) (tags_of slots)
tags-with_answer shape Dcache (Store addr size value) way bytes slots =
    tags-with_bytes_at (slot_of (layout shape Dcache) (tags_of slots) (line_of Dcache addr)) (addr % width Dcache) size value slots
tags-with_answer shape Icache (Store addr size value) way bytes slots = refl
tags-with_answer shape cache (Fetch addr w) way bytes slots = tags-with_fill (layout shape cache) cache (filled_line cache (Fetch addr w)) way bytes slots
tags-with_answer shape cache (Load addr size w) way bytes slots = tags-with_fill (layout shape cache) cache (filled_line cache (Load addr size w)) way bytes slots
tags-with_answer shape cache (Swap addr size new) way bytes slots = refl
tags-with_answer shape cache (Cas addr size expect new) way bytes slots = refl
