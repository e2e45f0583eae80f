-- What the look-ups of a sound bank find is what the rule says.
use Rattle.std.proofs.Common.{◌+◌, ◌%◌, ◌≡◌, ℕ, ◌*◌, ◌/◌, ◌%◌, ◌<◌, ◌≤◌, ◌==◌, Bool, true, false, List, [], ◌∷◌, ◌++◌, length, map, get_or, Option, Some, None, refl, ap, sym, ◌∙◌, inl, inr, arith, zero, suc}
use Rattle.std.proofs.lemmas.Bool.{cases_Bool, eqb-true, eq-eqb, or_cases, or_left}
use Rattle.t1_bank.proofs.Rule.{effect_addr, kills_in}
use Rattle.t1_bank.specs.Copies.{AreOfCaches, copies_below, copies_of, doomed_data, doomed_insn}
use Rattle.t1_bank.specs.Sound.{IsSound}
use Rattle.t1_dir.specs.Directory.{DirectoryState, tags_at}
use Rattle.t1_event.specs.BankRule.{BankState, fill_bytes, kills_of, old_of}
use Rattle.t1_event.specs.Kills.{effect, is_doomed, is_evicted, is_written, kills_here}
use Rattle.t1_l2.proofs.Kept.{none_found}
use Rattle.t1_l2.specs.Array.{ArrayState, IsPresent, address_of, ensured, ensured_by, evicted_by, evicted_for, line_at, slot_in, victim_slot}
use Rattle.t1_packet.proofs.Caches.{set_below, sets_ascend, slot_in_cache, way_below}
use Rattle.t1_packet.specs.Caches.{layout, width}
use Rattle.t1_packet.specs.Data.{KillData, RequestData}
use Rattle.t1_packet.specs.Ops.{op_addr}
use Rattle.t1_packet.specs.declared.cache.Cache.{Cache}
use Rattle.t1_packet.specs.declared.cache.Cache.TheVariants.{Dcache, Icache}
use Rattle.t1_packet.specs.declared.op.Op.{Op}
use Rattle.t1_packet.specs.declared.op.Op.TheVariants.{Cas, Fetch, Load, Store, Swap}
use Rattle.t1_shape.specs.Shapes.{Shape}
use Rattle.t1_shape.specs.Slots.{IsOnce, Layout}
use Rattle.t1_bank.proofs.Found.{tag_passes, In, SetsAscend, Picks, kills_copies}

-- ---- where a line is evicted, the access's own line is in no cache

absent_line : (a : ArrayState) (line e : ℕ) → evicted_for a line ≡ Some e → slot_in a line ≡ None
absent_line a line e v = go (slot_in a line) refl v
  where
    go : (o : Option ℕ) → slot_in a line ≡ o → evicted_by a line o ≡ Some e → slot_in a line ≡ None
    go None q w = q
    go (Some j) q w = let clash : ◌≡◌ {A = Option ℕ} None (Some e) = w in cc

-- an evicted address is a line's
pub record IsVictim (a : ArrayState) (e : ℕ) : Type 0 where
  pub line : ℕ
  pub at : e ≡ line * 64
  pub there : IsPresent a.tags line

pub evicted_line : (a : ArrayState) (line e : ℕ) → evicted_for a line ≡ Some e → IsVictim a e
evicted_line a line e v = go (slot_in a line) v
  where
    from : (o : Option ℕ) → get_or a.tags (victim_slot a line) None ≡ o → address_of o ≡ Some e → IsVictim a e
    from None q w = let clash : ◌≡◌ {A = Option ℕ} None (Some e) = w in cc
    from (Some l) q w = let at : l * 64 ≡ e = cc in record { line = l; at = sym at; there = (victim_slot a line, q) }

    go : (o : Option ℕ) → evicted_by a line o ≡ Some e → IsVictim a e
    go None w = from (get_or a.tags (victim_slot a line) None) refl w
    go (Some j) w = let clash : ◌≡◌ {A = Option ℕ} None (Some e) = w in cc

-- ---- the addresses to look at

written_line : (cache : Cache) (line : ℕ) (own : Bool) (op : Op) → is_written cache line own op ≡ true → line * width cache / 64 ≡ op_addr op / 64
written_line Dcache line false (Store addr size value) e = let q = eqb-true (addr / 16) line e in omega (arith, q)
written_line Dcache line true (Store addr size value) e = cc
written_line Icache line own (Store addr size value) e = let q = eqb-true (addr / 32) line e in omega (arith, q)
written_line Dcache line own (Swap addr size new) e = let q = eqb-true (addr / 16) line e in omega (arith, q)
written_line Icache line own (Swap addr size new) e = let q = eqb-true (addr / 32) line e in omega (arith, q)
written_line cache line own (Fetch addr way) e = cc
written_line cache line own (Load addr size way) e = cc
written_line cache line own (Cas addr size expect new) e = cc

abbrev pub doomed_lines : Cache → Bool → Option ℕ → Op → List ℕ
doomed_lines Dcache own evicted op = map (λ (a : ℕ). a / 16) (doomed_data own evicted op)
doomed_lines Icache own evicted op = map (λ (a : ℕ). a / 32) (doomed_insn evicted op)

-- the sets of the addresses ascend
sets_none : (g : Layout) (cache : Cache) (own : Bool) (op : Op) → SetsAscend g 0 (doomed_lines cache own None op)
sets_none g Dcache own (Fetch addr way) = tt
sets_none g Dcache own (Load addr size way) = tt
sets_none g Dcache true (Store addr size value) = tt
sets_none g Dcache false (Store addr size value) = (omega arith, tt)
sets_none g Dcache own (Swap addr size new) = (omega arith, tt)
sets_none g Dcache own (Cas addr size expect new) = tt
sets_none g Icache own (Fetch addr way) = tt
sets_none g Icache own (Load addr size way) = tt
sets_none g Icache own (Store addr size value) = (omega arith, tt)
sets_none g Icache own (Swap addr size new) = (omega arith, tt)
sets_none g Icache own (Cas addr size expect new) = tt

sets_some : (shape : Shape) (cache : Cache) (own : Bool) (e line : ℕ) (op : Op) → e ≡ line * 64 → SetsAscend (layout shape cache) 0 (doomed_lines cache own (Some e) op)
sets_some shape Dcache own e line op q =
    let at : (i : ℕ) → i < 4 → (e + 16 * i) / 16 ≡ 4 * line + i = λ i l. omega (arith, q, l) in
    let up : (i : ℕ) → i < 3 → suc ((4 * line + i) % (layout shape Dcache).sets) ≤ (4 * line + (i + 1)) % (layout shape Dcache).sets = λ i l. (let s = sets_ascend shape Dcache line i (i + 1) (omega arith) (omega (arith, l)) in omega (arith, s)) in
    let n : (i x : ℕ) → x ≡ 4 * line + i → x % (layout shape Dcache).sets ≡ (4 * line + i) % (layout shape Dcache).sets = λ i x f. ap (λ (k : ℕ). k % (layout shape Dcache).sets) f in
    let a0 = n 0 (e / 16) (omega (arith, q)) in
    let a1 = n 1 ((e + 16) / 16) (omega (arith, q)) in
    let a2 = n 2 ((e + 32) / 16) (omega (arith, q)) in
    let a3 = n 3 ((e + 48) / 16) (omega (arith, q)) in
    let u0 = up 0 (omega arith) in
    let u1 = up 1 (omega arith) in
    let u2 = up 2 (omega arith) in
    (omega arith, (omega (arith, a0, a1, u0), (omega (arith, a1, a2, u1), (omega (arith, a2, a3, u2), tt))))
sets_some shape Icache own e line op q =
    let s = sets_ascend shape Icache line 0 1 (omega arith) (omega arith) in
    let a0 : e / 32 % (layout shape Icache).sets ≡ (2 * line + 0) % (layout shape Icache).sets = ap (λ (k : ℕ). k % (layout shape Icache).sets) (let f : e / 32 ≡ 2 * line + 0 = omega (arith, q) in f) in
    let a1 : (e + 32) / 32 % (layout shape Icache).sets ≡ (2 * line + 1) % (layout shape Icache).sets = ap (λ (k : ℕ). k % (layout shape Icache).sets) (let f : (e + 32) / 32 ≡ 2 * line + 1 = omega (arith, q) in f) in
    (omega arith, (omega (arith, a0, a1, s), tt))

-- what they doom
evicted_in : (cache : Cache) (own : Bool) (e line l : ℕ) (op : Op) → e ≡ line * 64 → l * width cache / 64 ≡ line → In l (doomed_lines cache own (Some e) op)
evicted_in Dcache own e line l op q w = grind arith
evicted_in Icache own e line l op q w = grind arith

in_evicted : (cache : Cache) (own : Bool) (e line l : ℕ) (op : Op) → e ≡ line * 64 → In l (doomed_lines cache own (Some e) op) → l * width cache / 64 ≡ e / 64
in_evicted Dcache own e line l op q (inl p) = omega (arith, q, p)
in_evicted Dcache own e line l op q (inr (inl p)) = omega (arith, q, p)
in_evicted Dcache own e line l op q (inr (inr (inl p))) = omega (arith, q, p)
in_evicted Dcache own e line l op q (inr (inr (inr (inl p)))) = omega (arith, q, p)
in_evicted Icache own e line l op q (inl p) = omega (arith, q, p)
in_evicted Icache own e line l op q (inr (inl p)) = omega (arith, q, p)
in_evicted Dcache own e line l op q (inr (inr (inr (inr x)))) = elim x [ ]
in_evicted Icache own e line l op q (inr (inr x)) = elim x [ ]

written_in : (cache : Cache) (own : Bool) (l : ℕ) (op : Op) → is_written cache l own op ≡ true → In l (doomed_lines cache own None op)
written_in Dcache false l (Store addr size value) e = inl (sym (eqb-true (addr / 16) l e))
written_in Dcache true l (Store addr size value) e = cc
written_in Icache own l (Store addr size value) e = inl (sym (eqb-true (addr / 32) l e))
written_in Dcache own l (Swap addr size new) e = inl (sym (eqb-true (addr / 16) l e))
written_in Icache own l (Swap addr size new) e = inl (sym (eqb-true (addr / 32) l e))
written_in cache own l (Fetch addr way) e = cc
written_in cache own l (Load addr size way) e = cc
written_in cache own l (Cas addr size expect new) e = cc

in_written : (cache : Cache) (own : Bool) (l : ℕ) (op : Op) → In l (doomed_lines cache own None op) → is_written cache l own op ≡ true
in_written Dcache false l (Store addr size value) (inl e) = eq-eqb (addr / 16) l (sym e)
in_written Dcache true l (Store addr size value) i = absurd i
in_written Icache own l (Store addr size value) (inl e) = eq-eqb (addr / 32) l (sym e)
in_written Dcache own l (Swap addr size new) (inl e) = eq-eqb (addr / 16) l (sym e)
in_written Icache own l (Swap addr size new) (inl e) = eq-eqb (addr / 32) l (sym e)
in_written Dcache false l (Store addr size value) (inr x) = elim x [ ]
in_written Dcache own l (Swap addr size new) (inr x) = elim x [ ]
in_written Icache own l (Store addr size value) (inr x) = elim x [ ]
in_written Icache own l (Swap addr size new) (inr x) = elim x [ ]
in_written Dcache own l (Fetch addr way) i = absurd i
in_written Dcache own l (Load addr size way) i = absurd i
in_written Dcache own l (Cas addr size expect new) i = absurd i
in_written Icache own l (Fetch addr way) i = absurd i
in_written Icache own l (Load addr size way) i = absurd i
in_written Icache own l (Cas addr size expect new) i = absurd i

-- what is needed of one core and cache
pub record Apart (d : DirectoryState) (core : ℕ) (cache : Cache) (evicted : Option ℕ) (op : Op) : Type 0 where
  pub once : IsOnce (layout d.shape cache) (tags_at d core cache)
  pub apart : (e : ℕ) → evicted ≡ Some e → (line : ℕ) × (e ≡ line * 64)
  pub unwritten : (e k l : ℕ) → evicted ≡ Some e → get_or (tags_at d core cache) k None ≡ Some l → l * width cache / 64 ≡ op_addr op / 64 → ⊥

picks_some : (d : DirectoryState) (core : ℕ) (cache : Cache) (own : Bool) (e line : ℕ) (op : Op) → e ≡ line * 64 → Apart d core cache (Some e) op
    → Picks (is_doomed cache own (Some e) op) (tags_at d core cache) (doomed_lines cache own (Some e) op)
picks_some d core cache own e line op q a = record {
  none = refl;
  only = λ k l is t. elim (or_cases (is_evicted cache l (Some e)) (is_written cache l own op) t) [
    | inl v ↦ let w = eqb-true (l * width cache / 64) (e / 64) v in evicted_in cache own e line l op q (omega (arith, w, q))
    | inr w ↦ absurd (a.unwritten e k l refl is (written_line cache l own op w))
  ];
  each = λ k l is i.
      or_left (is_evicted cache l (Some e)) (is_written cache l own op) (eq-eqb (l * width cache / 64) (e / 64) (in_evicted cache own e line l op q i));
}

picks_none : (tags : List (Option ℕ)) (cache : Cache) (own : Bool) (op : Op) → Picks (is_doomed cache own None op) tags (doomed_lines cache own None op)
picks_none tags cache own op = record {
  none = refl;
  only = λ k l is t. written_in cache own l op t;
  each = λ k l is i. in_written cache own l op i;
}

kills_data : (d : DirectoryState) (core : ℕ) (own : Bool) (evicted : Option ℕ) (op : Op) → Apart d core Dcache evicted op
    → kills_here d.shape core Dcache own evicted op (tags_at d core Dcache) 0 ≡ copies_of d core Dcache (doomed_data own evicted op)
kills_data d core own None op a = kills_copies d core Dcache own None op (doomed_data own None op) a.once (sets_none (layout d.shape Dcache) Dcache own op) (picks_none (tags_at d core Dcache) Dcache own op)
kills_data d core own (Some e) op a =
    let l = a.apart e refl in
    kills_copies d core Dcache own (Some e) op (doomed_data own (Some e) op) a.once (sets_some d.shape Dcache own e l.0 op l.1) (picks_some d core Dcache own e l.0 op l.1 a)

kills_insn : (d : DirectoryState) (core : ℕ) (own : Bool) (evicted : Option ℕ) (op : Op) → Apart d core Icache evicted op
    → kills_here d.shape core Icache own evicted op (tags_at d core Icache) 0 ≡ copies_of d core Icache (doomed_insn evicted op)
kills_insn d core own None op a = kills_copies d core Icache own None op (doomed_insn None op) a.once (sets_none (layout d.shape Icache) Icache own op) (picks_none (tags_at d core Icache) Icache own op)
kills_insn d core own (Some e) op a =
    let l = a.apart e refl in
    kills_copies d core Icache own (Some e) op (doomed_insn (Some e) op) a.once (sets_some d.shape Icache own e l.0 op l.1) (picks_some d core Icache own e l.0 op l.1 a)

pub kills_are_copies : (d : DirectoryState) (own : ℕ) (evicted : Option ℕ) (op : Op) (cores : ℕ) → ((c : ℕ) (cache : Cache) → c < cores → Apart d c cache evicted op)
    → copies_below d own evicted op cores ≡ kills_in d own evicted op cores
kills_are_copies d own evicted op zero a = refl
kills_are_copies d own evicted op (suc k) a =
    let low : k < suc k = omega arith in
    let before = kills_are_copies d own evicted op k (λ c cache l. a c cache (let m : c < suc k = omega (arith, l) in m)) in
    ap (λ (ks : List KillData). ks ++ copies_of d k Dcache (doomed_data (own == k) evicted op) ++ copies_of d k Icache (doomed_insn evicted op)) before
    ∙ (ap (λ (ks : List KillData). kills_in d own evicted op k ++ ks ++ copies_of d k Icache (doomed_insn evicted op)) (sym (kills_data d k (own == k) evicted op (a k Dcache low)))
    ∙ ap (λ (ks : List KillData). kills_in d own evicted op k ++ kills_here d.shape k Dcache (own == k) evicted op (tags_at d k Dcache) 0 ++ ks) (sym (kills_insn d k (own == k) evicted op (a k Icache low))))

-- ---- a bank's own

pub sound_apart : (b : BankState) (r : RequestData) → IsSound b → (c : ℕ) (cache : Cache) → c < b.cores
    → Apart b.directory c cache (evicted_for b.array (op_addr r.op / 64)) (effect r.op (old_of b r))
sound_apart b r s c cache l = record {
  once = s.once c cache;
  apart = λ e v. let x = evicted_line b.array (op_addr r.op / 64) e v in (x.line, x.at);
  unwritten = λ e k x v is w.
      let none = absent_line b.array (op_addr r.op / 64) e v in
      let gone = none_found b.array (length b.array.memory) (op_addr r.op / 64) s.array none in
      let p = s.inside c cache k x l is in
      gone p.0 (p.1 ∙ ap (λ (n : ℕ). Some n) (w ∙ ap (λ (a : ℕ). a / 64) (effect_addr r.op (old_of b r))));
}

-- ---- reads of the array after the line is made present

pub line_ensured : (a : ArrayState) (line addr : ℕ) → line_at (ensured a line) addr ≡ line_at a addr
line_ensured a line addr = go (slot_in a line)
  where
    go : (o : Option ℕ) → line_at (ensured_by a line o) addr ≡ line_at a addr
    go None = refl
    go (Some j) = refl

pub fill_ensured : (a : ArrayState) (line : ℕ) (op : Op) → fill_bytes (ensured a line) op ≡ fill_bytes a op
fill_ensured a line op = go (slot_in a line) op
  where
    go : (o : Option ℕ) (op : Op) → fill_bytes (ensured_by a line o) op ≡ fill_bytes a op
    go None op = other op
      where
        other : (op : Op) → fill_bytes (ensured_by a line None) op ≡ fill_bytes a op
        other (Fetch addr way) = refl
        other (Load addr size way) = refl
        other (Store addr size value) = refl
        other (Swap addr size new) = refl
        other (Cas addr size expect new) = refl
    go (Some j) op = refl

-- ---- the kills can be cleared

can_append : (shape : Shape) (cores : ℕ) (xs ys : List KillData) → AreOfCaches shape cores xs → AreOfCaches shape cores ys → AreOfCaches shape cores (xs ++ ys)
can_append shape cores [] ys a b = b
can_append shape cores (x ∷ xs) ys a b = (a.0, can_append shape cores xs ys a.1 b)

can_more : (shape : Shape) (n m : ℕ) (xs : List KillData) → n ≤ m → AreOfCaches shape n xs → AreOfCaches shape m xs
can_more shape n m [] l a = tt
can_more shape n m (x ∷ xs) l a = ((let p = a.0.0 in omega (arith, p, l), a.0.1, a.0.2), can_more shape n m xs l a.1)

-- the slots that hold a line are slots of the cache
abbrev pub Inside : List (Option ℕ) → ℕ → Type 0
Inside tags k = (i l : ℕ) → get_or tags i None ≡ Some l → k + i < 512

can_here : (shape : Shape) (n core : ℕ) (cache : Cache) (own : Bool) (v : Option ℕ) (op : Op) (tags : List (Option ℕ)) (k : ℕ) → core < n → Inside tags k → AreOfCaches shape n (kills_here shape core cache own v op tags k)
can_here shape n core cache own v op [] k l f = tt
can_here shape n core cache own v op (t ∷ ts) k l f =
    let rest = can_here shape n core cache own v op ts (suc k) l (λ i x e. let p = f (suc i) x e in omega (arith, p)) in
    elim (cases_Bool (is_doomed cache own v op t)) [
      | inl q ↦ rw q (let x = tag_passes (is_doomed cache own v op) t refl q in let p = f 0 x.0 x.1 in
          ((l, set_below shape cache k (omega (arith, p)), way_below shape cache k), rest))
      | inr q ↦ rw q rest
    ]

inside_zero : (shape : Shape) (cache : Cache) (tags : List (Option ℕ)) → IsOnce (layout shape cache) tags → Inside tags 0
inside_zero shape cache tags o i l e = let p = slot_in_cache shape cache l i (o.own i l e) in omega (arith, p)

pub kills_of_caches : (d : DirectoryState) (own : ℕ) (v : Option ℕ) (op : Op) (cores : ℕ) → ((c : ℕ) (cache : Cache) → IsOnce (layout d.shape cache) (tags_at d c cache)) → AreOfCaches d.shape cores (kills_in d own v op cores)
kills_of_caches d own v op zero once = tt
kills_of_caches d own v op (suc k) once =
    can_append d.shape (suc k) (kills_in d own v op k ++ kills_here d.shape k Dcache (own == k) v op (tags_at d k Dcache) 0) (kills_here d.shape k Icache (own == k) v op (tags_at d k Icache) 0)
    (can_append d.shape (suc k) (kills_in d own v op k) (kills_here d.shape k Dcache (own == k) v op (tags_at d k Dcache) 0)
    (can_more d.shape k (suc k) (kills_in d own v op k) (omega arith) (kills_of_caches d own v op k once))
    (can_here d.shape (suc k) k Dcache (own == k) v op (tags_at d k Dcache) 0 (omega arith) (inside_zero d.shape Dcache (tags_at d k Dcache) (once k Dcache))))
    (can_here d.shape (suc k) k Icache (own == k) v op (tags_at d k Icache) 0 (omega arith) (inside_zero d.shape Icache (tags_at d k Icache) (once k Icache)))

pub kills_ranged : (b : BankState) (r : RequestData) → IsSound b → AreOfCaches b.directory.shape b.cores (kills_of b r)
kills_ranged b r s = kills_of_caches b.directory r.core (evicted_for b.array (op_addr r.op / 64)) (effect r.op (old_of b r)) b.cores s.once
