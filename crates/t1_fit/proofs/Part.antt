-- The part of a directory that is one bank's, through the commits of that bank and of others.
use Rattle.std.proofs.Common.{◌≡◌, ℕ, zero, suc, ◌+◌, ◌*◌, ◌/◌, ◌%◌, ◌<◌, ◌==◌, inl, inr, Bool, true, false, cond, if◌then◌else◌, List, [], ◌∷◌, ◌++◌, get_or, set, map, replicate, Option, Some, None, refl, ap, sym, ◌∙◌, subst, arith}
use Rattle.std.specs.List.{slice_get}
use Rattle.std.proofs.lemmas.Bool.{cases_eq, cases_Bool, eq-eqb, ne_eqb, eqb-true, or_cases}
use Rattle.std.proofs.lemmas.List.{map-set, set-get_or}
use Rattle.t1_shape.specs.Shapes.{Shape}
use Rattle.t1_shape.specs.Numbers.{banks}
use Rattle.t1_shape.specs.Slots.{Layout, first_slot, holds, scan, slot_of, IsOnce, with_fill}
use Rattle.t1_shape.proofs.Slots.{way_in_set, slot_split}
use Rattle.t1_packet.specs.declared.cache.Cache.{Cache}
use Rattle.t1_packet.specs.declared.cache.Cache.TheVariants.{Dcache, Icache}
use Rattle.t1_packet.specs.declared.op.Op.{Op}
use Rattle.t1_packet.specs.declared.op.Op.TheVariants.{Fetch, Load, Store, Swap, Cas}
use Rattle.t1_packet.specs.Data.{KillData}
use Rattle.t1_packet.specs.Ops.{op_addr}
use Rattle.t1_packet.specs.Caches.{layout, width, bank_of, same_cache, is_kill_of, slot_killed, with_kills, filled_line}
use Rattle.t1_dir.specs.Directory.{no_tags}
use Rattle.t1_event.specs.declared.commit.Commit.{Commit}
use Rattle.t1_event.specs.Log.{core_of}
use Rattle.t1_event.specs.Kills.{is_evicted, is_written, is_doomed, kill_at, kills_here, kills_below}
use Rattle.t1_event.specs.Shadow.{with_commit, directory_at}
use Rattle.t1_packet.proofs.Caches.{line_bank, inside_bank, same_set_bank}

-- ---- definitions

-- what of a tag is of a bank
abbrev pub keep : Shape → ℕ → Cache → Option ℕ → Option ℕ
keep shape b cache None = None
keep shape b cache (Some line) = if bank_of shape cache line == b then Some line else None

abbrev pub part : Shape → ℕ → Cache → List (Option ℕ) → List (Option ℕ)
part shape b cache tags = map (keep shape b cache) tags

-- what a bank's own directory shows, by its own commits among the first n
abbrev pub own_with : Shape → ℕ → ℕ → ℕ → Cache → List (Option ℕ) → Option Commit → List (Option ℕ)
own_with shape b strands core cache tags None = tags
own_with shape b strands core cache tags (Some c) = if c.dest == b then with_commit shape strands core cache tags (Some c) else tags

abbrev pub own_at : Shape → ℕ → ℕ → List Commit → ℕ → Cache → ℕ → List (Option ℕ)
own_at shape b strands log core cache zero = no_tags shape cache
own_at shape b strands log core cache (suc n) = own_with shape b strands core cache (own_at shape b strands log core cache n) (slice_get log n)

-- ---- reading a part

pub part_at : (shape : Shape) (b : ℕ) (cache : Cache) (tags : List (Option ℕ)) (k : ℕ) → get_or (part shape b cache tags) k None ≡ keep shape b cache (get_or tags k None)
part_at shape b cache [] k = refl
part_at shape b cache (t ∷ ts) zero = refl
part_at shape b cache (t ∷ ts) (suc k) = part_at shape b cache ts k

pub keep_same : (shape : Shape) (b : ℕ) (cache : Cache) (line : ℕ) → bank_of shape cache line ≡ b → keep shape b cache (Some line) ≡ Some line
keep_same shape b cache line e = rw (eq-eqb (bank_of shape cache line) b e) refl

pub keep_other : (shape : Shape) (b : ℕ) (cache : Cache) (line : ℕ) → (bank_of shape cache line ≡ b → ⊥) → keep shape b cache (Some line) ≡ None
keep_other shape b cache line ne = rw (ne_eqb (bank_of shape cache line) b ne) refl

pub part_start : (shape : Shape) (n b : ℕ) (cache : Cache) → part shape b cache (replicate n None) ≡ replicate n None
part_start shape zero b cache = refl
part_start shape (suc n) b cache = ap (λ (l : List (Option ℕ)). None ∷ l) (part_start shape n b cache)

-- ---- the bank's own commit

pub part-with_kills : (shape : Shape) (b core : ℕ) (cache : Cache) (ks : List KillData) (tags : List (Option ℕ)) → part shape b cache (with_kills shape core cache ks tags) ≡ with_kills shape core cache ks (part shape b cache tags)
part-with_kills shape b core cache [] tags = refl
part-with_kills shape b core cache (k ∷ ks) tags =
    elim (cases_Bool (is_kill_of shape core cache k)) [
      | inl e ↦ rw e (part-with_kills shape b core cache ks (set tags (slot_killed shape k) None) ∙ ap (λ (l : List (Option ℕ)). with_kills shape core cache ks l) (map-set (keep shape b cache) tags (slot_killed shape k) None))
      | inr e ↦ rw e (part-with_kills shape b core cache ks tags)
    ]

pub part_fill : (shape : Shape) (b : ℕ) (g : Layout) (cache : Cache) (line way : Option ℕ) (tags : List (Option ℕ)) → ((l : ℕ) → line ≡ Some l → bank_of shape cache l ≡ b)
    → part shape b cache (with_fill g line way (λ at. at) tags) ≡ with_fill g line way (λ at. at) (part shape b cache tags)
part_fill shape b g cache None way tags of = refl
part_fill shape b g cache (Some l) None tags of = refl
part_fill shape b g cache (Some l) (Some w) tags of =
    map-set (keep shape b cache) tags (first_slot g l + w) (Some l) ∙ ap (λ (o : Option ℕ). set (part shape b cache tags) (first_slot g l + w) o) (keep_same shape b cache l (of l refl))

-- the lines that a commit of bank b touches are b's
pub record IsBanked (shape : Shape) (c : Commit) : Type 0 where
  pub evicted : (cache : Cache) (line : ℕ) → is_evicted cache line c.evicted ≡ true → bank_of shape cache line ≡ c.dest
  pub written : (cache : Cache) (line : ℕ) (own : Bool) → is_written cache line own c.op ≡ true → bank_of shape cache line ≡ c.dest
  pub filled : (cache : Cache) (line : ℕ) → filled_line cache c.op ≡ Some line → bank_of shape cache line ≡ c.dest

-- from the addresses: an evicted line and a RAM address whose bits 7:6 are the bank
pub banked : (shape : Shape) (c : Commit) → ((e : ℕ) → c.evicted ≡ Some e → e / 64 % banks shape ≡ c.dest) → op_addr c.op / 64 % banks shape ≡ c.dest → IsBanked shape c
banked shape c ev at = record {
  evicted = λ cache line e. from_evicted cache line c.evicted refl e;
  written = λ cache line own e. from_written cache line own c.op at e;
  filled = λ cache line e. from_filled cache line c.op at e;
}
  where
    from_evicted : (cache : Cache) (line : ℕ) (o : Option ℕ) → c.evicted ≡ o → is_evicted cache line o ≡ true → bank_of shape cache line ≡ c.dest
    from_evicted cache line None is e = cc
    from_evicted cache line (Some v) is e = inside_bank shape cache line v (eqb-true (line * width cache / 64) (v / 64) e) ∙ ev v is

    from_written : (cache : Cache) (line : ℕ) (own : Bool) (op : Op) → op_addr op / 64 % banks shape ≡ c.dest → is_written cache line own op ≡ true → bank_of shape cache line ≡ c.dest
    from_written Dcache line true (Store addr size value) a e = cc
    from_written Dcache line false (Store addr size value) a e = line_bank shape Dcache addr line (eqb-true (addr / 16) line e) ∙ a
    from_written Icache line own (Store addr size value) a e = line_bank shape Icache addr line (eqb-true (addr / 32) line e) ∙ a
    from_written Dcache line own (Swap addr size new) a e = line_bank shape Dcache addr line (eqb-true (addr / 16) line e) ∙ a
    from_written Icache line own (Swap addr size new) a e = line_bank shape Icache addr line (eqb-true (addr / 32) line e) ∙ a
    from_written Dcache line own (Fetch addr way) a e = cc
    from_written Icache line own (Fetch addr way) a e = cc
    from_written Dcache line own (Load addr size way) a e = cc
    from_written Icache line own (Load addr size way) a e = cc
    from_written Dcache line own (Cas addr size expect new) a e = cc
    from_written Icache line own (Cas addr size expect new) a e = cc

    from_filled : (cache : Cache) (line : ℕ) (op : Op) → op_addr op / 64 % banks shape ≡ c.dest → filled_line cache op ≡ Some line → bank_of shape cache line ≡ c.dest
    from_filled Icache line (Fetch addr way) a e = let q : addr / 32 ≡ line = cc in line_bank shape Icache addr line q ∙ a
    from_filled Dcache line (Load addr size way) a e = let q : addr / 16 ≡ line = cc in line_bank shape Dcache addr line q ∙ a
    from_filled Dcache line (Fetch addr way) a e = cc
    from_filled Icache line (Load addr size way) a e = cc
    from_filled Dcache line (Store addr size value) a e = cc
    from_filled Icache line (Store addr size value) a e = cc
    from_filled Dcache line (Swap addr size value) a e = cc
    from_filled Icache line (Swap addr size value) a e = cc
    from_filled Dcache line (Cas addr size value new) a e = cc
    from_filled Icache line (Cas addr size value new) a e = cc

-- the kills in the part are those in the whole
doomed_bank : (shape : Shape) (cache : Cache) (own : Bool) (c : Commit) (line : ℕ) → IsBanked shape c → is_doomed cache own c.evicted c.op (Some line) ≡ true → bank_of shape cache line ≡ c.dest
doomed_bank shape cache own c line banked' e =
    elim (or_cases (is_evicted cache line c.evicted) (is_written cache line own c.op) e) [
      | inl v ↦ banked'.evicted cache line v
      | inr w ↦ banked'.written cache line own w
    ]

doomed_part : (shape : Shape) (cache : Cache) (own : Bool) (c : Commit) (t : Option ℕ) → IsBanked shape c → is_doomed cache own c.evicted c.op (keep shape c.dest cache t) ≡ is_doomed cache own c.evicted c.op t
doomed_part shape cache own c None banked' = refl
doomed_part shape cache own c (Some line) banked' =
    elim (cases_eq (bank_of shape cache line) c.dest) [
      | inl e ↦ ap (λ (o : Option ℕ). is_doomed cache own c.evicted c.op o) (keep_same shape c.dest cache line e)
      | inr ne ↦
          let off : is_doomed cache own c.evicted c.op (Some line) ≡ false = elim (cases_Bool (is_doomed cache own c.evicted c.op (Some line))) [
            | inl t ↦ absurd (ne (doomed_bank shape cache own c line banked' t))
            | inr f ↦ f
          ] in
          ap (λ (o : Option ℕ). is_doomed cache own c.evicted c.op o) (keep_other shape c.dest cache line ne) ∙ sym off
    ]

pub kills_part : (shape : Shape) (core : ℕ) (cache : Cache) (own : Bool) (c : Commit) (tags : List (Option ℕ)) (from : ℕ) → IsBanked shape c
    → kills_here shape core cache own c.evicted c.op (part shape c.dest cache tags) from ≡ kills_here shape core cache own c.evicted c.op tags from
kills_part shape core cache own c [] from banked' = refl
kills_part shape core cache own c (t ∷ ts) from banked' =
    let rest = kills_part shape core cache own c ts (suc from) banked' in
    rw (doomed_part shape cache own c t banked') (elim (cases_Bool (is_doomed cache own c.evicted c.op t)) [
      | inl e ↦ rw e (ap (λ (l : List KillData). kill_at shape core cache from ∷ l) rest)
      | inr e ↦ rw e rest
    ])

-- ---- a commit of another bank

-- each kill of this core and cache empties a slot that is not b's
abbrev pub Harmless : (shape : Shape) → ℕ → ℕ → Cache → List (Option ℕ) → List KillData → Type 0
Harmless shape b core cache tags [] = Unit {0}
Harmless shape b core cache tags (y ∷ ys) = (is_kill_of shape core cache y ≡ true → keep shape b cache (get_or tags (slot_killed shape y) None) ≡ None) × Harmless shape b core cache tags ys

harmless_append : (shape : Shape) (b core : ℕ) (cache : Cache) (tags : List (Option ℕ)) (xs ys : List KillData) → Harmless shape b core cache tags xs → Harmless shape b core cache tags ys → Harmless shape b core cache tags (xs ++ ys)
harmless_append shape b core cache tags [] ys p q = q
harmless_append shape b core cache tags (x ∷ xs) ys p q = (p.0, harmless_append shape b core cache tags xs ys p.1 q)

set_empty : (shape : Shape) (b : ℕ) (cache : Cache) (tags now : List (Option ℕ)) (k : ℕ) (v : Option ℕ) → keep shape b cache (get_or tags k None) ≡ None → keep shape b cache v ≡ None → part shape b cache now ≡ part shape b cache tags
    → part shape b cache (set now k v) ≡ part shape b cache tags
set_empty shape b cache tags now k v old new same =
    map-set (keep shape b cache) now k v
    ∙ (ap (λ (o : Option ℕ). set (part shape b cache now) k o) new
    ∙ (ap (λ (l : List (Option ℕ)). set l k None) same
    ∙ (ap (λ (o : Option ℕ). set (part shape b cache tags) k o) (sym (part_at shape b cache tags k ∙ old))
    ∙ set-get_or (part shape b cache tags) k None)))

pub with_kills_untouched : (shape : Shape) (b core : ℕ) (cache : Cache) (tags : List (Option ℕ)) (ks : List KillData) (now : List (Option ℕ)) → Harmless shape b core cache tags ks → part shape b cache now ≡ part shape b cache tags
    → part shape b cache (with_kills shape core cache ks now) ≡ part shape b cache tags
with_kills_untouched shape b core cache tags [] now p same = same
with_kills_untouched shape b core cache tags (y ∷ ys) now p same =
    elim (cases_Bool (is_kill_of shape core cache y)) [
      | inl e ↦ rw e (with_kills_untouched shape b core cache tags ys (set now (slot_killed shape y) None) p.1 (set_empty shape b cache tags now (slot_killed shape y) None (p.0 e) refl same))
      | inr e ↦ rw e (with_kills_untouched shape b core cache tags ys now p.1 same)
    ]

other_core : (shape : Shape) (m core : ℕ) (second cache : Cache) (slot : ℕ) → (m == core) ≡ false → is_kill_of shape core cache (kill_at shape m second slot) ≡ false
other_core shape m core second cache slot e = rw e refl

other_cache : (shape : Shape) (m core : ℕ) (second cache : Cache) (slot : ℕ) → same_cache second cache ≡ false → is_kill_of shape core cache (kill_at shape m second slot) ≡ false
other_cache shape m core second cache slot e = elim (cases_Bool (m == core)) [ inl f ↦ rw (f, e) refl | inr f ↦ rw f refl ]

-- the kills of another core or cache
harmless_other : (shape : Shape) (b core other : ℕ) (cache second : Cache) (own : Bool) (c : Commit) (tags ts : List (Option ℕ)) (from : ℕ) → ((slot : ℕ) → is_kill_of shape core cache (kill_at shape other second slot) ≡ false)
    → Harmless shape b core cache tags (kills_here shape other second own c.evicted c.op ts from)
harmless_other shape b core other cache second own c tags [] from off = tt
harmless_other shape b core other cache second own c tags (t ∷ ts) from off =
    let rest = harmless_other shape b core other cache second own c tags ts (suc from) off in
    elim (cases_Bool (is_doomed second own c.evicted c.op t)) [
      | inl e ↦ rw e ((λ q. let clash : false ≡ true = sym (off from) ∙ q in cc), rest)
      | inr e ↦ rw e rest
    ]

-- the kills of this core and cache, of another bank's lines
harmless_same : (shape : Shape) (b core : ℕ) (cache : Cache) (own : Bool) (c : Commit) (tags ts : List (Option ℕ)) (from : ℕ) → IsBanked shape c → (c.dest ≡ b → ⊥) → ((i : ℕ) → get_or ts i None ≡ get_or tags (from + i) None)
    → Harmless shape b core cache tags (kills_here shape core cache own c.evicted c.op ts from)
harmless_same shape b core cache own c tags [] from of ne at = tt
harmless_same shape b core cache own c tags (t ∷ ts) from of ne at =
    let rest = harmless_same shape b core cache own c tags ts (suc from) of ne (λ i. at (suc i) ∙ ap (λ (n : ℕ). get_or tags n None) (let e : from + suc i ≡ suc from + i = omega arith in e)) in
    elim (cases_Bool (is_doomed cache own c.evicted c.op t)) [
      | inl e ↦ rw e (
        (λ q.
            let here : get_or tags ((layout shape cache).ways * (from / (layout shape cache).ways) + from % (layout shape cache).ways) None ≡ t = ap (λ (n : ℕ). get_or tags n None) (slot_split (layout shape cache) from ∙ omega arith) ∙ sym (at 0) in
            ap (λ (o : Option ℕ). keep shape b cache o) here ∙ gone t e),
        rest,
      )
      | inr e ↦ rw e rest
    ]
  where
    gone : (o : Option ℕ) → is_doomed cache own c.evicted c.op o ≡ true → keep shape b cache o ≡ None
    gone None e = refl
    gone (Some line) e = keep_other shape b cache line (λ q. ne (sym (doomed_bank shape cache own c line of e) ∙ q))

-- all kills of a commit of another bank
pub harmless_kills : (shape : Shape) (strands : ℕ) (log : List Commit) (n : ℕ) (c : Commit) (b core : ℕ) (cache : Cache) → IsBanked shape c → (c.dest ≡ b → ⊥)
    → ((k : ℕ) (κ : Cache) → own_at shape c.dest strands log k κ n ≡ part shape c.dest κ (directory_at shape strands log k κ n))
    → (cores : ℕ) → Harmless shape b core cache (directory_at shape strands log core cache n) (kills_below shape (λ i κ. own_at shape c.dest strands log i κ n) (core_of strands c) c.evicted c.op cores)
harmless_kills shape strands log n c b core cache of ne whole zero = tt
harmless_kills shape strands log n c b core cache of ne whole (suc m) =
    harmless_append shape b core cache (directory_at shape strands log core cache n)
    (kills_below shape (λ i κ. own_at shape c.dest strands log i κ n) (core_of strands c) c.evicted c.op m ++ kills_here shape m Dcache (core_of strands c == m) c.evicted c.op (own_at shape c.dest strands log m Dcache n) 0)
    (kills_here shape m Icache (core_of strands c == m) c.evicted c.op (own_at shape c.dest strands log m Icache n) 0)
    (harmless_append shape b core cache (directory_at shape strands log core cache n)
    (kills_below shape (λ i κ. own_at shape c.dest strands log i κ n) (core_of strands c) c.evicted c.op m)
    (kills_here shape m Dcache (core_of strands c == m) c.evicted c.op (own_at shape c.dest strands log m Dcache n) 0)
    (harmless_kills shape strands log n c b core cache of ne whole m)
    (one Dcache))
    (one Icache)
  where
    one : (κ : Cache) → Harmless shape b core cache (directory_at shape strands log core cache n) (kills_here shape m κ (core_of strands c == m) c.evicted c.op (own_at shape c.dest strands log m κ n) 0)
    one κ =
        let e : kills_here shape m κ (core_of strands c == m) c.evicted c.op (own_at shape c.dest strands log m κ n) 0 ≡ kills_here shape m κ (core_of strands c == m) c.evicted c.op (directory_at shape strands log m κ n) 0 =
        ap (λ (ts : List (Option ℕ)). kills_here shape m κ (core_of strands c == m) c.evicted c.op ts 0) (whole m κ) ∙ kills_part shape m κ (core_of strands c == m) c (directory_at shape strands log m κ n) 0 of in
        subst (λ (ks : List KillData). Harmless shape b core cache (directory_at shape strands log core cache n) ks) (sym e)
        (elim (cases_eq m core) [
          | inl same ↦ elim (cases_Bool (same_cache κ cache)) [
            | inl t ↦ mine κ t same
            | inr f ↦ harmless_other shape b core m cache κ (core_of strands c == m) c (directory_at shape strands log core cache n) (directory_at shape strands log m κ n) 0 (λ slot. other_cache shape m core κ cache slot f)
          ]
          | inr apart ↦ harmless_other shape b core m cache κ (core_of strands c == m) c (directory_at shape strands log core cache n) (directory_at shape strands log m κ n) 0 (λ slot. other_core shape m core κ cache slot (ne_eqb m core apart))
        ])
      where
        mine : (κ : Cache) → same_cache κ cache ≡ true → m ≡ core → Harmless shape b core cache (directory_at shape strands log core cache n) (kills_here shape m κ (core_of strands c == m) c.evicted c.op (directory_at shape strands log m κ n) 0)
        mine κ t same =
            subst (λ (k : ℕ). Harmless shape b core cache (directory_at shape strands log core cache n) (kills_here shape k κ (core_of strands c == k) c.evicted c.op (directory_at shape strands log k κ n) 0)) (sym same)
            (subst (λ (w : Cache). Harmless shape b core cache (directory_at shape strands log core cache n) (kills_here shape core w (core_of strands c == core) c.evicted c.op (directory_at shape strands log core w n) 0)) (sym (alike κ cache t))
            (harmless_same shape b core cache (core_of strands c == core) c (directory_at shape strands log core cache n) (directory_at shape strands log core cache n) 0 of ne (λ i. ap (λ (k : ℕ). get_or (directory_at shape strands log core cache n) k None) (let e : i ≡ 0 + i = omega arith in e))))
          where
            alike : (x y : Cache) → same_cache x y ≡ true → x ≡ y
            alike Dcache Dcache e = refl
            alike Icache Icache e = refl
            alike Dcache Icache e = cc
            alike Icache Dcache e = cc

-- a fill of another bank's line, over what stood in its set
pub fill_untouched : (shape : Shape) (b : ℕ) (cache : Cache) (line way : Option ℕ) (tags now : List (Option ℕ)) → IsOnce (layout shape cache) tags → ((l : ℕ) → line ≡ Some l → bank_of shape cache l ≡ b → ⊥) → ((l w : ℕ) → line ≡ Some l → way ≡ Some w → w < (layout shape cache).ways)
    → part shape b cache now ≡ part shape b cache tags → part shape b cache (with_fill (layout shape cache) line way (λ at. at) now) ≡ part shape b cache tags
fill_untouched shape b cache None way tags now once off small same = same
fill_untouched shape b cache (Some l) None tags now once off small same = same
fill_untouched shape b cache (Some l) (Some w) tags now once off small same =
    set_empty shape b cache tags now (first_slot (layout shape cache) l + w) (Some l) (old (get_or tags (first_slot (layout shape cache) l + w) None) refl) (keep_other shape b cache l (off l refl)) same
  where
    old : (o : Option ℕ) → get_or tags (first_slot (layout shape cache) l + w) None ≡ o → keep shape b cache o ≡ None
    old None e = refl
    old (Some x) e = keep_other shape b cache x (λ q. off l refl (sym (same_set_bank shape cache x l (first_slot (layout shape cache) l + w) (once.own (first_slot (layout shape cache) l + w) x e) (way_in_set (layout shape cache) l w (small l w refl refl))) ∙ q))

-- ---- look-ups

holds_keep : (shape : Shape) (b : ℕ) (cache : Cache) (o : Option ℕ) (line : ℕ) → bank_of shape cache line ≡ b → holds (keep shape b cache o) line ≡ holds o line
holds_keep shape b cache None line e = refl
holds_keep shape b cache (Some x) line e =
    elim (cases_eq (bank_of shape cache x) b) [
      | inl q ↦ ap (λ (o : Option ℕ). holds o line) (keep_same shape b cache x q)
      | inr ne ↦
          let off : (x == line) ≡ false = ne_eqb x line (λ q. ne (ap (λ (n : ℕ). bank_of shape cache n) q ∙ e)) in
          ap (λ (o : Option ℕ). holds o line) (keep_other shape b cache x ne) ∙ sym off
    ]

scan_part : (shape : Shape) (b : ℕ) (cache : Cache) (tags : List (Option ℕ)) (line k n : ℕ) → bank_of shape cache line ≡ b → scan (part shape b cache tags) line k n ≡ scan tags line k n
scan_part shape b cache tags line k zero e = refl
scan_part shape b cache tags line k (suc n) e =
    let h : holds (get_or (part shape b cache tags) k None) line ≡ holds (get_or tags k None) line =
    ap (λ (o : Option ℕ). holds o line) (part_at shape b cache tags k) ∙ holds_keep shape b cache (get_or tags k None) line e in
    ap (λ (t : Bool). cond t (Some k) (scan (part shape b cache tags) line (suc k) n)) h
    ∙ ap (λ (r : Option ℕ). cond (holds (get_or tags k None) line) (Some k) r) (scan_part shape b cache tags line (suc k) n e)

pub slot_part : (shape : Shape) (b : ℕ) (cache : Cache) (tags : List (Option ℕ)) (line : ℕ) → bank_of shape cache line ≡ b → slot_of (layout shape cache) (part shape b cache tags) line ≡ slot_of (layout shape cache) tags line
unfolding slot_of
slot_part shape b cache tags line e = scan_part shape b cache tags line (first_slot (layout shape cache) line) (layout shape cache).ways e
