-- A commit makes at most 8 kills in one core.
use Rattle.std.proofs.Common.{◌≡◌, ℕ, zero, suc, ◌+◌, ◌*◌, ◌/◌, ◌<◌, ◌≤◌, ◌⊎◌, ◌==◌, ◌&&◌, not, inl, inr, Bool, true, false, if◌then◌else◌, List, [], ◌∷◌, ◌++◌, length, get_or, Option, Some, None, refl, ap, sym, subst, arith, length-append}
use Rattle.std.specs.List.{filter}
use Rattle.std.proofs.lemmas.Bool.{cases_eq, cases_Bool, eq-eqb, ne_eqb, eqb-true, eqb-false, and_parts, or_cases, not-true}
use Rattle.std.proofs.lemmas.List.Elements.{filter-append}
use Rattle.t1_shape.specs.Shapes.{Shape}
use Rattle.t1_shape.specs.Slots.{holds}
use Rattle.t1_shape.proofs.Slots.{holds-true}
use Rattle.t1_packet.specs.declared.cache.Cache.{Cache}
use Rattle.t1_packet.specs.declared.cache.Cache.TheVariants.{Dcache, Icache}
use Rattle.t1_packet.specs.declared.op.Op.{Op}
use Rattle.t1_packet.specs.declared.op.Op.TheVariants.{Fetch, Load, Store, Swap, Cas}
use Rattle.t1_packet.specs.Data.{KillData}
use Rattle.t1_packet.specs.Ops.{op_addr}
use Rattle.t1_packet.specs.Caches.{line_of}
use Rattle.t1_event.specs.Log.{core_of}
use Rattle.t1_event.specs.Kills.{is_evicted, is_written, is_doomed, kills_here, kills_below}
use Rattle.t1_event.specs.Places.{Run}
use Rattle.t1_joint.specs.JointHistory.{shown_at}
use Rattle.t1_joint.specs.Lists.{IsIn}
use Rattle.t1_tso.proofs.Joint.{Joint}
use Rattle.t1_tso.proofs.Once.{directory_once}
use Rattle.t1_tso.proofs.Cover.{FewKills}

-- ---- counting the slots that pass a test

abbrev pub count : (Option ℕ → Bool) → List (Option ℕ) → ℕ
count p [] = 0
count p (t ∷ ts) = if p t then suc (count p ts) else count p ts

count_split : (p q : Option ℕ → Bool) (ts : List (Option ℕ)) → count p ts ≤ count (λ t. p t && not (q t)) ts + count q ts
count_split p q [] = omega arith
count_split p q (t ∷ ts) =
    let rest = count_split p q ts in
    elim (cases_Bool (p t)) [
      | inl e ↦ elim (cases_Bool (q t)) [
        | inl f ↦ rw (e, f) (omega (arith, rest))
        | inr f ↦ rw (e, f) (omega (arith, rest))
      ]
      | inr e ↦ elim (cases_Bool (q t)) [
        | inl f ↦ rw (e, f) (omega (arith, rest))
        | inr f ↦ rw (e, f) (omega (arith, rest))
      ]
    ]

count_none : (p : Option ℕ → Bool) (ts : List (Option ℕ)) → ((k : ℕ) → k < length ts → p (get_or ts k None) ≡ false) → count p ts ≡ 0
count_none p [] f = refl
count_none p (t ∷ ts) f =
    let e : p t ≡ false = f 0 (omega arith) in
    rw e (count_none p ts (λ k l. f (suc k) (omega (arith, l))))

abbrev pub Distinct : List (Option ℕ) → Type 0
Distinct ts = (i k l : ℕ) → get_or ts i None ≡ Some l → get_or ts k None ≡ Some l → i ≡ k

count_one : (s : ℕ) (ts : List (Option ℕ)) → Distinct ts → count (λ t. holds t s) ts ≤ 1
count_one s [] d = omega arith
count_one s (t ∷ ts) d =
    elim (cases_Bool (holds t s)) [
      | inl e ↦
          let none : count (λ t. holds t s) ts ≡ 0 = count_none (λ t. holds t s) ts (λ k l.
          elim (cases_Bool (holds (get_or ts k None) s)) [
            | inl f ↦ let clash : 0 ≡ suc k = d 0 (suc k) s (holds-true t s e) (holds-true (get_or ts k None) s f) in absurd (omega arith)
            | inr f ↦ f
          ]) in
          rw e (omega arith)
      | inr e ↦ rw e (count_one s ts (λ i k l f g. let q : suc i ≡ suc k = d (suc i) (suc k) l f g in omega arith))
    ]

count_in : (ss : List ℕ) (p : Option ℕ → Bool) (ts : List (Option ℕ)) → Distinct ts → p None ≡ false → ((l : ℕ) → p (Some l) ≡ true → IsIn l ss) → count p ts ≤ length ss
count_in [] p ts d none only =
    let zero' : count p ts ≡ 0 = count_none p ts (λ k l. off (get_or ts k None)) in omega arith
  where
    off : (o : Option ℕ) → p o ≡ false
    off None = none
    off (Some l) = elim (cases_Bool (p (Some l))) [ inl e ↦ absurd (only l e) | inr e ↦ e ]
count_in (s ∷ ss) p ts d none only =
    let rest : count (λ t. p t && not (holds t s)) ts ≤ length ss =
    count_in ss (λ t. p t && not (holds t s)) ts d (rw none) (λ l e.
    let both = and_parts (p (Some l)) (not (holds (Some l) s)) e in
    elim (only l both.0) [
      | inl same ↦ absurd (eqb-false l s (not-true (l == s) both.1) same)
      | inr more ↦ more
    ]) in
    let one = count_one s ts d in
    let split = count_split p (λ t. holds t s) ts in
    omega (arith, rest, one, split)

-- ---- the lines that an access dooms: those of the evicted line, and its own

evicted_at : Option ℕ → ℕ
evicted_at None = 0
evicted_at (Some e) = e / 64

doomed_lines : Cache → Option ℕ → Op → List ℕ
doomed_lines Dcache evicted op =
    4 * evicted_at evicted ∷ (4 * evicted_at evicted + 1) ∷ (4 * evicted_at evicted + 2) ∷ (4 * evicted_at evicted + 3) ∷ line_of Dcache (op_addr op) ∷ []
doomed_lines Icache evicted op = 2 * evicted_at evicted ∷ (2 * evicted_at evicted + 1) ∷ line_of Icache (op_addr op) ∷ []

quarter : (l e w : ℕ) → (l * 16) / 64 ≡ e → IsIn l (4 * e ∷ (4 * e + 1) ∷ (4 * e + 2) ∷ (4 * e + 3) ∷ w ∷ [])
quarter l e w q = grind arith

half : (l e w : ℕ) → (l * 32) / 64 ≡ e → IsIn l (2 * e ∷ (2 * e + 1) ∷ w ∷ [])
half l e w q = grind arith

pub written_line : (cache : Cache) (line : ℕ) (own : Bool) (op : Op) → is_written cache line own op ≡ true → line ≡ line_of cache (op_addr op)
written_line Dcache line true (Store addr size value) e = cc
written_line Dcache line false (Store addr size value) e = sym (eqb-true (addr / 16) line e)
written_line Icache line own (Store addr size value) e = sym (eqb-true (addr / 32) line e)
written_line cache line own (Swap addr size new) e = sym (eqb-true (line_of cache addr) line e)
written_line cache line own (Fetch addr way) e = cc
written_line cache line own (Load addr size way) e = cc
written_line cache line own (Cas addr size expect new) e = cc

evicted_line : (cache : Cache) (op : Op) (line : ℕ) (evicted : Option ℕ) → is_evicted cache line evicted ≡ true → IsIn line (doomed_lines cache evicted op)
unfolding doomed_lines evicted_at
evicted_line cache op line None e = cc
evicted_line Dcache op line (Some v) e = quarter line (v / 64) (line_of Dcache (op_addr op)) (eqb-true (line * 16 / 64) (v / 64) e)
evicted_line Icache op line (Some v) e = half line (v / 64) (line_of Icache (op_addr op)) (eqb-true (line * 32 / 64) (v / 64) e)

written_in : (cache : Cache) (evicted : Option ℕ) (op : Op) (line : ℕ) → line ≡ line_of cache (op_addr op) → IsIn line (doomed_lines cache evicted op)
unfolding doomed_lines
written_in Dcache evicted op line e = inr (inr (inr (inr (inl e))))
written_in Icache evicted op line e = inr (inr (inl e))

doomed_in : (cache : Cache) (own : Bool) (evicted : Option ℕ) (op : Op) (line : ℕ) → is_doomed cache own evicted op (Some line) ≡ true → IsIn line (doomed_lines cache evicted op)
doomed_in cache own evicted op line e =
    elim (or_cases (is_evicted cache line evicted) (is_written cache line own op) e) [
      | inl v ↦ evicted_line cache op line evicted v
      | inr w ↦ written_in cache evicted op line (written_line cache line own op w)
    ]

-- ---- the kills

length_here : (shape : Shape) (core : ℕ) (cache : Cache) (own : Bool) (evicted : Option ℕ) (op : Op) (tags : List (Option ℕ)) (from : ℕ)
    → length (filter (λ k. k.core == core) (kills_here shape core cache own evicted op tags from)) ≡ count (is_doomed cache own evicted op) tags
length_here shape core cache own evicted op [] from = refl
length_here shape core cache own evicted op (t ∷ ts) from =
    elim (cases_Bool (is_doomed cache own evicted op t)) [
      | inl e ↦
          let self : (core == core) ≡ true = eq-eqb core core refl in
          rw e (rw self (ap suc (length_here shape core cache own evicted op ts (suc from))))
      | inr e ↦ rw e (length_here shape core cache own evicted op ts (suc from))
    ]

length_other : (shape : Shape) (core other : ℕ) (cache : Cache) (own : Bool) (evicted : Option ℕ) (op : Op) (tags : List (Option ℕ)) (from : ℕ) → (other ≡ core → ⊥)
    → length (filter (λ k. k.core == core) (kills_here shape other cache own evicted op tags from)) ≡ 0
length_other shape core other cache own evicted op [] from ne = refl
length_other shape core other cache own evicted op (t ∷ ts) from ne =
    elim (cases_Bool (is_doomed cache own evicted op t)) [
      | inl e ↦ rw e (let off : (other == core) ≡ false = ne_eqb other core ne in rw off (length_other shape core other cache own evicted op ts (suc from) ne))
      | inr e ↦ rw e (length_other shape core other cache own evicted op ts (suc from) ne)
    ]

module _ (shape : Shape) (shown : ℕ → Cache → List (Option ℕ)) (distinct : (core : ℕ) (cache : Cache) → Distinct (shown core cache)) (asker : ℕ) (evicted : Option ℕ) (op : Op) where
  doomed_count : (core : ℕ) (cache : Cache) (own : Bool) → count (is_doomed cache own evicted op) (shown core cache) ≤ length (doomed_lines cache evicted op)
  doomed_count core cache own =
      count_in (doomed_lines cache evicted op) (is_doomed cache own evicted op) (shown core cache) (distinct core cache) refl (λ l e. doomed_in cache own evicted op l e)

  pub few_below : (core cores : ℕ)
      → ((core < cores) × (length (filter (λ k. k.core == core) (kills_below shape shown asker evicted op cores)) ≤ 8))
      ⊎ ((cores ≤ core) × (length (filter (λ k. k.core == core) (kills_below shape shown asker evicted op cores)) ≡ 0))
  unfolding doomed_lines
  few_below core zero = inr (omega arith, refl)
  few_below core (suc m) =
      let before = kills_below shape shown asker evicted op m in
      let ds = kills_here shape m Dcache (asker == m) evicted op (shown m Dcache) 0 in
      let is = kills_here shape m Icache (asker == m) evicted op (shown m Icache) 0 in
      let parts : length (filter (λ k. k.core == core) (before ++ ds ++ is))
      ≡ (length (filter (λ k. k.core == core) before) + length (filter (λ k. k.core == core) ds)) + length (filter (λ k. k.core == core) is) =
      simp (filter-append, length-append) in
      elim (cases_eq m core) [
        | inl same ↦
            let d : length (filter (λ k. k.core == core) ds) ≡ count (is_doomed Dcache (asker == m) evicted op) (shown m Dcache) =
            subst (λ (i : ℕ). length (filter (λ k. k.core == i) ds) ≡ count (is_doomed Dcache (asker == m) evicted op) (shown m Dcache)) same
            (length_here shape m Dcache (asker == m) evicted op (shown m Dcache) 0) in
            let i : length (filter (λ k. k.core == core) is) ≡ count (is_doomed Icache (asker == m) evicted op) (shown m Icache) =
            subst (λ (i : ℕ). length (filter (λ k. k.core == i) is) ≡ count (is_doomed Icache (asker == m) evicted op) (shown m Icache)) same
            (length_here shape m Icache (asker == m) evicted op (shown m Icache) 0) in
            let cd : count (is_doomed Dcache (asker == m) evicted op) (shown m Dcache) ≤ 5 = doomed_count m Dcache (asker == m) in
            let ci : count (is_doomed Icache (asker == m) evicted op) (shown m Icache) ≤ 3 = doomed_count m Icache (asker == m) in
            elim (few_below core m) [
              | inl p ↦ absurd (omega (arith, p, same))
              | inr p ↦ inl (omega (arith, same), omega (arith, parts, d, i, cd, ci, p))
            ]
        | inr apart ↦
            let d : length (filter (λ k. k.core == core) ds) ≡ 0 = length_other shape core m Dcache (asker == m) evicted op (shown m Dcache) 0 apart in
            let i : length (filter (λ k. k.core == core) is) ≡ 0 = length_other shape core m Icache (asker == m) evicted op (shown m Icache) 0 apart in
            elim (few_below core m) [
              | inl p ↦ inl (omega (arith, p), omega (arith, parts, d, i, p))
              | inr p ↦ inr (omega (arith, p, apart), omega (arith, parts, d, i, p))
            ]
      ]

pub few_kills : (h : Run) → Joint h → FewKills h.log
few_kills h j n core c is =
    let e : length (filter (λ k. k.core == core) c.kills)
    ≡ length (filter (λ k. k.core == core) (kills_below h.shape (shown_at h n) (core_of h.strands c) c.evicted c.op h.cores)) =
    ap (λ (ks : List KillData). length (filter (λ k. k.core == core) ks)) (j.kills n c is) in
    elim (few_below h.shape (shown_at h n) (λ i cache. (directory_once h.shape h.strands h.log j.fill i cache n).once) (core_of h.strands c) c.evicted c.op core h.cores) [
      | inl p ↦ omega (arith, e, p)
      | inr p ↦ omega (arith, e, p)
    ]
