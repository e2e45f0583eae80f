-- Kills are shown, and stand in order.
use Rattle.std.proofs.Common.{◌≡◌, ℕ, ◌+◌, ◌*◌, ◌/◌, ◌%◌, ◌<◌, ◌≤◌, ◌==◌, ◌⊎◌, Bool, true, List, [], ◌∷◌, ◌++◌, map, get_or, Option, Some, None, refl, ap, sym, ◌∙◌, subst, inl, inr, arith, zero, suc}
use Rattle.std.proofs.lemmas.List.{map-append}
use Rattle.t1_bank.proofs.Rule.{kills_in}
use Rattle.t1_bank.specs.Laws.{Among, Rises, cache_key, kill_key}
use Rattle.t1_dir.specs.Directory.{DirectoryState, tags_at}
use Rattle.t1_event.specs.Kills.{is_doomed, kill_at, kills_here}
use Rattle.t1_packet.proofs.Caches.{slot_in_cache}
use Rattle.t1_packet.specs.Caches.{layout, slot_killed}
use Rattle.t1_packet.specs.Data.{KillData}
use Rattle.t1_packet.specs.declared.cache.Cache.{Cache}
use Rattle.t1_packet.specs.declared.cache.Cache.TheVariants.{Dcache, Icache}
use Rattle.t1_packet.specs.declared.op.Op.{Op}
use Rattle.t1_shape.proofs.Slots.{slot_split}
use Rattle.t1_shape.specs.Shapes.{Shape}
use Rattle.t1_shape.specs.Slots.{IsOnce}
use Rattle.t1_bank.proofs.Found.{In, Ascends, passing, passing_in, passing_ascends, kills_passing, tag_passes}

-- ---- shown

pub record Doomed (d : DirectoryState) (own : ℕ) (v : Option ℕ) (op : Op) (k : KillData) : Type 0 where
  pub line : ℕ
  pub at : get_or (tags_at d k.core k.cache) (slot_killed d.shape k) None ≡ Some line
  pub doomed : is_doomed k.cache (own == k.core) v op (Some line) ≡ true

among_cases : (k : KillData) (xs ys : List KillData) → Among k (xs ++ ys) → Among k xs ⊎ Among k ys
among_cases k [] ys i = inr i
among_cases k (x ∷ xs) ys (inl e) = inl (inl e)
among_cases k (x ∷ xs) ys (inr i) = elim (among_cases k xs ys i) [ inl p ↦ inl (inr p) | inr p ↦ inr p ]

among_map : (shape : Shape) (core : ℕ) (cache : Cache) (k : KillData) (js : List ℕ) → Among k (map (kill_at shape core cache) js) → (j : ℕ) × In j js × (k ≡ kill_at shape core cache j)
among_map shape core cache k [] i = absurd i
among_map shape core cache k (x ∷ xs) (inl e) = (x, inl refl, e)
among_map shape core cache k (x ∷ xs) (inr i) = let r = among_map shape core cache k xs i in (r.0, inr r.1, r.2)

shown_here : (d : DirectoryState) (own : ℕ) (v : Option ℕ) (op : Op) (core : ℕ) (cache : Cache) (k : KillData)
    → Among k (kills_here d.shape core cache (own == core) v op (tags_at d core cache) 0) → Doomed d own v op k
shown_here d own v op core cache k i =
    let p : Option ℕ → Bool = is_doomed cache (own == core) v op in
    let tags : List (Option ℕ) = tags_at d core cache in
    let m = among_map d.shape core cache k (passing p tags 0) (subst (λ (ks : List KillData). Among k ks) (kills_passing d.shape core cache (own == core) v op tags 0) i) in
    let x = passing_in p tags 0 m.0 m.1 in
    let l = tag_passes p (get_or tags x.place None) refl x.is in
    let at : slot_killed d.shape (kill_at d.shape core cache m.0) ≡ x.place = slot_split (layout d.shape cache) m.0 ∙ (let a = x.at in omega (arith, a)) in
    subst (λ (y : KillData). Doomed d own v op y) (sym m.2) (record {
      line = l.0;
      at = ap (λ (n : ℕ). get_or tags n None) at ∙ l.1;
      doomed = ap p (sym l.1) ∙ x.is;
    })

pub shown_below : (d : DirectoryState) (own : ℕ) (v : Option ℕ) (op : Op) (cores : ℕ) (k : KillData) → Among k (kills_in d own v op cores) → Doomed d own v op k
shown_below d own v op zero k i = absurd i
shown_below d own v op (suc m) k i =
    let ds : List KillData = kills_here d.shape m Dcache (own == m) v op (tags_at d m Dcache) 0 in
    let is : List KillData = kills_here d.shape m Icache (own == m) v op (tags_at d m Icache) 0 in
    elim (among_cases k (kills_in d own v op m ++ ds) is i) [
      | inr p ↦ shown_here d own v op m Icache k p
      | inl p ↦ elim (among_cases k (kills_in d own v op m) ds p) [
        | inr q ↦ shown_here d own v op m Dcache k q
        | inl q ↦ shown_below d own v op m k q
      ]
    ]

-- ---- in order

-- ascending numbers from low, all below top
abbrev pub Runs : ℕ → ℕ → List ℕ → Type 0
Runs low top [] = low ≤ top
Runs low top (x ∷ xs) = (low ≤ x) × Runs (x + 1) top xs

runs_append : (low mid top : ℕ) (xs ys : List ℕ) → Runs low mid xs → Runs mid top ys → Runs low top (xs ++ ys)
runs_append low mid top [] ys a b = earlier ys b
  where
    earlier : (zs : List ℕ) → Runs mid top zs → Runs low top zs
    earlier [] c = omega (arith, a, c)
    earlier (z ∷ zs) c = (omega (arith, a, c.0), c.1)
runs_append low mid top (x ∷ xs) ys a b = (a.0, runs_append (x + 1) mid top xs ys a.1 b)

runs_rises : (low top : ℕ) (xs : List ℕ) → Runs low top xs → Rises low xs
runs_rises low top [] r = tt
runs_rises low top (x ∷ xs) r = (r.0, runs_rises (x + 1) top xs r.1)

key_runs : (shape : Shape) (core : ℕ) (cache : Cache) (low top : ℕ) (js : List ℕ) → Ascends low js → ((j : ℕ) → In j js → j < top) → low ≤ top
    → Runs (1024 * core + cache_key cache + low) (1024 * core + cache_key cache + top) (map (kill_key shape) (map (kill_at shape core cache) js))
key_runs shape core cache low top [] a f l = omega (arith, l)
key_runs shape core cache low top (j ∷ js) a f l =
    let x = f j (inl refl) in
    let rest = key_runs shape core cache (suc j) top js a.1 (λ i p. f i (inr p)) (omega (arith, x)) in
    let e : 1024 * core + cache_key cache + suc j ≡ (1024 * core + cache_key cache + ((layout shape cache).ways * (j / (layout shape cache).ways) + j % (layout shape cache).ways)) + 1 = (let q = slot_split (layout shape cache) j in omega (arith, q)) in
    (omega (arith, a.0), subst (λ (n : ℕ). Runs n (1024 * core + cache_key cache + top) (map (kill_key shape) (map (kill_at shape core cache) js))) e rest)

here_runs : (shape : Shape) (core : ℕ) (cache : Cache) (own : Bool) (v : Option ℕ) (op : Op) (tags : List (Option ℕ)) → IsOnce (layout shape cache) tags
    → Runs (1024 * core + cache_key cache + 0) (1024 * core + cache_key cache + 512) (map (kill_key shape) (kills_here shape core cache own v op tags 0))
here_runs shape core cache own v op tags once =
    let p : Option ℕ → Bool = is_doomed cache own v op in
    subst (λ (ks : List KillData). Runs (1024 * core + cache_key cache + 0) (1024 * core + cache_key cache + 512) (map (kill_key shape) ks)) (sym (kills_passing shape core cache own v op tags 0))
    (key_runs shape core cache 0 512 (passing p tags 0) (passing_ascends p tags 0) (λ j i.
    let x = passing_in p tags 0 j i in
    let l = tag_passes p (get_or tags x.place None) refl x.is in
    let o = once.own x.place l.0 l.1 in
    let a = x.at in
    let low = slot_in_cache shape cache l.0 x.place o in
    omega (arith, low, a)) (omega arith))

below_runs : (d : DirectoryState) (own : ℕ) (v : Option ℕ) (op : Op) (cores : ℕ) → ((c : ℕ) (cache : Cache) → IsOnce (layout d.shape cache) (tags_at d c cache))
    → Runs 0 (1024 * cores) (map (kill_key d.shape) (kills_in d own v op cores))
below_runs d own v op zero once = omega arith
below_runs d own v op (suc m) once =
    let bs : List KillData = kills_in d own v op m in
    let ds : List KillData = kills_here d.shape m Dcache (own == m) v op (tags_at d m Dcache) 0 in
    let is : List KillData = kills_here d.shape m Icache (own == m) v op (tags_at d m Icache) 0 in
    let x : Runs (1024 * m) (1024 * m + 512) (map (kill_key d.shape) ds) =
    from (1024 * m + 0 + 0) (1024 * m + 0 + 512) (1024 * m) (1024 * m + 512) (map (kill_key d.shape) ds) (omega arith) (omega arith) (here_runs d.shape m Dcache (own == m) v op (tags_at d m Dcache) (once m Dcache)) in
    let y : Runs (1024 * m + 512) (1024 * suc m) (map (kill_key d.shape) is) =
    from (1024 * m + 512 + 0) (1024 * m + 512 + 512) (1024 * m + 512) (1024 * suc m) (map (kill_key d.shape) is) (omega arith) (omega arith) (here_runs d.shape m Icache (own == m) v op (tags_at d m Icache) (once m Icache)) in
    let all : Runs 0 (1024 * suc m) (map (kill_key d.shape) bs ++ map (kill_key d.shape) ds ++ map (kill_key d.shape) is) =
    runs_append 0 (1024 * m + 512) (1024 * suc m) (map (kill_key d.shape) bs ++ map (kill_key d.shape) ds) (map (kill_key d.shape) is)
    (runs_append 0 (1024 * m) (1024 * m + 512) (map (kill_key d.shape) bs) (map (kill_key d.shape) ds) (below_runs d own v op m once) x) y in
    let e : map (kill_key d.shape) bs ++ map (kill_key d.shape) ds ++ map (kill_key d.shape) is ≡ map (kill_key d.shape) (bs ++ ds ++ is) =
    sym (map-append (kill_key d.shape) (bs ++ ds) is ∙ ap (λ (l : List ℕ). l ++ map (kill_key d.shape) is) (map-append (kill_key d.shape) bs ds)) in
    subst (λ (l : List ℕ). Runs 0 (1024 * suc m) l) e all
  where
    from : (l t l' t' : ℕ) (xs : List ℕ) → l ≡ l' → t ≡ t' → Runs l t xs → Runs l' t' xs
    from l t l' t' xs e g r = subst (λ (n : ℕ). Runs n t' xs) e (subst (λ (n : ℕ). Runs l n xs) g r)

pub kills_rise : (d : DirectoryState) (own : ℕ) (v : Option ℕ) (op : Op) (cores : ℕ) → ((c : ℕ) (cache : Cache) → IsOnce (layout d.shape cache) (tags_at d c cache)) → Rises 0 (map (kill_key d.shape) (kills_in d own v op cores))
kills_rise d own v op cores once = runs_rises 0 (1024 * cores) (map (kill_key d.shape) (kills_in d own v op cores)) (below_runs d own v op cores once)
