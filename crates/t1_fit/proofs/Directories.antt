-- A directory after an access shows of each core and cache what its kills and its fill make of it.
use Rattle.std.proofs.Common.{◌≡◌, ℕ, ◌+◌, ◌<◌, ◌==◌, nat_lt, inl, inr, Bool, true, false, cond, List, [], ◌∷◌, ◌++◌, length, get_or, set, Option, Some, None, refl, ap, sym, ◌∙◌, subst, arith}
use Rattle.std.proofs.lemmas.Bool.{cases_eq, cases_Bool, lt-ltb, eq-eqb, ne_eqb}
use Rattle.std.proofs.lemmas.List.{length-set, get_or-set_same, get_or-set_other}
use Rattle.t1_shape.specs.Shapes.{Shape}
use Rattle.t1_shape.specs.Slots.{first_slot, tag, with_fill}
use Rattle.t1_packet.specs.declared.cache.Cache.{Cache}
use Rattle.t1_packet.specs.declared.cache.Cache.TheVariants.{Dcache, Icache}
use Rattle.t1_packet.specs.declared.op.Op.{Op}
use Rattle.t1_packet.specs.Data.{KillData}
use Rattle.t1_packet.specs.Caches.{layout, same_cache, is_kill_of, slot_killed, with_kills, filled_line}
use Rattle.t1_dir.specs.Directory.{DirectoryState, tags_at, row_with, directory_with, without_kills, filled_at, filled_by}
use Rattle.t1_joint.specs.Lists.{IsIn}

-- the rows of so many cores
pub record HasRows (d : DirectoryState) (cores : ℕ) : Type 0 where
  pub dcache : length d.dcache ≡ cores
  pub icache : length d.icache ≡ cores

row_same : (rows : List (List (Option ℕ))) (core slot : ℕ) (tag : Option ℕ) → core < length rows → get_or (row_with rows core slot tag) core [] ≡ set (get_or rows core []) slot tag
row_same rows core slot tag l = get_or-set_same rows core (set (get_or rows core []) slot tag) [] l

row_other : (rows : List (List (Option ℕ))) (core slot : ℕ) (tag : Option ℕ) (c : ℕ) → (c ≡ core → ⊥) → get_or (row_with rows core slot tag) c [] ≡ get_or rows c []
row_other rows core slot tag c ne = get_or-set_other rows core c (set (get_or rows core []) slot tag) [] ne

rows_with : (d : DirectoryState) (cores core : ℕ) (cache : Cache) (slot : ℕ) (tag : Option ℕ) → HasRows d cores → HasRows (directory_with d core cache slot tag) cores
rows_with d cores core Dcache slot tag h = record { dcache = length-set d.dcache core (set (get_or d.dcache core []) slot tag) ∙ h.dcache; icache = h.icache }
rows_with d cores core Icache slot tag h = record { dcache = h.dcache; icache = length-set d.icache core (set (get_or d.icache core []) slot tag) ∙ h.icache }

-- one slot changed, as it shows
with_here : (d : DirectoryState) (cores core : ℕ) (cache : Cache) (slot : ℕ) (tag : Option ℕ) → HasRows d cores → core < cores
    → tags_at (directory_with d core cache slot tag) core cache ≡ set (tags_at d core cache) slot tag
with_here d cores core Dcache slot tag h l = row_same d.dcache core slot tag (omega (arith, l, h.dcache))
with_here d cores core Icache slot tag h l = row_same d.icache core slot tag (omega (arith, l, h.icache))

with_other_core : (d : DirectoryState) (core : ℕ) (cache : Cache) (slot : ℕ) (tag : Option ℕ) (c : ℕ) (κ : Cache) → (c ≡ core → ⊥)
    → tags_at (directory_with d core cache slot tag) c κ ≡ tags_at d c κ
with_other_core d core Dcache slot tag c Dcache ne = row_other d.dcache core slot tag c ne
with_other_core d core Dcache slot tag c Icache ne = refl
with_other_core d core Icache slot tag c Dcache ne = refl
with_other_core d core Icache slot tag c Icache ne = row_other d.icache core slot tag c ne

with_other_cache : (d : DirectoryState) (core : ℕ) (cache : Cache) (slot : ℕ) (tag : Option ℕ) (c : ℕ) (κ : Cache) → same_cache cache κ ≡ false
    → tags_at (directory_with d core cache slot tag) c κ ≡ tags_at d c κ
with_other_cache d core Dcache slot tag c Dcache e = cc
with_other_cache d core Dcache slot tag c Icache e = refl
with_other_cache d core Icache slot tag c Dcache e = refl
with_other_cache d core Icache slot tag c Icache e = cc

alike : (x y : Cache) → same_cache x y ≡ true → x ≡ y
alike Dcache Dcache e = refl
alike Icache Icache e = refl
alike Dcache Icache e = cc
alike Icache Dcache e = cc

-- ---- kills

-- each kill is of a core that there is, and of a slot of its cache
pub record IsRanged (shape : Shape) (cores : ℕ) (kill : KillData) : Type 0 where
  pub core : kill.core < cores
  pub set_is : kill.set < (layout shape kill.cache).sets
  pub way_is : kill.way < (layout shape kill.cache).ways

abbrev pub AreRanged : Shape → ℕ → List KillData → Type 0
AreRanged shape cores [] = Unit {0}
AreRanged shape cores (k ∷ ks) = IsRanged shape cores k × AreRanged shape cores ks

pub ranged_at : (shape : Shape) (cores : ℕ) (ks : List KillData) (k : KillData) → AreRanged shape cores ks → IsIn k ks → IsRanged shape cores k
ranged_at shape cores [] k r h = absurd h
ranged_at shape cores (x ∷ ks) k r (inl e) = subst (λ (v : KillData). IsRanged shape cores v) (sym e) r.0
ranged_at shape cores (x ∷ ks) k r (inr h) = ranged_at shape cores ks k r.1 h

pub ranged_append : (shape : Shape) (cores : ℕ) (xs ys : List KillData) → AreRanged shape cores xs → AreRanged shape cores ys → AreRanged shape cores (xs ++ ys)
ranged_append shape cores [] ys p q = q
ranged_append shape cores (x ∷ xs) ys p q = (p.0, ranged_append shape cores xs ys p.1 q)

-- one kill, as it shows
kill_shows : (d : DirectoryState) (shape : Shape) (cores : ℕ) (k : KillData) (c : ℕ) (κ : Cache) → d.shape ≡ shape → HasRows d cores → IsRanged shape cores k
    → tags_at (directory_with d k.core k.cache (slot_killed d.shape k) None) c κ ≡ cond (is_kill_of shape c κ k) (set (tags_at d c κ) (slot_killed shape k) None) (tags_at d c κ)
kill_shows d shape cores k c κ s h r =
    let slot : tags_at (directory_with d k.core k.cache (slot_killed d.shape k) None) c κ ≡ tags_at (directory_with d k.core k.cache (slot_killed shape k) None) c κ =
    ap (λ (v : Shape). tags_at (directory_with d k.core k.cache (slot_killed v k) None) c κ) s in
    let set_is : nat_lt k.set (layout shape k.cache).sets ≡ true = lt-ltb _ _ r.set_is in
    let way_is : nat_lt k.way (layout shape k.cache).ways ≡ true = lt-ltb _ _ r.way_is in
    slot ∙ elim (cases_eq k.core c) [
      | inl same ↦ elim (cases_Bool (same_cache k.cache κ)) [
        | inl t ↦
            let q : k.cache ≡ κ = alike k.cache κ t in
            let set_κ : nat_lt k.set (layout shape κ).sets ≡ true = subst (λ (v : Cache). nat_lt k.set (layout shape v).sets ≡ true) q set_is in
            let way_κ : nat_lt k.way (layout shape κ).ways ≡ true = subst (λ (v : Cache). nat_lt k.way (layout shape v).ways ≡ true) q way_is in
            let is : is_kill_of shape c κ k ≡ true = rw (eq-eqb k.core c same, t, set_κ, way_κ) refl in
            let here : tags_at (directory_with d k.core k.cache (slot_killed shape k) None) k.core k.cache ≡ set (tags_at d k.core k.cache) (slot_killed shape k) None =
            with_here d cores k.core k.cache (slot_killed shape k) None h r.core in
            let moved : tags_at (directory_with d k.core k.cache (slot_killed shape k) None) c κ ≡ set (tags_at d c κ) (slot_killed shape k) None =
            subst (λ (v : Cache). tags_at (directory_with d k.core k.cache (slot_killed shape k) None) c v ≡ set (tags_at d c v) (slot_killed shape k) None) q
            (subst (λ (i : ℕ). tags_at (directory_with d k.core k.cache (slot_killed shape k) None) i k.cache ≡ set (tags_at d i k.cache) (slot_killed shape k) None) same here) in
            moved ∙ sym (ap (λ (b : Bool). cond b (set (tags_at d c κ) (slot_killed shape k) None) (tags_at d c κ)) is)
        | inr f ↦
            let off : is_kill_of shape c κ k ≡ false = rw (eq-eqb k.core c same, f) refl in
            with_other_cache d k.core k.cache (slot_killed shape k) None c κ f
            ∙ sym (ap (λ (b : Bool). cond b (set (tags_at d c κ) (slot_killed shape k) None) (tags_at d c κ)) off)
      ]
      | inr apart ↦
          let off : is_kill_of shape c κ k ≡ false = rw (ne_eqb k.core c apart) refl in
          with_other_core d k.core k.cache (slot_killed shape k) None c κ (λ e. apart (sym e))
          ∙ sym (ap (λ (b : Bool). cond b (set (tags_at d c κ) (slot_killed shape k) None) (tags_at d c κ)) off)
    ]

pub record IsAfterKills (d e : DirectoryState) (shape : Shape) (cores : ℕ) (ks : List KillData) : Type 0 where
  pub shape_is : e.shape ≡ shape
  pub rows : HasRows e cores
  pub tags : (c : ℕ) (κ : Cache) → tags_at e c κ ≡ with_kills shape c κ ks (tags_at d c κ)

pub kills_show : (d : DirectoryState) (shape : Shape) (cores : ℕ) (ks : List KillData) → d.shape ≡ shape → HasRows d cores → AreRanged shape cores ks
    → IsAfterKills d (without_kills d ks) shape cores ks
kills_show d shape cores [] s h r = record { shape_is = s; rows = h; tags = λ c κ. refl }
kills_show d shape cores (k ∷ ks) s h r =
    let next = directory_with d k.core k.cache (slot_killed d.shape k) None in
    let more = kills_show next shape cores ks s (rows_with d cores k.core k.cache (slot_killed d.shape k) None h) r.1 in
    record {
      shape_is = more.shape_is;
      rows = more.rows;
      tags = λ c κ. more.tags c κ ∙ ap (λ (l : List (Option ℕ)). with_kills shape c κ ks l) (kill_shows d shape cores k c κ s h r.0);
    }

-- ---- fills

pub record IsAfterFill (d e : DirectoryState) (shape : Shape) (cores core : ℕ) (op : Op) (way : Option ℕ) : Type 0 where
  pub shape_is : e.shape ≡ shape
  pub rows : HasRows e cores
  pub tags : (c : ℕ) (κ : Cache) → tags_at e c κ ≡ cond (core == c) (with_fill (layout shape κ) (filled_line κ op) way (λ line. line) (tags_at d c κ)) (tags_at d c κ)

-- a fill of one cache
fill_here : (d : DirectoryState) (shape : Shape) (cores core : ℕ) (cache : Cache) (line way : Option ℕ) → d.shape ≡ shape → HasRows d cores → core < cores
    → (d' : DirectoryState) → filled_at d core cache line way ≡ d'
    → (d'.shape ≡ shape) × HasRows d' cores
    × ((c : ℕ) → tags_at d' c cache ≡ cond (core == c) (with_fill (layout shape cache) line way (λ l. l) (tags_at d c cache)) (tags_at d c cache))
    × ((c : ℕ) (κ : Cache) → same_cache cache κ ≡ false → tags_at d' c κ ≡ tags_at d c κ)
fill_here d shape cores core cache None way s h l d' e =
    let P : DirectoryState → Type 0 = λ v.
    (v.shape ≡ shape) × HasRows v cores
    × ((c : ℕ) → tags_at v c cache ≡ cond (core == c) (tags_at d c cache) (tags_at d c cache))
    × ((c : ℕ) (κ : Cache) → same_cache cache κ ≡ false → tags_at v c κ ≡ tags_at d c κ) in
    subst P e (s, h, (λ c. elim (cases_Bool (core == c)) [ inl t ↦ rw t refl | inr t ↦ rw t refl ]), λ c κ ne. refl)
fill_here d shape cores core cache (Some line) None s h l d' e =
    let P : DirectoryState → Type 0 = λ v.
    (v.shape ≡ shape) × HasRows v cores
    × ((c : ℕ) → tags_at v c cache ≡ cond (core == c) (tags_at d c cache) (tags_at d c cache))
    × ((c : ℕ) (κ : Cache) → same_cache cache κ ≡ false → tags_at v c κ ≡ tags_at d c κ) in
    subst P e (s, h, (λ c. elim (cases_Bool (core == c)) [ inl t ↦ rw t refl | inr t ↦ rw t refl ]), λ c κ ne. refl)
fill_here d shape cores core cache (Some line) (Some way) s h l d' e =
    let P : DirectoryState → Type 0 = λ v.
    (v.shape ≡ shape) × HasRows v cores
    × ((c : ℕ) → tags_at v c cache ≡ cond (core == c) (set (tags_at d c cache) (first_slot (layout shape cache) line + way) (Some line)) (tags_at d c cache))
    × ((c : ℕ) (κ : Cache) → same_cache cache κ ≡ false → tags_at v c κ ≡ tags_at d c κ) in
    let slot : directory_with d core cache (first_slot (layout d.shape cache) line + way) (Some line) ≡ directory_with d core cache (first_slot (layout shape cache) line + way) (Some line) =
    ap (λ (v : Shape). directory_with d core cache (first_slot (layout v cache) line + way) (Some line)) s in
    subst P (sym slot ∙ e) (
      s,
      rows_with d cores core cache (first_slot (layout shape cache) line + way) (Some line) h,
      (λ c. elim (cases_eq core c) [
        | inl same ↦
            let t : (core == c) ≡ true = eq-eqb core c same in
            let here = with_here d cores core cache (first_slot (layout shape cache) line + way) (Some line) h l in
            rw t (subst (λ (i : ℕ). tags_at (directory_with d core cache (first_slot (layout shape cache) line + way) (Some line)) i cache
            ≡ set (tags_at d i cache) (first_slot (layout shape cache) line + way) (Some line)) same here)
        | inr apart ↦
            let f : (core == c) ≡ false = ne_eqb core c apart in
            rw f (with_other_core d core cache (first_slot (layout shape cache) line + way) (Some line) c cache (λ q. apart (sym q)))
      ]),
      λ c κ ne. with_other_cache d core cache (first_slot (layout shape cache) line + way) (Some line) c κ ne,
    )

pub fill_shows : (d : DirectoryState) (shape : Shape) (cores core : ℕ) (op : Op) (way : Option ℕ) → d.shape ≡ shape → HasRows d cores → core < cores
    → IsAfterFill d (filled_by d core op way) shape cores core op way
fill_shows d shape cores core op way s h l =
    let one = fill_here d shape cores core Dcache (filled_line Dcache op) way s h l (filled_at d core Dcache (filled_line Dcache op) way) refl in
    let mid = filled_at d core Dcache (filled_line Dcache op) way in
    let two = fill_here mid shape cores core Icache (filled_line Icache op) way one.0 one.1 l (filled_by d core op way) refl in
    record { shape_is = two.0; rows = two.1; tags = λ c κ. by c κ one.2 one.3 two.2 two.3 }
  where
    by : (c : ℕ) (κ : Cache)
        → ((c : ℕ) → tags_at (filled_at d core Dcache (filled_line Dcache op) way) c Dcache ≡ cond (core == c) (with_fill (layout shape Dcache) (filled_line Dcache op) way (λ l. l) (tags_at d c Dcache)) (tags_at d c Dcache))
        → ((c : ℕ) (κ : Cache) → same_cache Dcache κ ≡ false → tags_at (filled_at d core Dcache (filled_line Dcache op) way) c κ ≡ tags_at d c κ)
        → ((c : ℕ) → tags_at (filled_by d core op way) c Icache
        ≡ cond (core == c) (with_fill (layout shape Icache) (filled_line Icache op) way (λ l. l) (tags_at (filled_at d core Dcache (filled_line Dcache op) way) c Icache)) (tags_at (filled_at d core Dcache (filled_line Dcache op) way) c Icache))
        → ((c : ℕ) (κ : Cache) → same_cache Icache κ ≡ false → tags_at (filled_by d core op way) c κ ≡ tags_at (filled_at d core Dcache (filled_line Dcache op) way) c κ)
        → tags_at (filled_by d core op way) c κ ≡ cond (core == c) (with_fill (layout shape κ) (filled_line κ op) way (λ line. line) (tags_at d c κ)) (tags_at d c κ)
    by c Dcache a b x y = y c Dcache refl ∙ a c
    by c Icache a b x y = x c ∙ ap (λ (ts : List (Option ℕ)). cond (core == c) (with_fill (layout shape Icache) (filled_line Icache op) way (λ l. l) ts) ts) (b c Icache refl)
