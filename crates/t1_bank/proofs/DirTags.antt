-- The tags of one core and cache, through the changes of a directory.
use Rattle.std.proofs.Common.{◌≡◌, ℕ, ◌+◌, ◌==◌, ◌&&◌, Bool, true, false, cond, List, [], ◌∷◌, length, get_or, set, Option, Some, None, refl, ap, sym, ◌∙◌, inl, inr, arith}
use Rattle.std.proofs.lemmas.List.{length-set, get_or-set_same, get_or-set_other, set_past, get_or_past}
use Rattle.std.proofs.lemmas.Bool.{cases_eq, cases_lt, eq-eqb, ne_eqb}
use Rattle.t1_bank.proofs.Rule.{cleared}
use Rattle.t1_dir.specs.Directory.{DirectoryState, HasCore, directory_with, filled_at, filled_by, tags_at, without_kills}
use Rattle.t1_packet.specs.Caches.{filled_line, layout, same_cache, slot_killed}
use Rattle.t1_packet.specs.Data.{KillData}
use Rattle.t1_packet.specs.declared.cache.Cache.{Cache}
use Rattle.t1_packet.specs.declared.cache.Cache.TheVariants.{Dcache, Icache}
use Rattle.t1_packet.specs.declared.op.Op.{Op}
use Rattle.t1_shape.specs.Shapes.{Shape}
use Rattle.t1_shape.specs.Slots.{first_slot, with_fill}

-- ---- one list of tags among many

row : (rows : List (List (Option ℕ))) (i j slot : ℕ) (v : Option ℕ)
    → get_or (set rows i (set (get_or rows i []) slot v)) j [] ≡ cond (i == j) (set (get_or rows j []) slot v) (get_or rows j [])
row rows i j slot v =
    elim (cases_eq j i) [
      | inl e ↦
          let t : (i == j) ≡ true = eq-eqb i j (sym e) in
          rw t (elim (cases_lt i (length rows)) [
            | inl f ↦
                ap (λ (n : ℕ). get_or (set rows i (set (get_or rows i []) slot v)) n []) e
                ∙ (get_or-set_same rows i (set (get_or rows i []) slot v) [] f
                ∙ ap (λ (n : ℕ). set (get_or rows n []) slot v) (sym e))
            | inr f ↦
                let past : get_or rows j [] ≡ [] = get_or_past rows j [] (omega (arith, e, f)) in
                ap (λ (xs : List (List (Option ℕ))). get_or xs j []) (set_past rows i (set (get_or rows i []) slot v) f)
                ∙ (past ∙ ap (λ (ts : List (Option ℕ)). set ts slot v) (sym past))
          ])
      | inr ne ↦
          let t : (i == j) ≡ false = ne_eqb i j (λ e. ne (sym e)) in
          rw t (get_or-set_other rows i j (set (get_or rows i []) slot v) [] ne)
    ]

and_true : (b : Bool) → (b && true) ≡ b
and_true true = refl
and_true false = refl

and_false : (b : Bool) → (b && false) ≡ false
and_false true = refl
and_false false = refl

pub tags_changed : (d : DirectoryState) (c : ℕ) (κ : Cache) (slot : ℕ) (v : Option ℕ) (core : ℕ) (cache : Cache)
    → tags_at (directory_with d c κ slot v) core cache ≡ cond ((c == core) && same_cache κ cache) (set (tags_at d core cache) slot v) (tags_at d core cache)
tags_changed d c Dcache slot v core Dcache = row d.dcache c core slot v ∙ ap (λ (b : Bool). cond b (set (get_or d.dcache core []) slot v) (get_or d.dcache core [])) (sym (and_true (c == core)))
tags_changed d c Icache slot v core Icache = row d.icache c core slot v ∙ ap (λ (b : Bool). cond b (set (get_or d.icache core []) slot v) (get_or d.icache core [])) (sym (and_true (c == core)))
tags_changed d c Dcache slot v core Icache = ap (λ (b : Bool). cond b (set (get_or d.icache core []) slot v) (get_or d.icache core [])) (sym (and_false (c == core)))
tags_changed d c Icache slot v core Dcache = ap (λ (b : Bool). cond b (set (get_or d.dcache core []) slot v) (get_or d.dcache core [])) (sym (and_false (c == core)))

-- ---- kills

pub tags_cleared : (ks : List KillData) (d : DirectoryState) (core : ℕ) (cache : Cache) → tags_at (without_kills d ks) core cache ≡ cleared d.shape core cache ks (tags_at d core cache)
tags_cleared [] d core cache = refl
tags_cleared (k ∷ ks) d core cache =
    tags_cleared ks (directory_with d k.core k.cache (slot_killed d.shape k) None) core cache
    ∙ ap (λ (ts : List (Option ℕ)). cleared d.shape core cache ks ts) (tags_changed d k.core k.cache (slot_killed d.shape k) None core cache)

pub shape_cleared : (ks : List KillData) (d : DirectoryState) → (without_kills d ks).shape ≡ d.shape
shape_cleared [] d = refl
shape_cleared (k ∷ ks) d = shape_cleared ks (directory_with d k.core k.cache (slot_killed d.shape k) None)

-- ---- a fill

shape_filled_at : (d : DirectoryState) (own : ℕ) (κ : Cache) (fill way : Option ℕ) → (filled_at d own κ fill way).shape ≡ d.shape
shape_filled_at d own κ None way = refl
shape_filled_at d own κ (Some line) None = refl
shape_filled_at d own κ (Some line) (Some way) = refl

pub shape_filled : (d : DirectoryState) (own : ℕ) (op : Op) (way : Option ℕ) → (filled_by d own op way).shape ≡ d.shape
shape_filled d own op way =
    shape_filled_at (filled_at d own Dcache (filled_line Dcache op) way) own Icache (filled_line Icache op) way ∙ shape_filled_at d own Dcache (filled_line Dcache op) way

still : (b : Bool) (ts : List (Option ℕ)) → ts ≡ cond b ts ts
still true ts = refl
still false ts = refl

-- the other cache keeps its tags
data_filled_at : (d : DirectoryState) (own : ℕ) (fill way : Option ℕ) (core : ℕ) → tags_at (filled_at d own Icache fill way) core Dcache ≡ tags_at d core Dcache
data_filled_at d own None way core = refl
data_filled_at d own (Some line) None core = refl
data_filled_at d own (Some line) (Some way) core = refl

insn_filled_at : (d : DirectoryState) (own : ℕ) (fill way : Option ℕ) (core : ℕ) → tags_at (filled_at d own Dcache fill way) core Icache ≡ tags_at d core Icache
insn_filled_at d own None way core = refl
insn_filled_at d own (Some line) None core = refl
insn_filled_at d own (Some line) (Some way) core = refl

-- this one takes the fill, where the core is the one that asked
abbrev Takes : DirectoryState → ℕ → Option ℕ → Option ℕ → ℕ → Cache → Type 0
Takes d own fill way core cache =
    tags_at (filled_at d own cache fill way) core cache
    ≡ cond (own == core) (with_fill (layout d.shape cache) fill way (λ (l : ℕ). l) (tags_at d core cache)) (tags_at d core cache)

takes : (d : DirectoryState) (own : ℕ) (fill way : Option ℕ) (core : ℕ) (cache : Cache) → Takes d own fill way core cache
takes d own None way core cache = still (own == core) (tags_at d core cache)
takes d own (Some line) None core cache = still (own == core) (tags_at d core cache)
takes d own (Some line) (Some way) core Dcache =
    let slot : ℕ = first_slot (layout d.shape Dcache) line + way in
    tags_changed d own Dcache slot (Some line) core Dcache
    ∙ ap (λ (b : Bool). cond b (set (get_or d.dcache core []) slot (Some line)) (get_or d.dcache core [])) (and_true (own == core))
takes d own (Some line) (Some way) core Icache =
    let slot : ℕ = first_slot (layout d.shape Icache) line + way in
    tags_changed d own Icache slot (Some line) core Icache
    ∙ ap (λ (b : Bool). cond b (set (get_or d.icache core []) slot (Some line)) (get_or d.icache core [])) (and_true (own == core))

pub tags_filled : (d : DirectoryState) (own : ℕ) (op : Op) (way : Option ℕ) (core : ℕ) (cache : Cache)
    → tags_at (filled_by d own op way) core cache
    ≡ cond (own == core) (with_fill (layout d.shape cache) (filled_line cache op) way (λ (l : ℕ). l) (tags_at d core cache)) (tags_at d core cache)
tags_filled d own op way core Dcache =
    data_filled_at (filled_at d own Dcache (filled_line Dcache op) way) own (filled_line Icache op) way core ∙ takes d own (filled_line Dcache op) way core Dcache
tags_filled d own op way core Icache =
    let first : DirectoryState = filled_at d own Dcache (filled_line Dcache op) way in
    let fill : Option ℕ = filled_line Icache op in
    takes first own fill way core Icache
    ∙ (ap (λ (q : Shape). cond (own == core) (with_fill (layout q Icache) fill way (λ (l : ℕ). l) (tags_at first core Icache)) (tags_at first core Icache))
    (shape_filled_at d own Dcache (filled_line Dcache op) way)
    ∙ ap (λ (ts : List (Option ℕ)). cond (own == core) (with_fill (layout d.shape Icache) fill way (λ (l : ℕ). l) ts) ts) (insn_filled_at d own (filled_line Dcache op) way core))

-- ---- the cores stay

pub core_with : (d : DirectoryState) (c : ℕ) (κ : Cache) (slot : ℕ) (v : Option ℕ) (core : ℕ) → HasCore d core → HasCore (directory_with d c κ slot v) core
core_with d c Dcache slot v core is = record { dcache = (let e = length-set d.dcache c (set (get_or d.dcache c []) slot v) in let l = is.dcache in omega (arith, e, l)); icache = is.icache }
core_with d c Icache slot v core is = record { dcache = is.dcache; icache = (let e = length-set d.icache c (set (get_or d.icache c []) slot v) in let l = is.icache in omega (arith, e, l)) }

pub core_cleared : (ks : List KillData) (d : DirectoryState) (core : ℕ) → HasCore d core → HasCore (without_kills d ks) core
core_cleared [] d core is = is
core_cleared (k ∷ ks) d core is = core_cleared ks (directory_with d k.core k.cache (slot_killed d.shape k) None) core (core_with d k.core k.cache (slot_killed d.shape k) None core is)

core_filled_at : (d : DirectoryState) (own : ℕ) (κ : Cache) (fill way : Option ℕ) (core : ℕ) → HasCore d core → HasCore (filled_at d own κ fill way) core
core_filled_at d own κ None way core is = is
core_filled_at d own κ (Some line) None core is = is
core_filled_at d own κ (Some line) (Some way) core is = core_with d own κ (first_slot (layout d.shape κ) line + way) (Some line) core is

pub core_filled : (d : DirectoryState) (own : ℕ) (op : Op) (way : Option ℕ) (core : ℕ) → HasCore d core → HasCore (filled_by d own op way) core
core_filled d own op way core is =
    core_filled_at (filled_at d own Dcache (filled_line Dcache op) way) own Icache (filled_line Icache op) way core
    (core_filled_at d own Dcache (filled_line Dcache op) way core is)
