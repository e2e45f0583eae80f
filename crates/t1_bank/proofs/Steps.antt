-- A step keeps what every state of a bank keeps.
use Rattle.std.proofs.Common.{◌≡◌, ℕ, ◌+◌, ◌*◌, ◌/◌, ◌%◌, ◌<◌, ◌==◌, true, cond, List, length, get_or, Option, Some, None, refl, ap, sym, ◌∙◌, subst, inl, inr, ◌⊎◌, arith}
use Rattle.std.proofs.lemmas.List.{length-set, get_or-set_same, get_or-set_other}
use Rattle.std.proofs.lemmas.Bool.{cases_eq, eqb-true, eq-eqb, cond_both, or_left}
use Rattle.std.proofs.lemmas.Nat.{mod_below}
use Rattle.t1_bank.proofs.Rule.{bank_wrote, cleared, cleared_left, once_cleared, way_for_fill, well_is}
use Rattle.t1_bank.specs.Sound.{IsSound}
use Rattle.t1_bank.specs.Writes.{wrote}
use Rattle.t1_dir.specs.Directory.{DirectoryState, tags_at, without_kills}
use Rattle.t1_event.specs.BankRule.{BankState, bank_well, bank_with, is_fit, kills_of, old_of, ways_for}
use Rattle.t1_event.specs.Kills.{effect, is_doomed, is_evicted, is_written, way_for}
use Rattle.t1_l2.proofs.Kept.{none_found, slot_found, taken}
use Rattle.t1_l2.proofs.View.{slot_fits}
use Rattle.t1_l2.specs.Array.{ArrayState, IsPresent, address_of, ensured, ensured_by, evicted_by, evicted_for, layout_of, place_of, slot_in, victim_in, victim_slot}
use Rattle.t1_l2.specs.Overlay.{IsL2}
use Rattle.t1_packet.specs.Caches.{filled_line, layout, width}
use Rattle.t1_packet.specs.Data.{RequestData}
use Rattle.t1_packet.specs.Ops.{asked_way, op_addr}
use Rattle.t1_packet.specs.declared.cache.Cache.{Cache}
use Rattle.t1_packet.specs.declared.cache.Cache.TheVariants.{Dcache, Icache}
use Rattle.t1_packet.specs.declared.op.Op.{Op}
use Rattle.t1_packet.specs.declared.op.Op.TheVariants.{Cas, Fetch, Load, Store, Swap}
use Rattle.t1_shape.proofs.Numbers.{l2_ways_are}
use Rattle.t1_shape.proofs.Once.{FillsAt, IsFree, free_from, once_set, set_read}
use Rattle.t1_shape.proofs.Slots.{set_of_slot, slot_some, slot_split, victim_below, way_in_set}
use Rattle.t1_shape.specs.Numbers.{banks, l2_ways}
use Rattle.t1_shape.specs.Shapes.{Shape}
use Rattle.t1_shape.specs.Slots.{IsOnce, Layout, first_slot, next_way, set_of, slot_of, with_fill}
use Rattle.t1_bank.proofs.Fit.{IsFit, fit, mine}
use Rattle.t1_bank.proofs.DirTags.{shape_cleared, shape_filled, tags_cleared, tags_filled, core_cleared, core_filled}
use Rattle.t1_bank.proofs.Doomed.{hit_empty, hits_below}

-- ---- the array

pub ensured_mem : (a : ArrayState) (line : ℕ) → (ensured a line).memory ≡ a.memory
ensured_mem a line = go (slot_in a line)
  where
    go : (o : Option ℕ) → (ensured_by a line o).memory ≡ a.memory
    go None = refl
    go (Some j) = refl

pub length_wrote : (a : ArrayState) (op : Op) → length (wrote a op).memory ≡ length a.memory
length_wrote a (Fetch addr way) = refl
length_wrote a (Load addr size way) = refl
length_wrote a (Cas addr size expect new) = refl
length_wrote a (Store addr size value) = length-set a.memory (addr / 64 / banks a.shape) _
length_wrote a (Swap addr size new) = length-set a.memory (addr / 64 / banks a.shape) _

abbrev pub KeptL2 : ArrayState → ℕ → Type 0
KeptL2 a count = IsL2 a.shape a.bank a.sets count a.tags a.pointers

wrote_kept : (a : ArrayState) (op : Op) (count : ℕ) → KeptL2 a count → KeptL2 (wrote a op) count
wrote_kept a (Fetch addr way) count is = is
wrote_kept a (Load addr size way) count is = is
wrote_kept a (Store addr size value) count is = is
wrote_kept a (Swap addr size new) count is = is
wrote_kept a (Cas addr size expect new) count is = is

wrote_present : (a : ArrayState) (op : Op) (l : ℕ) → IsPresent a.tags l → IsPresent (wrote a op).tags l
wrote_present a (Fetch addr way) l p = p
wrote_present a (Load addr size way) l p = p
wrote_present a (Store addr size value) l p = p
wrote_present a (Swap addr size new) l p = p
wrote_present a (Cas addr size expect new) l p = p

module _ (a : ArrayState) (line count : ℕ) (is : IsL2 a.shape a.bank a.sets count a.tags a.pointers) (bank : line % banks a.shape ≡ a.bank) (within : line / banks a.shape < count) where
  victim_low : victim_in a line < l2_ways a.shape
  victim_low = victim_below (layout_of a) a.tags a.pointers (place_of a line) (is.low (set_of (layout_of a) (place_of a line)))

  pub ensured_kept : KeptL2 (ensured a line) count
  ensured_kept = go (slot_in a line) refl
    where
      go : (o : Option ℕ) → slot_in a line ≡ o → KeptL2 (ensured_by a line o) count
      go (Some j) e = is
      go None e =
          taken a.shape a.bank a.sets count a.tags a.pointers is line (victim_slot a line) (set_of (layout_of a) (place_of a line)) (next_way (layout_of a) (victim_in a line))
          (way_in_set (layout_of a) (place_of a line) (victim_in a line) victim_low) bank within (none_found a count line is e)
          (mod_below (victim_in a line + 1) (l2_ways a.shape) (l2_ways_are a.shape).0)

  victim_fits : victim_slot a line < length a.tags
  victim_fits =
      let l = slot_fits a count line (victim_in a line) is victim_low in
      let s = is.size in
      omega (arith, l, s)

  pub ensured_present : IsPresent (ensured a line).tags line
  ensured_present = go (slot_in a line) refl
    where
      go : (o : Option ℕ) → slot_in a line ≡ o → IsPresent (ensured_by a line o).tags line
      go (Some j) e = (j, (slot_found a line j e).is)
      go None e = (victim_slot a line, get_or-set_same a.tags (victim_slot a line) (Some line) None victim_fits)

  -- a present line stays, or is the one that is evicted
  pub kept_or_evicted : (l : ℕ) → IsPresent a.tags l → IsPresent (ensured a line).tags l ⊎ (evicted_for a line ≡ Some (l * 64))
  kept_or_evicted l p = go (slot_in a line)
    where
      go : (o : Option ℕ) → IsPresent (ensured_by a line o).tags l ⊎ (evicted_by a line o ≡ Some (l * 64))
      go (Some j) = inl p
      go None =
          elim (cases_eq p.0 (victim_slot a line)) [
            | inl e ↦ inr (ap address_of (ap (λ (k : ℕ). get_or a.tags k None) (sym e) ∙ p.1))
            | inr ne ↦ inl (p.0, get_or-set_other a.tags (victim_slot a line) p.0 (Some line) None ne ∙ p.1)
          ]

-- ---- the shape stays

shape_ensured : (a : ArrayState) (line : ℕ) → (ensured a line).shape ≡ a.shape
shape_ensured a line = go (slot_in a line)
  where
    go : (o : Option ℕ) → (ensured_by a line o).shape ≡ a.shape
    go None = refl
    go (Some j) = refl

shape_wrote : (a : ArrayState) (op : Op) → (wrote a op).shape ≡ a.shape
shape_wrote a (Fetch addr way) = refl
shape_wrote a (Load addr size way) = refl
shape_wrote a (Store addr size value) = refl
shape_wrote a (Swap addr size new) = refl
shape_wrote a (Cas addr size expect new) = refl

-- ---- one cache's tags

pub once_fill : (g : Layout) (tags left : List (Option ℕ)) (fill way : Option ℕ) → IsOnce g left
    → ((k l : ℕ) → get_or left k None ≡ Some l → get_or tags k None ≡ Some l)
    → ((line w : ℕ) → fill ≡ Some line → way ≡ Some w → IsFree g tags line w)
    → IsOnce g (with_fill g fill way (λ line. line) left)
once_fill g tags left None way o below free = o
once_fill g tags left (Some line) None o below free = o
once_fill g tags left (Some line) (Some w) o below free = once_set g tags left line w (free line w refl refl) o below

way_fills : (g : Layout) (tags : List (Option ℕ)) (line way : ℕ) → way < g.ways → (o : Option ℕ) → slot_of g tags line ≡ o → FillsAt g o line (way_for g o way)
way_fills g tags line way l None e = l
way_fills g tags line way l (Some j) e =
    let f = slot_some g tags line j e in
    let set = set_of_slot g (line % g.sets) j f.above f.below in
    let n = ap (λ (s : ℕ). g.ways * s) set in
    omega (arith, slot_split g j, n)

-- the way of a fill is free
pub fill_free : (d : DirectoryState) (own : ℕ) (op : Op) (cache : Cache) (line w : ℕ) → asked_way op < ways_for d.shape op → IsOnce (layout d.shape cache) (tags_at d own cache)
    → filled_line cache op ≡ Some line → way_for_fill d own op ≡ Some w → IsFree (layout d.shape cache) (tags_at d own cache) line w
fill_free d own (Fetch addr way) Icache line w l o e f =
    let q : addr / 32 ≡ line = cc in
    let v : way_for (layout d.shape Icache) (slot_of (layout d.shape Icache) (tags_at d own Icache) (addr / 32)) way ≡ w = cc in
    subst (λ (n : ℕ). IsFree (layout d.shape Icache) (tags_at d own Icache) n w) q (subst (λ (n : ℕ). IsFree (layout d.shape Icache) (tags_at d own Icache) (addr / 32) n) v
    (free_from (layout d.shape Icache) (tags_at d own Icache) (addr / 32) (way_for (layout d.shape Icache) (slot_of (layout d.shape Icache) (tags_at d own Icache) (addr / 32)) way) o (slot_of (layout d.shape Icache) (tags_at d own Icache) (addr / 32)) refl
    (way_fills (layout d.shape Icache) (tags_at d own Icache) (addr / 32) way l (slot_of (layout d.shape Icache) (tags_at d own Icache) (addr / 32)) refl)))
fill_free d own (Load addr size way) Dcache line w l o e f =
    let q : addr / 16 ≡ line = cc in
    let v : way_for (layout d.shape Dcache) (slot_of (layout d.shape Dcache) (tags_at d own Dcache) (addr / 16)) way ≡ w = cc in
    subst (λ (n : ℕ). IsFree (layout d.shape Dcache) (tags_at d own Dcache) n w) q (subst (λ (n : ℕ). IsFree (layout d.shape Dcache) (tags_at d own Dcache) (addr / 16) n) v
    (free_from (layout d.shape Dcache) (tags_at d own Dcache) (addr / 16) (way_for (layout d.shape Dcache) (slot_of (layout d.shape Dcache) (tags_at d own Dcache) (addr / 16)) way) o (slot_of (layout d.shape Dcache) (tags_at d own Dcache) (addr / 16)) refl
    (way_fills (layout d.shape Dcache) (tags_at d own Dcache) (addr / 16) way l (slot_of (layout d.shape Dcache) (tags_at d own Dcache) (addr / 16)) refl)))
fill_free d own (Fetch addr way) Dcache line w l o e f = cc
fill_free d own (Load addr size way) Icache line w l o e f = cc
fill_free d own (Store addr size value) cache line w l o e f = cc
fill_free d own (Swap addr size new) cache line w l o e f = cc
fill_free d own (Cas addr size expect new) cache line w l o e f = cc

-- the line that is filled lies in the line of 64 bytes that the access makes present
pub fill_inside : (op : Op) (cache : Cache) (line : ℕ) → filled_line cache op ≡ Some line → line * width cache / 64 ≡ op_addr op / 64
fill_inside (Fetch addr way) Icache line e = let q : addr / 32 ≡ line = cc in omega arith
fill_inside (Load addr size way) Dcache line e = let q : addr / 16 ≡ line = cc in omega arith
fill_inside (Fetch addr way) Dcache line e = cc
fill_inside (Load addr size way) Icache line e = cc
fill_inside (Store addr size value) cache line e = cc
fill_inside (Swap addr size new) cache line e = cc
fill_inside (Cas addr size expect new) cache line e = cc

filled_read : (g : Layout) (fill way : Option ℕ) (left : List (Option ℕ)) (k l : ℕ) → get_or (with_fill g fill way (λ (x : ℕ). x) left) k None ≡ Some l
    → (fill ≡ Some l) ⊎ (get_or left k None ≡ Some l)
filled_read g None way left k l e = inr e
filled_read g (Some line) None left k l e = inr e
filled_read g (Some line) (Some w) left k l e = elim (set_read left (first_slot g line + w) (Some line) k l e) [ inl p ↦ inl p.1 | inr p ↦ inr p.1 ]

-- ---- a step

module _ (b : BankState) (r : RequestData) (s : IsSound b) (f : IsFit b r) where
  line_bank : op_addr r.op / 64 % banks b.array.shape ≡ b.array.bank
  line_bank = (mine b r s f).bank

  line_within : op_addr r.op / 64 / banks b.array.shape < length b.array.memory
  line_within = (mine b r s f).within

  -- what kills leave is still inside
  left_inside : (core : ℕ) (cache : Cache) (k l : ℕ) → core < b.cores → get_or (cleared b.directory.shape core cache (kills_of b r) (tags_at b.directory core cache)) k None ≡ Some l
      → IsPresent (ensured b.array (op_addr r.op / 64)).tags (l * width cache / 64)
  left_inside core cache k l c e =
      let shown = cleared_left b.directory.shape core cache (kills_of b r) (tags_at b.directory core cache) k l e in
      elim (kept_or_evicted b.array (op_addr r.op / 64) (length b.array.memory) s.array line_bank line_within (l * width cache / 64) (s.inside core cache k l c shown)) [
        | inl p ↦ p
        | inr v ↦
            let t : is_evicted cache l (evicted_for b.array (op_addr r.op / 64)) ≡ true =
            ap (λ (o : Option ℕ). is_evicted cache l o) v ∙ eq-eqb (l * width cache / 64) (l * width cache / 64 * 64 / 64) (omega arith) in
            let d : is_doomed cache (r.core == core) (evicted_for b.array (op_addr r.op / 64)) (effect r.op (old_of b r)) (Some l) ≡ true =
            or_left (is_evicted cache l (evicted_for b.array (op_addr r.op / 64))) (is_written cache l (r.core == core) (effect r.op (old_of b r))) t in
            absurd (hit_empty b.directory.shape core cache (kills_of b r) (tags_at b.directory core cache) k l
            (hits_below b.directory r.core (evicted_for b.array (op_addr r.op / 64)) (effect r.op (old_of b r)) b.cores core cache k l c shown d) e)
      ]

  tags_after : (core : ℕ) (cache : Cache) → tags_at (bank_wrote b r).directory core cache
      ≡ cond (r.core == core)
      (with_fill (layout b.directory.shape cache) (filled_line cache r.op) (way_for_fill b.directory r.core r.op) (λ (l : ℕ). l) (cleared b.directory.shape core cache (kills_of b r) (tags_at b.directory core cache)))
      (cleared b.directory.shape core cache (kills_of b r) (tags_at b.directory core cache))
  tags_after core cache =
      tags_filled (without_kills b.directory (kills_of b r)) r.core r.op (way_for_fill b.directory r.core r.op) core cache
      ∙ (ap (λ (c : Shape). cond (r.core == core) (with_fill (layout c cache) (filled_line cache r.op) (way_for_fill b.directory r.core r.op) (λ (l : ℕ). l) (tags_at (without_kills b.directory (kills_of b r)) core cache)) (tags_at (without_kills b.directory (kills_of b r)) core cache)) (shape_cleared (kills_of b r) b.directory)
      ∙ ap (λ (ts : List (Option ℕ)). cond (r.core == core) (with_fill (layout b.directory.shape cache) (filled_line cache r.op) (way_for_fill b.directory r.core r.op) (λ (l : ℕ). l) ts) ts) (tags_cleared (kills_of b r) b.directory core cache))

  pub same_shape : (bank_wrote b r).directory.shape ≡ b.directory.shape
  same_shape = shape_filled (without_kills b.directory (kills_of b r)) r.core r.op (way_for_fill b.directory r.core r.op) ∙ shape_cleared (kills_of b r) b.directory

  once_after : (core : ℕ) (cache : Cache) → IsOnce (layout (bank_wrote b r).directory.shape cache) (tags_at (bank_wrote b r).directory core cache)
  once_after core cache =
      let tags : List (Option ℕ) = tags_at b.directory core cache in
      let left : List (Option ℕ) = cleared b.directory.shape core cache (kills_of b r) tags in
      let g : Layout = layout b.directory.shape cache in
      let o = once_cleared b.directory.shape g core cache (kills_of b r) tags (s.once core cache) in
      subst (λ (c : Shape). IsOnce (layout c cache) (tags_at (bank_wrote b r).directory core cache)) (sym same_shape)
      (subst (IsOnce g) (sym (tags_after core cache))
      (cond_both (r.core == core) (with_fill (layout b.directory.shape cache) (filled_line cache r.op) (way_for_fill b.directory r.core r.op) (λ (l : ℕ). l) left) left (IsOnce g)
      (λ t. once_fill g tags left (filled_line cache r.op) (way_for_fill b.directory r.core r.op) o (λ k l e. cleared_left b.directory.shape core cache (kills_of b r) tags k l e)
      (λ line w e h. let same : r.core ≡ core = eqb-true r.core core t in
      subst (λ (c : ℕ). IsFree g (tags_at b.directory c cache) line w) same (fill_free b.directory r.core r.op cache line w (subst (λ (q : Shape). asked_way r.op < ways_for q r.op) s.shapes f.way) (s.once r.core cache) e h)))
      (λ t. o)))

  inside_after : (core : ℕ) (cache : Cache) (k l : ℕ) → core < b.cores → get_or (tags_at (bank_wrote b r).directory core cache) k None ≡ Some l
      → IsPresent (bank_wrote b r).array.tags (l * width cache / 64)
  inside_after core cache k l c e =
      let left : List (Option ℕ) = cleared b.directory.shape core cache (kills_of b r) (tags_at b.directory core cache) in
      let P : List (Option ℕ) → Type 0 = λ ts. get_or ts k None ≡ Some l → IsPresent (ensured b.array (op_addr r.op / 64)).tags (l * width cache / 64) in
      wrote_present (ensured b.array (op_addr r.op / 64)) (effect r.op (old_of b r)) (l * width cache / 64)
      (cond_both (r.core == core) (with_fill (layout b.directory.shape cache) (filled_line cache r.op) (way_for_fill b.directory r.core r.op) (λ (x : ℕ). x) left) left P
      (λ t g. elim (filled_read (layout b.directory.shape cache) (filled_line cache r.op) (way_for_fill b.directory r.core r.op) left k l g) [
        | inl q ↦
            subst (λ (n : ℕ). IsPresent (ensured b.array (op_addr r.op / 64)).tags n) (sym (fill_inside r.op cache l q))
            (ensured_present b.array (op_addr r.op / 64) (length b.array.memory) s.array line_bank line_within)
        | inr q ↦ left_inside core cache k l c q
      ])
      (λ t g. left_inside core cache k l c g)
      (ap (λ (ts : List (Option ℕ)). get_or ts k None) (sym (tags_after core cache)) ∙ e))

  same_length : length (bank_wrote b r).array.memory ≡ length b.array.memory
  same_length = length_wrote (ensured b.array (op_addr r.op / 64)) (effect r.op (old_of b r)) ∙ ap (λ (m : List (List ℕ)). length m) (ensured_mem b.array (op_addr r.op / 64))

  same_array : (bank_wrote b r).array.shape ≡ b.array.shape
  same_array = shape_wrote (ensured b.array (op_addr r.op / 64)) (effect r.op (old_of b r)) ∙ shape_ensured b.array (op_addr r.op / 64)

  sound_wrote : IsSound (bank_wrote b r)
  sound_wrote = record {
    few = s.few;
    small = s.small;
    shapes = same_array ∙ (s.shapes ∙ sym same_shape);
    whole = s.whole ∙ (ap (λ (n : ℕ). 64 * (banks b.array.shape * n)) (sym same_length) ∙ ap (λ (c : Shape). 64 * (banks c * length (bank_wrote b r).array.memory)) (sym same_array));
    core = λ c l. core_filled (without_kills b.directory (kills_of b r)) r.core r.op (way_for_fill b.directory r.core r.op) c (core_cleared (kills_of b r) b.directory c (s.core c l));
    once = once_after;
    inside = inside_after;
    array =
        wrote_kept (ensured b.array (op_addr r.op / 64)) (effect r.op (old_of b r)) (length (bank_wrote b r).array.memory)
        (subst (λ (n : ℕ). KeptL2 (ensured b.array (op_addr r.op / 64)) n) (sym same_length)
        (ensured_kept b.array (op_addr r.op / 64) (length b.array.memory) s.array line_bank line_within));
  }

  pub sound_well : IsSound (bank_well b r)
  sound_well = subst IsSound (sym (well_is b r)) sound_wrote

pub sound_step : (b : BankState) (r : RequestData) → IsSound b → IsSound (bank_with b r)
unfolding bank_with
sound_step b r s =
    cond_both (is_fit b r) (bank_well b r) b IsSound (λ t. sound_well b r s (fit b r t)) (λ t. s)

pub shape_step : (b : BankState) (r : RequestData) → (bank_with b r).directory.shape ≡ b.directory.shape
unfolding bank_with
shape_step b r = cond_both (is_fit b r) (bank_well b r) b (λ (c : BankState). c.directory.shape ≡ b.directory.shape)
    (λ t. shape_filled (without_kills b.directory (kills_of b r)) r.core r.op (way_for_fill b.directory r.core r.op) ∙ shape_cleared (kills_of b r) b.directory)
    (λ t. refl)
