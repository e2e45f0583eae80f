-- The array as contracts see it, through its changes.
use Rattle.std.proofs.Common.{IfSome, IfNone, subst, ◌≡◌, ℕ, ◌+◌, ◌*◌, ◌/◌, ◌%◌, ◌<◌, ◌≤◌, ◌-◌, List, [], length, get_or, set, Option, Some, None, ap, sym, ◌∙◌, arith}
use Rattle.std.proofs.lemmas.List.{set-set, set-get_or}
use Rattle.std.proofs.lemmas.Nat.{mod_below, mul-le}
use Rattle.t1_num.specs.Memory.{with_number_at}
use Rattle.t1_shape.specs.Shapes.{Shape}
use Rattle.t1_shape.specs.Numbers.{banks, l2_ways, place_in_bank}
use Rattle.t1_shape.specs.Slots.{first_slot, set_of, next_way}
use Rattle.t1_shape.proofs.Numbers.{l2_ways_are, l2_sets_are, l2_slot_below}
use Rattle.t1_l2.specs.Array.{ArrayState, l2_layout, layout_of, place_of, slot_in, filled, line_at, written_at, IsAbsent}
use Rattle.t1_l2.specs.Overlay.{IsL2, overlay}
use Rattle.t1_l2.proofs.Overlaid.{length_overlay, overlay_read, overlay_line, overlay_back, overlay_fill}
use Rattle.t1_l2.proofs.Kept.{apart, none_here, none_found, slot_found}

abbrev pub view : Shape → ℕ → ℕ → List (Option ℕ) → List ℕ → List (List ℕ) → List (List ℕ) → ArrayState
view shape bank n tags pointers lines ram =
    record { shape = shape; bank = bank; sets = n; tags = tags; pointers = pointers; memory = overlay (banks shape) tags lines ram }

module _ (shape : Shape) (bank n : ℕ) (tags : List (Option ℕ)) (pointers : List ℕ) (lines ram : List (List ℕ)) (is : IsL2 shape bank n (length ram) tags pointers) (full : length lines ≡ l2_ways shape * n) where
  pub length_memory : length (overlay (banks shape) tags lines ram) ≡ length ram
  length_memory = length_overlay (banks shape) tags lines ram

  pub held_view : (slot addr : ℕ) → slot < l2_ways shape * n → get_or tags slot None ≡ Some (addr / 64) → get_or lines slot [] ≡ line_at (view shape bank n tags pointers lines ram) addr
  held_view slot addr low e =
      let w = is.within slot (addr / 64) e in
      sym (overlay_read (banks shape) tags lines ram slot (addr / 64) (apart shape bank n (length ram) tags pointers is) e (omega (arith, low, full)) w)

  pub put_view : (slot addr size v : ℕ) → slot < l2_ways shape * n → get_or tags slot None ≡ Some (addr / 64)
      → view shape bank n tags pointers (set lines slot (with_number_at (get_or lines slot []) (addr % 64) size v)) ram ≡ written_at (view shape bank n tags pointers lines ram) addr size v
  put_view slot addr size v low e =
      let new : List ℕ = with_number_at (get_or lines slot []) (addr % 64) size v in
      let m : overlay (banks shape) tags (set lines slot new) ram
      ≡ set (overlay (banks shape) tags lines ram) (addr / 64 / banks shape) (with_number_at (line_at (view shape bank n tags pointers lines ram) addr) (addr % 64) size v) =
      overlay_line (banks shape) tags lines ram slot (addr / 64) new (apart shape bank n (length ram) tags pointers is) e (omega (arith, low, full))
      ∙ ap (λ (l : List ℕ). set (overlay (banks shape) tags lines ram) (addr / 64 / banks shape) (with_number_at l (addr % 64) size v)) (held_view slot addr low e) in
      ap (λ (m : List (List ℕ)). record { shape = shape; bank = bank; sets = n; tags = tags; pointers = pointers; memory = m }) m

  pub back_view : (slot line : ℕ) → slot < l2_ways shape * n → get_or tags slot None ≡ Some line
      → view shape bank n (set tags slot None) pointers lines (set ram (place_in_bank shape line) (get_or lines slot [])) ≡ record (view shape bank n tags pointers lines ram) { tags = set tags slot None }
  back_view slot line low e =
      ap (λ (m : List (List ℕ)). record { shape = shape; bank = bank; sets = n; tags = set tags slot None; pointers = pointers; memory = m })
      (overlay_back (banks shape) tags lines ram slot line (apart shape bank n (length ram) tags pointers is) e (omega (arith, low, full)))

  pub back_none : (slot : ℕ) → get_or tags slot None ≡ None → view shape bank n tags pointers lines ram ≡ record (view shape bank n tags pointers lines ram) { tags = set tags slot None }
  back_none slot e =
      ap (λ (ts : List (Option ℕ)). record { shape = shape; bank = bank; sets = n; tags = ts; pointers = pointers; memory = overlay (banks shape) tags lines ram })
      (sym (set-get_or tags slot None) ∙ ap (λ (o : Option ℕ). set tags slot o) e)

  pub fill_view : (line way : ℕ) → first_slot (l2_layout shape n) (place_in_bank shape line) + way < l2_ways shape * n → line % banks shape ≡ bank → IsAbsent tags line
      → get_or tags (first_slot (l2_layout shape n) (place_in_bank shape line) + way) None ≡ None
      → view shape bank n (set tags (first_slot (l2_layout shape n) (place_in_bank shape line) + way) (Some line))
      (set pointers (set_of (l2_layout shape n) (place_in_bank shape line)) (next_way (l2_layout shape n) way))
      (set lines (first_slot (l2_layout shape n) (place_in_bank shape line) + way) (get_or ram (place_in_bank shape line) [])) ram
      ≡ filled (view shape bank n tags pointers lines ram) line way
  fill_view line way low m absent e =
      let slot : ℕ = first_slot (l2_layout shape n) (place_in_bank shape line) + way in
      ap (λ (m : List (List ℕ)). record { shape = shape; bank = bank; sets = n; tags = set tags slot (Some line); pointers = set pointers (set_of (l2_layout shape n) (place_in_bank shape line)) (next_way (l2_layout shape n) way); memory = m })
      (overlay_fill (banks shape) tags lines ram slot line (none_here shape bank n (length ram) tags pointers is line m absent) e (let s = is.size in omega (arith, s, low)) (omega (arith, low, full)))

-- the slot is emptied and then taken
pub emptied_filled : (a : ArrayState) (line way : ℕ) → filled (record a { tags = set a.tags (first_slot (layout_of a) (place_of a line) + way) None }) line way ≡ filled a line way
emptied_filled a line way =
    ap (λ (ts : List (Option ℕ)). record a { tags = ts; pointers = set a.pointers (set_of (layout_of a) (place_of a line)) (next_way (layout_of a) way) })
    (set-set a.tags (first_slot (layout_of a) (place_of a line) + way) None (Some line))

-- ---- what is known of the array that is seen

pub kept_now : {shape : Shape} {bank n count : ℕ} {tags : List (Option ℕ)} {pointers : List ℕ} {m : List (List ℕ)} (a : ArrayState) → IsL2 shape bank n count tags pointers
    → ◌≡◌ {A = ArrayState} (record { shape = shape; bank = bank; sets = n; tags = tags; pointers = pointers; memory = m }) a → IsL2 a.shape a.bank a.sets count a.tags a.pointers
kept_now {shape} {bank} {n} {count} a is e = subst (λ (s : ArrayState). IsL2 s.shape s.bank s.sets count s.tags s.pointers) e is

-- a way of a line's set is a slot of the array
pub slot_fits : (a : ArrayState) (count line way : ℕ) → IsL2 a.shape a.bank a.sets count a.tags a.pointers → way < l2_ways a.shape
    → first_slot (layout_of a) (place_of a line) + way < l2_ways a.shape * a.sets
slot_fits a count line way is below =
    l2_slot_below a.shape a.sets (set_of (layout_of a) (place_of a line)) (first_slot (layout_of a) (place_of a line) + way) (mod_below (place_of a line) a.sets is.some) (omega (arith, below))

pub found_at : (a : ArrayState) (count line : ℕ) → IsL2 a.shape a.bank a.sets count a.tags a.pointers → (r : Option ℕ) → r ≡ slot_in a line
    → IfSome r (λ slot. (get_or a.tags slot None ≡ Some line) × (slot < l2_ways a.shape * a.sets))
found_at a count line is None e = tt
found_at a count line is (Some j) e =
    let f = slot_found a line j (sym e) in
    (f.is, l2_slot_below a.shape a.sets (set_of (layout_of a) (place_of a line)) j (mod_below (place_of a line) a.sets is.some) (omega (arith, f.below)))

pub found_absent : (a : ArrayState) (count line : ℕ) → IsL2 a.shape a.bank a.sets count a.tags a.pointers → (r : Option ℕ) → r ≡ slot_in a line → IfNone r (IsAbsent a.tags line)
found_absent a count line is None e = none_found a count line is (sym e)
found_absent a count line is (Some j) e = tt

-- a set's slots are slots of the tags
pub set_fits : (a : ArrayState) (count line : ℕ) → IsL2 a.shape a.bank a.sets count a.tags a.pointers
    → first_slot (layout_of a) (place_of a line) + l2_ways a.shape ≤ length a.tags
set_fits a count line is =
    let some = (l2_ways_are a.shape).0 in
    let last = slot_fits a count line (l2_ways a.shape - 1) is (omega (arith, some)) in
    omega (arith, last, some, is.size)

pub few_tags : (a : ArrayState) (count : ℕ) → IsL2 a.shape a.bank a.sets count a.tags a.pointers → length a.tags ≤ 16384
few_tags a count is =
    let p = mul-le (l2_ways a.shape) a.sets 16 1024 (l2_ways_are a.shape).1 (omega (arith, is.few, l2_sets_are a.shape)) in
    omega (arith, p, is.size)
