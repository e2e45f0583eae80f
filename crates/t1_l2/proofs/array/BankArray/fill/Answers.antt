-- What is asked of the array that is seen holds of its fields.
use Rattle.std.proofs.Common.{◌≡◌, ◌∙◌, ◌+◌, ◌*◌, ◌%◌, ◌<◌, ℕ, List, [], Some, None, get_or, set, length, ap, sym, subst, arith}
use Rattle.std.proofs.lemmas.List.{get_or_read, length-set}
use Rattle.std.proofs.lemmas.Nat.{mod_below}
use Rattle.t1_shape.specs.Numbers.{banks, l2_ways, place_in_bank}
use Rattle.t1_shape.specs.Slots.{InSet, first_slot, set_of}
use Rattle.t1_shape.proofs.Slots.{way_in_set}
use Rattle.t1_l2.specs.Array.{ArrayState, l2_layout, layout_of, place_of, filled, IsAbsent}
use Rattle.t1_l2.proofs.Kept.{taken}
use Rattle.t1_l2.proofs.View.{view, kept_now, slot_fits, length_memory, fill_view}
use Rattle.t1_l2.proofs.array.BankArray.fill.Goals as goal

pub index-requires : goal.index-requires
index-requires c =
    let i = c.self.inside in
    let m : length i.ram.items ≡ length c.args.self.now.memory =
    sym (length_memory i.chip i.bank i.sets i.tags.items i.pointers.items i.lines.items i.ram.items c.self.invariant.l2 c.self.invariant.full) ∙ ap (λ (a : ArrayState). length a.memory) c.self.view_is in
    let place = c.requires.own.0 in
    let is = c.place_of-place.ensures in
    let ok = i.ram.ok in
    omega (arith, m, place, is, ok)

pub invariant_of-self : goal.invariant_of-self
invariant_of-self c =
    let i = c.self.inside in
    let m : length i.ram.items ≡ length c.args.self.now.memory =
    sym (length_memory i.chip i.bank i.sets i.tags.items i.pointers.items i.lines.items i.ram.items c.self.invariant.l2 c.self.invariant.full) ∙ ap (λ (a : ArrayState). length a.memory) c.self.view_is in
    let within : place_in_bank i.chip c.args.line < length i.ram.items =
    (let w : place_in_bank i.chip c.args.line < length c.args.self.now.memory = subst (λ (a : ArrayState). place_of a c.args.line < length c.args.self.now.memory) (sym c.self.view_is) c.requires.own.0 in omega (arith, m, w)) in
    let first : c.first_of.result ≡ first_slot (l2_layout i.chip i.sets) (place_in_bank i.chip c.args.line) =
    c.first_of.ensures.value ∙ sym (ap (λ (a : ArrayState). first_slot (layout_of a) (place_of a c.args.line)) c.self.view_is) in
    let way : c.args.way < l2_ways i.chip = subst (λ (a : ArrayState). c.args.way < l2_ways a.shape) (sym c.self.view_is) c.requires.way in
    let at : InSet (l2_layout i.chip i.sets) (place_in_bank i.chip c.args.line) (c.first_of.result + c.args.way) =
    subst (λ (k : ℕ). InSet (l2_layout i.chip i.sets) (place_in_bank i.chip c.args.line) (k + c.args.way)) (sym first) (way_in_set (l2_layout i.chip i.sets) (place_in_bank i.chip c.args.line) c.args.way way) in
    let ways : c.ways.result ≡ l2_ways i.chip = c.ways.ensures.value ∙ sym (ap (λ (a : ArrayState). l2_ways a.shape) c.self.view_is) in
    let next : (c.args.way + 1) % c.ways.result < l2_ways i.chip = (let l = mod_below (c.args.way + 1) c.ways.result c.ways.ensures.some in omega (arith, l, ways)) in
    let low : c.first_of.result + c.args.way < l2_ways i.chip * i.sets =
    (let room = c.first_of.ensures.room in let size = c.self.invariant.l2.size in
    let l : length i.tags.items ≡ length c.args.self.now.tags = ap (λ (a : ArrayState). length a.tags) c.self.view_is in
    let w = c.requires.way in omega (arith, room, size, l, w)) in
    record {
      l2 =
          taken i.chip i.bank i.sets (length i.ram.items) i.tags.items i.pointers.items c.self.invariant.l2 c.args.line (c.first_of.result + c.args.way) c.set_of-set.result ((c.args.way + 1) % c.ways.result) at
          (subst (λ (a : ArrayState). c.args.line % banks a.shape ≡ a.bank) (sym c.self.view_is) c.requires.own.1)
          within
          (subst (λ (a : ArrayState). IsAbsent a.tags c.args.line) (sym c.self.view_is) c.requires.absent)
          next;
      full = length-set i.lines.items (c.first_of.result + c.args.way) c.index.result.now ∙ c.self.invariant.full;
      first = low;
    }

pub returns : goal.returns
returns c =
    let i = c.self.inside in
    let m : length i.ram.items ≡ length c.args.self.now.memory =
    sym (length_memory i.chip i.bank i.sets i.tags.items i.pointers.items i.lines.items i.ram.items c.self.invariant.l2 c.self.invariant.full) ∙ ap (λ (a : ArrayState). length a.memory) c.self.view_is in
    let place : c.place_of-place.result ≡ place_in_bank i.chip c.args.line = c.place_of-place.ensures ∙ sym (ap (λ (a : ArrayState). place_of a c.args.line) c.self.view_is) in
    let first : c.first_of.result ≡ first_slot (l2_layout i.chip i.sets) (place_in_bank i.chip c.args.line) =
    c.first_of.ensures.value ∙ sym (ap (λ (a : ArrayState). first_slot (layout_of a) (place_of a c.args.line)) c.self.view_is) in
    let set_is : c.set_of-set.result ≡ set_of (l2_layout i.chip i.sets) (place_in_bank i.chip c.args.line) =
    c.set_of-set.ensures.value ∙ sym (ap (λ (a : ArrayState). set_of (layout_of a) (place_of a c.args.line)) c.self.view_is) in
    let ways : c.ways.result ≡ l2_ways i.chip = c.ways.ensures.value ∙ sym (ap (λ (a : ArrayState). l2_ways a.shape) c.self.view_is) in
    let within : c.place_of-place.result < length i.ram.items = (let w = c.requires.own.0 in let is = c.place_of-place.ensures in omega (arith, m, w, is)) in
    let read : c.index.result.now ≡ get_or i.ram.items (place_in_bank i.chip c.args.line) [] =
    get_or_read i.ram.items c.place_of-place.result c.index.result.now within c.index.ensures [] ∙ ap (λ (n : ℕ). get_or i.ram.items n []) place in
    let slot : ℕ = first_slot (l2_layout i.chip i.sets) (place_in_bank i.chip c.args.line) + c.args.way in
    let low : slot < l2_ways i.chip * i.sets =
    subst (λ (a : ArrayState). first_slot (layout_of a) (place_of a c.args.line) + c.args.way < l2_ways a.shape * a.sets) (sym c.self.view_is)
    (slot_fits c.args.self.now (length i.ram.items) c.args.line c.args.way (kept_now c.args.self.now c.self.invariant.l2 c.self.view_is) c.requires.way) in
    let after : ℕ → ℕ → ℕ → List ℕ → ArrayState = λ k s w l.
    view i.chip i.bank i.sets (set i.tags.items (k + c.args.way) (Some c.args.line)) (set i.pointers.items s ((c.args.way + 1) % w)) (set i.lines.items (k + c.args.way) l) i.ram.items in
    ap (λ (l : List ℕ). after c.first_of.result c.set_of-set.result c.ways.result l) read
    ∙ (ap (λ (k : ℕ). after k c.set_of-set.result c.ways.result (get_or i.ram.items (place_in_bank i.chip c.args.line) [])) first
    ∙ (ap (λ (s : ℕ). after (first_slot (l2_layout i.chip i.sets) (place_in_bank i.chip c.args.line)) s c.ways.result (get_or i.ram.items (place_in_bank i.chip c.args.line) [])) set_is
    ∙ (ap (λ (w : ℕ). after (first_slot (l2_layout i.chip i.sets) (place_in_bank i.chip c.args.line)) (set_of (l2_layout i.chip i.sets) (place_in_bank i.chip c.args.line)) w (get_or i.ram.items (place_in_bank i.chip c.args.line) [])) ways
    ∙ (fill_view i.chip i.bank i.sets i.tags.items i.pointers.items i.lines.items i.ram.items c.self.invariant.l2 c.self.invariant.full c.args.line c.args.way low
    (subst (λ (a : ArrayState). c.args.line % banks a.shape ≡ a.bank) (sym c.self.view_is) c.requires.own.1)
    (subst (λ (a : ArrayState). IsAbsent a.tags c.args.line) (sym c.self.view_is) c.requires.absent)
    (subst (λ (a : ArrayState). get_or a.tags (first_slot (layout_of a) (place_of a c.args.line) + c.args.way) None ≡ None) (sym c.self.view_is) c.requires.empty)
    ∙ ap (λ (a : ArrayState). filled a c.args.line c.args.way) c.self.view_is))))
