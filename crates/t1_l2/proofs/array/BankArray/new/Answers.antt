use Rattle.std.proofs.Common.{rules, ◌≡◌, ◌∙◌, ◌*◌, ◌/◌, ℕ, List, Option, None, length, replicate, subst, sym, ap, arith}
use Rattle.t1_shape.specs.Numbers.{banks, l2_ways}
use Rattle.t1_shape.proofs.Numbers.{place_small, l2_slot_below, l2_ways_are}
use Rattle.t1_l2.specs.Overlay.{IsL2}
use Rattle.t1_l2.proofs.Kept.{start_kept, start_is, length-lines_of_bank}
use Rattle.t1_l2.proofs.array.BankArray.new.Goals as goal

pub invariant_of-result : goal.invariant_of-result
invariant_of-result c =
    let slots : c.l2_ways.result * c.args.sets ≡ l2_ways c.args.chip * c.args.sets = ap (λ (w : ℕ). w * c.args.sets) c.l2_ways.ensures.value in
    let tags : c.in_ok-from_elem.field-0.items ≡ replicate (l2_ways c.args.chip * c.args.sets) None =
    c.in_ok-from_elem.ensures.items_if_clones_equal (λ y h. search rules) ∙ ap (λ (n : ℕ). replicate {A = Option ℕ} n None) slots in
    let pointers : c.in_ok-from_elem-2.field-0.items ≡ replicate c.args.sets 0 = c.in_ok-from_elem-2.ensures.items_if_clones_equal (λ y h. search rules) in
    let ram : length c.in_ok-lines_of.field-0.items ≡ length c.args.ram.now / 64 / banks c.args.chip =
    ap (λ (ls : List (List ℕ)). length ls) c.in_ok-lines_of.ensures ∙ length-lines_of_bank c.args.chip c.args.bank c.args.ram.now (length c.args.ram.now / 64 / banks c.args.chip) in
    let sets = c.requires.sets in
    let size = c.requires.ram.1 in
    let kept = start_kept c.args.chip c.args.bank c.args.sets (length c.in_ok-lines_of.field-0.items) c.requires.bank sets.0 sets.1 (let low = place_small c.args.chip (length c.args.ram.now) size in omega (arith, low, ram)) in
    record {
      l2 = subst (λ (ts : List (Option ℕ)). IsL2 c.args.chip c.args.bank c.args.sets (length c.in_ok-lines_of.field-0.items) ts c.in_ok-from_elem-2.field-0.items) (sym tags)
          (subst (λ (ns : List ℕ). IsL2 c.args.chip c.args.bank c.args.sets (length c.in_ok-lines_of.field-0.items) (replicate (l2_ways c.args.chip * c.args.sets) None) ns) (sym pointers) kept);
      full = let l = c.in_ok-from_elem-3.ensures.len in let ok = c.in_ok-from_elem-3.field-0.ok in omega (arith, l, ok, slots);
      first = l2_slot_below c.args.chip c.args.sets 0 0 sets.0 (let w = (l2_ways_are c.args.chip).0 in omega (arith, w));
    }

pub returns : goal.returns
returns c =
    start_is c.args.chip c.args.bank c.args.sets c.args.ram.now c.in_ok-from_elem.field-0.items c.in_ok-from_elem-2.field-0.items c.in_ok-from_elem-3.field-0.items c.in_ok-lines_of.field-0.items
    (c.in_ok-from_elem.ensures.items_if_clones_equal (λ y h. search rules) ∙ ap (λ (w : ℕ). replicate {A = Option ℕ} (w * c.args.sets) None) c.l2_ways.ensures.value)
    (c.in_ok-from_elem-2.ensures.items_if_clones_equal (λ y h. search rules))
    c.in_ok-lines_of.ensures
