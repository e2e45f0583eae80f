-- Accesses of a well-formed report lie in words.
use Rattle.std.proofs.Common.{◌≡◌, ℕ, ◌+◌, ◌*◌, ◌%◌, ◌<◌, ◌≤◌, List, [], length, get_or, Some, None, sym, ap, subst, ◌∙◌, inl, inr, arith}
use Rattle.std.proofs.lemmas.Bool.{cases_lt, and_parts, leb-true}
use Rattle.std.proofs.Math.Nat.{mul-le-mul}
use Rattle.std.proofs.lemmas.List.{length-map, get_or-map, get_or_past}
use Rattle.std.proofs.lemmas.Option.{slice_get_within, get_or_from_slice_get}
use Rattle.std.specs.List.{slice_get}
use Rattle.t1_num.specs.Memory.{IsSize}
use Rattle.t1_event.specs.declared.item.Item.{Item}
use Rattle.t1_event.specs.declared.trace.Trace.{Trace}
use Rattle.t1_event.specs.declared.report.Report.{Report}
use Rattle.t1_event.specs.Items.{items_of}
use Rattle.t1_check.specs.Checked.{LiesInWord, CanBeChecked}
use Rattle.t1_take.specs.Items.{IsGoodItem}
use Rattle.t1_take.specs.WellFormed.{IsWellFormed}
use Rattle.t1_take.proofs.ItemsFound.{size_of}

in_word : (addr size : ℕ) → IsSize size → addr % size ≡ 0 → addr % 8 + size ≤ 8
in_word addr size (inl e) a = omega (arith, e)
in_word addr size (inr (inl e)) a = let b : addr % 2 ≡ 0 = subst (λ (n : ℕ). addr % n ≡ 0) e a in omega (arith, e, b)
in_word addr size (inr (inr (inl e))) a = let b : addr % 4 ≡ 0 = subst (λ (n : ℕ). addr % n ≡ 0) e a in omega (arith, e, b)
in_word addr size (inr (inr (inr e))) a = let b : addr % 8 ≡ 0 = subst (λ (n : ℕ). addr % n ≡ 0) e a in omega (arith, e, b)

item_in_word : (ram : ℕ) (item : Item) → IsGoodItem ram item → LiesInWord item
item_in_word ram item good a = in_word item.addr item.size (size_of item.kind item.size a good.size) (good.aligned a)

no_trace : Trace
no_trace = record { items = []; units = 0; pc = 0; ending = None }

-- the trace of a strand that there is
strand_is : (traces : List Trace) (s : ℕ) → s < length traces → get_or (items_of traces) s [] ≡ (get_or traces s no_trace).items
strand_is traces s l = get_or-map (λ (t : Trace). t.items) traces s no_trace [] l

pub can_be_checked : (report : Report) → IsWellFormed report → CanBeChecked report
can_be_checked report w =
    let count : length (items_of report.traces) ≡ length report.traces = length-map report.traces (λ (t : Trace). t.items) in
    let limits = and_parts _ _ (and_parts _ _ w.limits).1 in
    let cores : report.config.cores ≤ 8 = leb-true _ _ (and_parts _ _ limits.0).1 in
    let strands : report.config.strands ≤ 4 = leb-true _ _ (and_parts _ _ (and_parts _ _ limits.1).0).1 in
    let most : report.config.cores * report.config.strands ≤ 8 * 4 = mul-le-mul cores strands in
    record {
      counted = record {
        strands = omega (arith, count, w.number, most);
        items = λ s. elim (cases_lt s (length report.traces)) [
          | inl l ↦ omega (arith, (w.traces s no_trace l).count, ap length (strand_is report.traces s l))
          | inr l ↦ (let z : length (get_or (items_of report.traces) s []) ≡ 0 = ap length (get_or_past (items_of report.traces) s [] (omega (arith, count, l))) in omega (arith, z))
        ];
      };
      words = λ s number item e. elim (cases_lt s (length report.traces)) [
        | inl l ↦
            let is : slice_get (get_or report.traces s no_trace).items number ≡ Some item = ap (λ xs. slice_get xs number) (sym (strand_is report.traces s l)) ∙ e in
            let within = slice_get_within _ number item is in
            let good = (w.traces s no_trace l).items number item within in
            item_in_word report.config.ram item (subst (IsGoodItem report.config.ram) (get_or_from_slice_get (get_or report.traces s no_trace).items number item item is) good)
        | inr l ↦ (
            let none : length (get_or (items_of report.traces) s []) ≡ 0 = ap length (get_or_past (items_of report.traces) s [] (omega (arith, count, l))) in
            let within = slice_get_within (get_or (items_of report.traces) s []) number item e in
            λ _. absurd (omega (arith, none, within))
            )
      ];
    }
