use Rattle.std.proofs.Common.{◌≡◌, ◌∙◌, ◌^◌, ◌≤◌, ◌++◌, ◌∷◌, ℕ, List, [], length, drop, get_or, All, Some, inl, inr, ap, sym, subst, arith}
use Rattle.std.proofs.lemmas.Option.{same_Some, none-some}
use Rattle.std.proofs.lemmas.List.{length-append}
use Rattle.std.proofs.lemmas.List.Elements.{All-push}
use Rattle.t1_elf.specs.declared.object.Image.{Image}
use Rattle.t1_event.specs.declared.item.Item.{Item}
use Rattle.t1_event.specs.declared.trace.Trace.{Trace}
use Rattle.t1_event.specs.declared.report.Config.{Config}
use Rattle.t1_log.specs.Texts.{lines_from}
use Rattle.t1_log.specs.Log.{item_line_of}
use Rattle.t1_take.specs.declared.cursor.Cursor.{Cursor}
use Rattle.t1_take.specs.Taken.{Reads, Leaves}
use Rattle.t1_take.specs.Items.{IsGoodItem}
use Rattle.t1_take.proofs.ListTexts.{all_none, start_read, one_more_read, reads_between}
use Rattle.t1_take.proofs.Leaving.{left_start, left_cases, left_next, not_past, item_some, item_first, begun_good, begun_at, peeked}
use Rattle.t1_read.specs.Exact.{NextIsNot}
use Rattle.t1_read.specs.Faults.{IsOpen}
use Rattle.t1_read.specs.Standing.{HasTraces}
use Rattle.t1_read.proofs.ElementsFound.{IsElementNext, next_by_byte}
use Rattle.t1_read.proofs.Places.{went_on, at_end_of_text}
use Rattle.t1_read.proofs.StrandsStand.{IsAmong, has_items, item_fault}
use Rattle.t1_read.proofs.strands.read_items.Goals.{At-loop-number, After-peek, After-take_item}
use Rattle.t1_read.proofs.strands.read_items.Goals as goal

-- ---- what the answers share

-- the items so far are of a strand whose turn it is
among : (c : At-loop-number) (config : Config) (image : Image) (traces : List Trace) → HasTraces c.args.text.now c.args.lines.now.at config image traces → IsOpen config traces → c.args.strand ≡ length traces → c.args.ram ≡ config.ram
    → IsAmong c.args.text.now c.args.lines.now.at c.loop-number.lines.at config image traces c.loop-number.items c.args.strand c.args.ram
among c config image traces h o strand_is ram_is = record { before = h; is_open = o; strand_is = strand_is; ram_is = ram_is; good = c.loop-number.invariant.good; reads = c.loop-number.invariant.reads }

-- the byte that stands next
byte : (c : After-peek) → c.peek.result ≡ get_or c.args.text.now c.loop-number.lines.at 0
byte c = c.peek.ensures ∙ ap (λ (k : Cursor). get_or c.args.text.now k.at 0) c.next-cursor.ensures

-- where items stand, the next one was taken
found : (c : After-take_item) (all : List Item) (rest : List ℕ) → c.args.ram ≤ 2 ^ 40 → All (IsGoodItem c.args.ram) all → NextIsNot 105 rest
    → drop c.args.lines.now.at c.args.text.now ≡ lines_from (item_line_of c.args.strand) 0 all ++ rest
    → (n : IsElementNext (item_line_of c.args.strand) (IsGoodItem c.args.ram) c.args.text.now c.loop-number.lines.at c.loop-number.number c.loop-number.items all rest)
    × (c.take_item.result ≡ Some n.here.one) × Leaves c.args.text.now c.next-cursor.result c.take_item.new.cursor n.after
found c all rest small good other e =
    let first = c.peek.ensures ∙ ap (λ (k : Cursor). get_or c.args.text.now k.at 0) c.next-cursor.ensures in
    let n = next_by_byte (item_line_of c.args.strand) (IsGoodItem c.args.ram) c.args.text.now c.loop-number.lines.at c.loop-number.number 105 c.loop-number.items all rest
    (c.loop-number.invariant.finds all rest small good other e) c.loop-number.invariant.count good other (sym first ∙ c.if-peek-ne105.false) in
    let taken = c.take_item.ensures.finds n.here.one n.after small n.good (begun_good c.next-cursor.result _ c.next-cursor.ensures) (begun_at c.args.text.now c.next-cursor.result _ _ c.next-cursor.ensures n.reads) in
    (n, taken.0, taken.1)

-- ---- the loop

pub loop-number-init : goal.loop-number-init
loop-number-init c = record {
  good = all_none (IsGoodItem c.args.ram) c.new-items.result c.new-items.ensures;
  count = ap length c.new-items.ensures;
  forward = omega arith;
  reads = start_read c.args.text.now c.args.lines.now.at (item_line_of c.args.strand) c.new-items.result c.new-items.ensures;
  finds = λ all rest small good other e. left_start (item_line_of c.args.strand) c.args.text.now c.args.lines.now.at c.new-items.result all rest c.new-items.ensures e;
}

pub loop-number-preserved : goal.loop-number-preserved
loop-number-preserved c =
    let longer : c.push.new.self ≡ c.loop-number.items ++ c.in-Some.item ∷ [] = c.in_ok-push-in-Some.ensures.ok in
    let line = item_line_of c.args.strand c.loop-number.number c.in-Some.item in
    let here : Reads c.args.text.now c.loop-number.lines.at c.went.new.self.at line =
    reads_between c.args.text.now line _ _ _ _ (ap (λ (k : Cursor). k.at) c.next-cursor.ensures) (sym c.went.ensures) c.in-Some.ensures.reads in
    record {
      good = subst (All (IsGoodItem c.args.ram)) (sym longer) (All-push (IsGoodItem c.args.ram) c.loop-number.items c.in-Some.item c.loop-number.invariant.good c.in-Some.ensures.good);
      count = omega (arith, ap length longer ∙ length-append c.loop-number.items (c.in-Some.item ∷ []), c.loop-number.invariant.count);
      forward = (
          let on = went_on c.args.text.now c.loop-number.lines.at c.went.new.self.at line (item_some c.args.strand c.loop-number.number c.in-Some.item) here in
          omega (arith, on, c.loop-number.invariant.forward)
          );
      reads = one_more_read c.args.text.now c.args.lines.now.at c.loop-number.lines.at c.went.new.self.at (item_line_of c.args.strand) c.loop-number.items c.in-Some.item c.loop-number.number c.push.new.self
          c.loop-number.invariant.reads (sym c.loop-number.invariant.count) here longer;
      finds = λ all rest small good other e. (
          let f = found (goal.at.loop-number-preserved c).After-take_item all rest small good other e in
          left_next (item_line_of c.args.strand) c.args.text.now c.loop-number.lines.at c.went.new.self.at c.loop-number.items c.push.new.self all c.in-Some.item rest f.0.here (sym (same_Some _ _ (sym c.in-Some.is ∙ f.1))) longer
          (ap (λ (k : ℕ). drop k c.args.text.now) c.went.ensures ∙ (f.2.rest_is ∙ f.0.after_is))
          );
    }

-- ---- another byte stands next

pub returns-then-peek-ne105-clause-finds : goal.returns-then-peek-ne105-clause-finds
returns-then-peek-ne105-clause-finds c = λ all rest small good other e.
    elim (left_cases (item_line_of c.args.strand) c.args.text.now c.loop-number.lines.at c.loop-number.items all rest (c.loop-number.invariant.finds all rest small good other e)) [
      | inl none ↦ (sym none.0, none.1)
      | inr n ↦ absurd (c.if-peek-ne105.true (byte (goal.at.returns-then-peek-ne105-clause-finds c).After-peek ∙ (peeked c.args.text.now c.loop-number.lines.at _ n.rest_is ∙ item_first _ _ n.one _)))
    ]

pub returns-then-peek-ne105-clause-leads : goal.returns-then-peek-ne105-clause-leads
returns-then-peek-ne105-clause-leads c = λ config image traces h o strand_is ram_is.
    has_items c.args.text.now c.args.lines.now.at c.loop-number.lines.at config image traces c.loop-number.items c.args.strand c.args.ram
    (among (goal.at.returns-then-peek-ne105-clause-leads c).At-loop-number config image traces h o strand_is ram_is)
    (λ first. c.if-peek-ne105.true (byte (goal.at.returns-then-peek-ne105-clause-leads c).After-peek ∙ first))

-- ---- a line was refused

pub returns-in-None-clause-finds : goal.returns-in-None-clause-finds
returns-in-None-clause-finds c = λ all rest small good other e.
    absurd (none-some _ (sym c.in-None.is ∙ (found (goal.at.returns-in-None-clause-finds c).After-take_item all rest small good other e).1))

pub returns-in-None-clause-leads : goal.returns-in-None-clause-leads
returns-in-None-clause-leads c = λ config image traces h o strand_is ram_is.
    item_fault c.args.text.now c.args.lines.now.at c.loop-number.lines.at config image traces c.loop-number.items c.args.strand c.args.ram c.loop-number.number _
    (among (goal.at.returns-in-None-clause-leads c).At-loop-number config image traces h o strand_is ram_is)
    (sym c.loop-number.invariant.count) (sym (byte (goal.at.returns-in-None-clause-leads c).After-peek) ∙ c.if-peek-ne105.false)
    (λ item rest small good e. none-some item (c.in-None.ensures.finds item rest small good (begun_good c.next-cursor.result _ c.next-cursor.ensures) (begun_at c.args.text.now c.next-cursor.result _ _ c.next-cursor.ensures e)).0)
    c.fault.ensures

-- ---- the text ends

pub returns-clause-finds : goal.returns-clause-finds
returns-clause-finds c = λ all rest small good other e.
    absurd (not_past (item_line_of c.args.strand) c.args.text.now c.loop-number.lines.at c.loop-number.items all rest (c.loop-number.invariant.finds all rest small good other e) other.some
    (omega (arith, c.loop-number.invariant.forward, c.loop-number-test.false)))

pub returns-clause-leads : goal.returns-clause-leads
returns-clause-leads c = λ config image traces h o strand_is ram_is.
    has_items c.args.text.now c.args.lines.now.at c.loop-number.lines.at config image traces c.loop-number.items c.args.strand c.args.ram
    (among (goal.at.returns-clause-leads c).At-loop-number config image traces h o strand_is ram_is)
    (at_end_of_text c.args.text.now c.loop-number.lines.at 105 (omega (arith, c.loop-number.invariant.forward, c.loop-number-test.false)) (omega arith))
