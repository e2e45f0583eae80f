use Rattle.std.proofs.Common.{◌≡◌, ◌∙◌, ◌++◌, ◌∷◌, ℕ, List, [], length, drop, get_or, All, Some, inl, inr, ap, sym, subst, refl, arith}
use Rattle.std.proofs.lemmas.List.Elements.{All-push}
use Rattle.std.proofs.lemmas.Option.{same_Some, none-some}
use Rattle.t1_event.specs.declared.report.Place.{Place}
use Rattle.t1_log.specs.Lines.{place_line_of}
use Rattle.t1_log.specs.Texts.{order_lines_of}
use Rattle.t1_take.specs.declared.cursor.Cursor.{Cursor}
use Rattle.t1_take.specs.Taken.{Reads, Leaves}
use Rattle.t1_take.specs.WellFormed.{IsGoodPlace}
use Rattle.t1_take.proofs.ListTexts.{all_none, start_read, one_more_read, reads_between}
use Rattle.t1_take.proofs.Leaving.{left_start, left_cases, left_next, not_past, place_some, place_first, begun_good, begun_at, peeked}
use Rattle.t1_line_forms.specs.declared.line.Line.TheVariants as line
use Rattle.t1_read.specs.Exact.{NextIsNot}
use Rattle.t1_read.specs.Standing.{so_far}
use Rattle.t1_read.proofs.Judging.{named, by_letter}
use Rattle.t1_read.proofs.ElementsFound.{IsElementNext, next_by_byte}
use Rattle.t1_read.proofs.Places.{went_on, at_end_of_text}
use Rattle.t1_read.proofs.TailStands.{order_stands, order_leads}
use Rattle.t1_read.proofs.tail.read_order.Goals.{After-peek, After-take_place}
use Rattle.t1_read.proofs.tail.read_order.Goals as goal

abbrev numbered : ℕ → Place → List ℕ
numbered number place = place_line_of place

-- ---- what the answers share

-- the byte that stands next
byte : (c : After-peek) → c.peek.result ≡ get_or c.args.text.now c.loop-line.lines.at 0
byte c = c.peek.ensures ∙ ap (λ (k : Cursor). get_or c.args.text.now k.at 0) c.next-cursor.ensures

-- where places stand, the next one was taken
found : (c : After-take_place) (all : List Place) (rest : List ℕ) → All (IsGoodPlace c.args.strands) all → NextIsNot 111 rest → drop c.args.lines.now.at c.args.text.now ≡ order_lines_of all ++ rest
    → (n : IsElementNext numbered (IsGoodPlace c.args.strands) c.args.text.now c.loop-line.lines.at (length c.loop-line.order) c.loop-line.order all rest)
    × (c.take_place.result ≡ Some n.here.one) × Leaves c.args.text.now c.next-cursor.result c.take_place.new.cursor n.after
found c all rest good other e =
    let n = next_by_byte numbered (IsGoodPlace c.args.strands) c.args.text.now c.loop-line.lines.at (length c.loop-line.order) 111 c.loop-line.order all rest
    (c.loop-line.invariant.finds all rest good other e) refl good other (sym (byte (goal.at.After-take_place c).After-peek) ∙ c.if-peek-ne111.false) in
    let taken = c.take_place.ensures.finds n.here.one n.after n.good (begun_good c.next-cursor.result _ c.next-cursor.ensures) (begun_at c.args.text.now c.next-cursor.result _ _ c.next-cursor.ensures n.reads) in
    (n, taken.0, taken.1)

-- ---- the loop

pub loop-line-init : goal.loop-line-init
loop-line-init c = record {
  good = all_none (IsGoodPlace c.args.strands) c.new-order.result c.new-order.ensures;
  low = omega arith;
  reads = start_read c.args.text.now c.args.lines.now.at numbered c.new-order.result c.new-order.ensures;
  finds = λ all rest good other e. left_start numbered c.args.text.now c.args.lines.now.at c.new-order.result all rest c.new-order.ensures e;
}

pub loop-line-preserved : goal.loop-line-preserved
loop-line-preserved c =
    let longer : c.push.new.self ≡ c.loop-line.order ++ c.in-Some.place ∷ [] = c.in_ok-push-in-Some.ensures.ok in
    let text : List ℕ = place_line_of c.in-Some.place in
    let here : Reads c.args.text.now c.loop-line.lines.at c.went.new.self.at text =
    reads_between c.args.text.now text _ _ _ _ (ap (λ (k : Cursor). k.at) c.next-cursor.ensures) (sym c.went.ensures) c.in-Some.ensures.reads in
    record {
      good = subst (All (IsGoodPlace c.args.strands)) (sym longer) (All-push (IsGoodPlace c.args.strands) c.loop-line.order c.in-Some.place c.loop-line.invariant.good c.in-Some.ensures.good);
      low = omega (arith, went_on c.args.text.now c.loop-line.lines.at c.went.new.self.at text (place_some c.in-Some.place) here, c.loop-line.invariant.low);
      reads = one_more_read c.args.text.now c.args.lines.now.at c.loop-line.lines.at c.went.new.self.at numbered c.loop-line.order c.in-Some.place (length c.loop-line.order) c.push.new.self
          c.loop-line.invariant.reads refl here longer;
      finds = λ all rest good other e. (
          let f = found (goal.at.loop-line-preserved c).After-take_place all rest good other e in
          left_next numbered c.args.text.now c.loop-line.lines.at c.went.new.self.at c.loop-line.order c.push.new.self all c.in-Some.place rest f.0.here (sym (same_Some _ _ (sym c.in-Some.is ∙ f.1))) longer
          (ap (λ (k : ℕ). drop k c.args.text.now) c.went.ensures ∙ (f.2.rest_is ∙ f.0.after_is))
          );
    }

-- ---- another byte stands next

pub returns-then-peek-ne111-clause-finds : goal.returns-then-peek-ne111-clause-finds
returns-then-peek-ne111-clause-finds c = λ all rest good other e.
    elim (left_cases numbered c.args.text.now c.loop-line.lines.at c.loop-line.order all rest (c.loop-line.invariant.finds all rest good other e)) [
      | inl none ↦ (sym none.0, none.1)
      | inr n ↦ absurd (c.if-peek-ne111.true (byte (goal.at.returns-then-peek-ne111-clause-finds c).After-peek ∙ (peeked c.args.text.now c.loop-line.lines.at _ n.rest_is ∙ place_first n.one _)))
    ]

pub returns-then-peek-ne111-clause-leads : goal.returns-then-peek-ne111-clause-leads
returns-then-peek-ne111-clause-leads c = λ config image traces log h strands.
    let so = c.loop-line.invariant in
    order_leads c.args.text.now c.args.lines.now.at c.loop-line.lines.at c.args.strands config image traces log c.loop-line.order h strands so.good so.reads (λ first. c.if-peek-ne111.true (byte (goal.at.returns-then-peek-ne111-clause-leads c).After-peek ∙ first))

-- ---- a line was refused

pub returns-in-None-clause-finds : goal.returns-in-None-clause-finds
returns-in-None-clause-finds c = λ all rest good other e.
    absurd (none-some _ (sym c.in-None.is ∙ (found (goal.at.returns-in-None-clause-finds c).After-take_place all rest good other e).1))

pub returns-in-None-clause-leads : goal.returns-in-None-clause-leads
returns-in-None-clause-leads c = λ config image traces log h strands.
    let text : List ℕ = c.args.text.now in
    let at = c.loop-line.lines.at in
    let order : List Place = c.loop-line.order in
    let so = c.loop-line.invariant in
    named text at (so_far config image traces [] log order []) line.Order _
    (order_stands text c.args.lines.now.at at c.args.strands config image traces log order h strands so.good so.reads)
    (by_letter text at _ [] line.Order (h.all, refl) (sym (byte (goal.at.returns-in-None-clause-leads c).After-peek) ∙ c.if-peek-ne111.false)
    (λ one rest g e. (
    let good : IsGoodPlace c.args.strands g.0 = subst (λ (n : ℕ). IsGoodPlace n g.0) (sym strands) g.1 in
    let stands = begun_at text c.next-cursor.result at _ c.next-cursor.ensures (e ∙ ap (λ (t : List ℕ). t ++ rest) g.2) in
    none-some g.0 (c.in-None.ensures.finds g.0 rest good (begun_good c.next-cursor.result at c.next-cursor.ensures) stands).0
    )))
    c.fault.ensures

-- ---- the text ends

pub returns-clause-finds : goal.returns-clause-finds
returns-clause-finds c = λ all rest good other e.
    absurd (not_past numbered c.args.text.now c.loop-line.lines.at c.loop-line.order all rest (c.loop-line.invariant.finds all rest good other e) other.some
    (omega (arith, c.loop-line.invariant.low, c.loop-line-test.false)))

pub returns-clause-leads : goal.returns-clause-leads
returns-clause-leads c = λ config image traces log h strands.
    let so = c.loop-line.invariant in
    order_leads c.args.text.now c.args.lines.now.at c.loop-line.lines.at c.args.strands config image traces log c.loop-line.order h strands so.good so.reads
    (at_end_of_text c.args.text.now c.loop-line.lines.at 111 (omega (arith, so.low, c.loop-line-test.false)) (omega arith))
