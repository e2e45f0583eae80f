use Rattle.std.proofs.Common.{◌+◌, ◌∙◌, sym, subst, get_or, ℕ, List, inr}
use Rattle.std.proofs.lemmas.Option.{slice_get-get_or}
use Rattle.t1_event.specs.Items.{items_of}
use Rattle.t1_event.specs.declared.report.Place.{Place}
use Rattle.t1_check.specs.Positions.{IsMarked, no_place}
use Rattle.t1_check.proofs.Marking.{within_cells, repeats, marked_more}
use Rattle.t1_check.proofs.listing.mark.Goals as goal

pub returns-then-cell-ne0 : goal.returns-then-cell-ne0
returns-then-cell-ne0 c =
    let p : Place = get_or c.args.order.now c.args.line no_place in
    record {
      place = p;
      is = slice_get-get_or c.args.order.now c.args.line no_place c.requires.line;
      bad = inr (repeats (items_of c.args.traces.now) c.args.order.now c.args.line c.args.table.now p c.requires.marked (λ z. c.if-cell-ne0.true (c.cell.ensures ∙ z)));
    }

pub put-requires-clause-item : goal.put-requires-clause-item
put-requires-clause-item c = (within_cells (items_of c.args.traces.now) c.args.table.now (get_or c.args.order.now c.args.line no_place) c.requires.marked.has c.if-not-names_access.ensures).1

pub returns : goal.returns
returns c =
    let p : Place = get_or c.args.order.now c.args.line no_place in
    let w = within_cells (items_of c.args.traces.now) c.args.table.now p c.requires.marked.has c.if-not-names_access.ensures in
    subst (λ (t : List (List ℕ)). IsMarked (items_of c.args.traces.now) c.args.order.now (c.args.line + 1) t) (sym c.put.ensures)
    (marked_more (items_of c.args.traces.now) c.args.order.now c.args.line c.args.table.now p c.requires.marked
    (slice_get-get_or c.args.order.now c.args.line no_place c.requires.line) c.if-not-names_access.ensures w.0 w.1 (sym c.cell.ensures ∙ c.if-cell-ne0.false))
