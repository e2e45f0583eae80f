use Rattle.std.proofs.Common.{◌≡◌, ◌∙◌, ◌^◌, ◌≤◌, ◌++◌, ℕ, List, drop, Option, Some, ap, sym, subst, rules}
use Rattle.std.proofs.lemmas.Option.{same_Some, none-some}
use Rattle.std.proofs.lemmas.Result.{err_from_is_err_and}
use Rattle.t1_event.specs.declared.trace.Ending.{Ending}
use Rattle.t1_event.specs.declared.trace.Trace.{Trace}
use Rattle.t1_log.specs.Texts.{lines_from}
use Rattle.t1_log.specs.Log.{item_line_of, trace_lines_of}
use Rattle.t1_log.specs.Lines.{ending_line_of}
use Rattle.t1_take.specs.declared.cursor.Cursor.{Cursor}
use Rattle.t1_take.specs.declared.item.End.{End}
use Rattle.t1_take.specs.Items.{IsGoodTrace}
use Rattle.t1_take.specs.Taken.{Reads, Leaves}
use Rattle.t1_take.proofs.Taking.{reads_then}
use Rattle.t1_take.proofs.ItemTexts.{trace_text}
use Rattle.t1_take.proofs.ListTexts.{reads_between}
use Rattle.t1_take.proofs.Leaving.{begun_good, begun_at}
use Rattle.t1_read.proofs.StrandsFound.{IsEnded, strand_next}
use Rattle.t1_read.proofs.StrandsStand.{end_fault, has_trace}
use Rattle.t1_read.proofs.strands.read_strand.Goals.{After-take_end, After-went}
use Rattle.t1_read.proofs.strands.read_strand.Goals as goal

-- ---- what the answers share

-- where a strand stands, its items were read, and its end was taken
found : (c : After-take_end) (trace : Trace) (rest : List ℕ) → c.args.ram ≤ 2 ^ 40 → IsGoodTrace c.args.ram trace → drop c.args.lines.now.at c.args.text.now ≡ trace_lines_of c.args.strand trace ++ rest
    → (end : IsEnded trace.ending) × (c.in_ok-items.items ≡ trace.items) × (c.take_end.result ≡ Some (record { ending = end.ending; units = trace.units; pc = trace.pc }))
    × Leaves c.args.text.now c.next-cursor.result c.take_end.new.cursor rest
found c trace rest small good e =
    let n = strand_next c.args.text.now c.args.lines.now.at c.args.strand trace rest good.ended e in
    let items = c.in_ok-items.ensures.finds trace.items _ small good.items n.after n.reads in
    let taken = c.take_end.ensures.finds n.end.ending trace.units trace.pc rest n.end.good good.units good.pc (begun_good c.next-cursor.result _ c.next-cursor.ensures)
    (begun_at c.args.text.now c.next-cursor.result _ _ c.next-cursor.ensures items.1) in
    (n.end, items.0, taken.0, taken.1)

-- the lines of the strand that was read
lines_read : (c : After-went)
    → Reads c.args.text.now c.args.lines.now.at c.went.new.self.at (trace_lines_of c.args.strand (record { items = c.in_ok-items.items; units = c.in-Some.end.units; pc = c.in-Some.end.pc; ending = Some c.in-Some.end.ending }))
lines_read c =
    let end = c.in-Some.end in
    let items = c.in_ok-items.items in
    let line = ending_line_of c.args.strand end.ending end.units end.pc in
    let here : Reads c.args.text.now c.read_items.new.lines.at c.went.new.self.at line =
    reads_between c.args.text.now line _ _ _ _ (ap (λ (k : Cursor). k.at) c.next-cursor.ensures) (sym c.went.ensures) c.in-Some.ensures.reads in
    subst (Reads c.args.text.now c.args.lines.now.at c.went.new.self.at) (trace_text c.args.strand items end.units end.pc end.ending)
    (reads_then c.args.text.now c.args.lines.now.at c.read_items.new.lines.at c.went.new.self.at (lines_from (item_line_of c.args.strand) 0 items) line c.in_ok-items.ensures.reads here)

-- ---- an item was refused

pub returns-in_err-items-clause-finds : goal.returns-in_err-items-clause-finds
returns-in_err-items-clause-finds c = λ trace rest small good e.
    let n = strand_next c.args.text.now c.args.lines.now.at c.args.strand trace rest good.ended e in
    let found = c.in_err-items.ensures.finds trace.items _ small good.items n.after n.reads in
    let p = err_from_is_err_and c.from_residual.result c.from_residual.ensures.1 in
    rw (p.1, p.2) found

-- ---- the end was taken

pub returns-in-Some-clause-reads : goal.returns-in-Some-clause-reads
returns-in-Some-clause-reads c = lines_read (goal.at.returns-in-Some-clause-reads c).After-went

pub returns-in-Some-clause-finds : goal.returns-in-Some-clause-finds
returns-in-Some-clause-finds c = λ trace rest small good e.
    let f = found (goal.at.returns-in-Some-clause-finds c).After-take_end trace rest small good e in
    let same : c.in-Some.end ≡ record { ending = f.0.ending; units = trace.units; pc = trace.pc } = same_Some _ _ (sym c.in-Some.is ∙ f.2) in
    let ending_is : ◌≡◌ {A = Option Ending} (Some c.in-Some.end.ending) trace.ending = ap (λ (k : End). Some k.ending) same ∙ sym f.0.is in (
      λ i. record { items = f.1 i; units = (same i).units; pc = (same i).pc; ending = ending_is i },
      ap (λ (k : ℕ). drop k c.args.text.now) c.went.ensures ∙ f.3.rest_is,
    )

pub returns-in-Some-clause-leads : goal.returns-in-Some-clause-leads
returns-in-Some-clause-leads c = λ config image traces h o strand_is ram_is.
    has_trace c.args.text.now c.args.lines.now.at c.went.new.self.at config image traces
    (record { items = c.in_ok-items.items; units = c.in-Some.end.units; pc = c.in-Some.end.pc; ending = Some c.in-Some.end.ending }) c.args.strand c.args.ram h o strand_is ram_is
    (search rules) (lines_read (goal.at.returns-in-Some-clause-leads c).After-went)

-- ---- the end was refused

pub returns-in-None-clause-finds : goal.returns-in-None-clause-finds
returns-in-None-clause-finds c = λ trace rest small good e.
    absurd (none-some _ (sym c.in-None.is ∙ (found (goal.at.returns-in-None-clause-finds c).After-take_end trace rest small good e).2))

pub returns-in-None-clause-leads : goal.returns-in-None-clause-leads
returns-in-None-clause-leads c = λ config image traces h o strand_is ram_is.
    end_fault c.args.text.now c.read_items.new.lines.at config image traces c.in_ok-items.items c.args.strand _ (c.in_ok-items.ensures.leads config image traces h o strand_is ram_is) o strand_is
    (λ ending units pc rest good units_fit pc_fits e. none-some _ (c.in-None.ensures.finds ending units pc rest good units_fit pc_fits (begun_good c.next-cursor.result _ c.next-cursor.ensures) (begun_at c.args.text.now c.next-cursor.result _ _ c.next-cursor.ensures e)).0)
    c.fault.ensures
