use Rattle.std.proofs.Common.{◌≡◌, ◌∙◌, ◌++◌, ◌∷◌, ℕ, [], List, refl, length, drop, get_or, All, Some, inl, inr, ap, sym, subst, arith}
use Rattle.std.proofs.lemmas.List.{length-append}
use Rattle.std.proofs.lemmas.Option.{same_Some, none-some}
use Rattle.std.specs.List.{slice_get}
use Rattle.t1_event.specs.declared.commit.Commit.{Commit}
use Rattle.t1_event.specs.Items.{items_of}
use Rattle.t1_log.specs.Log.{commit_line_of}
use Rattle.t1_take.specs.declared.cursor.Cursor.{Cursor}
use Rattle.t1_take.specs.Taken.{Reads, Leaves}
use Rattle.t1_take.proofs.ListTexts.{start_read, one_more_read, reads_between}
use Rattle.t1_take.proofs.CommitTexts.{commits_more}
use Rattle.t1_log.specs.Texts.{lines_from}
use Rattle.t1_take.specs.WellFormed.{IsNamed, IsGoodCommit, AreGoodCommits}
use Rattle.t1_take.proofs.Leaving.{left_start, left_cases, left_next, not_past, commit_some, commit_first, begun_good, begun_at, peeked, slice_middle}
use Rattle.t1_line_forms.specs.declared.line.Line.TheVariants as line
use Rattle.t1_read.specs.Exact.{NextIsNot}
use Rattle.t1_read.specs.Standing.{so_far}
use Rattle.t1_read.proofs.Judging.{named, by_letter}
use Rattle.t1_read.proofs.ElementsFound.{IsElementNext, next_by_byte}
use Rattle.t1_read.proofs.Places.{went_on, at_end_of_text}
use Rattle.t1_read.proofs.TailStands.{log_stands, log_leads}
use Rattle.t1_read.proofs.tail.read_commits.Goals.{After-peek, After-take_commit}
use Rattle.t1_read.proofs.tail.read_commits.Goals as goal

-- ---- what the answers share

-- the byte that stands next
byte : (c : After-peek) → c.peek.result ≡ get_or c.args.text.now c.loop-index.lines.at 0
byte c = c.peek.ensures ∙ ap (λ (k : Cursor). get_or c.args.text.now k.at 0) c.next-cursor.ensures

-- where commits stand, the next one was taken
found : (c : After-take_commit) (all : List Commit) (rest : List ℕ) → AreGoodCommits c.args.cores (items_of c.args.traces.now) all → All IsNamed all → NextIsNot 99 rest
    → drop c.args.lines.now.at c.args.text.now ≡ lines_from commit_line_of 0 all ++ rest
    → (n : IsElementNext commit_line_of IsNamed c.args.text.now c.loop-index.lines.at c.loop-index.index c.loop-index.log all rest)
    × (c.take_commit.result ≡ Some n.here.one) × Leaves c.args.text.now c.next-cursor.result c.take_commit.new.cursor n.after
found c all rest good named other e =
    let n = next_by_byte commit_line_of IsNamed c.args.text.now c.loop-index.lines.at c.loop-index.index 99 c.loop-index.log all rest
    (c.loop-index.invariant.finds all rest good named other e) c.loop-index.invariant.count named other (sym (byte (goal.at.After-take_commit c).After-peek) ∙ c.if-peek-ne99.false) in
    let here : slice_get all (length c.loop-index.log) ≡ Some n.here.one =
    ap (λ (xs : List Commit). slice_get xs (length c.loop-index.log)) n.here.all_is ∙ slice_middle c.loop-index.log n.here.one n.here.more in
    let one_good : IsGoodCommit c.args.cores (items_of c.args.traces.now) c.loop-index.index n.here.one =
    subst (λ (k : ℕ). IsGoodCommit c.args.cores (items_of c.args.traces.now) k n.here.one) c.loop-index.invariant.count (good (length c.loop-index.log) n.here.one here) in
    let taken = c.take_commit.ensures.finds n.here.one n.after one_good n.good.strand n.good.item (begun_good c.next-cursor.result _ c.next-cursor.ensures) (begun_at c.args.text.now c.next-cursor.result _ _ c.next-cursor.ensures n.reads) in
    (n, taken.0, taken.1)

-- ---- the loop

pub loop-index-init : goal.loop-index-init
loop-index-init c = record {
  good = λ i commit e. absurd (none-some commit (ap (λ (xs : List Commit). slice_get xs i) (sym c.new-log.ensures) ∙ e));
  count = ap length c.new-log.ensures;
  low = omega arith;
  reads = start_read c.args.text.now c.args.lines.now.at commit_line_of c.new-log.result c.new-log.ensures;
  finds = λ all rest good named other e. left_start commit_line_of c.args.text.now c.args.lines.now.at c.new-log.result all rest c.new-log.ensures e;
}

pub loop-index-preserved : goal.loop-index-preserved
loop-index-preserved c =
    let longer : c.push.new.self ≡ c.loop-index.log ++ c.in-Some.commit ∷ [] = c.in_ok-push-in-Some.ensures.ok in
    let piece : List ℕ = commit_line_of c.loop-index.index c.in-Some.commit in
    let here : Reads c.args.text.now c.loop-index.lines.at c.went.new.self.at piece =
    reads_between c.args.text.now piece _ _ _ _ (ap (λ (k : Cursor). k.at) c.next-cursor.ensures) (sym c.went.ensures) c.in-Some.ensures.reads in
    record {
      good = commits_more c.args.cores (items_of c.args.traces.now) c.loop-index.log c.push.new.self c.in-Some.commit c.loop-index.index c.loop-index.invariant.good (sym c.loop-index.invariant.count) c.in-Some.ensures.good longer;
      count = omega (arith, ap length longer ∙ length-append c.loop-index.log (c.in-Some.commit ∷ []), c.loop-index.invariant.count);
      low = omega (arith, went_on c.args.text.now c.loop-index.lines.at c.went.new.self.at piece (commit_some c.loop-index.index c.in-Some.commit) here, c.loop-index.invariant.low);
      reads = one_more_read c.args.text.now c.args.lines.now.at c.loop-index.lines.at c.went.new.self.at commit_line_of c.loop-index.log c.in-Some.commit c.loop-index.index c.push.new.self
          c.loop-index.invariant.reads (sym c.loop-index.invariant.count) here longer;
      finds = λ all rest good named other e. (
          let f = found (goal.at.loop-index-preserved c).After-take_commit all rest good named other e in
          left_next commit_line_of c.args.text.now c.loop-index.lines.at c.went.new.self.at c.loop-index.log c.push.new.self all c.in-Some.commit rest f.0.here (sym (same_Some _ _ (sym c.in-Some.is ∙ f.1))) longer
          (ap (λ (k : ℕ). drop k c.args.text.now) c.went.ensures ∙ (f.2.rest_is ∙ f.0.after_is))
          );
    }

-- ---- another byte stands next

pub returns-then-peek-ne99-clause-finds : goal.returns-then-peek-ne99-clause-finds
returns-then-peek-ne99-clause-finds c = λ all rest good named other e.
    elim (left_cases commit_line_of c.args.text.now c.loop-index.lines.at c.loop-index.log all rest (c.loop-index.invariant.finds all rest good named other e)) [
      | inl none ↦ (sym none.0, none.1)
      | inr n ↦ absurd (c.if-peek-ne99.true (byte (goal.at.returns-then-peek-ne99-clause-finds c).After-peek ∙ (peeked c.args.text.now c.loop-index.lines.at _ n.rest_is ∙ commit_first _ n.one _)))
    ]

pub returns-then-peek-ne99-clause-leads : goal.returns-then-peek-ne99-clause-leads
returns-then-peek-ne99-clause-leads c = λ config image h cores.
    let so = c.loop-index.invariant in
    log_leads c.args.text.now c.args.lines.now.at c.loop-index.lines.at c.args.cores config image c.args.traces.now c.loop-index.log h cores so.good so.reads (λ first. c.if-peek-ne99.true (byte (goal.at.returns-then-peek-ne99-clause-leads c).After-peek ∙ first))

-- ---- a line was refused

pub returns-in-None-clause-finds : goal.returns-in-None-clause-finds
returns-in-None-clause-finds c = λ all rest good named other e.
    absurd (none-some _ (sym c.in-None.is ∙ (found (goal.at.returns-in-None-clause-finds c).After-take_commit all rest good named other e).1))

pub returns-in-None-clause-leads : goal.returns-in-None-clause-leads
returns-in-None-clause-leads c = λ config image h cores.
    let text : List ℕ = c.args.text.now in
    let at = c.loop-index.lines.at in
    let log : List Commit = c.loop-index.log in
    let so = c.loop-index.invariant in
    named text at (so_far config image c.args.traces.now [] log [] []) (line.Commit c.loop-index.index) _
    (log_stands text c.args.lines.now.at at c.args.cores config image c.args.traces.now log h cores so.good so.reads)
    (by_letter text at _ [] (line.Commit c.loop-index.index) (h.all, sym so.count, refl, refl) (sym (byte (goal.at.returns-in-None-clause-leads c).After-peek) ∙ c.if-peek-ne99.false)
    (λ one rest g e. (
    let good : IsGoodCommit c.args.cores (items_of c.args.traces.now) c.loop-index.index g.0 = subst (λ (n : ℕ). IsGoodCommit n (items_of c.args.traces.now) c.loop-index.index g.0) (sym cores) g.1 in
    let stands = begun_at text c.next-cursor.result at _ c.next-cursor.ensures (e ∙ ap (λ (t : List ℕ). t ++ rest) g.3) in
    none-some g.0 (c.in-None.ensures.finds g.0 rest good g.2.strand g.2.item (begun_good c.next-cursor.result at c.next-cursor.ensures) stands).0
    )))
    c.fault.ensures

-- ---- the text ends

pub returns-clause-finds : goal.returns-clause-finds
returns-clause-finds c = λ all rest good named other e.
    absurd (not_past commit_line_of c.args.text.now c.loop-index.lines.at c.loop-index.log all rest (c.loop-index.invariant.finds all rest good named other e) other.some
    (omega (arith, c.loop-index.invariant.low, c.loop-index-test.false)))

pub returns-clause-leads : goal.returns-clause-leads
returns-clause-leads c = λ config image h cores.
    let so = c.loop-index.invariant in
    log_leads c.args.text.now c.args.lines.now.at c.loop-index.lines.at c.args.cores config image c.args.traces.now c.loop-index.log h cores so.good so.reads
    (at_end_of_text c.args.text.now c.loop-index.lines.at 99 (omega (arith, so.low, c.loop-index-test.false)) (omega arith))
