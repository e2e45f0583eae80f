use Rattle.std.proofs.Common.{◌≡◌, ◌∙◌, ◌*◌, ◌^◌, ◌≤◌, ◌++◌, ◌∷◌, ℕ, List, [], length, drop, All, inl, inr, ap, sym, subst, arith}
use Rattle.std.proofs.lemmas.List.{length-append}
use Rattle.std.proofs.lemmas.List.Elements.{All-push}
use Rattle.std.proofs.lemmas.Result.{err_from_is_err_and}
use Rattle.t1_event.specs.declared.trace.Trace.{Trace}
use Rattle.t1_event.specs.declared.report.Config.{Config}
use Rattle.t1_log.specs.Texts.{lines_from}
use Rattle.t1_log.specs.Log.{trace_lines_of}
use Rattle.t1_take.specs.Items.{IsGoodTrace}
use Rattle.t1_take.proofs.ListTexts.{all_none, start_read, one_more_read}
use Rattle.t1_take.proofs.Leaving.{left_start, left_cases, left_next, longer_than}
use Rattle.t1_read.specs.Faults.{IsOpen}
use Rattle.t1_read.specs.Standing.{HasTraces}
use Rattle.t1_read.proofs.ElementsFound.{IsElementNext, next_by_count}
use Rattle.t1_read.proofs.strands.read_strands.Goals.{After-read_strand}
use Rattle.t1_read.proofs.strands.read_strands.Goals as goal

-- ---- what the answers share

-- where strands stand, the next one stood before it was read
strand_next : (c : After-read_strand) (all : List Trace) (rest : List ℕ) → c.args.ram ≤ 2 ^ 40 → All (IsGoodTrace c.args.ram) all → length all ≡ c.args.strands
    → drop c.args.lines.now.at c.args.text.now ≡ lines_from trace_lines_of 0 all ++ rest
    → IsElementNext trace_lines_of (IsGoodTrace c.args.ram) c.args.text.now c.loop-strand.lines.at c.loop-strand.strand c.loop-strand.traces all rest
strand_next c all rest small good count e =
    next_by_count trace_lines_of (IsGoodTrace c.args.ram) c.args.text.now c.loop-strand.lines.at c.loop-strand.strand c.loop-strand.traces all rest
    (c.loop-strand.invariant.finds all rest small good count e) c.loop-strand.invariant.count good (omega (arith, count, c.loop-strand-test.true))

-- it is one of the machine's
is_open : (c : After-read_strand) (config : Config) → c.args.strands ≡ config.cores * config.strands → IsOpen config c.loop-strand.traces
is_open c config strands_are = omega (arith, c.loop-strand.invariant.count, c.loop-strand-test.true, strands_are)

-- ---- the loop

pub loop-strand-init : goal.loop-strand-init
loop-strand-init c = record {
  good = all_none (IsGoodTrace c.args.ram) c.new-traces.result c.new-traces.ensures;
  count = ap length c.new-traces.ensures;
  reads = start_read c.args.text.now c.args.lines.now.at trace_lines_of c.new-traces.result c.new-traces.ensures;
  finds = λ all rest small good count e. left_start trace_lines_of c.args.text.now c.args.lines.now.at c.new-traces.result all rest c.new-traces.ensures e;
  leads = λ config image h strands_are ram_is. subst (λ (ts : List Trace). HasTraces c.args.text.now c.args.lines.now.at config image ts) (sym c.new-traces.ensures) h;
}

pub loop-strand-preserved : goal.loop-strand-preserved
loop-strand-preserved c =
    let trace = c.in_ok-read_strand.field-0 in
    let longer : c.push.new.self ≡ c.loop-strand.traces ++ trace ∷ [] = c.in_ok-push.ensures.ok in
    record {
      good = subst (All (IsGoodTrace c.args.ram)) (sym longer) (All-push (IsGoodTrace c.args.ram) c.loop-strand.traces trace c.loop-strand.invariant.good c.in_ok-read_strand.ensures.good);
      count = omega (arith, ap length longer ∙ length-append c.loop-strand.traces (trace ∷ []), c.loop-strand.invariant.count);
      reads = one_more_read c.args.text.now c.args.lines.now.at c.loop-strand.lines.at c.read_strand.new.lines.at trace_lines_of c.loop-strand.traces trace c.loop-strand.strand c.push.new.self
          c.loop-strand.invariant.reads (sym c.loop-strand.invariant.count) c.in_ok-read_strand.ensures.reads longer;
      finds = λ all rest small good count e. (
          let n = strand_next (goal.at.loop-strand-preserved c).After-read_strand all rest small good count e in
          let found = c.in_ok-read_strand.ensures.finds n.here.one n.after small n.good n.reads in
          left_next trace_lines_of c.args.text.now c.loop-strand.lines.at c.read_strand.new.lines.at c.loop-strand.traces c.push.new.self all trace rest n.here (sym found.0) longer (found.1 ∙ n.after_is)
          );
      leads = λ config image h strands_are ram_is. (
          let before = c.loop-strand.invariant.leads config image h strands_are ram_is in
          let after = c.in_ok-read_strand.ensures.leads config image c.loop-strand.traces before (is_open (goal.at.loop-strand-preserved c).After-read_strand config strands_are) (sym c.loop-strand.invariant.count) ram_is in
          subst (λ (ts : List Trace). HasTraces c.args.text.now c.read_strand.new.lines.at config image ts) (sym longer) after
          );
    }

-- ---- a strand was refused

pub returns-in_err-read_strand-clause-finds : goal.returns-in_err-read_strand-clause-finds
returns-in_err-read_strand-clause-finds c = λ all rest small good count e.
    let n = strand_next (goal.at.returns-in_err-read_strand-clause-finds c).After-read_strand all rest small good count e in
    let p = err_from_is_err_and c.from_residual.result c.from_residual.ensures.1 in
    rw (p.1, p.2) (c.in_err-read_strand.ensures.finds n.here.one n.after small n.good n.reads)

pub returns-in_err-read_strand-clause-leads : goal.returns-in_err-read_strand-clause-leads
returns-in_err-read_strand-clause-leads c = λ config image h strands_are ram_is.
    let before = c.loop-strand.invariant.leads config image h strands_are ram_is in
    let o = is_open (goal.at.returns-in_err-read_strand-clause-leads c).After-read_strand config strands_are in
    let p = err_from_is_err_and c.from_residual.result c.from_residual.ensures.1 in
    rw (p.1, p.2) (c.in_err-read_strand.ensures.leads config image c.loop-strand.traces before o (sym c.loop-strand.invariant.count) ram_is)

-- ---- all were read

pub returns-clause-finds : goal.returns-clause-finds
returns-clause-finds c = λ all rest small good count e.
    let so = c.loop-strand.invariant.finds all rest small good count e in
    elim (left_cases trace_lines_of c.args.text.now c.loop-strand.lines.at c.loop-strand.traces all rest so) [
      | inl none ↦ (sym none.0, none.1)
      | inr n ↦ absurd (let l = longer_than c.loop-strand.traces all n.one n.more n.all_is in omega (arith, l, count, c.loop-strand.invariant.count, c.loop-strand-test.false))
    ]

pub returns-clause-leads : goal.returns-clause-leads
returns-clause-leads c = λ config image h strands_are ram_is.
    let before = c.loop-strand.invariant.leads config image h strands_are ram_is in
    record { stands = before.stands; all = omega (arith, c.loop-strand.invariant.count, c.loop-strand-test.false, c.loop-strand.auto.strand-end, strands_are) }
