use Rattle.std.proofs.Common.{◌≡◌, ◌∙◌, ◌*◌, ℕ, length, drop, ap, sym}
use Rattle.std.proofs.lemmas.Result.{err_from_is_err_and}
use Rattle.t1_event.specs.declared.report.Report.{Report}
use Rattle.t1_log.specs.Log.{text_of}
use Rattle.t1_take.specs.WellFormed.{IsWellFormed}
use Rattle.t1_read.specs.Exact.{HasBytes}
use Rattle.t1_read.specs.Standing.{IsGoodTail}
use Rattle.t1_read.proofs.Whole.{whole_text}
use Rattle.t1_read.proofs.ReportsFound.{AreStrandsOf, after_image, after_traces, text_parts, after_image_next, named_all, head_good, strands_good, tail_good}
use Rattle.t1_read.proofs.reader.read_log.Goals.{In_ok-config, After-from-2, In_ok-traces, After-as_slice}
use Rattle.t1_read.proofs.reader.read_log.Goals as goal

-- ---- what the answers share

-- where the log of a report stands, its head was read
head_found : (c : In_ok-config) (report : Report) → IsWellFormed report → HasBytes report → c.args.text.now ≡ text_of report
    → (c.in_ok-config.field-0.config ≡ report.config) × (c.in_ok-config.field-0.image ≡ report.image) × (drop c.read_head.new.lines.at c.args.text.now ≡ after_image report)
head_found c report w bytes e = c.in_ok-config.ensures.finds report.config report.image (after_image report) (head_good report w) bytes.image (after_image_next report w) (e ∙ text_parts report)

-- as many strands are to be read as the report has
strands_found : (c : After-from-2) (report : Report) → IsWellFormed report → HasBytes report → c.args.text.now ≡ text_of report
    → AreStrandsOf report c.in_ok-config.field-0.config × (length report.traces ≡ c.from.result * c.from-2.result)
strands_found c report w bytes e =
    let head = head_found (goal.at.After-from-2 c).In_ok-config report w bytes e in
    let strands = strands_good report c.in_ok-config.field-0.config w head.0 in
    let count : c.from.result * c.from-2.result ≡ c.in_ok-config.field-0.config.cores * c.in_ok-config.field-0.config.strands =
    ap (λ (n : ℕ). n * c.from-2.result) c.from.ensures ∙ ap (λ (n : ℕ). c.in_ok-config.field-0.config.cores * n) c.from-2.ensures in
    (strands, strands.number ∙ sym count)

traces_found : (c : In_ok-traces) (report : Report) → IsWellFormed report → HasBytes report → c.args.text.now ≡ text_of report
    → (c.in_ok-traces.traces ≡ report.traces) × (drop c.read_strands.new.lines.at c.args.text.now ≡ after_traces report)
traces_found c report w bytes e =
    let head = head_found (goal.at.In_ok-traces c).In_ok-config report w bytes e in
    let strands = strands_found (goal.at.In_ok-traces c).After-from-2 report w bytes e in
    c.in_ok-traces.ensures.finds report.traces (after_traces report) strands.0.room strands.0.good strands.1 head.2

-- what is to be read behind the strands is good for those that were read
tail_found : (c : After-as_slice) (report : Report) → IsWellFormed report → HasBytes report → c.args.text.now ≡ text_of report
    → IsGoodTail c.in_ok-config.field-0.config c.as_slice.result.now report.log report.order × (drop c.read_strands.new.lines.at c.args.text.now ≡ after_traces report)
tail_found c report w bytes e =
    let head = head_found (goal.at.After-as_slice c).In_ok-config report w bytes e in
    let traces = traces_found (goal.at.After-as_slice c).In_ok-traces report w bytes e in
    (tail_good report c.in_ok-config.field-0.config c.as_slice.result.now w head.0 (c.as_slice.ensures ∙ traces.0), traces.1)

-- ---- the whole was read

pub returns-clause-text : goal.returns-clause-text
returns-clause-text c = whole_text c.args.text.now c.read_head.new.lines.at c.read_strands.new.lines.at _ c.in_ok-config.ensures.reads c.in_ok-traces.ensures.reads c.in_ok-log.ensures.reads

pub returns-clause-exact : goal.returns-clause-exact
returns-clause-exact c = λ report w bytes e.
    let head = head_found (goal.at.returns-clause-exact c).In_ok-config report w bytes e in
    let traces = traces_found (goal.at.returns-clause-exact c).In_ok-traces report w bytes e in
    let asked = tail_found (goal.at.returns-clause-exact c).After-as_slice report w bytes e in
    let tail = c.in_ok-log.ensures.finds report.log report.order report.console asked.0 (named_all report w) bytes.console asked.1 in
    λ i. record { config = head.0 i; image = head.1 i; traces = traces.0 i; log = tail.0 i; order = tail.1 i; console = tail.2 i }

-- ---- a part was refused

pub returns-in_err-config-clause-exact : goal.returns-in_err-config-clause-exact
returns-in_err-config-clause-exact c = λ report w bytes e.
    let head = c.in_err-config.ensures.finds report.config report.image (after_image report) (head_good report w) bytes.image (after_image_next report w) (e ∙ text_parts report) in
    let p = err_from_is_err_and c.from_residual.result c.from_residual.ensures.1 in
    rw (p.1, p.2) head

pub returns-in_err-traces-clause-exact : goal.returns-in_err-traces-clause-exact
returns-in_err-traces-clause-exact c = λ report w bytes e.
    let head = head_found (goal.at.returns-in_err-traces-clause-exact c).In_ok-config report w bytes e in
    let strands = strands_found (goal.at.returns-in_err-traces-clause-exact c).After-from-2 report w bytes e in
    let p = err_from_is_err_and c.from_residual-in_err-traces.result c.from_residual-in_err-traces.ensures.1 in
    rw (p.1, p.2) (c.in_err-traces.ensures.finds report.traces (after_traces report) strands.0.room strands.0.good strands.1 head.2)

pub returns-in_err-log-clause-exact : goal.returns-in_err-log-clause-exact
returns-in_err-log-clause-exact c = λ report w bytes e.
    let asked = tail_found (goal.at.returns-in_err-log-clause-exact c).After-as_slice report w bytes e in
    let p = err_from_is_err_and c.from_residual-in_err-log.result c.from_residual-in_err-log.ensures.1 in
    rw (p.1, p.2) (c.in_err-log.ensures.finds report.log report.order report.console asked.0 (named_all report w) bytes.console asked.1)
