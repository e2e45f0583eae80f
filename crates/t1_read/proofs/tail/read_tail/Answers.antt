use Rattle.std.proofs.Common.{◌≡◌, ◌∙◌, ◌++◌, ◌*◌, ℕ, List, drop, All, refl, ap, sym, subst}
use Rattle.std.proofs.lemmas.Result.{err_from_is_err_and}
use Rattle.t1_num.specs.MemoryLaws.{AreBytes}
use Rattle.t1_elf.specs.declared.object.Image.{Image}
use Rattle.t1_event.specs.declared.commit.Commit.{Commit}
use Rattle.t1_event.specs.declared.report.Place.{Place}
use Rattle.t1_log.specs.Lines.{end_line}
use Rattle.t1_log.specs.Texts.{lines_from, order_lines_of}
use Rattle.t1_log.specs.Log.{commit_line_of, console_lines_of}
use Rattle.t1_take.specs.WellFormed.{IsNamed, IsGoodPlace}
use Rattle.t1_read.specs.Standing.{IsGoodTail, HasStrands, HasOrder, tail_text}
use Rattle.t1_read.proofs.ReportsFound.{after_console_next}
use Rattle.t1_read.proofs.TailFound.{log_next, order_next}
use Rattle.t1_read.proofs.tail.read_tail.Goals.{After-from-2, In_ok-log, In_ok-order, In_ok-console}
use Rattle.t1_read.proofs.tail.read_tail.Goals as goal

-- ---- what the answers share

strands_are : (c : After-from-2) → c.from.result * c.from-2.result ≡ c.args.config.now.cores * c.args.config.now.strands
strands_are c = ap (λ (n : ℕ). n * c.from-2.result) c.from.ensures ∙ ap (λ (n : ℕ). c.args.config.now.cores * n) c.from-2.ensures

-- where the lines behind the strands stand, the commits were read, then the memory order, then the console
log_found : (c : In_ok-log) (log : List Commit) (order : List Place) (console : List ℕ) → IsGoodTail c.args.config.now c.args.traces.now log order → All IsNamed log
    → drop c.args.lines.now.at c.args.text.now ≡ tail_text log order console
    → (c.in_ok-log.log ≡ log) × (drop c.read_commits.new.lines.at c.args.text.now ≡ order_lines_of order ++ (console_lines_of console ++ end_line))
log_found c log order console good named e = c.in_ok-log.ensures.finds log _ good.log_is named (log_next c.args.config.now order console) e

-- a memory order of these strands
order_good : (c : After-from-2) (log : List Commit) (order : List Place) → IsGoodTail c.args.config.now c.args.traces.now log order → All (IsGoodPlace (c.from.result * c.from-2.result)) order
order_good c log order good = subst (λ (n : ℕ). All (IsGoodPlace n) order) (sym (strands_are c)) good.order_is

order_found : (c : In_ok-order) (log : List Commit) (order : List Place) (console : List ℕ) → IsGoodTail c.args.config.now c.args.traces.now log order → All IsNamed log
    → drop c.args.lines.now.at c.args.text.now ≡ tail_text log order console → (c.in_ok-order.order ≡ order) × (drop c.read_order.new.lines.at c.args.text.now ≡ console_lines_of console ++ end_line)
order_found c log order console good named e =
    let at = goal.at.In_ok-order c in
    c.in_ok-order.ensures.finds order _ (order_good at.After-from-2 log order good) (order_next c.args.config.now order console) (log_found at.In_ok-log log order console good named e).1

console_found : (c : In_ok-console) (log : List Commit) (order : List Place) (console : List ℕ) → IsGoodTail c.args.config.now c.args.traces.now log order → All IsNamed log → AreBytes console
    → drop c.args.lines.now.at c.args.text.now ≡ tail_text log order console → (c.in_ok-console.console ≡ console) × (drop c.read_console.new.lines.at c.args.text.now ≡ end_line)
console_found c log order console good named bytes e =
    c.in_ok-console.ensures.finds console end_line bytes after_console_next (order_found (goal.at.In_ok-console c).In_ok-order log order console good named e).1

-- what was read so far stands
has_order : (c : In_ok-order) (image : Image) → HasStrands c.args.text.now c.args.lines.now.at c.args.config.now image c.args.traces.now
    → HasOrder c.args.text.now c.read_order.new.lines.at c.args.config.now image c.args.traces.now c.in_ok-log.log c.in_ok-order.order
has_order c image h =
    let log = c.in_ok-log.ensures.leads c.args.config.now image h refl in
    c.in_ok-order.ensures.leads c.args.config.now image c.args.traces.now _ log (strands_are (goal.at.In_ok-order c).After-from-2)

-- ---- all was read

pub returns-clause-good : goal.returns-clause-good
returns-clause-good c = (
  record {
    log_is = c.in_ok-log.ensures.good.0;
    order_is = subst (λ (n : ℕ). All (IsGoodPlace n) c.in_ok-order.order) (strands_are (goal.at.returns-clause-good c).After-from-2) c.in_ok-order.ensures.good;
  },
  c.in_ok-log.ensures.good.1,
)

pub returns-clause-reads : goal.returns-clause-reads
returns-clause-reads c =
    c.in_ok-log.ensures.reads
    ∙ ap (λ (t : List ℕ). lines_from commit_line_of 0 c.in_ok-log.log ++ t)
    (c.in_ok-order.ensures.reads
    ∙ ap (λ (t : List ℕ). order_lines_of c.in_ok-order.order ++ t)
    (c.in_ok-console.ensures.reads ∙ ap (λ (t : List ℕ). console_lines_of c.in_ok-console.console ++ t) c.in_ok-read_end.ensures.is))

pub returns-clause-finds : goal.returns-clause-finds
returns-clause-finds c = λ log order console good named bytes e.
    let at = goal.at.returns-clause-finds c in
    ((log_found at.In_ok-log log order console good named e).0, (order_found at.In_ok-order log order console good named e).0, (console_found at.In_ok-console log order console good named bytes e).0)

-- ---- a part was refused

pub returns-in_err-log-clause-finds : goal.returns-in_err-log-clause-finds
returns-in_err-log-clause-finds c = λ log order console good named bytes e.
    let p = err_from_is_err_and c.from_residual.result c.from_residual.ensures.1 in
    rw (p.1, p.2) (c.in_err-log.ensures.finds log _ good.log_is named (log_next c.args.config.now order console) e)

pub returns-in_err-log-clause-leads : goal.returns-in_err-log-clause-leads
returns-in_err-log-clause-leads c = λ image h.
    let p = err_from_is_err_and c.from_residual.result c.from_residual.ensures.1 in
    rw (p.1, p.2) (c.in_err-log.ensures.leads c.args.config.now image h refl)

pub returns-in_err-order-clause-finds : goal.returns-in_err-order-clause-finds
returns-in_err-order-clause-finds c = λ log order console good named bytes e.
    let at = goal.at.returns-in_err-order-clause-finds c in
    let p = err_from_is_err_and c.from_residual-in_err-order.result c.from_residual-in_err-order.ensures.1 in
    rw (p.1, p.2) (c.in_err-order.ensures.finds order _ (order_good at.After-from-2 log order good) (order_next c.args.config.now order console) (log_found at.In_ok-log log order console good named e).1)

pub returns-in_err-order-clause-leads : goal.returns-in_err-order-clause-leads
returns-in_err-order-clause-leads c = λ image h.
    let log = c.in_ok-log.ensures.leads c.args.config.now image h refl in
    let p = err_from_is_err_and c.from_residual-in_err-order.result c.from_residual-in_err-order.ensures.1 in
    rw (p.1, p.2) (c.in_err-order.ensures.leads c.args.config.now image c.args.traces.now _ log (strands_are (goal.at.returns-in_err-order-clause-leads c).After-from-2))

pub returns-in_err-console-clause-finds : goal.returns-in_err-console-clause-finds
returns-in_err-console-clause-finds c = λ log order console good named bytes e.
    let order_is = order_found (goal.at.returns-in_err-console-clause-finds c).In_ok-order log order console good named e in
    let p = err_from_is_err_and c.from_residual-in_err-console.result c.from_residual-in_err-console.ensures.1 in
    rw (p.1, p.2) (c.in_err-console.ensures.finds console end_line bytes after_console_next order_is.1)

pub returns-in_err-console-clause-leads : goal.returns-in_err-console-clause-leads
returns-in_err-console-clause-leads c = λ image h.
    let order = has_order (goal.at.returns-in_err-console-clause-leads c).In_ok-order image h in
    let p = err_from_is_err_and c.from_residual-in_err-console.result c.from_residual-in_err-console.ensures.1 in
    rw (p.1, p.2) (c.in_err-console.ensures.leads c.args.config.now image c.args.traces.now _ _ order)

pub returns-in_err-read_end-clause-finds : goal.returns-in_err-read_end-clause-finds
returns-in_err-read_end-clause-finds c = λ log order console good named bytes e.
    let console_is = console_found (goal.at.returns-in_err-read_end-clause-finds c).In_ok-console log order console good named bytes e in
    let p = err_from_is_err_and c.from_residual-in_err-read_end.result c.from_residual-in_err-read_end.ensures.1 in
    rw (p.1, p.2) (c.in_err-read_end.ensures.finds console_is.1)

pub returns-in_err-read_end-clause-leads : goal.returns-in_err-read_end-clause-leads
returns-in_err-read_end-clause-leads c = λ image h.
    let order = has_order (goal.at.returns-in_err-read_end-clause-leads c).In_ok-order image h in
    let console = c.in_ok-console.ensures.leads c.args.config.now image c.args.traces.now _ _ order in
    let p = err_from_is_err_and c.from_residual-in_err-read_end.result c.from_residual-in_err-read_end.ensures.1 in
    rw (p.1, p.2) (c.in_err-read_end.ensures.leads c.args.config.now image c.args.traces.now _ _ _ console)
