use Rattle.std.proofs.Common.{◌≡◌, ◌∙◌, ◌++◌, ℕ, List, [], true, false, take, drop, get_or, length, inl, inr, ap, sym, subst, arith}
use Rattle.std.proofs.lemmas.Bool.{eqb-true, eq-eqb}
use Rattle.t1_num.specs.MemoryLaws.{AreBytes}
use Rattle.t1_log.specs.Log.{console_line_of, console_lines_of}
use Rattle.t1_take.specs.declared.cursor.Cursor.{Cursor}
use Rattle.t1_take.specs.Taken.{Reads, Leaves}
use Rattle.t1_take.proofs.ListTexts.{reads_between}
use Rattle.t1_take.proofs.ConsoleTexts.{no_run, one_more_run, whole_more}
use Rattle.t1_take.proofs.Leaving.{begun_good, begun_at, peeked}
use Rattle.t1_read.proofs.ConsoleFound.{ConsoleNext, console_start, console_cases, console_over, console_next, console_bytes, console_few, console_first, console_some}
use Rattle.t1_line_forms.specs.declared.line.Line.TheVariants as line
use Rattle.t1_read.specs.Exact.{NextIsNot}
use Rattle.t1_read.specs.Standing.{so_far}
use Rattle.t1_read.proofs.Judging.{named, by_letter}
use Rattle.t1_read.proofs.Places.{went_on, at_end_of_text, nothing_past}
use Rattle.t1_read.proofs.TailStands.{console_stands, console_leads, short_past, no_bytes_are, more_bytes_are, short_more}
use Rattle.t1_read.proofs.tail.read_console.Goals.{After-peek, After-take_console-bytes}
use Rattle.t1_read.proofs.tail.read_console.Goals as goal

-- ---- what the answers share

-- the byte that stands next
byte : (c : After-peek) → c.peek.result ≡ get_or c.args.text.now c.loop-line.lines.at 0
byte c = c.peek.ensures ∙ ap (λ (k : Cursor). get_or c.args.text.now k.at 0) c.next-cursor.ensures

-- where a console stands, its next line was taken
found : (c : After-take_console-bytes) (all rest : List ℕ) → AreBytes all → NextIsNot 107 rest → drop c.args.lines.now.at c.args.text.now ≡ console_lines_of all ++ rest
    → (n : ConsoleNext c.args.text.now c.loop-line.lines.at c.loop-line.console all rest)
    × (c.take_console-bytes.result.items ≡ take 32 n.left) × Leaves c.args.text.now c.next-cursor.result c.take_console-bytes.new.cursor (console_lines_of (drop 32 n.left) ++ rest)
found c all rest bytes other e =
    elim (console_cases c.args.text.now c.loop-line.lines.at c.loop-line.console all rest c.loop-line.full (c.loop-line.invariant.finds all rest bytes other e)) [
      | inl none ↦ absurd (other.other (sym (peeked c.args.text.now c.loop-line.lines.at rest none.1) ∙ (sym (byte (goal.at.After-take_console-bytes c).After-peek) ∙ c.if-peek-ne107.false)))
      | inr n ↦
          let few = console_few n.left n.some in
          let taken = c.take_console-bytes.ensures.finds (take 32 n.left) (console_lines_of (drop 32 n.left) ++ rest) few.0 few.1 (console_bytes c.loop-line.console n.left all bytes n.all_is)
          (begun_at c.args.text.now c.next-cursor.result _ _ c.next-cursor.ensures n.rest_is) in
          (n, taken.0, taken.1)
    ]

-- ---- the loop

pub loop-line-init : goal.loop-line-init
loop-line-init c = record {
  whole = λ _. omega (arith, ap length c.new-console.ensures);
  short = λ f. absurd (let bad : true ≡ false = f in cc);
  bytes = no_bytes_are c.new-console.result c.new-console.ensures;
  low = omega arith;
  reads = no_run c.args.text.now c.args.lines.now.at c.new-console.result c.new-console.ensures;
  finds = λ all rest bytes other e. console_start c.args.text.now c.args.lines.now.at c.new-console.result all rest c.new-console.ensures e;
}

pub loop-line-preserved : goal.loop-line-preserved
loop-line-preserved c =
    let text : List ℕ = c.args.text.now in
    let bs : List ℕ = c.take_console-bytes.result.items in
    let run = c.take_console-bytes.ensures in
    let longer : c.append.new.console ≡ c.loop-line.console ++ bs = c.in_ok-append.ensures ∙ ap (λ (x : List ℕ). c.loop-line.console ++ x) c.as_slice-in-loop-line.ensures.value in
    let whole = c.loop-line.invariant.whole c.if-not-full.false in
    let here : Reads text c.loop-line.lines.at c.went.new.self.at (console_line_of 0 bs) =
    reads_between text (console_line_of 0 bs) _ _ _ _ (ap (λ (k : Cursor). k.at) c.next-cursor.ensures) (sym c.went.ensures) (run.takes.reads (sym c.is_good.ensures ∙ c.if-not-is_good.false)) in
    record {
      whole = λ full. whole_more c.loop-line.console bs c.append.new.console c.len-full.result whole longer c.len-full.ensures.value (eqb-true c.len-full.result 32 full);
      short = λ f. short_more c.loop-line.console bs c.append.new.console c.len-full.result whole run.some run.few longer c.len-full.ensures.value (λ e. (let bad : true ≡ false = sym (eq-eqb c.len-full.result 32 e) ∙ f in cc));
      bytes = more_bytes_are c.loop-line.console bs c.append.new.console c.loop-line.invariant.bytes (subst AreBytes c.as_slice.ensures.value c.are_bytes.ensures) longer;
      low = omega (arith, went_on text c.loop-line.lines.at c.went.new.self.at (console_line_of 0 bs) (console_some bs) here, c.loop-line.invariant.low);
      reads = one_more_run text c.args.lines.now.at c.loop-line.lines.at c.went.new.self.at c.loop-line.console bs c.append.new.console c.loop-line.invariant.reads whole run.some run.few here longer;
      finds = λ all rest bytes other e. (
          let f = found (goal.at.loop-line-preserved c).After-take_console-bytes all rest bytes other e in
          console_next text c.loop-line.lines.at c.went.new.self.at c.loop-line.console c.append.new.console all rest bs c.len-full.result f.0 f.1 longer c.len-full.ensures.value (ap (λ (k : ℕ). drop k text) c.went.ensures ∙ f.2.rest_is)
          );
    }

-- ---- the last line was not full

pub returns-then-not-full-clause-finds : goal.returns-then-not-full-clause-finds
returns-then-not-full-clause-finds c = λ all rest bytes other e.
    let over = console_over c.args.text.now c.loop-line.lines.at c.loop-line.console all rest c.loop-line.full (c.loop-line.invariant.finds all rest bytes other e) c.if-not-full.true in
    (sym over.0, over.1)

pub returns-then-not-full-clause-leads : goal.returns-then-not-full-clause-leads
returns-then-not-full-clause-leads c = λ config image traces log order h.
    let so = c.loop-line.invariant in
    console_leads c.args.text.now c.args.lines.now.at c.loop-line.lines.at config image traces log order c.loop-line.console h so.bytes so.reads
    (short_past c.args.text.now c.loop-line.lines.at config image traces log order c.loop-line.console (so.short c.if-not-full.true))

-- ---- another byte stands next

pub returns-then-peek-ne107-clause-finds : goal.returns-then-peek-ne107-clause-finds
returns-then-peek-ne107-clause-finds c = λ all rest bytes other e.
    elim (console_cases c.args.text.now c.loop-line.lines.at c.loop-line.console all rest c.loop-line.full (c.loop-line.invariant.finds all rest bytes other e)) [
      | inl none ↦ (sym none.0, none.1)
      | inr n ↦ absurd (c.if-peek-ne107.true (byte (goal.at.returns-then-peek-ne107-clause-finds c).After-peek ∙ (peeked c.args.text.now c.loop-line.lines.at _ n.rest_is ∙ console_first (take 32 n.left) _)))
    ]

pub returns-then-peek-ne107-clause-leads : goal.returns-then-peek-ne107-clause-leads
returns-then-peek-ne107-clause-leads c = λ config image traces log order h.
    let so = c.loop-line.invariant in
    console_leads c.args.text.now c.args.lines.now.at c.loop-line.lines.at config image traces log order c.loop-line.console h so.bytes so.reads
    (λ kind f l first. c.if-peek-ne107.true (byte (goal.at.returns-then-peek-ne107-clause-leads c).After-peek ∙ first))

-- ---- a line was refused

pub returns-then-not-is_good-clause-finds : goal.returns-then-not-is_good-clause-finds
returns-then-not-is_good-clause-finds c = λ all rest bytes other e.
    let f = found (goal.at.returns-then-not-is_good-clause-finds c).After-take_console-bytes all rest bytes other e in
    absurd (let bad : true ≡ false = sym (f.2.good (begun_good c.next-cursor.result _ c.next-cursor.ensures)) ∙ (sym c.is_good.ensures ∙ c.if-not-is_good.true) in cc)

pub returns-then-not-is_good-clause-leads : goal.returns-then-not-is_good-clause-leads
returns-then-not-is_good-clause-leads c = λ config image traces log order h.
    let text : List ℕ = c.args.text.now in
    let at = c.loop-line.lines.at in
    let console : List ℕ = c.loop-line.console in
    let so = c.loop-line.invariant in
    named text at (so_far config image traces [] log order console) line.Console _ (console_stands text c.args.lines.now.at at config image traces log order console h so.bytes so.reads)
    (by_letter text at _ [] line.Console (h.all, so.whole c.if-not-full.false) (sym (byte (goal.at.returns-then-not-is_good-clause-leads c).After-peek) ∙ c.if-peek-ne107.false)
    (λ one rest g e. (
    let stands = begun_at text c.next-cursor.result at _ c.next-cursor.ensures (e ∙ ap (λ (t : List ℕ). t ++ rest) g.4) in
    let found = c.take_console-bytes.ensures.finds g.0 rest g.1 g.2 g.3 stands in
    let bad : true ≡ false = sym (found.1.good (begun_good c.next-cursor.result at c.next-cursor.ensures)) ∙ (sym c.is_good.ensures ∙ c.if-not-is_good.true) in
    cc
    )))
    c.fault.ensures

-- ---- the text ends

pub returns-clause-finds : goal.returns-clause-finds
returns-clause-finds c = λ all rest bytes other e.
    let so = c.loop-line.invariant.finds all rest bytes other e in
    absurd (nothing_past c.args.text.now c.loop-line.lines.at _ rest so.rest_is other.some (omega (arith, c.loop-line.invariant.low, c.loop-line-test.false)))

pub returns-clause-leads : goal.returns-clause-leads
returns-clause-leads c = λ config image traces log order h.
    let so = c.loop-line.invariant in
    console_leads c.args.text.now c.args.lines.now.at c.loop-line.lines.at config image traces log order c.loop-line.console h so.bytes so.reads
    (λ kind f l. at_end_of_text c.args.text.now c.loop-line.lines.at 107 (omega (arith, so.low, c.loop-line-test.false)) (omega arith))
