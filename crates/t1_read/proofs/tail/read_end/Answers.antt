use Rattle.std.proofs.Common.{◌≡◌, ◌∙◌, ◌++◌, ◌<◌, ℕ, List, [], true, false, length, drop, inl, inr, ap, sym, arith}
use Rattle.std.proofs.lemmas.Bool.{cases_lt}
use Rattle.std.proofs.lemmas.List.{length-append, length-drop}
use Rattle.t1_log.specs.Lines.{end_line}
use Rattle.t1_line_forms.specs.declared.line.Line.TheVariants as line
use Rattle.t1_take.specs.declared.cursor.Cursor.{Cursor}
use Rattle.t1_take.proofs.Leaving.{begun_good, begun_at}
use Rattle.t1_read.specs.Faults.{text_so_far, GoesOn}
use Rattle.t1_read.specs.Standing.{so_far}
use Rattle.t1_read.proofs.Judging.{named, at_last}
use Rattle.t1_read.proofs.tail.read_end.Goals as goal

pub returns-else-lines-text-clause-finds : goal.returns-else-lines-text-clause-finds
returns-else-lines-text-clause-finds c = λ e.
    let begun : c.next-cursor.result.at ≡ c.args.lines.now.at = ap (λ (k : Cursor). k.at) c.next-cursor.ensures in
    let left = c.word.ensures.finds (omega arith) [] (begun_at c.args.text.now c.next-cursor.result c.args.lines.now.at _ c.next-cursor.ensures e) in
    let all : length (drop c.args.lines.now.at c.args.text.now) ≡ 4 = ap length e in
    let none : length (drop c.word.new.self.at c.args.text.now) ≡ 0 = ap length left.rest_is in
    let n = length-drop c.args.lines.now.at c.args.text.now in
    let m = length-drop c.word.new.self.at c.args.text.now in
    let went = c.went.ensures in
    absurd (elim c.word.ensures.moves [
      | inl same ↦ omega (arith, same, begun, all, none, n, m)
      | inr on ↦ c.if-lines-text.false (omega (arith, went, on, begun, all, n))
    ])

pub returns-then-not-is_good-clause-leads : goal.returns-then-not-is_good-clause-leads
returns-then-not-is_good-clause-leads c = λ config image traces log order console h.
    let text : List ℕ = c.args.text.now in
    let at = c.args.lines.now.at in
    named text at (so_far config image traces [] log order console) line.Last _ h.stands
    (at_last text at _ [] h.all h.past_log h.past_order h.past
    (λ one rest g e. (
    let left = c.word.ensures.finds (omega arith) rest (begun_at text c.next-cursor.result at _ c.next-cursor.ensures (e ∙ ap (λ (t : List ℕ). t ++ rest) g)) in
    let bad : true ≡ false = sym (left.good (begun_good c.next-cursor.result at c.next-cursor.ensures)) ∙ (sym c.is_good.ensures ∙ c.if-not-is_good.true) in
    cc
    )))
    c.fault.ensures

pub returns-else-lines-text-clause-leads : goal.returns-else-lines-text-clause-leads
returns-else-lines-text-clause-leads c = λ config image traces log order console h.
    let text : List ℕ = c.args.text.now in
    let at = c.args.lines.now.at in
    let rest : List ℕ = drop c.word.new.self.at text in
    let begun : c.next-cursor.result.at ≡ at = ap (λ (k : Cursor). k.at) c.next-cursor.ensures in
    let read : drop at text ≡ end_line ++ rest = ap (λ (n : ℕ). drop n text) (sym begun) ∙ c.word.ensures.takes.reads (sym c.is_good.ensures ∙ c.if-not-is_good.false) in
    let n = ap length read ∙ length-append end_line rest in
    let m = length-drop at text in
    let k = length-drop c.word.new.self.at text in
    let went = c.went.ensures in
    let some : 0 < length rest = elim (cases_lt 0 (length rest)) [
      | inl l ↦ l
      | inr none ↦ absurd (elim c.word.ensures.moves [
        | inl same ↦ omega (arith, same, begun, none, n, m, k)
        | inr on ↦ c.if-lines-text.false (omega (arith, went, on, begun, none, n, m))
      ])
    ] in
    inl (GoesOn (so_far config image traces [] log order console) rest h.stands.good h.all (h.stands.reads ∙ ap (λ (t : List ℕ). text_so_far (so_far config image traces [] log order console) ++ t) read) some, c.line_feeds.ensures)
