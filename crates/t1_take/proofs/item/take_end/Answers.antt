use Rattle.std.proofs.Common.{◌≡◌, ◌∙◌, ◌^◌, ◌<◌, ◌++◌, ℕ, List, drop, true, false, codes, decimal, Some, ap, sym, arith}
use Rattle.t1_event.specs.declared.trace.Ending.{Ending}
use Rattle.t1_log.specs.Lines.{ending_fields_of, ending_line_of}
use Rattle.t1_take.specs.Items.{IsGoodEnd}
use Rattle.t1_take.specs.Taken.{IsGood, Takes, Leaves}
use Rattle.t1_take.proofs.Taking.{followed, renamed, if_some}
use Rattle.t1_take.proofs.ItemTexts.{end_text}
use Rattle.t1_take.proofs.Finding.{next}
use Rattle.t1_take.proofs.item.take_end.Goals.{After-is_good}
use Rattle.t1_take.proofs.item.take_end.Goals as goal

-- ---- what the answers share

-- where the line of an ending stands, the ending was taken
walked : (c : After-is_good) (ending : Ending) (units pc : ℕ) (rest : List ℕ) → IsGoodEnd (Some ending) → units < 2 ^ 32 → pc < 2 ^ 64 → IsGood c.args.cursor.now
    → drop c.args.cursor.now.at c.args.text.now ≡ ending_line_of c.args.strand ending units pc ++ rest
    → (c.take_ending-end.result ≡ Some (record { ending = ending; units = units; pc = pc })) × Leaves c.args.text.now c.args.cursor.now c.word-3.new.self rest
walked c ending units pc rest good u p g e =
    let q4 : List ℕ = codes "\n" in
    let q3 : List ℕ = ending_fields_of ending units pc ++ q4 in
    let q2 : List ℕ = codes " " ++ q3 in
    let q1 : List ℕ = decimal c.args.strand ++ q2 in
    let s1 = c.word.ensures.finds (omega arith) (q1 ++ rest) (e ∙ ap (λ (t : List ℕ). t ++ rest) (sym (end_text c.args.strand ending units pc))) in
    let s2 = c.exactly.ensures.finds (q2 ++ rest) (next _ (decimal c.args.strand) q2 rest s1.rest_is) in
    let s3 = c.word-2.ensures.finds (omega arith) (q3 ++ rest) s2.rest_is in
    let s4 = c.take_ending-end.ensures.finds ending units pc (q4 ++ rest) good u p (next _ (ending_fields_of ending units pc) q4 rest s3.rest_is) in
    let s5 = c.word-3.ensures.finds (omega arith) rest s4.1.rest_is in
    let is_good : IsGood c.word-3.new.self = s5.good (s4.1.good (s3.good (s2.good (s1.good g)))) in
    (s4.0, record { good = λ _. is_good; rest_is = s5.rest_is })

-- ---- the answers

pub returns-then-is_good-clause-reads : goal.returns-then-is_good-clause-reads
returns-then-is_good-clause-reads c =
    if_some c.take_ending-end.result (λ end. Takes c.args.text.now c.word-2.new.self c.take_ending-end.new.cursor (ending_fields_of end.ending end.units end.pc)) _ c.take_ending-end.ensures.takes
    (λ end h. (renamed (end_text c.args.strand end.ending end.units end.pc) (followed c.word.ensures.takes (followed c.exactly.ensures.takes (followed c.word-2.ensures.takes (followed h c.word-3.ensures.takes))))).reads
    (sym c.is_good.ensures ∙ c.if-is_good.true))

pub returns-then-is_good-clause-finds : goal.returns-then-is_good-clause-finds
returns-then-is_good-clause-finds c = λ ending units pc rest good u p g e. walked (goal.at.returns-then-is_good-clause-finds c).After-is_good ending units pc rest good u p g e

pub returns-else-is_good-clause-finds : goal.returns-else-is_good-clause-finds
returns-else-is_good-clause-finds c = λ ending units pc rest good u p g e.
    let w = walked (goal.at.returns-else-is_good-clause-finds c).After-is_good ending units pc rest good u p g e in
    absurd (let bad : true ≡ false = sym (w.1.good g) ∙ (sym c.is_good.ensures ∙ c.if-is_good.false) in cc)
