use Rattle.std.proofs.Common.{◌∙◌, ◌++◌, ℕ, List, codes, decimal, ap, sym, arith}
use Rattle.t1_take.specs.Taken.{IsGood, Takes}
use Rattle.t1_take.specs.Fields.{kind_line_of}
use Rattle.t1_take.proofs.Taking.{followed, renamed, if_some}
use Rattle.t1_take.proofs.ItemTexts.{item_text}
use Rattle.t1_take.proofs.Finding.{next}
use Rattle.t1_take.proofs.item.take_item.Goals as goal

pub returns-clause-reads : goal.returns-clause-reads
returns-clause-reads c =
    if_some c.take_kind.result (λ item. IsGood c.take_kind.new.cursor × Takes c.args.text.now c.word-3.new.self c.take_kind.new.cursor (kind_line_of item)) _ c.take_kind.ensures.reads
    (λ item h. (renamed (item_text c.args.strand c.args.number item) (followed c.word.ensures.takes (followed c.exactly.ensures.takes (followed c.word-2.ensures.takes (followed c.exactly-2.ensures.takes (followed c.word-3.ensures.takes h.1)))))).reads h.0)

pub returns-clause-finds : goal.returns-clause-finds
returns-clause-finds c = λ item rest small good g e.
    let q4 : List ℕ = codes " " ++ kind_line_of item in
    let q3 : List ℕ = decimal c.args.number ++ q4 in
    let q2 : List ℕ = codes " " ++ q3 in
    let q1 : List ℕ = decimal c.args.strand ++ q2 in
    let s1 = c.word.ensures.finds (omega arith) (q1 ++ rest) (e ∙ ap (λ (t : List ℕ). t ++ rest) (sym (item_text c.args.strand c.args.number item))) in
    let s2 = c.exactly.ensures.finds (q2 ++ rest) (next _ (decimal c.args.strand) q2 rest s1.rest_is) in
    let s3 = c.word-2.ensures.finds (omega arith) (q3 ++ rest) s2.rest_is in
    let s4 = c.exactly-2.ensures.finds (q4 ++ rest) (next _ (decimal c.args.number) q4 rest s3.rest_is) in
    let s5 = c.word-3.ensures.finds (omega arith) (kind_line_of item ++ rest) s4.rest_is in
    let is_good : IsGood c.word-3.new.self = s5.good (s4.good (s3.good (s2.good (s1.good g)))) in
    let s6 = c.take_kind.ensures.finds item rest small good is_good s5.rest_is in
    (s6.0, record { good = λ _. s6.1.good is_good; rest_is = s6.1.rest_is })
