use Rattle.std.proofs.Common.{◌≡◌, ◌∙◌, ◌++◌, ℕ, List, drop, true, false, codes, decimal, IsTrue, Some, sym, ap, subst, refl, arith}
use Rattle.std.proofs.lemmas.Option.{same_Some, none-some}
use Rattle.t1_num.specs.declared.chip.ChipKind.TheVariants.{T1}
use Rattle.t1_event.specs.declared.report.Config.{Config}
use Rattle.t1_log.specs.Lines.{config_line_of}
use Rattle.t1_take.specs.Taken.{IsGood, Leaves}
use Rattle.t1_take.specs.Limits.{is_in_limits}
use Rattle.t1_take.proofs.Finding.{next}
use Rattle.t1_take.proofs.HeadTexts.{numbers_small, config_text}
use Rattle.t1_take.proofs.head.take_config.Goals.{After-word-6}
use Rattle.t1_take.proofs.head.take_config.Goals as goal

-- ---- what the answers share

-- where the line of a machine stands, its numbers were taken
walked : (c : After-word-6) (config : Config) (rest : List ℕ) → IsTrue (is_in_limits config) → IsGood c.args.cursor.now → drop c.args.cursor.now.at c.args.text.now ≡ config_line_of config ++ rest
    → ◌≡◌ {A = Config} (record { chip = T1; hyper = false; cores = c.number-cores.result; strands = c.number-strands.result; ram = c.number-ram.result; sets = c.number-sets.result; budget = c.number-budget.result }) config
    × Leaves c.args.text.now c.args.cursor.now c.word-6.new.self rest
walked c config rest limits g whole =
    let e = whole ∙ ap (λ (t : List ℕ). t ++ rest) (config_text config) in
    let t4 : List ℕ = codes "\n" in
    let p4 : List ℕ = decimal config.budget ++ t4 in
    let t3 : List ℕ = codes " budget " ++ p4 in
    let p3 : List ℕ = decimal config.sets ++ t3 in
    let t2 : List ℕ = codes " sets " ++ p3 in
    let p2 : List ℕ = decimal config.ram ++ t2 in
    let t1 : List ℕ = codes " ram " ++ p2 in
    let p1 : List ℕ = decimal config.strands ++ t1 in
    let t0 : List ℕ = codes " strands " ++ p1 in
    let p0 : List ℕ = decimal config.cores ++ t0 in
    let small = numbers_small config limits in
    let w0 = c.word.ensures.finds (omega arith) (p0 ++ rest) e in
    let n0 = c.number-cores.ensures.finds config.cores (t0 ++ rest) small.cores refl (next _ (decimal config.cores) t0 rest w0.rest_is) in
    let w1 = c.word-2.ensures.finds (omega arith) (p1 ++ rest) n0.1.rest_is in
    let n1 = c.number-strands.ensures.finds config.strands (t1 ++ rest) small.strands refl (next _ (decimal config.strands) t1 rest w1.rest_is) in
    let w2 = c.word-3.ensures.finds (omega arith) (p2 ++ rest) n1.1.rest_is in
    let n2 = c.number-ram.ensures.finds config.ram (t2 ++ rest) small.ram refl (next _ (decimal config.ram) t2 rest w2.rest_is) in
    let w3 = c.word-4.ensures.finds (omega arith) (p3 ++ rest) n2.1.rest_is in
    let n3 = c.number-sets.ensures.finds config.sets (t3 ++ rest) small.sets refl (next _ (decimal config.sets) t3 rest w3.rest_is) in
    let w4 = c.word-5.ensures.finds (omega arith) (p4 ++ rest) n3.1.rest_is in
    let n4 = c.number-budget.ensures.finds config.budget (t4 ++ rest) small.budget refl (next _ (decimal config.budget) t4 rest w4.rest_is) in
    let w5 = c.word-6.ensures.finds (omega arith) (rest) n4.1.rest_is in
    let is_good : IsGood c.word-6.new.self = w5.good (n4.1.good (w4.good (n3.1.good (w3.good (n2.1.good (w2.good (n1.1.good (w1.good (n0.1.good (w0.good g)))))))))) in (
      λ i. record { chip = sym small.first.chip i; hyper = sym small.first.hyper i; cores = n0.0 i; strands = n1.0 i; ram = n2.0 i; sets = n3.0 i; budget = n4.0 i },
      record { good = λ _. is_good; rest_is = w5.rest_is },
    )

-- so they are in their limits
within : (a b : Config) → a ≡ b → IsTrue (is_in_limits b) → IsTrue (is_in_limits a)
within a b e limits = subst (λ (k : Config). IsTrue (is_in_limits k)) (sym e) limits

-- ---- the answers

pub returns-then-is_good-clause-finds : goal.returns-then-is_good-clause-finds
returns-then-is_good-clause-finds c = λ config rest limits g whole.
    let w = walked (goal.at.returns-then-is_good-clause-finds c).After-word-6 config rest limits g whole in
    (ap (λ (k : Config). Some k) (same_Some _ _ (c.in-Some.ensures.finds (within _ _ w.0 limits)) ∙ w.0), w.1)

pub returns-else-is_good-clause-finds : goal.returns-else-is_good-clause-finds
returns-else-is_good-clause-finds c = λ config rest limits g whole.
    let w = walked (goal.at.returns-else-is_good-clause-finds c).After-word-6 config rest limits g whole in
    absurd (let bad : true ≡ false = sym (w.1.good g) ∙ (sym c.is_good.ensures ∙ c.if-is_good.false) in cc)

pub returns-in-None-clause-finds : goal.returns-in-None-clause-finds
returns-in-None-clause-finds c = λ config rest limits g whole.
    let w = walked (goal.at.returns-in-None-clause-finds c).After-word-6 config rest limits g whole in
    absurd (none-some _ (c.in-None.ensures.finds (within _ _ w.0 limits)))
