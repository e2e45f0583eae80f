use Rattle.std.proofs.Common.{◌≡◌, ◌∙◌, ◌^◌, ◌<◌, ◌≤◌, ◌++◌, ℕ, List, codes, decimal, drop, Some, ap, sym, subst, arith}
use Rattle.t1_event.specs.declared.trace.Ending.{Ending}
use Rattle.t1_event.specs.declared.trace.Ending.TheVariants.{Fault}
use Rattle.t1_log.specs.Hex.{hex_of}
use Rattle.t1_log.specs.Lines.{ending_fields_of}
use Rattle.t1_take.specs.declared.cursor.Cursor.{Cursor}
use Rattle.t1_take.specs.Taken.{IsGood, Leaves}
use Rattle.t1_take.specs.Items.{IsGoodEnd}
use Rattle.t1_take.proofs.ItemsFound.{IsNot, is_fault, fault_text}
use Rattle.t1_take.proofs.item.take_ending.Goals.{After-hex-number}
use Rattle.t1_take.proofs.item.take_ending.Goals as goal

-- ---- what the answers share

-- an ending that is neither of the first two is a fault, and its number, units and PC were taken
walked : (c : After-hex-number) (ending : Ending) (units pc : ℕ) (rest : List ℕ) → IsGoodEnd (Some ending) → units < 2 ^ 32 → pc < 2 ^ 64 → drop c.args.cursor.now.at c.args.text.now ≡ ending_fields_of ending units pc ++ rest
    → (ending ≡ Fault c.hex-number.result) × (c.hex-number.result ≤ 0x1ff) × (c.take_units-units-2.result.0 ≡ units) × (c.take_units-units-2.result.1 ≡ pc)
    × Leaves c.args.text.now c.args.cursor.now c.hex-number.new.self rest
walked c ending units pc rest good u p e =
    let at : List ℕ = drop c.args.cursor.now.at c.args.text.now in
    let halted : IsNot at (codes "halted ") = λ more f. (let bad = (c.if-takes.ensures.finds more (omega arith) f).0 in cc) in
    let back1 : c.takes.new.self ≡ c.args.cursor.now = c.if-takes.ensures.cases in
    let spent : IsNot at (codes "spent ") = λ more f. (let bad = (c.if-takes-2.ensures.finds more (omega arith) (ap (λ (k : Cursor). drop k.at c.args.text.now) back1 ∙ f)).0 in cc) in
    let back2 : c.takes-2.new.self ≡ c.args.cursor.now = c.if-takes-2.ensures.cases ∙ back1 in
    let fault = is_fault ending units pc rest at e halted spent in
    let number : ℕ = fault.0 in
    let few : number ≤ 0x1ff = subst (λ (x : Ending). IsGoodEnd (Some x)) fault.1 good in
    let here = ap (λ (k : Cursor). drop k.at c.args.text.now) back2 ∙ (e ∙ (ap (λ (x : Ending). ending_fields_of x units pc ++ rest) fault.1 ∙ fault_text units pc number rest)) in
    let s1 = c.word.ensures.finds (omega arith) ((decimal units ++ (codes " " ++ hex_of 16 pc)) ++ (codes " " ++ (hex_of 3 number ++ rest))) here in
    let s2 = c.take_units-units-2.ensures.finds units pc (codes " " ++ (hex_of 3 number ++ rest)) u p s1.rest_is in
    let s3 = c.word-2.ensures.finds (omega arith) (hex_of 3 number ++ rest) s2.2.rest_is in
    let s4 = c.hex-number.ensures.finds number rest (omega arith) (omega (arith, few)) s3.rest_is in (
      fault.1 ∙ ap (λ (n : ℕ). Fault n) (sym s4.0),
      subst (λ (n : ℕ). n ≤ 0x1ff) (sym s4.0) few,
      s2.0,
      s2.1,
      record { good = λ g. s4.1.good (s3.good (s2.2.good (s1.good (subst IsGood (sym back2) g)))); rest_is = s4.1.rest_is },
    )

-- ---- the answers

pub returns-then-number-gt511-clause-finds : goal.returns-then-number-gt511-clause-finds
returns-then-number-gt511-clause-finds c = λ ending units pc rest good u p e.
    let few = (walked (goal.at.returns-then-number-gt511-clause-finds c).After-hex-number ending units pc rest good u p e).1 in
    absurd (omega (arith, few, c.if-number-gt511.true))

pub returns-clause-finds : goal.returns-clause-finds
returns-clause-finds c = λ ending units pc rest good u p e.
    let w = walked (goal.at.returns-clause-finds c).After-hex-number ending units pc rest good u p e in
    (λ i. Some (record { ending = sym w.0 i; units = w.2 i; pc = w.3 i }), w.4)
