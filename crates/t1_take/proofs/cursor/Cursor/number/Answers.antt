use Rattle.std.proofs.Common.{◌≡◌, ◌∙◌, ◌+◌, ◌-◌, ◌++◌, ℕ, List, drop, take, ap, sym, subst, arith}
use Rattle.t1_take.specs.Taken.{Reads}
use Rattle.t1_take.proofs.Taking.{reads_first}
use Rattle.t1_take.proofs.Numerals.{digits_read}
use Rattle.t1_take.proofs.Finding.{number_at}
use Rattle.t1_take.proofs.cursor.Cursor.number.Goals as goal

pub returns-clause-takes : goal.returns-clause-takes
returns-clause-takes c =
    let text : List ℕ = c.args.text.now in
    let start : ℕ = c.args.self.now.at in
    let end : ℕ = c.digits-value.result.1 in
    let good = c.is_canonical.ensures.is c.if-not-is_canonical.false in
    let end_is : start + (end - start) ≡ end = omega (arith, c.digits-value.ensures.after) in
    let is = digits_read text start end c.digits-value.result.0 c.digits-value.ensures.after good.1 c.digits-value.ensures.digits (omega (arith, c.if-value-gt4294967295.false)) good.0 good.2 in
    record {
      before = λ g. g;
      reads = λ _. subst (λ (n : ℕ). Reads text start n (take (end - start) (drop start text))) end_is (reads_first text start (end - start)) ∙ ap (λ (ds : List ℕ). ds ++ drop end text) (sym is);
    }

pub returns-then-not-is_canonical-clause-finds : goal.returns-then-not-is_canonical-clause-finds
returns-then-not-is_canonical-clause-finds c = λ n rest small after e.
    let at = number_at c.args.text.now c.args.self.now.at c.digits-value.result.1 c.digits-value.result.0 n rest c.digits-value.ensures.after c.digits-value.ensures.within c.digits-value.ensures.digits c.digits-value.ensures.ends small after e in
    absurd (let bad = c.if-not-is_canonical.ensures.finds at.some at.within at.lead in cc)

pub returns-then-value-gt4294967295-clause-finds : goal.returns-then-value-gt4294967295-clause-finds
returns-then-value-gt4294967295-clause-finds c = λ n rest small after e.
    let at = number_at c.args.text.now c.args.self.now.at c.digits-value.result.1 c.digits-value.result.0 n rest c.digits-value.ensures.after c.digits-value.ensures.within c.digits-value.ensures.digits c.digits-value.ensures.ends small after e in
    absurd (let v = at.value_is in omega (arith, v, small, c.if-value-gt4294967295.true))

pub returns-clause-finds : goal.returns-clause-finds
returns-clause-finds c = λ n rest small after e.
    let at = number_at c.args.text.now c.args.self.now.at c.digits-value.result.1 c.digits-value.result.0 n rest c.digits-value.ensures.after c.digits-value.ensures.within c.digits-value.ensures.digits c.digits-value.ensures.ends small after e in
    (at.value_is, record { good = λ g. g; rest_is = at.rest_is })
