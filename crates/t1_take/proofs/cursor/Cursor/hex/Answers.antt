use Rattle.std.proofs.Common.{◌+◌, ◌∙◌, ◌++◌, ℕ, List, drop, ap, sym, arith}
use Rattle.t1_take.proofs.Taking.{reads_first}
use Rattle.t1_take.proofs.Finding.{hex_same, hex_front, hex_rest, hex_short}
use Rattle.t1_take.proofs.cursor.Cursor.hex.Goals as goal

pub returns-then-digits-saturating_sub-clause-finds : goal.returns-then-digits-saturating_sub-clause-finds
returns-then-digits-saturating_sub-clause-finds c = λ value rest few low e.
    absurd (let s = hex_short c.args.text.now c.args.self.now.at c.args.digits value rest e in omega (arith, s, c.if-digits-saturating_sub.true, c.saturating_sub.ensures))

pub returns-in-Some-clause-takes : goal.returns-in-Some-clause-takes
returns-in-Some-clause-takes c = λ few. record {
  before = λ g. g;
  reads = λ g. reads_first c.args.text.now c.args.self.now.at c.args.digits ∙ ap (λ (ds : List ℕ). ds ++ drop (c.args.self.now.at + c.args.digits) c.args.text.now) (c.in-Some.ensures.some few).1;
}

pub returns-in-Some-clause-finds : goal.returns-in-Some-clause-finds
returns-in-Some-clause-finds c = λ value rest few low e. (
  let is = c.in-Some.ensures.some few in
      hex_same c.args.digits c.in-Some.value value is.0 low (sym is.1 ∙ hex_front c.args.text.now c.args.self.now.at c.args.digits value rest e),
  record { good = λ g. g; rest_is = hex_rest c.args.text.now c.args.self.now.at c.args.digits value rest e },
)

pub returns-in-None-clause-finds : goal.returns-in-None-clause-finds
returns-in-None-clause-finds c = λ value rest few low e. absurd (c.in-None.ensures.none value (hex_front c.args.text.now c.args.self.now.at c.args.digits value rest e))
