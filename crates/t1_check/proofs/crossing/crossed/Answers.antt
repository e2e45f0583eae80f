use Rattle.std.proofs.Common.{◌≡◌, ◌∙◌, ap, arith, ℕ, drop}
use Rattle.t1_check.specs.Crossing.{crossed_from}
use Rattle.t1_check.proofs.Crossings.{crossed_means}
use Rattle.t1_check.proofs.crossing.crossed.Goals as goal

pub returns : goal.returns
returns c =
    let start : c.loop-at.at ≡ 0 = omega (arith, c.loop-at-test.false) in
    crossed_means c.args.bounds.now c.args.goals.now c.requires c.loop-at.found
    (c.loop-at.invariant.found ∙ ap (λ (n : ℕ). crossed_from n (drop n c.args.bounds.now) (drop n c.args.goals.now)) start)
