use Rattle.std.proofs.Common.{ℕ, ◌<◌, ◌≤◌, IsSome, arith}
use Rattle.std.proofs.lemmas.Grind.{common_steps}
use Rattle.t1_elf.specs.Gaps.{gaps_of}
use Rattle.t1_elf.proofs.Cutting.{none_between}
use Rattle.t1_elf.proofs.coverage.Coverage.last_gap.Goals as goal

pub returns-in-Some-clause-last : goal.returns-in-Some-clause-last
returns-in-Some-clause-last c = λ q less has.
    let h = (c.range.ensures.in_range tt).4 _ _ c.in-Some.ensures.steps q in
    grind (arith, common_steps, h)

pub returns-in_default-clause-none : goal.returns-in_default-clause-none
returns-in_default-clause-none c = λ _.
    let last : (q : ℕ) → q < c.args.high → IsSome (gaps_of c.args.self.now q) → q ≤ c.in-Some.start.now = λ q less has.
    let h = (c.range.ensures.in_range tt).4 _ _ c.in-Some.ensures.steps q in
    grind (arith, common_steps, h) in
    none_between (gaps_of c.args.self.now) _ c.args.low c.args.high c.in-Some.start.now c.in-Some.end.now c.requires
    ((c.range.ensures.in_range tt).3 _ _ c.in-Some.ensures.steps).1 last c.if-end-low.false
