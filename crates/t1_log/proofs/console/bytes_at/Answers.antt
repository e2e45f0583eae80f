use Rattle.std.proofs.Common.{ℕ, ◌≤◌, List, length, take, sym, ap, ◌∙◌, arith}
use Rattle.std.proofs.lemmas.List.{take_all}
use Rattle.t1_log.proofs.console.bytes_at.Goals as goal

pub returns-then-rest-lt32-clause-value : goal.returns-then-rest-lt32-clause-value
returns-then-rest-lt32-clause-value c =
    let short : length c.split_at.result.1.now ≤ 32 = omega (arith, c.if-rest-lt32.true) in
    sym (take_all 32 c.split_at.result.1.now short) ∙ ap (λ (bytes : List ℕ). take 32 bytes) c.split_at.ensures.back
