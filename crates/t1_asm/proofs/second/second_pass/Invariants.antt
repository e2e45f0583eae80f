use Rattle.std.proofs.Common.{◌≡◌, ◌≤◌, ◌+◌, length}
use Rattle.t1_expr.specs.Symbols.{env_of}
use Rattle.t1_stmt.specs.Lines.{lines_of}
use Rattle.t1_asm.specs.Passes.{pass, second_step, first_out}
use Rattle.t1_asm.proofs.second.second_pass.Given as goal

abbrev pub invariant-loop-rest : goal.invariant-loop-rest
invariant-loop-rest l = record {
  read : pass (second_step (env_of l.symbols)) l.number l.out (lines_of l.rest) ≡ pass (second_step (env_of l.symbols)) 1 first_out (lines_of l.text);
  first : 1 ≤ l.number;
  number : l.number + length l.rest ≤ length l.text + 1;
}

abbrev pub decreases-loop-rest : goal.decreases-loop-rest
decreases-loop-rest l = length l.rest
