use Rattle.std.proofs.Common.{◌≡◌, ◌≤◌, ◌^◌, length}
use Rattle.t1_expr.specs.Symbols.{env_of}
use Rattle.t1_stmt.specs.Lines.{lines_of}
use Rattle.t1_asm.specs.Passes.{pass, first_step, state_of, state_from}
use Rattle.t1_asm.proofs.first.first_pass.Given as goal

abbrev pub invariant-loop-rest : goal.invariant-loop-rest
invariant-loop-rest l = record {
  read : pass first_step l.number (state_of l.state l.map) (lines_of l.rest) ≡ pass first_step 1 (state_from (env_of l.initial.map)) (lines_of l.text);
  total : l.state.total ≤ 16777216;
  here : l.state.here ≤ 2 ^ 39;
  number : l.number ≤ 65537;
  within : length l.rest ≤ length l.text;
}

abbrev pub decreases-loop-rest : goal.decreases-loop-rest
decreases-loop-rest l = length l.rest
