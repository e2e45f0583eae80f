use Rattle.std.proofs.Common.{◌∙◌, ◌+◌, ap, sym, arith, take, drop}
use Rattle.t1_stmt.specs.Lines.{lines_of}
use Rattle.t1_asm.specs.Passes.{pass, first_step, state_of}
use Rattle.t1_asm.proofs.LineCuts.{first_line, pass_on, pass_fails, pass_whole}
use Rattle.t1_asm.proofs.first.first_pass.Goals as goal

pub returns-in-Err : goal.returns-in-Err
returns-in-Err c =
    let first = first_line c.loop-rest.rest.now c.split_at.result.0.now c.split_at.result.1.now (omega arith)
    (c.split_at.ensures.front ∙ ap (λ n. take n c.loop-rest.rest.now) c.line_run.ensures.value)
    (c.split_at.ensures.back ∙ ap (λ n. drop n c.loop-rest.rest.now) c.line_run.ensures.value) in
    let e = pass_fails (λ p. state_of p c.first_line.new.map) first_step c.loop-rest.number (state_of c.loop-rest.state c.loop-rest.map) _ _ _ c.in-Err.halt first c.in-Err.ensures.value in
    rw (← c.loop-rest.invariant.read) e

pub loop-rest-preserved : goal.loop-rest-preserved
loop-rest-preserved c =
    let first = first_line c.loop-rest.rest.now c.split_at.result.0.now c.split_at.result.1.now (omega arith)
    (c.split_at.ensures.front ∙ ap (λ n. take n c.loop-rest.rest.now) c.line_run.ensures.value)
    (c.split_at.ensures.back ∙ ap (λ n. drop n c.loop-rest.rest.now) c.line_run.ensures.value) in
    record {
      read = ap (λ l. pass first_step (c.loop-rest.number + 1) (state_of c.in-Ok.next c.first_line.new.map) (lines_of l))
          (c.split_at-in-loop-rest.ensures.back ∙ ap (λ m. drop m c.split_at.result.1.now) c.min.ensures)
          ∙ sym (pass_on first_step c.loop-rest.number (state_of c.loop-rest.state c.loop-rest.map) (state_of c.in-Ok.next c.first_line.new.map) _ _ _ first c.in-Ok.ensures.value)
          ∙ c.loop-rest.invariant.read;
      total = c.in-Ok.ensures.total;
      here = c.in-Ok.ensures.here;
      number = omega (arith, c.in-Ok.ensures.number);
      within = omega (arith, c.loop-rest.invariant.within, c.split_at.ensures.back_len, c.split_at-in-loop-rest.ensures.back_len);
    }

pub returns : goal.returns
returns c = sym c.loop-rest.invariant.read ∙ pass_whole first_step c.loop-rest.number (state_of c.loop-rest.state c.loop-rest.map) c.loop-rest.rest.now (omega arith)
