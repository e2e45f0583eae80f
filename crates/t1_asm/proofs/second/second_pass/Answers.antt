use Rattle.std.proofs.Common.{◌∙◌, ◌+◌, ap, sym, arith, take, drop}
use Rattle.t1_expr.specs.Symbols.{env_of}
use Rattle.t1_stmt.specs.Lines.{lines_of}
use Rattle.t1_asm.specs.Passes.{pass, second_step}
use Rattle.t1_asm.proofs.LineCuts.{first_line, pass_on, pass_fails, pass_whole}
use Rattle.t1_asm.proofs.second.second_pass.Goals as goal

pub second_line-requires : goal.second_line-requires
second_line-requires c = omega (arith, c.split_at.ensures.front_len, c.loop-rest.invariant.number, c.requires, c.line_run.ensures.within)

pub returns-in-Err : goal.returns-in-Err
returns-in-Err c =
    let first = first_line c.loop-rest.rest.now c.split_at.result.0.now c.split_at.result.1.now (omega arith)
    (c.split_at.ensures.front ∙ ap (λ n. take n c.loop-rest.rest.now) c.line_run.ensures.value)
    (c.split_at.ensures.back ∙ ap (λ n. drop n c.loop-rest.rest.now) c.line_run.ensures.value) in
    let e = pass_fails (λ o. o) (second_step (env_of c.args.symbols.now)) c.loop-rest.number c.loop-rest.out _ _ _ c.in-Err.halt first c.in-Err.ensures in
    rw (← c.loop-rest.invariant.read) e

pub loop-rest-preserved : goal.loop-rest-preserved
loop-rest-preserved c =
    let first = first_line c.loop-rest.rest.now c.split_at.result.0.now c.split_at.result.1.now (omega arith)
    (c.split_at.ensures.front ∙ ap (λ n. take n c.loop-rest.rest.now) c.line_run.ensures.value)
    (c.split_at.ensures.back ∙ ap (λ n. drop n c.loop-rest.rest.now) c.line_run.ensures.value) in
    record {
      read = ap (λ l. pass (second_step (env_of c.args.symbols.now)) (c.loop-rest.number + 1) c.in-Ok.next (lines_of l))
          (c.split_at-in-loop-rest.ensures.back ∙ ap (λ m. drop m c.split_at.result.1.now) c.min.ensures)
          ∙ sym (pass_on (second_step (env_of c.args.symbols.now)) c.loop-rest.number c.loop-rest.out c.in-Ok.next _ _ _ first c.in-Ok.ensures)
          ∙ c.loop-rest.invariant.read;
      first = omega arith;
      number = omega (arith, c.loop-rest.invariant.number, c.split_at.ensures.back_len, c.split_at-in-loop-rest.ensures.back_len, c.min.ensures, c.line_run.ensures.within);
    }

pub returns : goal.returns
returns c = sym c.loop-rest.invariant.read ∙ pass_whole (second_step (env_of c.args.symbols.now)) c.loop-rest.number c.loop-rest.out c.loop-rest.rest.now (omega arith)
