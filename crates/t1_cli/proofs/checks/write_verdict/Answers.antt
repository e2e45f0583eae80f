use Rattle.std.proofs.Common.{ℕ, List, ◌∙◌, inl, inr, refl, sym, ap, subst}
use Rattle.t1_io.specs.Held.{Grew, GrewPart}
use Rattle.t1_read.specs.declared.error.LogError.{LogError}
use Rattle.t1_read.specs.Faults.{IsFaultOf}
use Rattle.t1_read.proofs.Words.{can_be_checked}
use Rattle.t1_cli.specs.Checks.{checked_line}
use Rattle.t1_cli.proofs.Judging.{checked_so, went_well, went_wrong}
use Rattle.t1_cli.proofs.checks.write_verdict.Goals as goal

pub check-requires : goal.check-requires
check-requires g c = can_be_checked c.in-Ok.report c.in-Ok.ensures.formed

pub returns-then-is_err-clause-checked : goal.returns-then-is_err-clause-checked
returns-then-is_err-clause-checked g c = record {
  report = c.in-Ok.report;
  log = record { well_formed = c.in-Ok.ensures.formed; bytes = c.has_bytes.ensures; text = sym c.as_slice.ensures.value ∙ c.in-Ok.ensures.text };
  judgement = c.in-Ok-check.judgement;
  judges = c.in-Ok-check.ensures.names;
  came = tt;
  printed = went_wrong c.write_all.result (GrewPart (g.K.Sink.held c.args.out.now) (g.K.Sink.held c.write_all.new.sink) (checked_line c.in-Ok-check.judgement))
      (sym c.if-is_err.true ∙ c.is_err.ensures.value)
      (rw (c.as_slice-in-Ok-check.ensures ∙ c.checked_line.ensures) at c.write_all.ensures.part);
}

pub returns-in-Ok-check-clause-checked : goal.returns-in-Ok-check-clause-checked
returns-in-Ok-check-clause-checked g c =
    checked_so c.args.text.items (g.K.Sink.held c.args.out.now) (g.K.Sink.held c.write_all.new.sink) c.in-Ok.report c.in-Ok-check.judgement c.told.result c.told.ensures
    (record { well_formed = c.in-Ok.ensures.formed; bytes = c.has_bytes.ensures; text = sym c.as_slice.ensures.value ∙ c.in-Ok.ensures.text }) c.in-Ok-check.ensures.names
    (went_well c.write_all.result (Grew (g.K.Sink.held c.args.out.now) (g.K.Sink.held c.write_all.new.sink) (checked_line c.in-Ok-check.judgement))
    (sym c.if-is_err.false ∙ c.is_err.ensures.value) (rw (c.as_slice-in-Ok-check.ensures ∙ c.checked_line.ensures) at c.write_all.ensures.all))

-- a text that was refused is no log, and its first fault is named
pub returns : goal.returns
returns g c = record {
  checked = (
    λ report log. c.in_default.not-OutOfMemory (c.in-Err.ensures.exact report log.well_formed log.bytes (c.as_slice.ensures.value ∙ log.text)),
    elim c.in-Err.ensures.fault [
      | inl fault ↦ subst (λ (text : List ℕ). IsFaultOf text c.in-Err.error.line c.in-Err.error.kind) c.as_slice.ensures.value fault
      | inr wanting ↦ absurd (c.in_default.not-OutOfMemory (ap (λ (e : LogError). e.kind) wanting))
    ],
  );
  unchanged = λ _. refl;
  fault = λ e. cc;
  never = λ e. cc;
}
