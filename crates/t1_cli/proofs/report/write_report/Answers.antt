use Rattle.std.proofs.Common.{◌∙◌, sym, ap}
use Rattle.t1_cli.specs.Runs.{ended_of, printed_of}
use Rattle.t1_cli.proofs.Endings.{ended_so}
use Rattle.t1_cli.proofs.report.write_report.Goals as goal

pub returns : goal.returns
returns g c =
    let told = ended_so c.args.report.now (printed_of c.args.brief) (g.K.Sink.held c.args.out.now) (g.K.Sink.held c.print_report.new.out)
    c.print_report.result c.ended.result (sym c.if-is_err.false ∙ c.is_err.ensures.value) c.print_report.ensures.all
    (c.ended.ensures ∙ ap ended_of c.as_slice.ensures) in
    record {
      judged = told.judged;
      unchanged = λ none. absurd (told.no_empty none);
      fault = λ bad. absurd (told.no_write_fault bad);
      never = told.no_read_fault;
    }
