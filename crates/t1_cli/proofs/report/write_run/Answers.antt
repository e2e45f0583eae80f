use Rattle.t1_machine.specs.Start.{setup_of}
use Rattle.t1_cli.specs.Runs.{by_schedule, printed_of}
use Rattle.t1_cli.proofs.Endings.{judged_one}
use Rattle.t1_cli.proofs.report.write_run.Goals as goal

pub returns-in-Ok-clause-judged : goal.returns-in-Ok-clause-judged
returns-in-Ok-clause-judged g c =
    judged_one (by_schedule c.args.run.now (setup_of c.args.run.now.config c.args.image)) c.in-Ok.report (printed_of c.args.run.now.brief) _ _
    c.write_report.result c.in-Ok.ensures.report c.write_report.ensures.judged
