use Rattle.t1_machine.specs.Start.{setup_of}
use Rattle.t1_log.specs.Log.{text_of}
use Rattle.t1_cli.proofs.Endings.{judged_one}
use Rattle.t1_top.specs.Live.{IsLiveReportOf}
use Rattle.t1_top.proofs.live.write_live.Goals as goal

pub returns-in-Ok-clause-judged : goal.returns-in-Ok-clause-judged
returns-in-Ok-clause-judged g c =
    judged_one (IsLiveReportOf (setup_of c.args.config.now c.args.image)) c.in-Ok.report text_of _ _ c.write_report.result c.in-Ok.ensures.report
    c.write_report.ensures.judged
