use Rattle.std.proofs.Common.{◌∙◌}
use Rattle.t1_machine.specs.Start.{setup_of}
use Rattle.t1_top.proofs.Lives.{Ended, live_report, has_text}
use Rattle.t1_top.proofs.live.run_agents.Goals as goal

pub returns-clause-report : goal.returns-clause-report
returns-clause-report g c =
    let ended : Ended c.in_ok-ended.ended c.into_report.result = record {
      over = c.in_ok-ended.ensures.over;
      fits = c.in_ok-ended.ensures.fits;
      reported = c.into_report.ensures.report;
      ends = c.into_report.ensures.history;
      obeys = c.into_report.ensures.obeys;
      words = c.into_report.ensures.words;
    } in
    live_report (setup_of c.args.config.now c.args.image) c.in_ok-ended.ended c.into_report.result (c.in_ok-ended.ensures.setup ∙ c.in_ok-agents.ensures.setup)
    c.requires.limits c.requires.entry ended

pub returns-clause-text : goal.returns-clause-text
returns-clause-text g c =
    has_text (setup_of c.args.config.now c.args.image) c.in_ok-ended.ended c.into_report.result (c.in_ok-ended.ensures.setup ∙ c.in_ok-agents.ensures.setup)
    c.requires.limits c.requires.entry c.into_report.ensures.report c.into_report.ensures.obeys
