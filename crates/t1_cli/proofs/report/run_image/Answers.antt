use Rattle.t1_num.specs.MemoryLaws.{AreBytes}
use Rattle.t1_machine.specs.Start.{setup_of}
use Rattle.t1_cli.proofs.Reports.{Ended, is_report, has_text}
use Rattle.t1_cli.proofs.report.run_image.Goals as goal

pub returns-clause-report : goal.returns-clause-report
returns-clause-report c =
    let bytes : AreBytes c.args.image.ram = rw c.as_slice.ensures at c.are_bytes.ensures in
    let ended : Ended c.run.new.self c.into_report.result = record {
      none = c.run.ensures.finished;
      ends = c.into_report.ensures.history;
      reported = c.into_report.ensures.report;
      obeys = c.into_report.ensures.obeys;
      words = c.into_report.ensures.words;
    } in
    is_report (setup_of c.args.config c.args.image) c.args.schedule c.in_ok-chip.chip c.run.new.self c.into_report.result
    c.requires.limits c.requires.entry c.requires.runnable bytes c.in_ok-chip.ensures c.run.ensures.machine ended

pub returns-clause-text : goal.returns-clause-text
returns-clause-text c = has_text (setup_of c.args.config c.args.image) c.args.schedule c.into_report.result (returns-clause-report c) c.requires.entry
