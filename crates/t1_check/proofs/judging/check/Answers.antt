use Rattle.t1_event.specs.Items.{items_of}
use Rattle.t1_check.proofs.Faults.{exactly}
use Rattle.t1_check.proofs.judging.check.Goals as goal

pub returns-clause-exactly : goal.returns-clause-exactly
returns-clause-exactly c = exactly c.args.report.now.image.ram (items_of c.args.report.now.traces) c.args.report.now.order c.judge_report.result c.judge_report.ensures
