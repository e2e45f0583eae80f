use Rattle.std.proofs.Common.{sym}
use Rattle.t1_cli.proofs.Headlines.{task_claims}
use Rattle.t1_cli.proofs.Verdicts.{task_answers, serves_asked, usage_of}
use Rattle.t1_cli.proofs.serial.t1_serial.Goals as goal

pub returns-clause-usage : goal.returns-clause-usage
returns-clause-usage g c = usage_of _ _ c.serve-verdict.result _ c.read_task-asked.ensures.value c.status.ensures c.serve-verdict.ensures.usage

pub returns-clause-answers : goal.returns-clause-answers
returns-clause-answers g c =
    task_answers _ _ _ _ _ _ c.serve-verdict.result _ c.read_task-asked.ensures.value c.status.ensures c.serve-verdict.ensures.serves c.serve-verdict.ensures.end

pub returns-clause-headline : goal.returns-clause-headline
returns-clause-headline g c = task_claims _ _ _ _ _ _ (returns-clause-answers g c)

pub returns-clause-line : goal.returns-clause-line
returns-clause-line g c = record {
  verdict = c.serve-verdict.result;
  status_is = sym c.status.ensures;
  serves = serves_asked _ _ _ _ _ c.serve-verdict.result c.read_task-asked.ensures.value c.serve-verdict.ensures.serves;
  told = c.tell.ensures;
}
