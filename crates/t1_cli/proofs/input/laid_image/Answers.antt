use Rattle.t1_cli.proofs.Limits.{can_run}
use Rattle.t1_cli.proofs.input.laid_image.Goals as goal

pub returns-clause-runnable : goal.returns-clause-runnable
returns-clause-runnable c =
    (can_run c.args.config.now c.args.object c.lay.result c.requires.limits c.requires.keeps c.lay.ensures.value c.lay.ensures.size).runnable

pub returns-clause-entry : goal.returns-clause-entry
returns-clause-entry c =
    (can_run c.args.config.now c.args.object c.lay.result c.requires.limits c.requires.keeps c.lay.ensures.value c.lay.ensures.size).entry
