use Rattle.std.proofs.Common.{◌∙◌}
use Rattle.t1_cli.proofs.Verdicts.{told}
use Rattle.t1_cli.proofs.lines.tell.Goals as goal

pub returns : goal.returns
returns g c =
    rw (c.as_slice.ensures ∙ c.verdict_line.ensures) at (told _ _ _ _ _ c.write_all.result c.write_all.ensures.cause c.write_all.ensures.all c.write_all.ensures.part)
