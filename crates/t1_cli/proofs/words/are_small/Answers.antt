use Rattle.std.proofs.Common.{◌<◌, ◌≤◌, false, arith}
use Rattle.t1_num.specs.declared.chip.ChipKind.TheVariants.{T1}
use Rattle.t1_event.specs.declared.report.Config.{Config}
use Rattle.t1_cli.proofs.Limits.{limits_of}
use Rattle.t1_cli.proofs.words.are_small.Goals as goal

pub returns-else-sets-le1024-clause-only : goal.returns-else-sets-le1024-clause-only
returns-else-sets-le1024-clause-only c = λ ram h. (
    let config : Config = record { chip = T1; hyper = false; cores = c.args.cores; strands = c.args.strands; ram = ram; sets = c.args.sets; budget = c.args.budget } in
    let few = (limits_of config h).few_sets in
    let many = c.if-sets-le1024.false in
    absurd (omega (arith, few, many))
    )
