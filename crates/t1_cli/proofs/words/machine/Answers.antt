use Rattle.std.proofs.Common.{◌≡◌, ◌∙◌, true, false, sym}
use Rattle.t1_num.specs.declared.chip.ChipKind.TheVariants.{T1}
use Rattle.t1_event.specs.declared.report.Config.{Config}
use Rattle.t1_cli.proofs.Limits.{no_machine}
use Rattle.t1_cli.proofs.words.machine.Goals as goal

pub returns-then-not-are_small-clause-value : goal.returns-then-not-are_small-clause-value
returns-then-not-are_small-clause-value c =
    let config : Config = record { chip = T1; hyper = false; cores = c.args.cores; strands = c.args.strands; ram = c.args.ram; sets = c.args.sets; budget = c.args.budget } in
    no_machine config (λ h. (let bad : true ≡ false = sym (c.are_small.ensures.only c.args.ram h) ∙ c.if-not-are_small.true in cc))
