use Rattle.std.proofs.Common.{ℕ, List, length, sym, subst}
use Rattle.t1_bank.specs.Sound.{IsSound}
use Rattle.t1_dir.specs.Directory.{DirectoryState, directory_start}
use Rattle.t1_l2.specs.Array.{ArrayState}
use Rattle.t1_bank.proofs.Start.{start_sound}
use Rattle.t1_bank.proofs.bank.Bank.new.Goals as goal

pub invariant_of-result : goal.invariant_of-result
invariant_of-result c =
    let cores : ℕ = c.args.config.now.cores in
    let ram : List ℕ = c.args.ram.now in
    subst (λ (d : DirectoryState). IsSound (record { cores = cores; ram = length ram; directory = d; array = c.in_ok-array.array })) (sym c.in_ok-directory.ensures)
    (subst (λ (a : ArrayState). IsSound (record { cores = cores; ram = length ram; directory = directory_start c.args.config.now.chip cores; array = a })) (sym c.in_ok-array.ensures)
    (start_sound c.args.config.now.chip c.args.bank cores c.args.config.now.sets ram c.requires.bank c.requires.cores c.requires.sets.0 c.requires.sets.1 c.requires.ram.0 c.requires.ram.1))
