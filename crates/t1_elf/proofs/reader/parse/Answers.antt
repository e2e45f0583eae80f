use Rattle.std.proofs.Common.{◌≡◌, ℕ, ◌∙◌, List, None, ap, sym, subst}
use Rattle.t1_elf.specs.Parsed.{KeepsTo}
use Rattle.t1_elf.specs.Tests.{header_tests_of, program_tests_of, tests_of, first_failure}
use Rattle.t1_elf.proofs.Failures.{second_passes, passed, keeps_to}
use Rattle.t1_elf.proofs.reader.parse.Goals as goal

pub returns-in-Ok-clause-keeps : goal.returns-in-Ok-clause-keeps
returns-in-Ok-clause-keeps c =
    let file : List ℕ = c.args.file.items in
    let none : first_failure (tests_of file c.args.limit) ≡ None =
    ap (λ b. first_failure (tests_of b c.args.limit)) (sym c.as_slice.ensures.value) ∙ sym c.failure.ensures.value ∙ c.in_default.is in
    let program = second_passes (header_tests_of file) (program_tests_of file c.args.limit) none in
    subst (KeepsTo c.args.limit) (sym c.in-Ok.ensures) (keeps_to file c.args.limit (passed file c.args.limit program))
