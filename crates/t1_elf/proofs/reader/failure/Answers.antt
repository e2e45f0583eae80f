use Rattle.std.proofs.Common.{◌∙◌, sym}
use Rattle.t1_elf.proofs.Failures.{passed, segments_have_bytes}
use Rattle.t1_elf.proofs.reader.failure.Goals as goal

pub returns-in-None-clause-read : goal.returns-in-None-clause-read
returns-in-None-clause-read c = λ none.
    let header = c.header_failure.ensures.read c.in-None.is in
    record {
      long = header.0;
      table = header.1;
      segments = segments_have_bytes _ _ (passed c.args.file.now c.args.limit (sym c.program_failure.ensures.value ∙ none));
    }
