use Rattle.std.proofs.Common.{refl}
use Rattle.t1_cli.proofs.Inputs.{not_read, unread_check}
use Rattle.t1_cli.proofs.serial.serve_check.Goals as goal

pub returns-in-Err : goal.returns-in-Err
returns-in-Err g c =
    let left = g.S.Source.left c.args.input.now in
    let held = g.K.Sink.held c.args.out.now in
    let none = not_read left c.in-Err.verdict c.in-Err.ensures.unread in
    record {
      serves = unread_check left held held c.in-Err.verdict c.in-Err.ensures.unread;
      usage = none.usage;
      unchanged = λ _. refl;
      read_fault = c.in-Err.ensures.fault;
      write_fault = λ e. absurd (none.write_fault e);
      end = λ text. absurd (none.no_text text);
    }
