use Rattle.std.proofs.Common.{codes, decimal}
use Rattle.t1_line_forms.proofs.Lines.{behind}
use Rattle.t1_line_forms.proofs.heads.after_place.Goals as goal

pub returns-in-Some : goal.returns-in-Some
returns-in-Some c = behind c.after.result c.args.text.now (decimal c.args.number) c.in-Some.rest.now (codes " ") c.in-Some.ensures c.after.ensures
