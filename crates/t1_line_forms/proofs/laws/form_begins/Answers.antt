use Rattle.t1_line_forms.proofs.Lines.{begins_with}
use Rattle.t1_line_forms.proofs.laws.form_begins.Goals as goal

pub returns : goal.returns
returns c = begins_with
