use Rattle.t1_line_forms.specs.Tables.{seen_forms}
use Rattle.t1_line_forms.proofs.Lines.{form_decided}
use Rattle.t1_line_forms.proofs.line.has_form.Goals as goal

pub returns-in-Some : goal.returns-in-Some
returns-in-Some c =
    form_decided c.is_one_of.result c.args.kind c.args.line.now c.in-Some.rest.now (seen_forms c.forms_of.result.now) c.in-Some.ensures c.forms_of.ensures c.is_one_of.ensures
