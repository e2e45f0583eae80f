use Rattle.std.proofs.Common.{drop}
use Rattle.t1_line_forms.specs.Forms.{IsOneOf}
use Rattle.t1_line_forms.specs.Tables.{seen_forms}
use Rattle.t1_line_forms.proofs.line.is_one_of.Given as goal

abbrev pub invariant-loop-form : goal.invariant-loop-form
invariant-loop-form l = record {
  back : IsOneOf (seen_forms (drop l.form-index l.forms)) l.text → IsOneOf (seen_forms l.forms) l.text;
  forth : IsOneOf (seen_forms l.forms) l.text → IsOneOf (seen_forms (drop l.form-index l.forms)) l.text;
}
