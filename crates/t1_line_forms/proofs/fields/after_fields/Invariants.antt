use Rattle.std.proofs.Common.{ℕ, List, [], drop}
use Rattle.t1_line_forms.specs.Fields.{Leads}
use Rattle.t1_line_forms.specs.Tables.{seen_fields}
use Rattle.t1_line_forms.proofs.fields.after_fields.Given as goal

abbrev pub invariant-loop-field : goal.invariant-loop-field
invariant-loop-field l = record {
  back : (end : List ℕ) → Leads l.size (seen_fields (drop l.field-index l.fields)) l.rest end → Leads [] (seen_fields l.fields) l.text end;
  forth : (end : List ℕ) → Leads [] (seen_fields l.fields) l.text end → Leads l.size (seen_fields (drop l.field-index l.fields)) l.rest end;
}
