-- The tables of the code, as fields and forms.
use Rattle.std.specs.Prelude.{List, [], ◌∷◌}
use Rattle.t1_line_forms.specs.Fields.{Field, Word, Number, Hex, Size, Value, Cache}
use Rattle.t1_line_forms.specs.Forms.{Form}
use Rattle.t1_line_forms.specs.declared.field.Field.{Field as FieldData}
use Rattle.t1_line_forms.specs.declared.field.Field.TheVariants as table
use Rattle.t1_line_forms.specs.declared.field.Form.{Form as FormData}

abbrev pub seen_field : FieldData → Field
seen_field (table.Word word) = Word word.now
seen_field table.Number = Number
seen_field (table.Hex count) = Hex count
seen_field table.Size = Size
seen_field table.Value = Value
seen_field table.Cache = Cache

abbrev pub seen_fields : List FieldData → List Field
seen_fields [] = []
seen_fields (field ∷ fields) = seen_field field ∷ seen_fields fields

abbrev pub seen_form : FormData → Form
seen_form form = record { fields = seen_fields form.fields.now; tail = form.tail }

abbrev pub seen_forms : List FormData → List Form
seen_forms [] = []
seen_forms (form ∷ forms) = seen_form form ∷ seen_forms forms
