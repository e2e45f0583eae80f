-- The fields of an access, before they are judged.
use Rattle.std.specs.Prelude.{ℕ, ◌≤◌, ◌*◌, ◌++◌, Bool, true, false, List, codes, decimal}
use Rattle.t1_log.specs.Hex.{hex_of}
use Rattle.t1_log.specs.Log.{place_fields_of}
use Rattle.t1_event.specs.Printable.{FitsDigits}
use Rattle.t1_event.specs.declared.item.Item.{Item}
use Rattle.t1_event.specs.declared.item.ItemKind.{ItemKind}
use Rattle.t1_log.specs.Lines.{access_fields_of, item_fields_of}
use Rattle.t1_take.specs.declared.item.Fields.{Fields}
use Rattle.t1_take.specs.Items.{IsValueOf, IsPlaceOf}

-- of an access that reads, or not, and that writes, or not
pub record AreFields (reads writes : Bool) (fields : Fields) : Type 0 where
  pub addr : FitsDigits 10 fields.addr
  pub got : fields.size ≤ 8 → IsValueOf reads fields.size fields.got
  pub put : fields.size ≤ 8 → IsValueOf writes fields.size fields.put
  pub place : IsPlaceOf true fields.how

-- how they are spelled
abbrev pub span_of : ℕ → ℕ → List ℕ
span_of addr size = hex_of 10 addr ++ (codes " " ++ (decimal size ++ codes " "))

abbrev pub field_of : Bool → ℕ → ℕ → List ℕ
field_of true size value = hex_of (2 * size) value
field_of false size value = codes "-"

abbrev pub fields_of : Bool → Bool → Fields → List ℕ
fields_of reads writes fields =
    span_of fields.addr fields.size ++ (field_of reads fields.size fields.got ++ (codes " " ++ (field_of writes fields.size fields.put ++ place_fields_of fields.how)))

-- the access of these fields
abbrev pub item_from : ItemKind → Fields → Item
item_from kind fields = record { kind = kind; addr = fields.addr; size = fields.size; got = fields.got; put = fields.put; how = fields.how }

-- the fields of an access, or an item from its kind on, with its place and its line feed
abbrev pub access_line_of : Item → List ℕ
access_line_of item = access_fields_of item ++ (place_fields_of item.how ++ codes "\n")

abbrev pub kind_line_of : Item → List ℕ
kind_line_of item = item_fields_of item ++ (place_fields_of item.how ++ codes "\n")
