-- The texts of items, in pieces.
use Rattle.std.proofs.Common.{◌≡◌, ℕ, ◌≤◌, ◌*◌, ◌++◌, if◌then◌else◌, Bool, true, false, List, codes, decimal, Option, Some, None, refl, sym, ap, subst, ◌∙◌, append_assoc}
use Rattle.std.specs.Option.{IfSome}
use Rattle.t1_event.specs.declared.item.Item.{Item}
use Rattle.t1_event.specs.declared.item.ItemKind.{ItemKind}
use Rattle.t1_event.specs.declared.item.ItemKind.TheVariants.{Fetch, Load, Store, Atomic, Membar, Flush}
use Rattle.t1_event.specs.declared.item.How.TheVariants.{Unplaced}
use Rattle.t1_event.specs.Kinds.{is_read, is_changing}
use Rattle.t1_log.specs.Hex.{hex_of}
use Rattle.t1_log.specs.Lines.{got_of, put_of, access_fields_of, fields_of_kind, item_fields_of}
use Rattle.t1_log.specs.Log.{place_fields_of}
use Rattle.t1_event.specs.declared.trace.Ending.{Ending}
use Rattle.t1_log.specs.Texts.{lines_from}
use Rattle.t1_log.specs.Log.{item_line_of, trace_lines_of}
use Rattle.t1_log.specs.Lines.{ending_fields_of, ending_line_of}
use Rattle.t1_take.specs.declared.cursor.Cursor.{Cursor}
use Rattle.t1_take.specs.declared.item.Fields.{Fields}
use Rattle.t1_take.specs.Taken.{IsGood, Takes}
use Rattle.t1_take.proofs.Taking.{followed, renamed}
use Rattle.t1_take.specs.Fields.{span_of, field_of, fields_of, item_from, access_line_of, kind_line_of}

got_is : (item : Item) → got_of item ≡ field_of (is_read item.kind) item.size item.got
unfolding got_of
got_is item = go (is_read item.kind)
  where
    go : (b : Bool) → (if b then hex_of (2 * item.size) item.got else codes "-") ≡ field_of b item.size item.got
    go true = refl
    go false = refl

put_is : (item : Item) → put_of item ≡ field_of (is_changing item.kind) item.size item.put
unfolding put_of
put_is item = go (is_changing item.kind)
  where
    go : (b : Bool) → (if b then hex_of (2 * item.size) item.put else codes "-") ≡ field_of b item.size item.put
    go true = refl
    go false = refl

assoc4 : (a b c d r : List ℕ) → (a ++ (b ++ (c ++ d))) ++ r ≡ a ++ (b ++ (c ++ (d ++ r)))
assoc4 a b c d r = append_assoc a _ r ∙ ap (λ x. a ++ x) (append_assoc b _ r ∙ ap (λ x. b ++ x) (append_assoc c d r))

-- the fields of an access and its place, one after another
access_pieces : (item : Item) (end : List ℕ)
    → (span_of item.addr item.size ++ (got_of item ++ (codes " " ++ (put_of item ++ place_fields_of item.how)))) ++ end ≡ access_fields_of item ++ (place_fields_of item.how ++ end)
unfolding access_fields_of
access_pieces item end =
    let a : List ℕ = hex_of 10 item.addr in
    let sp : List ℕ = codes " " in
    let d : List ℕ = decimal item.size in
    let g : List ℕ = got_of item in
    let p : List ℕ = put_of item in
    let h : List ℕ = place_fields_of item.how in
    let left : (span_of item.addr item.size ++ (g ++ (sp ++ (p ++ h)))) ++ end ≡ a ++ (sp ++ (d ++ (sp ++ (g ++ (sp ++ (p ++ (h ++ end))))))) =
    append_assoc (span_of item.addr item.size) (g ++ (sp ++ (p ++ h))) end
    ∙ (ap (λ x. span_of item.addr item.size ++ x) (assoc4 g sp p h end) ∙ assoc4 a sp d sp (g ++ (sp ++ (p ++ (h ++ end))))) in
    let right : (a ++ (sp ++ (d ++ (sp ++ (g ++ (sp ++ p)))))) ++ (h ++ end) ≡ a ++ (sp ++ (d ++ (sp ++ (g ++ (sp ++ (p ++ (h ++ end))))))) =
    assoc4 a sp d (sp ++ (g ++ (sp ++ p))) (h ++ end) ∙ ap (λ x. a ++ (sp ++ (d ++ x))) (assoc4 sp g sp p (h ++ end)) in
    left ∙ sym right

pub access_text : (kind : ItemKind) (fields : Fields) → fields_of (is_read kind) (is_changing kind) fields ++ codes "\n" ≡ access_line_of (item_from kind fields)
access_text kind fields =
    let item : Item = item_from kind fields in
    ap (λ g. (span_of item.addr item.size ++ (g ++ (codes " " ++ (field_of (is_changing kind) fields.size fields.put ++ place_fields_of item.how)))) ++ codes "\n") (sym (got_is item))
    ∙ (ap (λ p. (span_of item.addr item.size ++ (got_of item ++ (codes " " ++ (p ++ place_fields_of item.how)))) ++ codes "\n") (sym (put_is item))
    ∙ access_pieces item (codes "\n"))

-- an item from its kind on
named : (kind : ItemKind) (item : Item) → item.kind ≡ kind → item_fields_of item ≡ fields_of_kind kind item
named kind item e = ap (λ (k : ItemKind). fields_of_kind k item) e

pub fetch_text : (item : Item) → item.kind ≡ Fetch → codes "fetch " ++ access_line_of item ≡ kind_line_of item
unfolding fields_of_kind
fetch_text item e = sym (append_assoc (codes "fetch ") (access_fields_of item) _) ∙ ap (λ f. f ++ (place_fields_of item.how ++ codes "\n")) (sym (named Fetch item e))

pub load_text : (item : Item) → item.kind ≡ Load → codes "load " ++ access_line_of item ≡ kind_line_of item
unfolding fields_of_kind
load_text item e = sym (append_assoc (codes "load ") (access_fields_of item) _) ∙ ap (λ f. f ++ (place_fields_of item.how ++ codes "\n")) (sym (named Load item e))

pub store_text : (item : Item) → item.kind ≡ Store → codes "store " ++ access_line_of item ≡ kind_line_of item
unfolding fields_of_kind
store_text item e = sym (append_assoc (codes "store ") (access_fields_of item) _) ∙ ap (λ f. f ++ (place_fields_of item.how ++ codes "\n")) (sym (named Store item e))

pub atomic_text : (item : Item) (wrote : Bool) → item.kind ≡ Atomic wrote → codes "atomic " ++ access_line_of item ≡ kind_line_of item
unfolding fields_of_kind
atomic_text item wrote e = sym (append_assoc (codes "atomic ") (access_fields_of item) _) ∙ ap (λ f. f ++ (place_fields_of item.how ++ codes "\n")) (sym (named (Atomic wrote) item e))

pub membar_text : (item : Item) → item.kind ≡ Membar → item.how ≡ Unplaced → codes "membar " ++ (hex_of 2 item.size ++ codes "\n") ≡ kind_line_of item
unfolding fields_of_kind place_fields_of
membar_text item e h =
    sym (append_assoc (codes "membar ") (hex_of 2 item.size) (codes "\n"))
    ∙ (ap (λ f. f ++ codes "\n") (sym (named Membar item e)) ∙ ap (λ p. item_fields_of item ++ (place_fields_of p ++ codes "\n")) (sym h))

pub flush_text : (item : Item) → item.kind ≡ Flush → item.how ≡ Unplaced → codes "flush\n" ≡ kind_line_of item
unfolding fields_of_kind place_fields_of
flush_text item e h =
    ap (λ f. f ++ codes "\n") (sym (named Flush item e)) ∙ ap (λ p. item_fields_of item ++ (place_fields_of p ++ codes "\n")) (sym h)

-- ---- what was taken, as a text of an item

pub access_taken : (text : List ℕ) (old mid new : Cursor) (kind : ItemKind) (fields : Fields) (reads writes : Bool) → reads ≡ is_read kind → writes ≡ is_changing kind
    → (fields.size ≤ 8 → Takes text old mid (fields_of reads writes fields ++ codes "\n")) → (o : Option Item)
    → IfSome o (λ item. (item ≡ item_from kind fields) × (item.size ≤ 8)) → IfSome o (λ _. (new ≡ mid) × IsGood new)
    → IfSome o (λ item. (item.kind ≡ kind) × IsGood new × Takes text old new (access_line_of item))
access_taken text old mid new kind fields reads writes r w t None v g = tt
access_taken text old mid new kind fields reads writes r w t (Some item) v g =
    let size : fields.size ≤ 8 = subst (λ (x : Item). x.size ≤ 8) v.0 v.1 in
    let spelled : fields_of reads writes fields ++ codes "\n" ≡ access_line_of item =
    ap (λ b. fields_of b writes fields ++ codes "\n") r ∙ (ap (λ b. fields_of (is_read kind) b fields ++ codes "\n") w ∙ (access_text kind fields ∙ ap access_line_of (sym v.0))) in
    (ap (λ (x : Item). x.kind) v.0, g.1, subst (λ (e : Cursor). Takes text old e (access_line_of item)) (sym g.0) (renamed spelled (t size)))

pub kind_taken : (text word : List ℕ) (start from mid end : Cursor) (line : Item → List ℕ) (P : Item → Type 0) (o : Option Item) → from ≡ start → Takes text from mid word
    → IfSome o (λ item. P item × IsGood end × Takes text mid end (line item)) → ((item : Item) → P item → word ++ line item ≡ kind_line_of item)
    → IfSome o (λ item. IsGood end × Takes text start end (kind_line_of item))
kind_taken text word start from mid end line P None e w h f = tt
kind_taken text word start from mid end line P (Some item) e w h f =
    (h.1, subst (λ (s : Cursor). Takes text s end (kind_line_of item)) e (renamed (f item h.0) (followed w h.2)))

pub item_text : (strand number : ℕ) (item : Item) → codes "i " ++ (decimal strand ++ (codes " " ++ (decimal number ++ (codes " " ++ kind_line_of item)))) ≡ item_line_of strand number item
unfolding item_line_of
item_text strand number item = refl

pub atomic_own : (text : List ℕ) (old new : Cursor) (wrote : Bool) (o : Option Item)
    → IfSome o (λ item. (item.kind ≡ Atomic wrote) × IsGood new × Takes text old new (access_line_of item))
    → IfSome o (λ item. (item.kind ≡ Atomic (is_changing item.kind)) × IsGood new × Takes text old new (access_line_of item))
atomic_own text old new wrote None h = tt
atomic_own text old new wrote (Some item) h =
    let w : wrote ≡ is_changing item.kind = sym (ap is_changing h.0) in
    (h.0 ∙ ap (λ b. Atomic b) w, h.1, h.2)

pub end_text : (strand : ℕ) (ending : Ending) (units pc : ℕ) → codes "e " ++ (decimal strand ++ (codes " " ++ (ending_fields_of ending units pc ++ codes "\n"))) ≡ ending_line_of strand ending units pc
unfolding ending_line_of
end_text strand ending units pc = refl

pub trace_text : (strand : ℕ) (items : List Item) (units pc : ℕ) (ending : Ending)
    → lines_from (item_line_of strand) 0 items ++ ending_line_of strand ending units pc ≡ trace_lines_of strand (record { items = items; units = units; pc = pc; ending = Some ending })
unfolding trace_lines_of
trace_text strand items units pc ending = refl
