use Rattle.std.proofs.Common.{◌≡◌, ◌∙◌, ◌++◌, ℕ, List, not, codes, drop, Some, IsTrue, ap, sym, subst, refl, arith}
use Rattle.t1_event.specs.declared.item.Item.{Item}
use Rattle.t1_event.specs.Kinds.{is_read, is_access, is_changing}
use Rattle.t1_take.specs.declared.cursor.Cursor.{Cursor}
use Rattle.t1_take.specs.Taken.{IsGood}
use Rattle.t1_take.specs.Items.{IsGoodItem}
use Rattle.t1_take.specs.Fields.{fields_of, item_from}
use Rattle.t1_take.proofs.Taking.{followed}
use Rattle.t1_take.proofs.ItemTexts.{access_taken}
use Rattle.t1_take.proofs.Finding.{next}
use Rattle.t1_take.proofs.ItemsFound.{fields_in, access_fields, access_fields_text, item_same}
use Rattle.t1_take.proofs.item.take_access.Goals as goal

pub returns-clause-reads : goal.returns-clause-reads
returns-clause-reads c =
    access_taken c.args.text.now c.args.cursor.now c.word.new.self c.access_of.new.cursor c.args.kind c.take_fields-fields.result _ _ c.requires.reads c.requires.writes
    (λ small. followed (c.take_fields-fields.ensures.takes small) c.word.ensures.takes) c.access_of.result c.access_of.ensures.value c.access_of.ensures.cursor

pub returns-clause-finds : goal.returns-clause-finds
returns-clause-finds c = λ item rest small good kind g e.
    let reads : c.args.reads ≡ is_read item.kind = c.requires.reads ∙ ap is_read (sym kind) in
    let writes : not c.args.reads ≡ is_changing item.kind = c.requires.writes ∙ ap is_changing (sym kind) in
    let access : IsTrue (is_access item.kind) = ap is_access kind ∙ c.requires.access in
    let all = access_fields c.args.ram item c.args.reads (not c.args.reads) small good access reads writes in
    let line : List ℕ = fields_of c.args.reads (not c.args.reads) (fields_in item) in
    let s1 = c.take_fields-fields.ensures.finds (fields_in item) (codes "\n" ++ rest) all.fields all.some all.few refl
    (next _ line (codes "\n") rest (e ∙ ap (λ (t : List ℕ). t ++ rest) (access_fields_text item c.args.reads (not c.args.reads) reads writes))) in
    let s2 = c.word.ensures.finds (omega arith) rest s1.1.rest_is in
    let same : item_from c.args.kind c.take_fields-fields.result ≡ item = item_same item c.args.kind c.take_fields-fields.result kind s1.0 in
    let s3 = c.access_of.ensures.finds (subst (IsGoodItem c.args.ram) (sym same) good) (s2.good (s1.1.good g)) in (
      s3.0 ∙ ap (λ (x : Item). Some x) same,
      record {
        good = λ _. subst IsGood (sym s3.1) (s2.good (s1.1.good g));
        rest_is = ap (λ (k : Cursor). drop k.at c.args.text.now) s3.1 ∙ s2.rest_is;
      },
    )
