use Rattle.std.proofs.Common.{◌≡◌, ◌∙◌, ◌++◌, ℕ, List, Bool, true, codes, drop, Some, IsTrue, ap, sym, subst, refl, arith}
use Rattle.t1_event.specs.declared.item.Item.{Item}
use Rattle.t1_event.specs.Kinds.{is_read, is_access, is_changing}
use Rattle.t1_take.specs.declared.cursor.Cursor.{Cursor}
use Rattle.t1_take.specs.Taken.{IsGood}
use Rattle.t1_take.specs.Items.{IsGoodItem}
use Rattle.t1_take.specs.Fields.{fields_of, item_from}
use Rattle.t1_event.specs.declared.item.ItemKind.TheVariants.{Atomic}
use Rattle.t1_take.proofs.Taking.{followed}
use Rattle.t1_take.proofs.ItemTexts.{access_taken, atomic_own}
use Rattle.t1_take.proofs.Finding.{next}
use Rattle.t1_take.proofs.ItemsFound.{fields_in, access_fields, access_fields_text, item_same}
use Rattle.t1_take.proofs.item.take_atomic.Goals as goal

pub returns-clause-reads : goal.returns-clause-reads
returns-clause-reads c =
    atomic_own c.args.text.now c.args.cursor.now c.access_of.new.cursor c.take_both-wrote.result.0 c.access_of.result
    (access_taken c.args.text.now c.args.cursor.now c.word.new.self c.access_of.new.cursor (Atomic c.take_both-wrote.result.0) c.take_both-wrote.result.1 _ _ refl refl
    (λ small. followed (c.take_both-wrote.ensures.takes small) c.word.ensures.takes) c.access_of.result c.access_of.ensures.value c.access_of.ensures.cursor)

pub returns-clause-finds : goal.returns-clause-finds
returns-clause-finds c = λ item wrote rest small good kind g e.
    let reads : true ≡ is_read item.kind = sym (ap is_read kind) in
    let writes : wrote ≡ is_changing item.kind = sym (ap is_changing kind) in
    let access : IsTrue (is_access item.kind) = ap is_access kind in
    let all = access_fields c.args.ram item true wrote small good access reads writes in
    let line : List ℕ = fields_of true wrote (fields_in item) in
    let s1 = c.take_both-wrote.ensures.finds wrote (fields_in item) (codes "\n" ++ rest) all.fields all.some all.few refl
    (next _ line (codes "\n") rest (e ∙ ap (λ (t : List ℕ). t ++ rest) (access_fields_text item true wrote reads writes))) in
    let s2 = c.word.ensures.finds (omega arith) rest s1.2.rest_is in
    let kind_is : item.kind ≡ Atomic c.take_both-wrote.result.0 = kind ∙ ap (λ (b : Bool). Atomic b) (sym s1.0) in
    let same : item_from (Atomic c.take_both-wrote.result.0) c.take_both-wrote.result.1 ≡ item = item_same item (Atomic c.take_both-wrote.result.0) c.take_both-wrote.result.1 kind_is s1.1 in
    let s3 = c.access_of.ensures.finds (subst (IsGoodItem c.args.ram) (sym same) good) (s2.good (s1.2.good g)) in (
      s3.0 ∙ ap (λ (x : Item). Some x) same,
      record {
        good = λ _. subst IsGood (sym s3.1) (s2.good (s1.2.good g));
        rest_is = ap (λ (k : Cursor). drop k.at c.args.text.now) s3.1 ∙ s2.rest_is;
      },
    )
