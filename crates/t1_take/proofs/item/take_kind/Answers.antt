use Rattle.std.proofs.Common.{◌≡◌, ◌∙◌, ◌++◌, ℕ, List, [], codes, drop, ap, sym, subst, refl, arith}
use Rattle.t1_event.specs.declared.item.ItemKind.{ItemKind}
use Rattle.t1_take.specs.declared.cursor.Cursor.{Cursor}
use Rattle.t1_take.specs.Taken.{IsGood}
use Rattle.t1_take.specs.Items.{IsPlaceOf}
use Rattle.t1_event.specs.declared.item.ItemKind.TheVariants.{Fetch, Load, Store, Atomic, Membar, Flush}
use Rattle.t1_event.specs.declared.item.How.TheVariants.{Unplaced}
use Rattle.t1_event.specs.Kinds.{is_access, is_changing}
use Rattle.t1_log.specs.Hex.{hex_of}
use Rattle.t1_take.specs.Fields.{access_line_of, kind_line_of}
use Rattle.t1_take.proofs.Taking.{nothing}
use Rattle.t1_take.proofs.ItemTexts.{kind_taken, fetch_text, load_text, store_text, atomic_text, membar_text, flush_text}
use Rattle.t1_take.proofs.ItemsFound.{IsNot, is_fetch, is_load, is_store, is_atomic, is_membar, is_flush}
use Rattle.t1_take.proofs.item.take_kind.Goals as goal

pub returns-then-takes-clause-reads : goal.returns-then-takes-clause-reads
returns-then-takes-clause-reads c =
    kind_taken c.args.text.now (codes "fetch ") c.args.cursor.now c.args.cursor.now c.takes.new.self c.take_access.new.cursor access_line_of (λ item. item.kind ≡ Fetch) c.take_access.result refl
    c.if-takes.ensures.cases c.take_access.ensures.reads fetch_text

pub returns-then-takes-2-clause-reads : goal.returns-then-takes-2-clause-reads
returns-then-takes-2-clause-reads c =
    kind_taken c.args.text.now (codes "load ") c.args.cursor.now c.takes.new.self c.takes-2.new.self c.take_access-then-takes-2.new.cursor access_line_of (λ item. item.kind ≡ Load) c.take_access-then-takes-2.result
    c.if-takes.ensures.cases c.if-takes-2.ensures.cases c.take_access-then-takes-2.ensures.reads load_text

pub returns-then-takes-3-clause-reads : goal.returns-then-takes-3-clause-reads
returns-then-takes-3-clause-reads c =
    kind_taken c.args.text.now (codes "store ") c.args.cursor.now c.takes-2.new.self c.takes-3.new.self c.take_access-then-takes-3.new.cursor access_line_of (λ item. item.kind ≡ Store) c.take_access-then-takes-3.result
    (c.if-takes-2.ensures.cases ∙ c.if-takes.ensures.cases) c.if-takes-3.ensures.cases c.take_access-then-takes-3.ensures.reads store_text

pub returns-then-takes-4-clause-reads : goal.returns-then-takes-4-clause-reads
returns-then-takes-4-clause-reads c =
    kind_taken c.args.text.now (codes "atomic ") c.args.cursor.now c.takes-3.new.self c.takes-4.new.self c.take_atomic.new.cursor access_line_of (λ item. item.kind ≡ Atomic (is_changing item.kind)) c.take_atomic.result
    (c.if-takes-3.ensures.cases ∙ (c.if-takes-2.ensures.cases ∙ c.if-takes.ensures.cases)) c.if-takes-4.ensures.cases c.take_atomic.ensures.reads (λ item e. atomic_text item (is_changing item.kind) e)

pub returns-then-takes-5-clause-reads : goal.returns-then-takes-5-clause-reads
returns-then-takes-5-clause-reads c =
    kind_taken c.args.text.now (codes "membar ") c.args.cursor.now c.takes-4.new.self c.takes-5.new.self c.take_membar.new.cursor (λ item. hex_of 2 item.size ++ codes "\n") (λ item. (item.kind ≡ Membar) × (item.how ≡ Unplaced)) c.take_membar.result
    (c.if-takes-4.ensures.cases ∙ (c.if-takes-3.ensures.cases ∙ (c.if-takes-2.ensures.cases ∙ c.if-takes.ensures.cases))) c.if-takes-5.ensures.cases c.take_membar.ensures.reads (λ item e. membar_text item e.0 e.1)

pub returns-clause-reads : goal.returns-clause-reads
returns-clause-reads c =
    kind_taken c.args.text.now [] c.args.cursor.now c.takes-5.new.self c.takes-5.new.self c.take_flush.new.cursor (λ item. codes "flush\n") (λ item. (item.kind ≡ Flush) × (item.how ≡ Unplaced)) c.take_flush.result
    (c.if-takes-5.ensures.cases ∙ (c.if-takes-4.ensures.cases ∙ (c.if-takes-3.ensures.cases ∙ (c.if-takes-2.ensures.cases ∙ c.if-takes.ensures.cases)))) (nothing c.args.text.now c.takes-5.new.self) c.take_flush.ensures.reads (λ item e. flush_text item e.0 e.1)

pub returns-then-takes-clause-finds : goal.returns-then-takes-clause-finds
returns-then-takes-clause-finds c = λ item rest small good g e.
    let here = e in
    let g0 = g in
    let kind = is_fetch item rest (drop c.takes.new.self.at c.args.text.now) (sym here ∙ c.if-takes.ensures.stands refl) in
    let s1 = (c.if-takes.ensures.finds (access_line_of item ++ rest) (omega arith) (here ∙ ap (λ (t : List ℕ). t ++ rest) (sym (fetch_text item kind)))).1 in
    let s2 = c.take_access.ensures.finds item rest small good kind (s1.good g0) s1.rest_is in
    (s2.0, record { good = λ _. s2.1.good (s1.good g0); rest_is = s2.1.rest_is })

pub returns-then-takes-2-clause-finds : goal.returns-then-takes-2-clause-finds
returns-then-takes-2-clause-finds c = λ item rest small good g e.
    let back : c.takes.new.self ≡ c.args.cursor.now = c.if-takes.ensures.cases in
    let here : drop c.takes.new.self.at c.args.text.now ≡ kind_line_of item ++ rest = ap (λ (k : Cursor). drop k.at c.args.text.now) back ∙ e in
    let g0 : IsGood c.takes.new.self = subst IsGood (sym back) g in
    let kind = is_load item rest (drop c.takes-2.new.self.at c.args.text.now) (sym here ∙ c.if-takes-2.ensures.stands refl) in
    let s1 = (c.if-takes-2.ensures.finds (access_line_of item ++ rest) (omega arith) (here ∙ ap (λ (t : List ℕ). t ++ rest) (sym (load_text item kind)))).1 in
    let s2 = c.take_access-then-takes-2.ensures.finds item rest small good kind (s1.good g0) s1.rest_is in
    (s2.0, record { good = λ _. s2.1.good (s1.good g0); rest_is = s2.1.rest_is })

pub returns-then-takes-3-clause-finds : goal.returns-then-takes-3-clause-finds
returns-then-takes-3-clause-finds c = λ item rest small good g e.
    let back : c.takes-2.new.self ≡ c.args.cursor.now = (c.if-takes-2.ensures.cases ∙ c.if-takes.ensures.cases) in
    let here : drop c.takes-2.new.self.at c.args.text.now ≡ kind_line_of item ++ rest = ap (λ (k : Cursor). drop k.at c.args.text.now) back ∙ e in
    let g0 : IsGood c.takes-2.new.self = subst IsGood (sym back) g in
    let kind = is_store item rest (drop c.takes-3.new.self.at c.args.text.now) (sym here ∙ c.if-takes-3.ensures.stands refl) in
    let s1 = (c.if-takes-3.ensures.finds (access_line_of item ++ rest) (omega arith) (here ∙ ap (λ (t : List ℕ). t ++ rest) (sym (store_text item kind)))).1 in
    let s2 = c.take_access-then-takes-3.ensures.finds item rest small good kind (s1.good g0) s1.rest_is in
    (s2.0, record { good = λ _. s2.1.good (s1.good g0); rest_is = s2.1.rest_is })

pub returns-then-takes-4-clause-finds : goal.returns-then-takes-4-clause-finds
returns-then-takes-4-clause-finds c = λ item rest small good g e.
    let back : c.takes-3.new.self ≡ c.args.cursor.now = ((c.if-takes-3.ensures.cases ∙ c.if-takes-2.ensures.cases) ∙ c.if-takes.ensures.cases) in
    let here : drop c.takes-3.new.self.at c.args.text.now ≡ kind_line_of item ++ rest = ap (λ (k : Cursor). drop k.at c.args.text.now) back ∙ e in
    let g0 : IsGood c.takes-3.new.self = subst IsGood (sym back) g in
    let kind = is_atomic item rest (drop c.takes-4.new.self.at c.args.text.now) (sym here ∙ c.if-takes-4.ensures.stands refl) in
    let s1 = (c.if-takes-4.ensures.finds (access_line_of item ++ rest) (omega arith) (here ∙ ap (λ (t : List ℕ). t ++ rest) (sym (atomic_text item kind.0 kind.1)))).1 in
    let s2 = c.take_atomic.ensures.finds item kind.0 rest small good kind.1 (s1.good g0) s1.rest_is in
    (s2.0, record { good = λ _. s2.1.good (s1.good g0); rest_is = s2.1.rest_is })

pub returns-then-takes-5-clause-finds : goal.returns-then-takes-5-clause-finds
returns-then-takes-5-clause-finds c = λ item rest small good g e.
    let back : c.takes-4.new.self ≡ c.args.cursor.now = (((c.if-takes-4.ensures.cases ∙ c.if-takes-3.ensures.cases) ∙ c.if-takes-2.ensures.cases) ∙ c.if-takes.ensures.cases) in
    let here : drop c.takes-4.new.self.at c.args.text.now ≡ kind_line_of item ++ rest = ap (λ (k : Cursor). drop k.at c.args.text.now) back ∙ e in
    let g0 : IsGood c.takes-4.new.self = subst IsGood (sym back) g in
    let kind = is_membar item rest (drop c.takes-5.new.self.at c.args.text.now) (sym here ∙ c.if-takes-5.ensures.stands refl) in
    let unplaced : item.how ≡ Unplaced = subst (λ (k : ItemKind). IsPlaceOf (is_access k) item.how) kind good.place in
    let s1 = (c.if-takes-5.ensures.finds ((hex_of 2 item.size ++ codes "\n") ++ rest) (omega arith) (here ∙ ap (λ (t : List ℕ). t ++ rest) (sym (membar_text item kind unplaced)))).1 in
    let s2 = c.take_membar.ensures.finds c.args.ram item rest good kind (s1.good g0) s1.rest_is in
    (s2.0, record { good = λ _. s2.1.good (s1.good g0); rest_is = s2.1.rest_is })

pub returns-clause-finds : goal.returns-clause-finds
returns-clause-finds c = λ item rest small good g e.
    let n0 : IsNot (drop c.args.cursor.now.at c.args.text.now) (codes "fetch ") = λ more f. (let bad = (c.if-takes.ensures.finds more (omega arith) f).0 in cc) in
    let b1 : c.takes.new.self ≡ c.args.cursor.now = c.if-takes.ensures.cases in
    let n1 : IsNot (drop c.args.cursor.now.at c.args.text.now) (codes "load ") = λ more f. (let bad = (c.if-takes-2.ensures.finds more (omega arith) (ap (λ (k : Cursor). drop k.at c.args.text.now) b1 ∙ f)).0 in cc) in
    let b2 : c.takes-2.new.self ≡ c.args.cursor.now = (c.if-takes-2.ensures.cases ∙ c.if-takes.ensures.cases) in
    let n2 : IsNot (drop c.args.cursor.now.at c.args.text.now) (codes "store ") = λ more f. (let bad = (c.if-takes-3.ensures.finds more (omega arith) (ap (λ (k : Cursor). drop k.at c.args.text.now) b2 ∙ f)).0 in cc) in
    let b3 : c.takes-3.new.self ≡ c.args.cursor.now = ((c.if-takes-3.ensures.cases ∙ c.if-takes-2.ensures.cases) ∙ c.if-takes.ensures.cases) in
    let n3 : IsNot (drop c.args.cursor.now.at c.args.text.now) (codes "atomic ") = λ more f. (let bad = (c.if-takes-4.ensures.finds more (omega arith) (ap (λ (k : Cursor). drop k.at c.args.text.now) b3 ∙ f)).0 in cc) in
    let b4 : c.takes-4.new.self ≡ c.args.cursor.now = (((c.if-takes-4.ensures.cases ∙ c.if-takes-3.ensures.cases) ∙ c.if-takes-2.ensures.cases) ∙ c.if-takes.ensures.cases) in
    let n4 : IsNot (drop c.args.cursor.now.at c.args.text.now) (codes "membar ") = λ more f. (let bad = (c.if-takes-5.ensures.finds more (omega arith) (ap (λ (k : Cursor). drop k.at c.args.text.now) b4 ∙ f)).0 in cc) in
    let back : c.takes-5.new.self ≡ c.args.cursor.now = ((((c.if-takes-5.ensures.cases ∙ c.if-takes-4.ensures.cases) ∙ c.if-takes-3.ensures.cases) ∙ c.if-takes-2.ensures.cases) ∙ c.if-takes.ensures.cases) in
    let here : drop c.takes-5.new.self.at c.args.text.now ≡ kind_line_of item ++ rest = ap (λ (k : Cursor). drop k.at c.args.text.now) back ∙ e in
    let kind = is_flush item rest (drop c.args.cursor.now.at c.args.text.now) e n0 n1 n2 n3 n4 in
    let unplaced : item.how ≡ Unplaced = subst (λ (k : ItemKind). IsPlaceOf (is_access k) item.how) kind good.place in
    let g0 : IsGood c.takes-5.new.self = subst IsGood (sym back) g in
    let s1 = c.take_flush.ensures.finds c.args.ram item rest good kind g0 (here ∙ ap (λ (t : List ℕ). t ++ rest) (sym (flush_text item kind unplaced))) in
    (s1.0, record { good = λ _. s1.1.good g0; rest_is = s1.1.rest_is })
