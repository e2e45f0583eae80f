-- Items that stand in a text are read.
use Rattle.std.proofs.Common.{◌≡◌, ℕ, ◌*◌, ◌^◌, ◌<◌, ◌≤◌, ◌++◌, List, Bool, true, false, eqb, not, codes, decimal, drop, get_or, refl, sym, ap, subst, ◌∙◌, append_assoc, inl, inr, arith}
use Rattle.t1_num.specs.Memory.{IsSize}
use Rattle.t1_event.specs.declared.item.Item.{Item}
use Rattle.t1_event.specs.declared.item.ItemKind.{ItemKind}
use Rattle.t1_event.specs.declared.item.ItemKind.TheVariants.{Fetch, Load, Store, Atomic, Membar, Flush}
use Rattle.t1_event.specs.declared.trace.Ending.{Ending}
use Rattle.t1_event.specs.declared.trace.Ending.TheVariants as ending
use Rattle.t1_event.specs.Kinds.{is_read, is_changing, IsAccess}
use Rattle.t1_log.specs.Hex.{digit_of, hex_of}
use Rattle.t1_log.specs.Lines.{fields_of_kind, ending_fields_of}
use Rattle.t1_log.specs.Log.{place_fields_of}
use Rattle.t1_take.specs.declared.item.Fields.{Fields}
use Rattle.t1_take.specs.Items.{IsSizeOf, IsReached, IsValueOf, IsPlaceOf, IsGoodItem}
use Rattle.t1_take.specs.Fields.{AreFields, field_of, fields_of, item_from, access_line_of, kind_line_of}
use Rattle.t1_take.proofs.ItemTexts.{access_text}
use Rattle.t1_take.proofs.Finding.{digit_at, digit_high, length-hex_of}
use Rattle.t1_take.proofs.Leaving.{first_at, peeked}
use Rattle.std.proofs.lemmas.Bool.{eq-eqb, ne_eqb}
use Rattle.std.proofs.lemmas.List.{get_or_append_left}

-- the fields of an access
abbrev pub fields_in : Item → Fields
fields_in item = record { addr = item.addr; size = item.size; got = item.got; put = item.put; how = item.how }

-- an access has a size
pub size_of : (k : ItemKind) (size : ℕ) → IsAccess k → IsSizeOf k size → IsSize size
size_of Fetch size a e = inr (inr (inl e))
size_of Load size a e = e
size_of Store size a e = e
size_of (Atomic w) size a e = e
size_of Membar size a e = cc
size_of Flush size a e = cc

some : (size : ℕ) → IsSize size → (1 ≤ size) × (size ≤ 8)
some size (inl e) = (omega (arith, e), omega (arith, e))
some size (inr (inl e)) = (omega (arith, e), omega (arith, e))
some size (inr (inr (inl e))) = (omega (arith, e), omega (arith, e))
some size (inr (inr (inr e))) = (omega (arith, e), omega (arith, e))

low : (ram : ℕ) (kind : ItemKind) (addr : ℕ) → ram ≤ 2 ^ 40 → IsReached ram kind addr → addr < 2 ^ 40
low ram Fetch addr small r = omega (arith, r, small)
low ram Load addr small r = elim r [ inl l ↦ omega (arith, l, small) | inr io ↦ io.1 ]
low ram Store addr small r = elim r [ inl l ↦ omega (arith, l, small) | inr io ↦ io.1 ]
low ram (Atomic wrote) addr small r = omega (arith, r, small)
low ram Membar addr small r = omega (arith, r)
low ram Flush addr small r = omega (arith, r)

pub record IsAccessFound (reads writes : Bool) (item : Item) : Type 0 where
  pub fields : AreFields reads writes (fields_in item)
  pub some : 1 ≤ item.size
  pub few : item.size ≤ 8

pub access_fields : (ram : ℕ) (item : Item) (reads writes : Bool) → ram ≤ 2 ^ 40 → IsGoodItem ram item → IsAccess item.kind → reads ≡ is_read item.kind → writes ≡ is_changing item.kind → IsAccessFound reads writes item
access_fields ram item reads writes small good access r w =
    let size = some item.size (size_of item.kind item.size access good.size) in
    record {
      fields = record {
        addr = low ram item.kind item.addr small good.reached;
        got = λ _. subst (λ (b : Bool). IsValueOf b item.size item.got) (sym r) good.got;
        put = λ _. subst (λ (b : Bool). IsValueOf b item.size item.put) (sym w) good.put;
        place = subst (λ (b : Bool). IsPlaceOf b item.how) access good.place;
      };
      some = size.0;
      few = size.1;
    }

-- its line, of these fields
pub access_fields_text : (item : Item) (reads writes : Bool) → reads ≡ is_read item.kind → writes ≡ is_changing item.kind → access_line_of item ≡ fields_of reads writes (fields_in item) ++ codes "\n"
access_fields_text item reads writes r w =
    sym (access_text item.kind (fields_in item))
    ∙ (ap (λ (b : Bool). fields_of b (is_changing item.kind) (fields_in item) ++ codes "\n") (sym r) ∙ ap (λ (b : Bool). fields_of reads b (fields_in item) ++ codes "\n") (sym w))

-- the access of the fields that were taken
pub item_same : (item : Item) (kind : ItemKind) (fields : Fields) → item.kind ≡ kind → fields ≡ fields_in item → item_from kind fields ≡ item
item_same item kind fields k f = λ i. record { kind = sym k i; addr = (f i).addr; size = (f i).size; got = (f i).got; put = (f i).put; how = (f i).how }

-- ---- kinds

letter : (xs ys : List ℕ) (n : ℕ) → xs ≡ ys → get_or xs n 0 ≡ get_or ys n 0
letter xs ys n e = ap (λ (t : List ℕ). get_or t n 0) e

fetch_kind : (k : ItemKind) (item : Item) (x rest more : List ℕ) → (fields_of_kind k item ++ x) ++ rest ≡ codes "fetch " ++ more → k ≡ Fetch
unfolding fields_of_kind
fetch_kind Fetch item x rest more e = refl
fetch_kind Load item x rest more e = absurd (let l : 108 ≡ 102 = letter _ _ 0 e in omega (arith, l))
fetch_kind Store item x rest more e = absurd (let l : 115 ≡ 102 = letter _ _ 0 e in omega (arith, l))
fetch_kind (Atomic wrote) item x rest more e = absurd (let l : 97 ≡ 102 = letter _ _ 0 e in omega (arith, l))
fetch_kind Membar item x rest more e = absurd (let l : 109 ≡ 102 = letter _ _ 0 e in omega (arith, l))
fetch_kind Flush item x rest more e = absurd (let l : 108 ≡ 101 = letter _ _ 1 e in omega (arith, l))

load_kind : (k : ItemKind) (item : Item) (x rest more : List ℕ) → (fields_of_kind k item ++ x) ++ rest ≡ codes "load " ++ more → k ≡ Load
unfolding fields_of_kind
load_kind Fetch item x rest more e = absurd (let l : 102 ≡ 108 = letter _ _ 0 e in omega (arith, l))
load_kind Load item x rest more e = refl
load_kind Store item x rest more e = absurd (let l : 115 ≡ 108 = letter _ _ 0 e in omega (arith, l))
load_kind (Atomic wrote) item x rest more e = absurd (let l : 97 ≡ 108 = letter _ _ 0 e in omega (arith, l))
load_kind Membar item x rest more e = absurd (let l : 109 ≡ 108 = letter _ _ 0 e in omega (arith, l))
load_kind Flush item x rest more e = absurd (let l : 102 ≡ 108 = letter _ _ 0 e in omega (arith, l))

store_kind : (k : ItemKind) (item : Item) (x rest more : List ℕ) → (fields_of_kind k item ++ x) ++ rest ≡ codes "store " ++ more → k ≡ Store
unfolding fields_of_kind
store_kind Fetch item x rest more e = absurd (let l : 102 ≡ 115 = letter _ _ 0 e in omega (arith, l))
store_kind Load item x rest more e = absurd (let l : 108 ≡ 115 = letter _ _ 0 e in omega (arith, l))
store_kind Store item x rest more e = refl
store_kind (Atomic wrote) item x rest more e = absurd (let l : 97 ≡ 115 = letter _ _ 0 e in omega (arith, l))
store_kind Membar item x rest more e = absurd (let l : 109 ≡ 115 = letter _ _ 0 e in omega (arith, l))
store_kind Flush item x rest more e = absurd (let l : 102 ≡ 115 = letter _ _ 0 e in omega (arith, l))

atomic_kind : (k : ItemKind) (item : Item) (x rest more : List ℕ) → (fields_of_kind k item ++ x) ++ rest ≡ codes "atomic " ++ more → (wrote : Bool) × (k ≡ Atomic wrote)
unfolding fields_of_kind
atomic_kind Fetch item x rest more e = absurd (let l : 102 ≡ 97 = letter _ _ 0 e in omega (arith, l))
atomic_kind Load item x rest more e = absurd (let l : 108 ≡ 97 = letter _ _ 0 e in omega (arith, l))
atomic_kind Store item x rest more e = absurd (let l : 115 ≡ 97 = letter _ _ 0 e in omega (arith, l))
atomic_kind (Atomic wrote) item x rest more e = (wrote, refl)
atomic_kind Membar item x rest more e = absurd (let l : 109 ≡ 97 = letter _ _ 0 e in omega (arith, l))
atomic_kind Flush item x rest more e = absurd (let l : 102 ≡ 97 = letter _ _ 0 e in omega (arith, l))

membar_kind : (k : ItemKind) (item : Item) (x rest more : List ℕ) → (fields_of_kind k item ++ x) ++ rest ≡ codes "membar " ++ more → k ≡ Membar
unfolding fields_of_kind
membar_kind Fetch item x rest more e = absurd (let l : 102 ≡ 109 = letter _ _ 0 e in omega (arith, l))
membar_kind Load item x rest more e = absurd (let l : 108 ≡ 109 = letter _ _ 0 e in omega (arith, l))
membar_kind Store item x rest more e = absurd (let l : 115 ≡ 109 = letter _ _ 0 e in omega (arith, l))
membar_kind (Atomic wrote) item x rest more e = absurd (let l : 97 ≡ 109 = letter _ _ 0 e in omega (arith, l))
membar_kind Membar item x rest more e = refl
membar_kind Flush item x rest more e = absurd (let l : 102 ≡ 109 = letter _ _ 0 e in omega (arith, l))

-- a word does not stand there
abbrev pub IsNot : List ℕ → List ℕ → Type 0
IsNot text word = (more : List ℕ) → text ≡ word ++ more → ⊥

flush_kind : (k : ItemKind) (item : Item) (x rest text : List ℕ) → text ≡ (fields_of_kind k item ++ x) ++ rest → IsNot text (codes "fetch ") → IsNot text (codes "load ") → IsNot text (codes "store ")
    → IsNot text (codes "atomic ") → IsNot text (codes "membar ") → k ≡ Flush
unfolding fields_of_kind
flush_kind Fetch item x rest text e f l s a m = absurd (f _ e)
flush_kind Load item x rest text e f l s a m = absurd (l _ e)
flush_kind Store item x rest text e f l s a m = absurd (s _ e)
flush_kind (Atomic wrote) item x rest text e f l s a m = absurd (a _ e)
flush_kind Membar item x rest text e f l s a m = absurd (m _ e)
flush_kind Flush item x rest text e f l s a m = refl

abbrev tail_of : Item → List ℕ
tail_of item = place_fields_of item.how ++ codes "\n"

pub is_fetch : (item : Item) (rest more : List ℕ) → kind_line_of item ++ rest ≡ codes "fetch " ++ more → item.kind ≡ Fetch
is_fetch item rest more e = fetch_kind item.kind item (tail_of item) rest more e

pub is_load : (item : Item) (rest more : List ℕ) → kind_line_of item ++ rest ≡ codes "load " ++ more → item.kind ≡ Load
is_load item rest more e = load_kind item.kind item (tail_of item) rest more e

pub is_store : (item : Item) (rest more : List ℕ) → kind_line_of item ++ rest ≡ codes "store " ++ more → item.kind ≡ Store
is_store item rest more e = store_kind item.kind item (tail_of item) rest more e

pub is_atomic : (item : Item) (rest more : List ℕ) → kind_line_of item ++ rest ≡ codes "atomic " ++ more → (wrote : Bool) × (item.kind ≡ Atomic wrote)
is_atomic item rest more e = atomic_kind item.kind item (tail_of item) rest more e

pub is_membar : (item : Item) (rest more : List ℕ) → kind_line_of item ++ rest ≡ codes "membar " ++ more → item.kind ≡ Membar
is_membar item rest more e = membar_kind item.kind item (tail_of item) rest more e

pub is_flush : (item : Item) (rest text : List ℕ) → text ≡ kind_line_of item ++ rest → IsNot text (codes "fetch ") → IsNot text (codes "load ") → IsNot text (codes "store ")
    → IsNot text (codes "atomic ") → IsNot text (codes "membar ") → item.kind ≡ Flush
is_flush item rest text e f l s a m = flush_kind item.kind item (tail_of item) rest text e f l s a m

-- ---- ends of strands

-- an end that is neither is a fault
pub is_fault : (e : Ending) (units pc : ℕ) (rest text : List ℕ) → text ≡ ending_fields_of e units pc ++ rest → IsNot text (codes "halted ") → IsNot text (codes "spent ") → (number : ℕ) × (e ≡ ending.Fault number)
unfolding ending_fields_of
is_fault ending.Halted units pc rest text e h s = absurd (h _ e)
is_fault ending.Spent units pc rest text e h s = absurd (s _ e)
is_fault (ending.Fault number) units pc rest text e h s = (number, refl)

pub fault_text : (units pc number : ℕ) (rest : List ℕ) → ending_fields_of (ending.Fault number) units pc ++ rest
    ≡ codes "fault " ++ ((decimal units ++ (codes " " ++ hex_of 16 pc)) ++ (codes " " ++ (hex_of 3 number ++ rest)))
unfolding ending_fields_of
fault_text units pc number rest =
    let d : List ℕ = decimal units in
    let h : List ℕ = hex_of 16 pc in
    let n : List ℕ = codes " " ++ hex_of 3 number in
    let inner : (d ++ (codes " " ++ (h ++ n))) ++ rest ≡ (d ++ (codes " " ++ h)) ++ (codes " " ++ (hex_of 3 number ++ rest)) =
    ap (λ (t : List ℕ). t ++ rest) (sym (append_assoc d (codes " " ++ h) n)) ∙ append_assoc (d ++ (codes " " ++ h)) n rest in
    ap (λ (t : List ℕ). codes "fault " ++ t) inner

-- ---- atomics

-- a dash says that an atomic did not write
pub dash_tells : (wrote : Bool) (size value : ℕ) (x rest text : List ℕ) (at peek : ℕ) → 1 ≤ size → peek ≡ get_or text at 0 → drop at text ≡ (field_of wrote size value ++ x) ++ rest → not (eqb peek 45) ≡ wrote
dash_tells false size value x rest text at peek l p e =
    let is : peek ≡ 45 = p ∙ first_at text at 45 (x ++ rest) e in
    ap not (eq-eqb peek 45 is)
dash_tells true size value x rest text at peek l p e = by (2 * size) (omega (arith, l)) (e ∙ append_assoc (hex_of (2 * size) value) x rest)
  where
    by : (k : ℕ) → 0 < k → drop at text ≡ hex_of k value ++ (x ++ rest) → not (eqb peek 45) ≡ true
    by k m f =
        let d = digit_at k value 0 m in
        let first : get_or text at 0 ≡ get_or (hex_of k value ++ (x ++ rest)) 0 0 = peeked text at (hex_of k value ++ (x ++ rest)) f in
        let front : get_or (hex_of k value ++ (x ++ rest)) 0 0 ≡ get_or (hex_of k value) 0 0 = get_or_append_left (hex_of k value) (x ++ rest) 0 0 (omega (arith, length-hex_of k value, m)) in
        let high = digit_high d.0 in
        let is : peek ≡ digit_of d.0 = p ∙ (first ∙ (front ∙ d.2)) in
        ap not (ne_eqb peek 45 (λ same. omega (arith, same, is, high)))
