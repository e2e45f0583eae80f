-- The lines of items are cut in one way.
use Rattle.std.proofs.Common.{◌≡◌, ℕ, ◌^◌, ◌≤◌, true, false, Bool, List, ◌++◌, drop, codes, decimal, refl, sym, ap, subst, ◌∙◌, arith}
use Rattle.t1_event.specs.declared.item.Item.{Item}
use Rattle.t1_event.specs.declared.item.How.{How}
use Rattle.t1_event.specs.declared.item.How.TheVariants as how
use Rattle.t1_event.specs.declared.item.ItemKind.{ItemKind}
use Rattle.t1_event.specs.declared.item.ItemKind.TheVariants.{Fetch, Load, Store, Atomic, Membar, Flush}
use Rattle.t1_event.specs.Kinds.{is_read, is_access, is_changing, IsAccess}
use Rattle.t1_log.specs.Hex.{hex_of}
use Rattle.t1_log.specs.Lines.{fields_of_kind}
use Rattle.t1_log.specs.Log.{place_fields_of, item_line_of}
use Rattle.t1_take.specs.Fields.{access_line_of, kind_line_of}
use Rattle.t1_take.specs.Items.{IsSizeOf, IsReached, IsValueOf, IsPlaceOf, IsGoodItem}
use Rattle.t1_take.proofs.ItemsFound.{is_fetch, is_load, is_store, is_atomic, is_membar, is_flush}
use Rattle.t1_one_text.proofs.Fields.{letter, past, digits_cut}
use Rattle.t1_one_text.proofs.Lists.{Cuts}
use Rattle.t1_one_text.proofs.Accesses.{access_same}

-- ---- barriers

-- what a barrier does not have
pub record IsBlank (item : Item) : Type 0 where
  pub addr : item.addr ≡ 0
  pub got : item.got ≡ 0
  pub put : item.put ≡ 0
  pub place : item.how ≡ how.Unplaced

blank_of : (ram : ℕ) (item : Item) (k : ItemKind) → is_access k ≡ false → IsReached ram k item.addr → IsValueOf (is_read k) item.size item.got → IsValueOf (is_changing k) item.size item.put
    → IsPlaceOf (is_access k) item.how → IsBlank item
blank_of ram item Membar none a g p h = record { addr = a; got = g; put = p; place = h }
blank_of ram item Flush none a g p h = record { addr = a; got = g; put = p; place = h }
blank_of ram item Fetch none a g p h = absurd (let bad : true ≡ false = none in cc)
blank_of ram item Load none a g p h = absurd (let bad : true ≡ false = none in cc)
blank_of ram item Store none a g p h = absurd (let bad : true ≡ false = none in cc)
blank_of ram item (Atomic wrote) none a g p h = absurd (let bad : true ≡ false = none in cc)

barrier_blank : (ram : ℕ) (item : Item) (k : ItemKind) → IsGoodItem ram item → item.kind ≡ k → is_access k ≡ false → IsBlank item
barrier_blank ram item k good f none =
    blank_of ram item k none (subst (λ (l : ItemKind). IsReached ram l item.addr) f good.reached) (subst (λ (l : ItemKind). IsValueOf (is_read l) item.size item.got) f good.got)
    (subst (λ (l : ItemKind). IsValueOf (is_changing l) item.size item.put) f good.put) (subst (λ (l : ItemKind). IsPlaceOf (is_access l) item.how) f good.place)

barrier_same : (a b : Item) → IsBlank a → IsBlank b → a.kind ≡ b.kind → a.size ≡ b.size → a ≡ b
barrier_same a b f g k s = λ i. record {
  kind = k i;
  addr = (f.addr ∙ sym g.addr) i;
  size = s i;
  got = (f.got ∙ sym g.got) i;
  put = (f.put ∙ sym g.put) i;
  how = (f.place ∙ sym g.place) i;
}

-- ---- kinds

-- a kind and its fields
abbrev pub line_at : ItemKind → How → Item → List ℕ
line_at k h item = fields_of_kind k item ++ (place_fields_of h ++ codes "\n")

at_kind : (item : Item) (k : ItemKind) → item.kind ≡ k → kind_line_of item ≡ line_at k item.how item
at_kind item k e = ap (λ (l : ItemKind). line_at l item.how item) e

-- accesses of one word
worded : (word : List ℕ) (a b : Item) (x y : List ℕ) → kind_line_of a ≡ word ++ access_line_of a → kind_line_of b ≡ word ++ access_line_of b → kind_line_of a ++ x ≡ kind_line_of b ++ y
    → access_line_of a ++ x ≡ access_line_of b ++ y
worded word a b x y f g e = past word (access_line_of a) (access_line_of b) x y (sym (ap (λ (t : List ℕ). t ++ x) f) ∙ (e ∙ ap (λ (t : List ℕ). t ++ y) g))

is_access_of : (item : Item) (k : ItemKind) → item.kind ≡ k → is_access k ≡ true → IsAccess item.kind
is_access_of item k e p = subst (λ (l : ItemKind). is_access l ≡ true) (sym e) p

both_at : (ram : ℕ) (a b : Item) (x y word : List ℕ) (k : ItemKind) → ram ≤ 2 ^ 40 → IsGoodItem ram a → IsGoodItem ram b → a.kind ≡ k → b.kind ≡ k → is_access k ≡ true
    → kind_line_of a ≡ word ++ access_line_of a → kind_line_of b ≡ word ++ access_line_of b → kind_line_of a ++ x ≡ kind_line_of b ++ y → (a ≡ b) × (x ≡ y)
both_at ram a b x y word k small f g p q access l m e =
    access_same ram a b x y small f g (is_access_of a k p access) (is_access_of b k q access) (λ _. p ∙ sym q) (worded word a b x y l m e)

fetch_line : (item : Item) → item.kind ≡ Fetch → kind_line_of item ≡ codes "fetch " ++ access_line_of item
unfolding fields_of_kind
fetch_line item e = at_kind item Fetch e

load_line : (item : Item) → item.kind ≡ Load → kind_line_of item ≡ codes "load " ++ access_line_of item
unfolding fields_of_kind
load_line item e = at_kind item Load e

store_line : (item : Item) → item.kind ≡ Store → kind_line_of item ≡ codes "store " ++ access_line_of item
unfolding fields_of_kind
store_line item e = at_kind item Store e

atomic_line : (item : Item) (wrote : Bool) → item.kind ≡ Atomic wrote → kind_line_of item ≡ codes "atomic " ++ access_line_of item
unfolding fields_of_kind
atomic_line item wrote e = at_kind item (Atomic wrote) e

membar_line : (item : Item) → item.kind ≡ Membar → item.how ≡ how.Unplaced → kind_line_of item ≡ codes "membar " ++ (hex_of 2 item.size ++ codes "\n")
unfolding fields_of_kind place_fields_of
membar_line item e h = at_kind item Membar e ∙ ap (λ (p : How). line_at Membar p item) h

flush_line : (item : Item) → item.kind ≡ Flush → item.how ≡ how.Unplaced → kind_line_of item ≡ codes "flush" ++ codes "\n"
unfolding fields_of_kind place_fields_of
flush_line item e h = at_kind item Flush e ∙ ap (λ (p : How). line_at Flush p item) h

-- an item from its kind on
abbrev pub IsCut : Item → Item → List ℕ → List ℕ → Type 0
IsCut a b x y = kind_line_of a ++ x ≡ kind_line_of b ++ y → (a ≡ b) × (x ≡ y)

fetch_cut : (ram : ℕ) (a b : Item) (x y : List ℕ) → ram ≤ 2 ^ 40 → IsGoodItem ram a → IsGoodItem ram b → a.kind ≡ Fetch → IsCut a b x y
fetch_cut ram a b x y small f g p e =
    let q = is_fetch b y (access_line_of a ++ x) (sym e ∙ ap (λ (t : List ℕ). t ++ x) (fetch_line a p)) in
    both_at ram a b x y (codes "fetch ") Fetch small f g p q refl (fetch_line a p) (fetch_line b q) e

load_cut : (ram : ℕ) (a b : Item) (x y : List ℕ) → ram ≤ 2 ^ 40 → IsGoodItem ram a → IsGoodItem ram b → a.kind ≡ Load → IsCut a b x y
load_cut ram a b x y small f g p e =
    let q = is_load b y (access_line_of a ++ x) (sym e ∙ ap (λ (t : List ℕ). t ++ x) (load_line a p)) in
    both_at ram a b x y (codes "load ") Load small f g p q refl (load_line a p) (load_line b q) e

store_cut : (ram : ℕ) (a b : Item) (x y : List ℕ) → ram ≤ 2 ^ 40 → IsGoodItem ram a → IsGoodItem ram b → a.kind ≡ Store → IsCut a b x y
store_cut ram a b x y small f g p e =
    let q = is_store b y (access_line_of a ++ x) (sym e ∙ ap (λ (t : List ℕ). t ++ x) (store_line a p)) in
    both_at ram a b x y (codes "store ") Store small f g p q refl (store_line a p) (store_line b q) e

-- the value put says whether an atomic wrote
atomic_cut : (ram : ℕ) (a b : Item) (x y : List ℕ) (wrote : Bool) → ram ≤ 2 ^ 40 → IsGoodItem ram a → IsGoodItem ram b → a.kind ≡ Atomic wrote → IsCut a b x y
atomic_cut ram a b x y wrote small f g p e =
    let is = is_atomic b y (access_line_of a ++ x) (sym e ∙ ap (λ (t : List ℕ). t ++ x) (atomic_line a wrote p)) in
    let q : b.kind ≡ Atomic is.0 = is.1 in
    access_same ram a b x y small f g (is_access_of a (Atomic wrote) p refl) (is_access_of b (Atomic is.0) q refl)
    (λ s. (
    let same : wrote ≡ is.0 = sym (ap is_changing p) ∙ (s ∙ ap is_changing q) in
    p ∙ (ap (λ (w : Bool). Atomic w) same ∙ sym q)
    ))
    (worded (codes "atomic ") a b x y (atomic_line a wrote p) (atomic_line b is.0 q) e)

membar_cut : (ram : ℕ) (a b : Item) (x y : List ℕ) → IsGoodItem ram a → IsGoodItem ram b → a.kind ≡ Membar → IsCut a b x y
membar_cut ram a b x y f g p e =
    let m = barrier_blank ram a Membar f p refl in
    let left : kind_line_of a ++ x ≡ codes "membar " ++ ((hex_of 2 a.size ++ codes "\n") ++ x) = ap (λ (t : List ℕ). t ++ x) (membar_line a p m.place) in
    let q = is_membar b y ((hex_of 2 a.size ++ codes "\n") ++ x) (sym e ∙ left) in
    let n = barrier_blank ram b Membar g q refl in
    let right : kind_line_of b ++ y ≡ codes "membar " ++ ((hex_of 2 b.size ++ codes "\n") ++ y) = ap (λ (t : List ℕ). t ++ y) (membar_line b q n.place) in
    let few : a.size ≤ 0x7f = subst (λ (k : ItemKind). IsSizeOf k a.size) p f.size in
    let less : b.size ≤ 0x7f = subst (λ (k : ItemKind). IsSizeOf k b.size) q g.size in
    let cut = digits_cut 2 a.size b.size (codes "\n") (codes "\n") x y (omega (arith, few)) (omega (arith, less)) (ap (drop 7) (sym left ∙ (e ∙ right))) in
    (barrier_same a b m n (p ∙ sym q) cut.0, ap (drop 1) cut.1)

flush_cut : (ram : ℕ) (a b : Item) (x y : List ℕ) → IsGoodItem ram a → IsGoodItem ram b → a.kind ≡ Flush → IsCut a b x y
flush_cut ram a b x y f g p e =
    let m = barrier_blank ram a Flush f p refl in
    let left : kind_line_of a ++ x ≡ codes "flush" ++ (codes "\n" ++ x) = ap (λ (t : List ℕ). t ++ x) (flush_line a p m.place) in
    let q = is_flush b y (codes "flush" ++ (codes "\n" ++ x)) (sym left ∙ e)
    (λ more d. (let l : 108 ≡ 101 = letter 1 d in omega (arith, l)))
    (λ more d. (let l : 102 ≡ 108 = letter 0 d in omega (arith, l)))
    (λ more d. (let l : 102 ≡ 115 = letter 0 d in omega (arith, l)))
    (λ more d. (let l : 102 ≡ 97 = letter 0 d in omega (arith, l)))
    (λ more d. (let l : 102 ≡ 109 = letter 0 d in omega (arith, l))) in
    let n = barrier_blank ram b Flush g q refl in
    let right : kind_line_of b ++ y ≡ codes "flush" ++ (codes "\n" ++ y) = ap (λ (t : List ℕ). t ++ y) (flush_line b q n.place) in
    let none : a.size ≡ 0 = subst (λ (k : ItemKind). IsSizeOf k a.size) p f.size in
    let zero : b.size ≡ 0 = subst (λ (k : ItemKind). IsSizeOf k b.size) q g.size in
    (barrier_same a b m n (p ∙ sym q) (none ∙ sym zero), ap (drop 6) (sym left ∙ (e ∙ right)))

kind_cut : (ram : ℕ) (a b : Item) (x y : List ℕ) (k : ItemKind) → ram ≤ 2 ^ 40 → IsGoodItem ram a → IsGoodItem ram b → a.kind ≡ k → IsCut a b x y
kind_cut ram a b x y Fetch small f g p = fetch_cut ram a b x y small f g p
kind_cut ram a b x y Load small f g p = load_cut ram a b x y small f g p
kind_cut ram a b x y Store small f g p = store_cut ram a b x y small f g p
kind_cut ram a b x y (Atomic wrote) small f g p = atomic_cut ram a b x y wrote small f g p
kind_cut ram a b x y Membar small f g p = membar_cut ram a b x y f g p
kind_cut ram a b x y Flush small f g p = flush_cut ram a b x y f g p

-- ---- lines

pub items_cut : (ram strand : ℕ) → ram ≤ 2 ^ 40 → Cuts (item_line_of strand) (λ (k : ℕ) (item : Item). IsGoodItem ram item)
unfolding item_line_of
items_cut ram strand small n a b x y f g e =
    let s = past (decimal strand) _ _ x y (ap (drop 2) e) in
    let k = past (decimal n) _ _ x y (ap (drop 1) s) in
    kind_cut ram a b x y a.kind small f g refl (ap (drop 1) k)
