-- The traces of all cores in one list, strand by strand.
use Rattle.std.proofs.Common.{◌≡◌, ℕ, zero, suc, ◌+◌, ◌*◌, ◌/◌, ◌%◌, ◌<◌, ◌≤◌, ◌⊎◌, inl, inr, List, [], ◌∷◌, ◌++◌, length, get_or, Option, Some, None, refl, ap, sym, ◌∙◌, subst, arith, length-append}
use Rattle.std.specs.List.{slice_get}
use Rattle.std.proofs.lemmas.Bool.{cases_lt}
use Rattle.std.proofs.lemmas.List.{get_or_past}
use Rattle.std.proofs.lemmas.Nat.{div_below}
use Rattle.t1_event.specs.declared.item.Item.{Item}
use Rattle.t1_event.specs.declared.item.ItemKind.{ItemKind}
use Rattle.t1_event.specs.declared.item.ItemKind.TheVariants as kind
use Rattle.t1_event.specs.declared.item.How.{How}
use Rattle.t1_event.specs.declared.item.How.TheVariants as how
use Rattle.t1_event.specs.declared.trace.Trace.{Trace}
use Rattle.t1_event.specs.Kinds.{IsRead, IsAccess}
use Rattle.t1_event.specs.Items.{items_of}
use Rattle.t1_event.specs.Order.{Act}
use Rattle.t1_event.specs.Times.{done_of}
use Rattle.t1_joint.specs.Waits.{IsDoneBy}
use Rattle.std.proofs.lemmas.List.{length-map}
use Rattle.std.proofs.lemmas.Nat.{div-add-mod', mod_below, mul-le}
use Rattle.t1_joint.specs.Parts.{CorePart, strand_items}
use Rattle.t1_joint.specs.Waits.{HasItem}
use Rattle.t1_joint.specs.Fit.{traces_from}

pub done_time : (t : ℕ) (h : How) → IsDoneBy t h → done_of h ≤ t
done_time t how.Unplaced d = absurd d
done_time t (how.Forward u) d = d
done_time t (how.Hit u) d = d
done_time t (how.Commit n u) d = omega (arith, d)

pub read_or_store : (k : ItemKind) → IsAccess k → IsRead k ⊎ (k ≡ kind.Store)
read_or_store kind.Fetch a = inl refl
read_or_store kind.Load a = inl refl
read_or_store (kind.Atomic b) a = inl refl
read_or_store kind.Store a = inr refl
read_or_store kind.Membar a = cc
read_or_store kind.Flush a = cc

-- ---- lists

get_left : {A : Type 0} (xs ys : List A) (k : ℕ) → k < length xs → slice_get (xs ++ ys) k ≡ slice_get xs k
get_left [] ys k l = absurd (omega (arith, l))
get_left (x ∷ xs) ys zero l = refl
get_left (x ∷ xs) ys (suc k) l = get_left xs ys k (omega (arith, l))

get_right : {A : Type 0} (xs ys : List A) (k : ℕ) → slice_get (xs ++ ys) (length xs + k) ≡ slice_get ys k
get_right {A} [] ys k = ap (λ (n : ℕ). slice_get ys n) (let e : 0 + k ≡ k = omega arith in e)
get_right {A} (x ∷ xs) ys k = ap (λ (n : ℕ). slice_get (x ∷ (xs ++ ys)) n) (let e : length (x ∷ xs) + k ≡ suc (length xs + k) = omega arith in e) ∙ get_right xs ys k

items_or : Option Trace → List Item
items_or None = []
items_or (Some t) = t.items

items_get : (ts : List Trace) (s : ℕ) → get_or (items_of ts) s [] ≡ items_or (slice_get ts s)
unfolding items_or
items_get [] s = refl
items_get (t ∷ ts) zero = refl
items_get (t ∷ ts) (suc s) = items_get ts s

-- ---- traces

abbrev AllSized : (ℕ → CorePart) → ℕ → ℕ → ℕ → Type 0
AllSized core b n m = (i : ℕ) → i < n → length (core (b + i)).traces ≡ m

sized_next : (core : ℕ → CorePart) (b n m : ℕ) → AllSized core b (suc n) m → AllSized core (suc b) n m
sized_next core b n m sizes i l = ap (λ (k : ℕ). length (core k).traces) (let z : suc b + i ≡ b + suc i = omega arith in z) ∙ sizes (suc i) (omega (arith, l))

sized_here : (core : ℕ → CorePart) (b n m : ℕ) → AllSized core b (suc n) m → length (core b).traces ≡ m
sized_here core b n m sizes = ap (λ (k : ℕ). length (core k).traces) (let z : b ≡ b + 0 = omega arith in z) ∙ sizes 0 (omega arith)

length_traces : (core : ℕ → CorePart) (b n m : ℕ) → AllSized core b n m → length (traces_from core b n) ≡ n * m
length_traces core b zero m sizes = omega arith
length_traces core b (suc n) m sizes =
    let a = length-append (core b).traces (traces_from core (suc b) n) in
    let d = sized_here core b n m sizes in
    let r = length_traces core (suc b) n m (sized_next core b n m sizes) in
    let k : suc n * m ≡ m + n * m = omega arith in
    omega (arith, a, d, r, k)

trace_get : (core : ℕ → CorePart) (b n m : ℕ) → AllSized core b n m → (i s : ℕ) → i < n → s < m
    → slice_get (traces_from core b n) (i * m + s) ≡ slice_get (core (b + i)).traces s
trace_get core b zero m sizes i s l ls = absurd (omega (arith, l))
trace_get core b (suc n) m sizes zero s l ls =
    let d = sized_here core b n m sizes in
    let z : 0 * m + s ≡ s = omega arith in
    ap (λ (j : ℕ). slice_get ((core b).traces ++ traces_from core (suc b) n) j) z
    ∙ (get_left (core b).traces (traces_from core (suc b) n) s (omega (arith, ls, d))
    ∙ ap (λ (k : ℕ). slice_get (core k).traces s) (let y : b ≡ b + 0 = omega arith in y))
trace_get core b (suc n) m sizes (suc i) s l ls =
    let d = sized_here core b n m sizes in
    let k : suc i * m ≡ m + i * m = omega arith in
    let z : suc i * m + s ≡ length (core b).traces + (i * m + s) = omega (arith, k, d) in
    ap (λ (j : ℕ). slice_get ((core b).traces ++ traces_from core (suc b) n) j) z
    ∙ (get_right (core b).traces (traces_from core (suc b) n) (i * m + s)
    ∙ (trace_get core (suc b) n m (sized_next core b n m sizes) i s (omega (arith, l)) ls
    ∙ ap (λ (k : ℕ). slice_get (core k).traces s) (let y : suc b + i ≡ b + suc i = omega arith in y)))

no_item : (xs : List Item) (i : ℕ) (x : Item) → xs ≡ [] → slice_get xs i ≡ Some x → ⊥
no_item xs i x e h = let clash : ◌≡◌ {A = Option Item} None (Some x) = sym (ap (λ (l : List Item). slice_get l i) e) ∙ h in cc

module _ (core : ℕ → CorePart) (cores strands : ℕ) (some : 0 < strands) (sizes : (c : ℕ) → c < cores → length (core c).traces ≡ strands) where
  abbrev pub all_items : List (List Item)
  all_items = items_of (traces_from core 0 cores)

  sizes_from : (i : ℕ) → i < cores → length (core (0 + i)).traces ≡ strands
  sizes_from i l = ap (λ (k : ℕ). length (core k).traces) (let z : 0 + i ≡ i = omega arith in z) ∙ sizes i l

  pub length_flat : length (traces_from core 0 cores) ≡ cores * strands
  length_flat = length_traces core 0 cores strands sizes_from

  -- the trace of a core's strand, among all
  pub flat_get : (c s : ℕ) → c < cores → s < strands → slice_get (traces_from core 0 cores) (c * strands + s) ≡ slice_get (core c).traces s
  flat_get c s l ls =
      trace_get core 0 cores strands sizes_from c s l ls ∙ ap (λ (k : ℕ). slice_get (core k).traces s) (let z : 0 + c ≡ c = omega arith in z)

  pub flat_at : (c s : ℕ) → c < cores → s < strands → get_or (items_of (traces_from core 0 cores)) (c * strands + s) [] ≡ strand_items (core c) s
  unfolding items_or
  flat_at c s l ls =
      items_get (traces_from core 0 cores) (c * strands + s) ∙ (ap items_or (flat_get c s l ls) ∙ sym (items_get (core c).traces s))

  -- a strand of all is one of a core
  pub core_in : (g : ℕ) → g < cores * strands → g / strands < cores
  core_in g l = div_below g strands cores some l

  -- where an item of the traces stands
  pub record Home (x : Act (items_of (traces_from core 0 cores))) : Type 0 where
    pub core_in : x.strand / strands < cores
    pub strand_in : x.strand % strands < strands
    pub has : HasItem (strand_items (core (x.strand / strands)) (x.strand % strands)) x.number x.item

  pub home_of : (x : Act (items_of (traces_from core 0 cores))) → Home x
  home_of x =
      let c : ℕ = x.strand / strands in
      let s : ℕ = x.strand % strands in
      let split : c * strands + s ≡ x.strand = div-add-mod' x.strand strands in
      let small : s < strands = mod_below x.strand strands some in
      let l : c < cores = elim (cases_lt c cores) [
        | inl l ↦ l
        | inr past ↦
            let more : cores * strands ≤ c * strands = mul-le cores strands c strands past (omega arith) in
            let none : get_or (items_of (traces_from core 0 cores)) x.strand [] ≡ [] =
            get_or_past (items_of (traces_from core 0 cores)) x.strand [] (omega (arith, split, more, length_flat, length-map (traces_from core 0 cores) (λ (t : Trace). t.items))) in
            absurd (no_item (get_or (items_of (traces_from core 0 cores)) x.strand []) x.number x.item none x.stands)
      ] in
      let e : get_or (items_of (traces_from core 0 cores)) x.strand [] ≡ strand_items (core c) s =
      ap (λ (g : ℕ). get_or (items_of (traces_from core 0 cores)) g []) (sym split) ∙ flat_at c s l small in
      record { core_in = l; strand_in = small; has = ap (λ (l : List Item). slice_get l x.number) (sym e) ∙ x.stands }

  -- an item of a core's strand, among all
  pub record Lifted (c s i : ℕ) (x : Item) : Type 0 where
    pub act : Act (items_of (traces_from core 0 cores))
    pub strand : act.strand ≡ c * strands + s
    pub number : act.number ≡ i
    pub item : act.item ≡ x

  pub lifted : (c s i : ℕ) (x : Item) → c < cores → s < strands → HasItem (strand_items (core c) s) i x → Lifted c s i x
  lifted c s i x l ls h = record {
    act = record { strand = c * strands + s; number = i; item = x; stands = ap (λ (l : List Item). slice_get l i) (flat_at c s l ls) ∙ h };
    strand = refl;
    number = refl;
    item = refl;
  }

  -- another item of its strand
  pub same_home : (x y : Act (items_of (traces_from core 0 cores))) → x.strand ≡ y.strand → HasItem (strand_items (core (y.strand / strands)) (y.strand % strands)) x.number x.item
  same_home x y e = subst (λ (g : ℕ). HasItem (strand_items (core (g / strands)) (g % strands)) x.number x.item) e (home_of x).has
