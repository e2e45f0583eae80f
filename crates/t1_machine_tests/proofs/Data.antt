-- Traces and a log are orderable, where each strand and each commit is.
use Rattle.std.proofs.Common.{◌≡◌, ℕ, ◌+◌, ◌<◌, ◌≤◌, List, [], length, get_or, take, Some, refl, sym, ap, ◌∙◌, subst, inl, inr, arith}
use Rattle.std.specs.List.{slice_get, count_by}
use Rattle.std.proofs.lemmas.Bool.{cases_lt}
use Rattle.std.proofs.lemmas.Option.{same_Some, slice_get_within}
use Rattle.std.proofs.lemmas.List.{get_or_past}
use Rattle.std.proofs.lemmas.List.Sums.{sum_by_more, count_by-le-length}
use Rattle.t1_event.specs.declared.item.Item.{Item}
use Rattle.t1_event.specs.declared.item.How.TheVariants as how
use Rattle.t1_event.specs.declared.commit.Commit.{Commit}
use Rattle.t1_event.specs.Kinds.{is_access}
use Rattle.t1_event.specs.Order.{Act}
use Rattle.t1_order.specs.Next.{time_of}
use Rattle.t1_order.specs.Orderable.{AreOrderable, accesses_in}
use Rattle.t1_machine_tests.specs.Checked.{IsPlacedBy, AreTimesUpTo, IsStrand, AreStrands, AreCommits, GoesOn}
use Rattle.t1_order.proofs.Steps.{strand_within}

-- one item more
pub times_go_on : (items : List Item) (count last next : ℕ) (item : Item) → AreTimesUpTo items count last → slice_get items count ≡ Some item
    → GoesOn last item next → AreTimesUpTo items (count + 1) next
times_go_on items count last next item s at g = record {
  most = λ k x time low e timed. elim (cases_lt k count) [
    | inl below ↦ let m = s.most k x time below e timed in let u = g.up in omega (arith, m, u)
    | inr high ↦ let t = g.time time (here k x low high e ∙' timed) in omega (arith, t)
  ];
  ascend = λ j k a b earlier later up low d e timed timed'. elim (cases_lt k count) [
    | inl below ↦ s.ascend j k a b earlier later up below d e timed timed'
    | inr high ↦
        let m = s.most j a earlier (omega (arith, up, low)) d timed in
        let u = g.up in
        let t = g.time later (here k b low high e ∙' timed') in
        omega (arith, m, u, t)
  ];
}
  where
    infixl 10 ◌∙'◌
    ◌∙'◌ : {x : Item} {time : ℕ} → x ≡ item → time_of x ≡ Some time → time_of item ≡ Some time
    same ∙' timed = sym (ap time_of same) ∙ timed

    here : (k : ℕ) (x : Item) → k < count + 1 → count ≤ k → slice_get items k ≡ Some x → x ≡ item
    here k x low high e =
        let n : k ≡ count = omega (arith, low, high) in
        same_Some x item (sym e ∙ ap (λ m. slice_get items m) n ∙ at)

pub placed_one_more : (log : List Commit) (strand : ℕ) (items : List Item) (count : ℕ) (item : Item)
    → ((k : ℕ) (x : Item) → k < count → slice_get items k ≡ Some x → IsPlacedBy log strand k x) → slice_get items count ≡ Some item
    → IsPlacedBy log strand count item → (k : ℕ) (x : Item) → k < count + 1 → slice_get items k ≡ Some x → IsPlacedBy log strand k x
placed_one_more log strand items count item s at here k x low e =
    elim (cases_lt k count) [
      | inl below ↦ s k x below e
      | inr high ↦
          let n : count ≡ k = omega (arith, low, high) in
          let same : item ≡ x = same_Some item x (sym at ∙ ap (λ m. slice_get items m) n ∙ e) in
          subst (λ m. IsPlacedBy log strand m x) n (subst (λ y. IsPlacedBy log strand count y) same here)
    ]

pub strand_is : (log : List Commit) (strand : ℕ) (items : List Item) (count last : ℕ) → length items ≤ count → length items ≤ 4294967296
    → ((k : ℕ) (x : Item) → k < count → slice_get items k ≡ Some x → IsPlacedBy log strand k x) → AreTimesUpTo items count last → IsStrand log strand items
strand_is log strand items count last all short placed times = record {
  short = short;
  placed = λ number item e. placed number item (let w = slice_get_within items number item e in omega (arith, w, all)) e;
  times = λ j k a b earlier later up d e. times.ascend j k a b earlier later up (let w = slice_get_within items k b e in omega (arith, w, all)) d e;
}

pub orderable : (traces : List (List Item)) (log : List Commit) → length traces ≤ 64 → AreStrands traces log → AreCommits traces log → AreOrderable traces log
orderable traces log few strands commits = record {
  few = few;
  short = λ strand. elim (cases_lt strand (length traces)) [
    | inl within ↦ (strands strand within).short
    | inr past ↦ let none = ap length (get_or_past traces strand [] past) in omega (arith, none)
  ];
  named = record {
    placed = λ x. ((at x).placed x.number x.item x.stands).placed;
    named = λ x n seen access how_is.
        let c = ((at x).placed x.number x.item x.stands).named n seen access how_is in
        (c.0, c.1, record { strand = c.2; item = c.3; how_is = how_is ∙ ap (λ s. how.Commit n s) (sym c.4) });
    names = λ n commit e.
        let c = commits n commit e in
        (record { strand = commit.strand; number = commit.item; item = c.named; stands = c.stands }, c.access, record { strand = refl; item = refl; how_is = c.how_is });
  };
  times = λ x y earlier later before timed timed'.
      let stands : slice_get (get_or traces x.strand []) y.number ≡ Some y.item = ap (λ s. slice_get (get_or traces s []) y.number) before.strand ∙ y.stands in
      (at x).times x.number y.number x.item y.item earlier later before.number x.stands stands timed timed';
}
  where
    at : (x : Act traces) → IsStrand log x.strand (get_or traces x.strand [])
    at x = strands x.strand (strand_within traces x.strand x.number x.item x.stands)

pub count_more : (traces : List (List Item)) (strand count next : ℕ) → strand < length traces → accesses_in (take strand traces) ≤ count
    → next ≡ count + length (get_or traces strand []) → accesses_in (take (strand + 1) traces) ≤ next
count_more traces strand count next within s e =
    let more = sum_by_more (λ (items : List Item). count_by (λ (item : Item). is_access item.kind) items) traces strand [] within in
    let few = count_by-le-length (λ (item : Item). is_access item.kind) (get_or traces strand []) in
    omega (arith, more, few, s, e)
