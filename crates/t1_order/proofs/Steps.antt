-- The steps of the merge: the first that is left of a strand, or a commit, is the next place.
use Rattle.std.proofs.Common.{◌≡◌, ◌≢◌, ℕ, ◌+◌, ◌*◌, ◌<◌, ◌≤◌, ◌⊎◌, ◌↔◌, Bool, true, false, true≢false, cond, not, nat_eq, List, [], length, get_or, set, Option, Some, None, refl, sym, ap, ◌∙◌, subst, inl, inr, arith}
use Rattle.std.specs.List.{slice_get}
use Rattle.std.proofs.lemmas.Bool.{cases_lt, cases_Bool, eqb-true}
use Rattle.std.specs.Option.{option_eq}
use Rattle.std.proofs.lemmas.Option.{none-some, same_Some, slice_get_within}
use Rattle.std.proofs.lemmas.List.{get_or-map, length-map, set-get_or, get_or_past, get_or-set_same, get_or-set_other, length-set}
use Rattle.t1_event.specs.declared.item.Item.{Item}
use Rattle.t1_event.specs.declared.item.How.{How}
use Rattle.t1_event.specs.declared.item.How.TheVariants.{Unplaced, Forward, Hit, Commit}
use Rattle.t1_event.specs.declared.commit.Commit.{Commit as Record}
use Rattle.t1_event.specs.declared.report.Place.{Place}
use Rattle.t1_event.specs.declared.trace.Trace.{Trace}
use Rattle.t1_event.specs.Items.{items_of}
use Rattle.t1_event.specs.Kinds.{is_access, IsAccess}
use Rattle.t1_event.specs.Times.{IsPlaced, index_of}
use Rattle.t1_event.specs.Order.{Act, place_of}
use Rattle.t1_event.specs.Keys.{major, IsKeyBelow}
use Rattle.t1_order.specs.declared.heads.Head.{Head}
use Rattle.t1_order.specs.declared.merge.Rest.{Rest}
use Rattle.t1_order.specs.Heads.{IsLeast, IsFirst}
use Rattle.t1_order.specs.Next.{hit_time, time_of, IsTimed, IsNext}
use Rattle.t1_joint.specs.JointHistory.{Names}
use Rattle.t1_order.specs.Orderable.{AreOrderable, TimesNeverFall}
use Rattle.t1_order.specs.Merge.{IsListedAt, IsListed, IsRest, AreAllListed, CommitComes, IsPassed, IsNextPlace}
use Rattle.t1_event.proofs.Accesses.{place_at}
use Rattle.t1_order.proofs.Places.{same_item, same_place}

pub same_or_not : (m n : ℕ) → (m ≡ n) ⊎ (m ≢ n)
same_or_not m n =
    elim (cases_lt m n) [
      | inl below ↦ inr (omega (arith, below))
      | inr above ↦ elim (cases_lt n m) [ inl up ↦ inr (omega (arith, up)) | inr same ↦ inl (omega (arith, above, same)) ]
    ]

-- ---- how an access is placed

-- it hit or was forwarded at this time
pub record IsAt {traces : List (List Item)} (x : Act traces) (time : ℕ) : Type 0 where
  pub timed : time_of x.item ≡ Some time
  pub major_is : major x.item.how ≡ 2 * time
  pub to : (rest : Rest) → IsListed rest x → x.number < get_or rest.numbers x.strand 0
  pub from : (rest : Rest) → x.number < get_or rest.numbers x.strand 0 → IsListed rest x

-- it is the commit of this index
pub record IsCommitOf {traces : List (List Item)} (x : Act traces) (index : ℕ) : Type 0 where
  pub seen : ℕ
  pub how_is : x.item.how ≡ Commit index seen
  pub timeless : time_of x.item ≡ None
  pub major_is : major x.item.how ≡ 2 * index + 1
  pub to : (rest : Rest) → IsListed rest x → index < rest.commits
  pub from : (rest : Rest) → index < rest.commits → IsListed rest x

no_time : (b : Bool) → cond {A = Option ℕ} b None None ≡ None
no_time true = refl
no_time false = refl

commit_of : {traces : List (List Item)} (x : Act traces) (index seen : ℕ) → x.item.how ≡ Commit index seen → IsCommitOf x index
commit_of x index seen e = record {
  seen = seen;
  how_is = e;
  timeless = ap (λ h. cond (is_access x.item.kind) (hit_time h) None) e ∙ no_time (is_access x.item.kind);
  major_is = ap major e;
  to = λ rest l. subst (λ h. IsListedAt rest x.strand x.number h) e l;
  from = λ rest l. subst (λ h. IsListedAt rest x.strand x.number h) (sym e) l;
}

pub placing : {traces : List (List Item)} (x : Act traces) → IsAccess x.item.kind → IsPlaced x.item.how → ((time : ℕ) × IsAt x time) ⊎ ((index : ℕ) × IsCommitOf x index)
placing x access placed = by x.item.how refl placed
  where
    timed : (how : How) → x.item.how ≡ how → (time : ℕ) → hit_time how ≡ Some time → time_of x.item ≡ Some time
    timed how e time is = ap (λ b. cond b (hit_time x.item.how) None) access ∙ ap hit_time e ∙ is

    at : (how : How) → x.item.how ≡ how → (rest : Rest) → IsListed rest x → IsListedAt rest x.strand x.number how
    at how e rest l = subst (λ h. IsListedAt rest x.strand x.number h) e l

    back : (how : How) → x.item.how ≡ how → (rest : Rest) → IsListedAt rest x.strand x.number how → IsListed rest x
    back how e rest l = subst (λ h. IsListedAt rest x.strand x.number h) (sym e) l

    by : (how : How) → x.item.how ≡ how → IsPlaced how → ((time : ℕ) × IsAt x time) ⊎ ((index : ℕ) × IsCommitOf x index)
    by Unplaced e p = absurd p
    by (Forward time) e p = inl (time, record { timed = timed (Forward time) e time refl; major_is = ap major e; to = at (Forward time) e; from = back (Forward time) e })
    by (Hit time) e p = inl (time, record { timed = timed (Hit time) e time refl; major_is = ap major e; to = at (Hit time) e; from = back (Hit time) e })
    by (Commit index seen) e p = inr (index, commit_of x index seen e)

-- an access with a time
is_at : {traces : List (List Item)} (x : Act traces) (time : ℕ) → IsAccess x.item.kind → IsPlaced x.item.how → time_of x.item ≡ Some time → IsAt x time
is_at x time access placed timed =
    elim (placing x access placed) [
      | inl p ↦ subst (λ t. IsAt x t) (same_Some p.0 time (sym p.1.timed ∙ timed)) p.1
      | inr p ↦ absurd (none-some time (sym p.1.timeless ∙ timed))
    ]

-- what has a time is an access
pub timed_access : (item : Item) (time : ℕ) → time_of item ≡ Some time → IsAccess item.kind
timed_access item time e =
    elim (cases_Bool (is_access item.kind)) [
      | inl access ↦ access
      | inr barrier ↦ absurd (none-some time (sym (ap (λ b. cond b (hit_time item.how) None) barrier) ∙ e))
    ]

-- ---- what is left of a strand is no earlier than its first

record IsNoEarlier (rest : Rest) (strand time : ℕ) : Type 0 where
  first : ℕ
  is : get_or rest.times strand None ≡ Some first
  below : first ≤ time

no_earlier : {traces : List (List Item)} (rest : Rest) → TimesNeverFall traces → IsRest traces rest → (x : Act traces) (time : ℕ)
    → time_of x.item ≡ Some time → get_or rest.numbers x.strand 0 ≤ x.number → IsNoEarlier rest x.strand time
no_earlier {traces} rest falls ready x time timed left = by (get_or rest.times x.strand None) refl (ready.next x.strand)
  where
    by : (first : Option ℕ) → get_or rest.times x.strand None ≡ first → IsNext (get_or traces x.strand []) (get_or rest.numbers x.strand 0) first
        → IsNoEarlier rest x.strand time
    by None e next = let within = slice_get_within (get_or traces x.strand []) x.number x.item x.stands in absurd (omega (arith, within, next, left))
    by (Some first) e next =
        let y : Act traces = record { strand = x.strand; number = get_or rest.numbers x.strand 0; item = next.item; stands = next.stands } in
        record {
          first = first;
          is = e;
          below = elim (cases_lt (get_or rest.numbers x.strand 0) x.number) [
            | inl earlier ↦ falls y x first time (record { strand = refl; number = earlier }) next.timed timed
            | inr here ↦
                let n : get_or rest.numbers x.strand 0 ≡ x.number = omega (arith, left, here) in
                let same = same_Some first time (sym next.timed ∙ ap time_of (same_item y x (same_place y x refl n)) ∙ timed) in
                omega (arith, same)
          ];
        }

-- ---- an access that is left has not been reached

left_number : {traces : List (List Item)} (rest : Rest) (x : Act traces) (time : ℕ) → IsAt x time → (IsListed rest x → ⊥) → get_or rest.numbers x.strand 0 ≤ x.number
left_number rest x time at left =
    elim (cases_lt x.number (get_or rest.numbers x.strand 0)) [ inl below ↦ absurd (left (at.from rest below)) | inr above ↦ above ]

left_index : {traces : List (List Item)} (rest : Rest) (x : Act traces) (index : ℕ) → IsCommitOf x index → (IsListed rest x → ⊥) → rest.commits ≤ index
left_index rest x index of left = elim (cases_lt index rest.commits) [ inl below ↦ absurd (left (of.from rest below)) | inr above ↦ above ]

-- ---- reads of traces

-- the items of a trace, as the list of them has them
pub items_at : (traces : List Trace) (strand : ℕ) (trace : Trace) → strand < length traces → (get_or traces strand trace).items ≡ get_or (items_of traces) strand []
items_at traces strand trace within = sym (get_or-map (λ (t : Trace). t.items) traces strand trace [] within)

-- a strand that has an item is one of the traces
pub strand_within : (traces : List (List Item)) (strand number : ℕ) (item : Item) → slice_get (get_or traces strand []) number ≡ Some item → strand < length traces
strand_within traces strand number item e =
    elim (cases_lt strand (length traces)) [
      | inl within ↦ within
      | inr past ↦ absurd (none-some item (sym (ap (λ items. slice_get items number) (get_or_past traces strand [] past)) ∙ e))
    ]

-- the first that is left of a head's strand is at the head's time
pub head_timed : {traces : List (List Item)} (rest : Rest) (head : Head) → IsRest traces rest → IsLeast rest.times head
    → IsTimed (get_or traces head.strand []) (get_or rest.numbers head.strand 0) head.time
head_timed {traces} rest head ready least =
    subst (λ t. IsNext (get_or traces head.strand []) (get_or rest.numbers head.strand 0) t) least.time (ready.next head.strand)

pub number_within : {traces : List (List Item)} (rest : Rest) (head : Head) → IsRest traces rest → IsLeast rest.times head
    → get_or rest.numbers head.strand 0 < length (get_or traces head.strand [])
number_within {traces} rest head ready least =
    let timed : IsTimed (get_or traces head.strand []) (get_or rest.numbers head.strand 0) head.time = head_timed rest head ready least in
    slice_get_within (get_or traces head.strand []) (get_or rest.numbers head.strand 0) timed.item timed.stands

-- the items that are read of a trace are those of the head's strand
pub items_read : (traces : List Trace) (rest : Rest) (head : Head) (trace : Trace) (items : List Item) → IsRest (items_of traces) rest
    → IsLeast rest.times head → items ≡ (get_or traces head.strand trace).items → items ≡ get_or (items_of traces) head.strand []
items_read traces rest head trace items ready least e =
    let timed : IsTimed (get_or (items_of traces) head.strand []) (get_or rest.numbers head.strand 0) head.time = head_timed rest head ready least in
    let within = strand_within (items_of traces) head.strand (get_or rest.numbers head.strand 0) timed.item timed.stands in
    e ∙ items_at traces head.strand trace (subst (λ n. head.strand < n) (length-map traces (λ (t : Trace). t.items)) within)

-- an unwritten time was the head's
pub time_kept : (rest : Rest) (head : Head) (time : Option ℕ) → IsLeast rest.times head → time ≡ Some head.time → rest.times ≡ set rest.times head.strand time
time_kept rest head time least e =
    sym (ap (λ t. set rest.times head.strand t) (e ∙ sym least.time) ∙ set-get_or rest.times head.strand None)

pub same_time : (time : Option ℕ) (t : ℕ) → not (option_eq nat_eq time (Some t)) ≡ false → time ≡ Some t
same_time None t e = absurd (true≢false e)
same_time (Some u) t e = ap Some (eqb-true u t (unnot (nat_eq u t) e))
  where
    unnot : (b : Bool) → not b ≡ false → b ≡ true
    unnot true e = refl
    unnot false e = absurd (true≢false e)

-- ---- the first that is left of the least strand

-- what is left, of another strand as before
pub passed_rest : {traces : List (List Item)} (before after : Rest) (head : Head) (place : Place) → IsRest traces before → IsLeast before.times head
    → IsPassed traces before after head place → IsRest traces after
passed_rest {traces} before after head place ready least passed = record {
  strands = (
    ap length passed.numbers ∙ length-set before.numbers head.strand passed.number ∙ ready.strands.0,
    ap length passed.times ∙ length-set before.times head.strand passed.time ∙ ready.strands.1,
  );
  next = λ strand. subst (λ numbers. IsNext (get_or traces strand []) (get_or numbers strand 0) (get_or after.times strand None)) (sym passed.numbers) (subst (λ times. IsNext (get_or traces strand []) (get_or (set before.numbers head.strand passed.number) strand 0) (get_or times strand None)) (sym passed.times) (by strand));
}
  where
    other : (strand : ℕ) → strand ≢ head.strand
        → IsNext (get_or traces strand []) (get_or (set before.numbers head.strand passed.number) strand 0) (get_or (set before.times head.strand passed.time) strand None)
    other strand differs =
        rw (get_or-set_other before.numbers head.strand strand passed.number 0 differs, get_or-set_other before.times head.strand strand passed.time None differs) (ready.next strand)

    here : IsNext (get_or traces head.strand []) (get_or (set before.numbers head.strand passed.number) head.strand 0)
        (get_or (set before.times head.strand passed.time) head.strand None)
    here =
        rw (get_or-set_same before.numbers head.strand passed.number 0 (omega (arith, least.strand, ready.strands.0)), get_or-set_same before.times head.strand passed.time None (omega (arith, least.strand, ready.strands.1))) passed.next

    by : (strand : ℕ)
        → IsNext (get_or traces strand []) (get_or (set before.numbers head.strand passed.number) strand 0) (get_or (set before.times head.strand passed.time) strand None)
    by strand =
        elim (cases_lt strand head.strand) [
          | inl below ↦ other strand (omega arith)
          | inr above ↦ elim (cases_lt head.strand strand) [
            | inl up ↦ other strand (omega arith)
            | inr same ↦
                let e : head.strand ≡ strand = omega arith in
                subst (λ s. IsNext (get_or traces s []) (get_or (set before.numbers head.strand passed.number) s 0) (get_or (set before.times head.strand passed.time) s None)) e here
          ]
        ]

pub head_act : {traces : List (List Item)} (rest : Rest) (head : Head) → IsRest traces rest → IsLeast rest.times head → Act traces
head_act {traces} rest head ready least =
    let timed : IsTimed (get_or traces head.strand []) (get_or rest.numbers head.strand 0) head.time = head_timed rest head ready least in
    record { strand = head.strand; number = get_or rest.numbers head.strand 0; item = timed.item; stands = timed.stands }

-- ---- keys

earlier_below : {traces : List (List Item)} (x y : Act traces) (time later : ℕ) → IsAt x time → IsAt y later → time < later → IsKeyBelow x y
earlier_below x y time later a b low = let m = a.major_is in let n = b.major_is in inl (omega (arith, low, m, n))

hit_below : {traces : List (List Item)} (x y : Act traces) (time index : ℕ) → IsAt x time → IsCommitOf y index → time ≤ index → IsKeyBelow x y
hit_below x y time index a b low = let m = a.major_is in let n = b.major_is in inl (omega (arith, low, m, n))

commit_below : {traces : List (List Item)} (x y : Act traces) (index time : ℕ) → IsCommitOf x index → IsAt y time → index < time → IsKeyBelow x y
commit_below x y index time a b low = let m = a.major_is in let n = b.major_is in inl (omega (arith, low, m, n))

commits_below : {traces : List (List Item)} (x y : Act traces) (index later : ℕ) → IsCommitOf x index → IsCommitOf y later → index < later → IsKeyBelow x y
commits_below x y index later a b low = let m = a.major_is in let n = b.major_is in inl (omega (arith, low, m, n))

-- at one time, by strand and then by number
tie_below : {traces : List (List Item)} (x y : Act traces) (time : ℕ) → IsAt x time → IsAt y time → x.strand ≤ y.strand
    → (x.strand ≡ y.strand → x.number ≤ y.number) → (place_of y ≡ place_of x) ⊎ IsKeyBelow x y
tie_below x y time a b strand number =
    let same : major x.item.how ≡ major y.item.how = a.major_is ∙ sym b.major_is in
    elim (cases_lt x.strand y.strand) [
      | inl lower ↦ inr (inr (same, inl lower))
      | inr higher ↦
          let e : x.strand ≡ y.strand = omega (arith, strand, higher) in
          let low = number e in
          elim (cases_lt x.number y.number) [
            | inl before ↦ inr (inr (same, inr (e, before)))
            | inr at ↦ inl (same_place y x (sym e) (let n : y.number ≡ x.number = omega (arith, low, at) in n))
          ]
    ]

-- what has a time and what has none are not at one place
timed_alike : {traces : List (List Item)} (x y : Act traces) (time : ℕ) → time_of x.item ≡ Some time → time_of y.item ≡ None → place_of y ≡ place_of x → ⊥
timed_alike x y time timed timeless same = none-some time (sym timeless ∙ ap time_of (same_item y x same) ∙ timed)

-- where no commit comes before the head, it is the least
pub passed_place : (traces : List (List Item)) (log : List Record) (before after : Rest) (head : Head) (place : Place) → AreOrderable traces log
    → IsRest traces before → IsLeast before.times head → (CommitComes before.commits (length log) (Some head) → ⊥)
    → IsPassed traces before after head place → IsNextPlace traces before after place
passed_place traces log before after head place o ready least none passed = record {
  act = act;
  place_is = sym passed.place_is;
  access = access;
  was_left = λ listed. let low = at.to before listed in omega (arith, low);
  least = λ x access' left. below x access' left (placing x access' (o.named.placed x access'));
  listed = λ x access'. listed x (placing x access' (o.named.placed x access'));
}
  where
    timed : IsTimed (get_or traces head.strand []) (get_or before.numbers head.strand 0) head.time
    timed = head_timed before head ready least

    act : Act traces
    act = record { strand = head.strand; number = get_or before.numbers head.strand 0; item = timed.item; stands = timed.stands }

    access : IsAccess act.item.kind
    access = timed_access timed.item head.time timed.timed

    at : IsAt act head.time
    at = is_at act head.time access (o.named.placed act access) timed.timed

    below : (x : Act traces) → IsAccess x.item.kind → (IsListed before x → ⊥) → ((time : ℕ) × IsAt x time) ⊎ ((index : ℕ) × IsCommitOf x index)
        → (place_of x ≡ place_of act) ⊎ IsKeyBelow act x
    below x access' left (inl (time, is)) =
        let number = left_number before x time is left in
        let first = no_earlier before o.times ready x time is.timed number in
        let low = first.below in
        elim (least.least x.strand first.first first.is) [
          | inl earlier ↦ inr (earlier_below act x head.time time at is (omega (arith, earlier, low)))
          | inr tie ↦ elim (cases_lt head.time time) [
            | inl earlier ↦ inr (earlier_below act x head.time time at is earlier)
            | inr late ↦
                let same : time ≡ head.time = omega (arith, late, tie.0, low) in
                tie_below act x head.time at (subst (λ t. IsAt x t) same is) tie.1 (λ e. subst (λ s. get_or before.numbers s 0 ≤ x.number) (sym e) number)
          ]
        ]
    below x access' left (inr (index, of)) =
        let named = o.named.named x index of.seen access' of.how_is in
        let within = slice_get_within log index named.0 named.1 in
        let reached = left_index before x index of left in
        elim (cases_lt index head.time) [
          | inl early ↦ absurd (none (omega (arith, within, reached), omega (arith, early, reached)))
          | inr late ↦ inr (hit_below act x head.time index at of late)
        ]

    elsewhere : (strand : ℕ) → strand ≢ head.strand → get_or after.numbers strand 0 ≡ get_or before.numbers strand 0
    elsewhere strand differs =
        ap (λ ns. get_or ns strand 0) passed.numbers ∙ get_or-set_other before.numbers head.strand strand passed.number 0 differs

    here : (strand : ℕ) → strand ≡ head.strand → get_or after.numbers strand 0 ≡ passed.number
    here strand e =
        ap (λ ns. get_or ns strand 0) passed.numbers
        ∙ (ap (λ s. get_or (set before.numbers head.strand passed.number) s 0) e
        ∙ get_or-set_same before.numbers head.strand passed.number 0 (omega (arith, least.strand, ready.strands.0)))

    to : (x : Act traces) (time : ℕ) → IsAt x time → IsListed after x → IsListed before x ⊎ (place_of x ≡ place_of act)
    to x time is l =
        let low = is.to after l in
        elim (same_or_not x.strand head.strand) [
          | inr differs ↦ inl (is.from before (let e = elsewhere x.strand differs in omega (arith, low, e)))
          | inl e ↦
              let n = here x.strand e in
              let m : get_or before.numbers x.strand 0 ≡ get_or before.numbers head.strand 0 = ap (λ s. get_or before.numbers s 0) e in
              elim (cases_lt x.number (get_or before.numbers head.strand 0)) [
                | inl below' ↦ inl (is.from before (omega (arith, below', m)))
                | inr above ↦ elim (cases_lt (get_or before.numbers head.strand 0) x.number) [
                  | inl up ↦
                      let stands : slice_get (get_or traces head.strand []) x.number ≡ Some x.item = ap (λ s. slice_get (get_or traces s []) x.number) (sym e) ∙ x.stands in
                      let timeless = passed.first x.number x.item (omega (arith, up)) (omega (arith, low, n)) stands in
                      absurd (none-some time (sym timeless ∙ is.timed))
                  | inr same ↦ inr (same_place x act e (let k : x.number ≡ get_or before.numbers head.strand 0 = omega (arith, above, same) in k))
                ]
              ]
        ]

    from : (x : Act traces) (time : ℕ) → IsAt x time → IsListed before x ⊎ (place_of x ≡ place_of act) → IsListed after x
    from x time is (inr same) =
        let e : x.strand ≡ head.strand = ap (λ (p : Place). p.strand) same in
        let m : x.number ≡ get_or before.numbers head.strand 0 = ap (λ (p : Place). p.item) same in
        is.from after (let n = here x.strand e in let a = passed.above in omega (arith, n, m, a))
    from x time is (inl l) =
        let low = is.to before l in
        elim (same_or_not x.strand head.strand) [
          | inr differs ↦ is.from after (let e = elsewhere x.strand differs in omega (arith, low, e))
          | inl e ↦
              let n = here x.strand e in
              let m : get_or before.numbers x.strand 0 ≡ get_or before.numbers head.strand 0 = ap (λ s. get_or before.numbers s 0) e in
              is.from after (let a = passed.above in omega (arith, low, n, m, a))
        ]

    listed : (x : Act traces) → ((time : ℕ) × IsAt x time) ⊎ ((index : ℕ) × IsCommitOf x index)
        → IsListed after x ↔ (IsListed before x ⊎ (place_of x ≡ place_of act))
    listed x (inl (time, is)) = (to x time is, from x time is)
    listed x (inr (index, of)) = (
      λ l. inl (of.from before (subst (λ n. index < n) passed.commits (of.to after l))),
      λ w. elim w [
        | inl l ↦ of.from after (subst (λ n. index < n) (sym passed.commits) (of.to before l))
        | inr same ↦ absurd (timed_alike act x head.time timed.timed of.timeless same)
      ],
    )

-- ---- the first commit that is left

later_than : (times : List (Option ℕ)) (index count : ℕ) (first : Option Head) → IsFirst times first → CommitComes index count first
    → (strand time : ℕ) → get_or times strand None ≡ Some time → index < time
later_than times index count None is comes strand time e = absurd (none-some time (sym (is strand) ∙ e))
later_than times index count (Some head) is comes strand time e =
    elim (is.least strand time e) [ inl earlier ↦ omega (arith, comes.1, earlier) | inr tie ↦ omega (arith, comes.1, tie.0) ]

pub comes_within : (index count : ℕ) (first : Option Head) → CommitComes index count first → index < count
comes_within index count None comes = comes
comes_within index count (Some head) comes = comes.0

abbrev pub commit_place_of : Record → Place
commit_place_of commit = record { strand = commit.strand; item = commit.item }

-- one more commit is listed
abbrev pub one_commit : Rest → Rest
one_commit rest = record rest { commits = rest.commits + 1 }

pub commit_place : (traces : List (List Item)) (log : List Record) (before : Rest) (first : Option Head) (commit : Record) → AreOrderable traces log
    → IsRest traces before → IsFirst before.times first → CommitComes before.commits (length log) first → slice_get log before.commits ≡ Some commit
    → IsNextPlace traces before (one_commit before) (commit_place_of commit)
commit_place traces log before first commit o ready is comes e = record {
  act = act;
  place_is = ap (λ s. place_at s act.number) (sym names.strand) ∙ ap (λ n. place_at commit.strand n) (sym names.item);
  access = (o.named.names before.commits commit e).1;
  was_left = λ listed. let low = of.to before listed in omega (arith, low);
  least = λ x access' left. below x access' left (placing x access' (o.named.placed x access'));
  listed = λ x access'. listed x access' (placing x access' (o.named.placed x access'));
}
  where
    act : Act traces
    act = (o.named.names before.commits commit e).0

    names : Names commit before.commits act
    names = (o.named.names before.commits commit e).2

    of : IsCommitOf act before.commits
    of = commit_of act before.commits commit.seen names.how_is

    this : (x : Act traces) (index : ℕ) → IsAccess x.item.kind → IsCommitOf x index → index ≡ before.commits → place_of x ≡ place_of act
    this x index access' of' same =
        let named = o.named.named x index of'.seen access' of'.how_is in
        let c : named.0 ≡ commit = same_Some named.0 commit (sym named.1 ∙ ap (λ n. slice_get log n) same ∙ e) in
        same_place x act (sym named.2.strand ∙ ap (λ (r : Record). r.strand) c ∙ names.strand) (sym named.2.item ∙ ap (λ (r : Record). r.item) c ∙ names.item)

    below : (x : Act traces) → IsAccess x.item.kind → (IsListed before x → ⊥) → ((time : ℕ) × IsAt x time) ⊎ ((index : ℕ) × IsCommitOf x index)
        → (place_of x ≡ place_of act) ⊎ IsKeyBelow act x
    below x access' left (inl (time, is')) =
        let number = left_number before x time is' left in
        let lead = no_earlier before o.times ready x time is'.timed number in
        let late = later_than before.times before.commits (length log) first is comes x.strand lead.first lead.is in
        let low = lead.below in
        inr (commit_below act x before.commits time of is' (omega (arith, late, low)))
    below x access' left (inr (index, of')) =
        let reached = left_index before x index of' left in
        elim (cases_lt before.commits index) [
          | inl later ↦ inr (commits_below act x before.commits index of of' later)
          | inr at ↦ inl (this x index access' of' (let same : index ≡ before.commits = omega (arith, reached, at) in same))
        ]

    listed : (x : Act traces) → IsAccess x.item.kind → ((time : ℕ) × IsAt x time) ⊎ ((index : ℕ) × IsCommitOf x index)
        → IsListed (one_commit before) x ↔ (IsListed before x ⊎ (place_of x ≡ place_of act))
    listed x access' (inl (time, is')) = (
      λ l. inl (is'.from before (is'.to (one_commit before) l)),
      λ w. elim w [
        | inl l ↦ is'.from (one_commit before) (is'.to before l)
        | inr same ↦ absurd (timed_alike x act time is'.timed of.timeless (sym same))
      ],
    )
    listed x access' (inr (index, of')) = (
      λ l.
          let low = of'.to (one_commit before) l in
          elim (cases_lt index before.commits) [
            | inl old ↦ inl (of'.from before old)
            | inr at ↦ inr (this x index access' of' (let same : index ≡ before.commits = omega (arith, low, at) in same))
          ],
      λ w. elim w [
        | inl l ↦ let low = of'.to before l in of'.from (one_commit before) (omega (arith, low))
        | inr same ↦
            let how_is : Commit index of'.seen ≡ Commit before.commits commit.seen = sym of'.how_is ∙ ap (λ (i : Item). i.how) (same_item x act same) ∙ names.how_is in
            let n : index ≡ before.commits = ap index_of how_is in
            of'.from (one_commit before) (omega (arith, n))
      ],
    )

-- ---- the end

pub all_listed : (traces : List (List Item)) (log : List Record) (rest : Rest) → AreOrderable traces log → IsRest traces rest → IsFirst rest.times None
    → (CommitComes rest.commits (length log) None → ⊥) → AreAllListed traces rest
all_listed traces log rest o ready first none = λ x access. by x access (placing x access (o.named.placed x access))
  where
    by : (x : Act traces) → IsAccess x.item.kind → ((time : ℕ) × IsAt x time) ⊎ ((index : ℕ) × IsCommitOf x index) → IsListed rest x
    by x access (inl (time, is)) =
        elim (cases_lt x.number (get_or rest.numbers x.strand 0)) [
          | inl below ↦ is.from rest below
          | inr left ↦ let l = no_earlier rest o.times ready x time is.timed left in absurd (none-some l.first (sym (first x.strand) ∙ l.is))
        ]
    by x access (inr (index, of)) =
        let named = o.named.named x index of.seen access of.how_is in
        let within = slice_get_within log index named.0 named.1 in
        of.from rest (elim (cases_lt rest.commits (length log)) [ inl comes ↦ absurd (none comes) | inr past ↦ omega (arith, within, past) ])
