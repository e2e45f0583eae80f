-- The write from which a byte of a read should come is the last that it may see.
use Rattle.std.proofs.Common.{◌≡◌, ℕ, zero, suc, ◌-◌, ◌<◌, ◌≤◌, max, Bool, true, false, cond, List, [], length, get_or, Some, refl, sym, ap, subst, ◌∙◌, inl, inr, ◌⊎◌, arith, slice_index}
use Rattle.std.proofs.lemmas.Bool.{cases_eq, cases_order, cases_lt}
use Rattle.std.proofs.lemmas.Option.{slice_get_within, slice_get-get_or, get_or_from_slice_get, same_Some}
use Rattle.std.specs.List.{slice_get}
use Rattle.t1_num.specs.Memory.{byte_of}
use Rattle.t1_event.specs.declared.item.Item.{Item}
use Rattle.t1_event.specs.declared.item.ItemKind.{ItemKind}
use Rattle.t1_event.specs.declared.item.ItemKind.TheVariants.{Fetch, Load, Store, Atomic, Membar, Flush}
use Rattle.t1_event.specs.declared.report.Place.{Place}
use Rattle.t1_event.specs.Kinds.{IsAccess}
use Rattle.t1_event.specs.Items.{byte_got, byte_put}
use Rattle.t1_event.specs.Order.{Act, place_of, IsCandidate, IsLastWrite}
use Rattle.t1_check.specs.Table.{cell}
use Rattle.t1_check.specs.Bounds.{is_fetch}
use Rattle.t1_check.specs.Positions.{no_place, no_item, item_of, item_in, IsTold}
use Rattle.t1_check.specs.Sources.{writes_byte, seen_at, own_at, source_of, source_at, byte_from}
use Rattle.t1_check.specs.Wrong.{place_of_source}
use Rattle.t1_check.specs.Verdicts.{IsRightByte, IsSource}
use Rattle.t1_check.proofs.Standing.{told_at, is_at, before_cell, cell_before, same_cell, act_of, changing_access}
use Rattle.t1_check.proofs.Peaks.{peak_up, peak_down, writes_true, true_writes}

fetch_true : (k : ItemKind) → k ≡ Fetch → is_fetch k ≡ true
fetch_true k e = ap is_fetch e

-- an act that stands on a line of the order
pub record IsThere (traces : List (List Item)) (order : List Place) (table : List (List ℕ)) (line : ℕ) : Type 0 where
  pub act : Act traces
  pub access : IsAccess act.item.kind
  pub at : slice_get order line ≡ Some (place_of act)
  pub item : item_in traces order line ≡ act.item
  pub told : cell table act.strand act.number ≡ suc line

module _ (traces : List (List Item)) (order : List Place) (table : List (List ℕ)) (t : IsTold traces order table) where
  place_at : (x : Act traces) (k : ℕ) → slice_get order k ≡ Some (place_of x) → get_or order k no_place ≡ place_of x
  place_at x k e = get_or_from_slice_get order k (place_of x) no_place e

  pub item_there : (x : Act traces) (k : ℕ) → slice_get order k ≡ Some (place_of x) → item_in traces order k ≡ x.item
  item_there x k e =
      ap (λ (p : Place). item_of (get_or traces p.strand []) p.item) (place_at x k e)
      ∙ get_or_from_slice_get (get_or traces x.strand []) x.number x.item no_item x.stands

  pub there : (k : ℕ) → k < length order → IsThere traces order table k
  there k l =
      let e : slice_get order k ≡ Some (get_or order k no_place) = slice_get-get_or order k no_place l in
      let n = t.marked.access k (get_or order k no_place) l e in
      let at : slice_get order k ≡ Some (place_of n.0) = e ∙ ap (λ (p : Place). Some p) (sym n.2) in
      record { act = n.0; access = n.1; at = at; item = item_there n.0 k at; told = told_at traces order table t n.0 k at }

  -- a position is 0 and there is no candidate, or it is that of the last one
  abbrev pub IsLastAt : Act traces → ℕ → ℕ → Type 0
  IsLastAt r a n = ((n ≡ 0) × ((w : Act traces) → IsCandidate order r a w → ⊥)) ⊎ ((w : Act traces) × IsLastWrite order r a w × (cell table w.strand w.number ≡ n))

  -- the source of a byte, by strand and number of the read
  abbrev pub source : Act traces → ℕ → ℕ → ℕ
  source r k a = source_of r.item.kind (seen_at traces order k a) (own_at (get_or traces r.strand []) (get_or table r.strand []) r.number a)

  seen_le : (b : Bool) (x y : ℕ) → x ≤ cond b x (max x y)
  seen_le true x y = omega arith
  seen_le false x y = omega arith

  own_le : (k : ItemKind) (x y : ℕ) → (k ≡ Fetch → ⊥) → y ≤ source_of k x y
  own_le Fetch x y n = absurd (n refl)
  own_le Load x y n = omega arith
  own_le Store x y n = omega arith
  own_le (Atomic w) x y n = omega arith
  own_le Membar x y n = omega arith
  own_le Flush x y n = omega arith

  -- no candidate lies above the source
  candidate_le : (r : Act traces) (k a : ℕ) → slice_get order k ≡ Some (place_of r) → (v : Act traces) → IsCandidate order r a v → cell table v.strand v.number ≤ source r k a
  candidate_le r k a e v c =
      elim c.seen [
        | inl b ↦
            let told = told_at traces order table t v b.first b.at_first in
            let here = told_at traces order table t r k e in
            let second = told_at traces order table t r b.second b.at_second in
            let w : writes_byte (item_in traces order b.first) a ≡ true = rw (item_there v b.first b.at_first) (writes_true v.item a c.changes c.covers) in
            let up = peak_up (item_in traces order) (λ i. suc i) k a b.first (omega (arith, b.ascends, here, second)) w in
            let le = seen_le (is_fetch r.item.kind) (seen_at traces order k a) (own_at (get_or traces r.strand []) (get_or table r.strand []) r.number a) in
            omega (arith, told, up, le)
        | inr p ↦
            let is : item_of (get_or traces r.strand []) v.number ≡ v.item =
            ap (λ (s : ℕ). item_of (get_or traces s []) v.number) (sym p.1.strand) ∙ get_or_from_slice_get (get_or traces v.strand []) v.number v.item no_item v.stands in
            let w : writes_byte (item_of (get_or traces r.strand []) v.number) a ≡ true = rw is (writes_true v.item a c.changes c.covers) in
            let up = peak_up (item_of (get_or traces r.strand [])) (λ j. get_or (get_or table r.strand []) j 0) r.number a v.number p.1.number w in
            let same : cell table v.strand v.number ≡ cell table r.strand v.number = ap (λ (s : ℕ). cell table s v.number) p.1.strand in
            let le = own_le r.item.kind (seen_at traces order k a) (own_at (get_or traces r.strand []) (get_or table r.strand []) r.number a) p.0 in
            omega (arith, same, up, le)
      ]

  -- a candidate at the source is the last
  last_from : (r : Act traces) (k a : ℕ) → slice_get order k ≡ Some (place_of r) → (w : Act traces) → IsCandidate order r a w → cell table w.strand w.number ≡ source r k a
      → IsLastAt r a (source r k a)
  last_from r k a e w c is = inr (
    w,
    record {
      candidate = c;
      last = λ v d. (
          let le = candidate_le r k a e v d in
          let av = changing_access v.item.kind d.changes in
          let aw = changing_access w.item.kind c.changes in
          elim (cases_order (cell table v.strand v.number) (cell table w.strand w.number)) [
            | inl q ↦ inl (same_cell traces order table t v w av aw q)
            | inr (inl q) ↦ inr (cell_before traces order table t v w av aw q)
            | inr (inr q) ↦ absurd (omega (arith, le, is, q))
          ]
          );
    },
    is,
  )

  from_seen : (r : Act traces) (k a : ℕ) → slice_get order k ≡ Some (place_of r) → 0 < seen_at traces order k a → source r k a ≡ seen_at traces order k a → IsLastAt r a (source r k a)
  from_seen r k a e l s =
      let p = peak_down (item_in traces order) (λ i. suc i) k a l in
      let within = slice_get_within order k (place_of r) e in
      let h = there p.j (omega (arith, p.below, within)) in
      let w = true_writes h.act.item a (subst (λ (x : Item). writes_byte x a ≡ true) h.item p.writes) in
      last_from r k a e h.act (record { changes = w.0; covers = w.1; seen = inl (record { first = p.j; second = k; ascends = p.below; at_first = h.at; at_second = e }) }) (omega (arith, h.told, p.is, s))

  from_own : (r : Act traces) (k a : ℕ) → slice_get order k ≡ Some (place_of r) → (r.item.kind ≡ Fetch → ⊥) → 0 < own_at (get_or traces r.strand []) (get_or table r.strand []) r.number a
      → source r k a ≡ own_at (get_or traces r.strand []) (get_or table r.strand []) r.number a → IsLastAt r a (source r k a)
  from_own r k a e n l s =
      let p = peak_down (item_of (get_or traces r.strand [])) (λ j. get_or (get_or table r.strand []) j 0) r.number a l in
      let within = slice_get_within (get_or traces r.strand []) r.number r.item r.stands in
      let w = true_writes (item_of (get_or traces r.strand []) p.j) a p.writes in
      last_from r k a e (act_of {traces = traces} r.strand p.j (omega (arith, p.below, within)))
      (record { changes = w.0; covers = w.1; seen = inr (n, record { strand = refl; number = p.below }) }) (omega (arith, p.is, s))

  none_from : (r : Act traces) (k a : ℕ) → slice_get order k ≡ Some (place_of r) → source r k a ≡ 0 → IsLastAt r a (source r k a)
  none_from r k a e z = inl (
    z,
    λ w c. (
        let le = candidate_le r k a e w c in
        let at = is_at traces order table t w (changing_access w.item.kind c.changes) in
        omega (arith, le, at.told, z)
        ),
  )

  source_go : (r : Act traces) (k a : ℕ) → slice_get order k ≡ Some (place_of r) → (b : Bool) → is_fetch r.item.kind ≡ b → IsLastAt r a (source r k a)
  source_go r k a e true f =
      let s : source r k a ≡ seen_at traces order k a = rw f refl in
      elim (cases_eq (seen_at traces order k a) 0) [
        | inl z ↦ none_from r k a e (omega (arith, s, z))
        | inr z ↦ from_seen r k a e (omega (arith, z)) s
      ]
  source_go r k a e false f =
      let O : ℕ = own_at (get_or traces r.strand []) (get_or table r.strand []) r.number a in
      let S : ℕ = seen_at traces order k a in
      let s : source r k a ≡ max S O = rw f refl in
      let n : r.item.kind ≡ Fetch → ⊥ = λ q. (let g = fetch_true r.item.kind q in absurd (let bad : true ≡ false = sym g ∙ f in cc)) in
      elim (cases_lt S O) [
        | inl l ↦ from_own r k a e n (omega (arith, l)) (omega (arith, s, l))
        | inr l ↦ elim (cases_eq S 0) [
          | inl z ↦ none_from r k a e (omega (arith, s, l, z))
          | inr z ↦ from_seen r k a e (omega (arith, z)) (omega (arith, s, l))
        ]
      ]

  pub source_is : (r : Act traces) (k a : ℕ) → slice_get order k ≡ Some (place_of r) → IsLastAt r a (source r k a)
  source_is r k a e = source_go r k a e (is_fetch r.item.kind) refl

  -- ---- the byte that the source gives

  byte_is : (image : List ℕ) (r : Act traces) (a : ℕ) → (n : ℕ) → IsLastAt r a n
      → ((w : Act traces) × IsLastWrite order r a w × (byte_from image traces order n a ≡ byte_put w.item a))
      ⊎ (((w : Act traces) → IsCandidate order r a w → ⊥) × (byte_from image traces order n a ≡ slice_index image a))
  byte_is image r a n (inl p) = inr (p.1, ap (λ (m : ℕ). byte_from image traces order m a) p.0)
  byte_is image r a n (inr q) =
      let at = is_at traces order table t q.0 (changing_access q.0.item.kind q.1.candidate.changes) in
      inl (q.0, q.1, ap (λ (m : ℕ). byte_from image traces order m a) (sym q.2 ∙ at.told) ∙ ap (λ (x : Item). byte_of x.put x.size (a - x.addr)) (item_there q.0 at.line at.is))

  -- two last writes are one
  one_last : (r : Act traces) (a : ℕ) (v w : Act traces) → IsLastWrite order r a v → IsLastWrite order r a w → place_of v ≡ place_of w
  one_last r a v w lv lw =
      elim (lw.last v lv.candidate) [
        | inl e ↦ e
        | inr b ↦ elim (lv.last w lw.candidate) [
          | inl e ↦ sym e
          | inr d ↦
              let x = before_cell traces order table t v w b in
              let y = before_cell traces order table t w v d in
              absurd (omega (arith, x, y))
        ]
      ]

  item_same : (v w : Act traces) → place_of v ≡ place_of w → v.item ≡ w.item
  item_same v w e =
      let s : v.strand ≡ w.strand = ap (λ (p : Place). p.strand) e in
      let i : v.number ≡ w.number = ap (λ (p : Place). p.item) e in
      same_Some v.item w.item (cc (v.stands, w.stands, s, i))

  -- a byte is right where it is the byte of its source
  pub right_byte : (image : List ℕ) (r : Act traces) (k a : ℕ) → slice_get order k ≡ Some (place_of r)
      → byte_got r.item a ≡ byte_from image traces order (source r k a) a → IsRightByte image order r a
  right_byte image r k a e right =
      elim (byte_is image r a (source r k a) (source_is r k a e)) [
        | inl p ↦ inl (p.0, p.1, right ∙ p.2)
        | inr p ↦ inr (p.0, right ∙ p.1)
      ]

  pub byte_right : (image : List ℕ) (r : Act traces) (k a : ℕ) → slice_get order k ≡ Some (place_of r)
      → IsRightByte image order r a → byte_got r.item a ≡ byte_from image traces order (source r k a) a
  byte_right image r k a e v =
      elim (byte_is image r a (source r k a) (source_is r k a e)) [
        | inl p ↦ elim v [
          | inl q ↦ q.2 ∙ (ap (λ (x : Item). byte_put x a) (item_same q.0 p.0 (one_last r a q.0 p.0 q.1 p.1)) ∙ sym p.2)
          | inr q ↦ absurd (q.0 p.0 p.1.candidate)
        ]
        | inr p ↦ elim v [
          | inl q ↦ absurd (p.0 q.0 q.1.candidate)
          | inr q ↦ q.1 ∙ sym p.1
        ]
      ]

  -- the place at the source is that of the last write, and none is there for the image
  source_place : (r : Act traces) (a n : ℕ) → IsLastAt r a n → IsSource order r a (place_of_source order n)
  source_place r a zero (inl p) = p.1
  source_place r a (suc j) (inl p) = absurd (omega (arith, p.0))
  source_place r a zero (inr q) =
      let at = is_at traces order table t q.0 (changing_access q.0.item.kind q.1.candidate.changes) in
      absurd (omega (arith, q.2, at.told))
  source_place r a (suc j) (inr q) =
      let at = is_at traces order table t q.0 (changing_access q.0.item.kind q.1.candidate.changes) in
      let k : at.line ≡ j = omega (arith, q.2, at.told) in
      (q.0, q.1, sym (get_or_from_slice_get order j (place_of q.0) no_place (subst (λ (m : ℕ). slice_get order m ≡ Some (place_of q.0)) k at.is)))

  pub source_named : (r : Act traces) (k a : ℕ) → slice_get order k ≡ Some (place_of r) → IsSource order r a (place_of_source order (source r k a))
  source_named r k a e = source_place r a (source r k a) (source_is r k a e)

  -- the source by the line is the source of the act there
  pub source_there : (r : Act traces) (k a : ℕ) → slice_get order k ≡ Some (place_of r) → source_at traces order table k a ≡ source r k a
  source_there r k a e =
      ap (λ (p : Place). source_of (item_of (get_or traces p.strand []) p.item).kind (seen_at traces order k a) (own_at (get_or traces p.strand []) (get_or table p.strand []) p.item a)) (place_at r k e)
      ∙ ap (λ (x : Item). source_of x.kind (seen_at traces order k a) (own_at (get_or traces r.strand []) (get_or table r.strand []) r.number a))
      (get_or_from_slice_get (get_or traces r.strand []) r.number r.item no_item r.stands)
