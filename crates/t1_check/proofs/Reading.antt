-- From one line of the order to the next.
use Rattle.std.proofs.Common.{◌≡◌, ℕ, ◌+◌, ◌*◌, ◌-◌, ◌/◌, ◌%◌, ◌<◌, ◌≤◌, List, [], length, get_or, Option, Some, refl, sym, ap, subst, ◌∙◌, inl, inr, ◌⊎◌, arith}
use Rattle.std.proofs.lemmas.Bool.{cases_eq}
use Rattle.std.proofs.lemmas.Option.{slice_get_within, slice_get-get_or, get_or_from_slice_get}
use Rattle.std.specs.List.{slice_get}
use Rattle.t1_num.specs.Memory.{byte_of}
use Rattle.t1_event.specs.declared.item.Item.{Item}
use Rattle.t1_event.specs.declared.report.Place.{Place}
use Rattle.t1_event.specs.Kinds.{IsAccess, IsRead}
use Rattle.t1_event.specs.Items.{IsIo}
use Rattle.t1_event.specs.Order.{Act, place_of, Value}
use Rattle.t1_check.specs.declared.latest.Latest.{Latest}
use Rattle.t1_check.specs.Latest.{at}
use Rattle.t1_check.specs.Table.{cell}
use Rattle.t1_check.specs.Checked.{AreInWords}
use Rattle.t1_check.specs.Positions.{no_place, no_item, item_in, IsMarked, IsTold}
use Rattle.t1_check.specs.Sources.{seen_at, own_at, source_of, source_at, byte_from, OwnBelow, SourcesAre}
use Rattle.t1_check.specs.Wrong.{IsRightByteAt, AreRightBytes, IsRightAt, AreRight, IsWrongByteAt, IsWrongIoAt, IsWrongLine, place_of_source}
use Rattle.t1_check.specs.Verdicts.{IsRightByte, IsRightRead, IsLowestWrong, IsWrongIo, IsFirstWrong, IsSource}
use Rattle.t1_check.proofs.Marking.{names}
use Rattle.t1_check.proofs.Standing.{strand_within, is_at, read_access}
use Rattle.t1_check.proofs.LastWrites.{there, item_there, source, source_there, source_named, right_byte, byte_right}

-- the place on a line of a marked order
pub stands_in : (traces : List (List Item)) (order : List Place) (table : List (List ℕ)) (k : ℕ) → IsMarked traces order (length order) table → k < length order
    → ((get_or order k no_place).strand < length traces) × ((get_or order k no_place).item < length (get_or traces (get_or order k no_place).strand [])) × IsAccess (item_in traces order k).kind
stands_in traces order table k m l =
    let p : Place = get_or order k no_place in
    let n = names traces p (m.access k p l (slice_get-get_or order k no_place l)) in (
      strand_within traces p.strand p.item n.0 n.1,
      slice_get_within (get_or traces p.strand []) p.item n.0 n.1,
      subst (λ (x : Item). IsAccess x.kind) (sym (get_or_from_slice_get (get_or traces p.strand []) p.item n.0 no_item n.1)) n.2,
    )

-- it lies in a word
pub in_word : (traces : List (List Item)) (order : List Place) (table : List (List ℕ)) (k : ℕ) → IsMarked traces order (length order) table → k < length order → AreInWords traces
    → (item_in traces order k).addr % 8 + (item_in traces order k).size ≤ 8
in_word traces order table k m l words =
    let p : Place = get_or order k no_place in
    let s = stands_in traces order table k m l in
    words p.strand p.item (item_in traces order k) (slice_get-get_or (get_or traces p.strand []) p.item no_item s.1) s.2

pub sources_are : (traces : List (List Item)) (order : List Place) (table own : List (List ℕ)) (latest : Latest) (k : ℕ)
    → IsMarked traces order (length order) table → k < length order → AreInWords traces → OwnBelow traces table own (length traces)
    → ((a : ℕ) → at latest a ≡ seen_at traces order k a) → SourcesAre traces order own latest table k
sources_are traces order table own latest k m l words owns seen j w =
    let p : Place = get_or order k no_place in
    let x : Item = item_in traces order k in
    let s = stands_in traces order table k m l in
    let inner = in_word traces order table k m l words in
    let e : 8 * (x.addr / 8) + (x.addr + j) % 8 ≡ x.addr + j = omega (arith, inner, w) in
    let mine = owns p.strand s.0 p.item ((x.addr + j) % 8) s.1 (omega arith) in
    ap (λ (n : ℕ). source_of x.kind n (cell own p.strand (8 * p.item + (x.addr + j) % 8))) (seen (x.addr + j))
    ∙ (ap (λ (n : ℕ). source_of x.kind (seen_at traces order k (x.addr + j)) n) mine
    ∙ ap (λ (a : ℕ). source_of x.kind (seen_at traces order k (x.addr + j)) (own_of p a)) e)
  where
    own_of : Place → ℕ → ℕ
    own_of p a = own_at (get_or traces p.strand []) (get_or table p.strand []) p.item a

pub right_more : (image : List ℕ) (traces : List (List Item)) (order : List Place) (table : List (List ℕ)) (k : ℕ) → AreRight image traces order table k → IsRightAt image traces order table k
    → AreRight image traces order table (k + 1)
right_more image traces order table k before here j l =
    elim (cases_eq j k) [
      | inl e ↦ subst (λ (n : ℕ). IsRightAt image traces order table n) (sym e) here
      | inr e ↦ before j (omega (arith, l, e))
    ]

module _ (image : List ℕ) (traces : List (List Item)) (order : List Place) (table : List (List ℕ)) (t : IsTold traces order table) where
  -- a byte of what stands on a line is right by its source where it is right by its last write
  line_right : (k : ℕ) (r : Act traces) (e : slice_get order k ≡ Some (place_of r)) (j a : ℕ) → (item_in traces order k).addr + j ≡ a → a < length image
      → IsRightByteAt image traces order table k j → IsRightByte image order r a
  line_right k r e j a is within h =
      let it : item_in traces order k ≡ r.item = item_there traces order table t r k e in
      let got = h (subst (λ (n : ℕ). n < length image) (sym is) within) in
      let off : a - r.item.addr ≡ j = (let b : (item_in traces order k).addr ≡ r.item.addr = ap (λ (x : Item). x.addr) it in omega (arith, b, is)) in
      right_byte traces order table t image r k a e
      (ap (λ (n : ℕ). byte_of r.item.got r.item.size n) off
      ∙ (ap (λ (x : Item). byte_of x.got x.size j) (sym it)
      ∙ (got
      ∙ (ap (λ (n : ℕ). byte_from image traces order (source_at traces order table k n) n) is
      ∙ ap (λ (n : ℕ). byte_from image traces order n a) (source_there traces order table t r k a e)))))

  right_line : (k : ℕ) (r : Act traces) (e : slice_get order k ≡ Some (place_of r)) (j a : ℕ) → (item_in traces order k).addr + j ≡ a
      → IsRightByte image order r a → IsRightByteAt image traces order table k j
  right_line k r e j a is h within =
      let it : item_in traces order k ≡ r.item = item_there traces order table t r k e in
      let off : a - r.item.addr ≡ j = (let b : (item_in traces order k).addr ≡ r.item.addr = ap (λ (x : Item). x.addr) it in omega (arith, b, is)) in
      ap (λ (x : Item). byte_of x.got x.size j) it
      ∙ (ap (λ (n : ℕ). byte_of r.item.got r.item.size n) (sym off)
      ∙ (byte_right traces order table t image r k a e h
      ∙ (ap (λ (n : ℕ). byte_from image traces order n a) (sym (source_there traces order table t r k a e))
      ∙ ap (λ (n : ℕ). byte_from image traces order (source_at traces order table k n) n) (sym is))))

  -- bytes up to one that the read covers
  bytes_right : (k : ℕ) (r : Act traces) (e : slice_get order k ≡ Some (place_of r)) (n : ℕ) → AreRightBytes image traces order table k n
      → (a : ℕ) → a < length image → r.item.addr ≤ a → a < r.item.addr + n → IsRightByte image order r a
  bytes_right k r e n h a within low high =
      let it : (item_in traces order k).addr ≡ r.item.addr = ap (λ (x : Item). x.addr) (item_there traces order table t r k e) in
      line_right k r e (a - r.item.addr) a (omega (arith, it, low)) within (h (a - r.item.addr) (omega (arith, low, high)))

  -- what stands on a line that is right is a right read
  pub read_right : (k : ℕ) (r : Act traces) (e : slice_get order k ≡ Some (place_of r)) → IsRead r.item.kind → IsRightAt image traces order table k → IsRightRead image order r
  read_right k r e reads h =
      let it : item_in traces order k ≡ r.item = item_there traces order table t r k e in
      let reads' : IsRead (item_in traces order k).kind = subst (λ (x : Item). IsRead x.kind) (sym it) reads in
      record {
        memory = λ a within c. bytes_right k r e r.item.size (subst (λ (x : Item). AreRightBytes image traces order table k x.size) it (h.memory reads')) a within c.0 c.1;
        io = λ far. ap (λ (x : Item). x.got) (sym it) ∙ h.io reads' (subst (λ (x : Item). IsIo x.addr) (sym it) far);
      }

  pub value_holds : AreRight image traces order table (length order) → Value image traces order
  value_holds h = record {
    memory = λ r a reads within covers. (
        let at = is_at traces order table t r (read_access r.item.kind reads) in
        (read_right at.line r at.is reads (h at.line at.within)).memory a within covers
        );
    io = λ r reads far. (
        let at = is_at traces order table t r (read_access r.item.kind reads) in
        (read_right at.line r at.is reads (h at.line at.within)).io far
        );
  }

  lowest_wrong : (k : ℕ) (r : Act traces) (e : slice_get order k ≡ Some (place_of r)) (n : ℕ) → IsWrongByteAt image traces order table k n → IsLowestWrong image order r (place_of_source order n)
  lowest_wrong k r e n w =
      let a : ℕ = (item_in traces order k).addr + w.offset in
      let start : (item_in traces order k).addr ≡ r.item.addr = ap (λ (x : Item). x.addr) (item_there traces order table t r k e) in
      let size : (item_in traces order k).size ≡ r.item.size = ap (λ (x : Item). x.size) (item_there traces order table t r k e) in
      let from : source traces order table t r k a ≡ n = sym (source_there traces order table t r k a e) ∙ w.source_is in
      record {
        addr = a;
        within = w.memory;
        covers = (omega (arith, start), omega (arith, start, size, w.within));
        wrong = λ right. w.wrong (right_line k r e w.offset a refl right);
        source_is = subst (λ (m : ℕ). IsSource order r a (place_of_source order m)) from (source_named traces order table t r k a e);
        lowest = λ b below within c. bytes_right k r e w.offset w.lowest b within c.0 (omega (arith, start, below));
      }

  wrong_io : (k : ℕ) (r : Act traces) (e : slice_get order k ≡ Some (place_of r)) (n : ℕ) → IsWrongIoAt image traces order table k n → IsWrongIo image order r (place_of_source order n)
  wrong_io k r e n w =
      let it : item_in traces order k ≡ r.item = item_there traces order table t r k e in
      record {
        io = subst (λ (x : Item). IsIo x.addr) it w.io;
        wrong = λ z. w.wrong (ap (λ (x : Item). x.got) it ∙ z);
        right = λ a within c. bytes_right k r e r.item.size (subst (λ (x : Item). AreRightBytes image traces order table k x.size) it w.right) a within c.0 c.1;
        none = ap (place_of_source order) w.image_is;
      }

  -- the first wrong line is that of the first wrong read
  pub first_wrong : (p : Place) (found : Option Place) → IsWrongLine image traces order table p found → IsFirstWrong image traces order p found
  first_wrong p found f =
      let h = there traces order table t f.line f.within in
      record {
        line = f.line;
        read = h.act;
        stands = h.at;
        first_is = sym (get_or_from_slice_get order f.line (place_of h.act) no_place h.at) ∙ sym f.first_is;
        reads = subst (λ (x : Item). IsRead x.kind) h.item f.wrong.0;
        wrong = subst (λ (o : Option Place). IsLowestWrong image order h.act o ⊎ IsWrongIo image order h.act o) (sym f.second_is)
            (elim f.wrong.1 [ inl w ↦ inl (lowest_wrong f.line h.act h.at f.source w) | inr w ↦ inr (wrong_io f.line h.act h.at f.source w) ]);
        before = λ k x l e reads. read_right k x e reads (f.before k l);
      }
