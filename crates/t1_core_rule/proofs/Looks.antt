-- What a buffer answers, in the words of the table of places.
use Rattle.std.proofs.Common.{◌≡◌, ◌⊎◌, ◌≤◌, ◌<◌, ℕ, ◌+◌, ◌-◌, Bool, true, false, List, [], ◌∷◌, ◌++◌, length, refl, ap, sym, ◌∙◌, subst, suc, inl, inr, nat_le, arith, if◌then◌else◌}
use Rattle.std.proofs.lemmas.Bool.{and_parts, lt-ltb, leb-true}
use Rattle.t1_num.specs.Memory.{byte_of}
use Rattle.t1_sbuf.specs.declared.entry.Entry.{Entry}
use Rattle.t1_sbuf.specs.declared.entry.Look.{Look}
use Rattle.t1_sbuf.specs.declared.entry.Look.TheVariants as look
use Rattle.t1_sbuf.specs.Looks.{overlaps, holds_all, bytes_in, answer_of, look_from, look_of}
use Rattle.t1_event.specs.declared.item.Item.{Item}
use Rattle.t1_event.specs.declared.item.ItemKind.TheVariants as kind
use Rattle.t1_event.specs.declared.item.How.{How}
use Rattle.t1_event.specs.declared.item.How.TheVariants.{Unplaced}
use Rattle.t1_event.specs.Places.{Overlaps}
use Rattle.t1_joint.specs.Lists.{IsIn}
use Rattle.t1_joint.specs.Waits.{HasItem, IsLate, IsHeldIn}
use Rattle.t1_joint.specs.Rows.{NoneHeldIn, NoneOverlapsIn, IsForwardedIn}
use Rattle.t1_strand_order.specs.Kept.{Ascends, IsOrderly}
use Rattle.t1_strand_order.proofs.Items.{one_item, has_below, ascends_above, late_done}
use Rattle.t1_core_rule.specs.Outs.{numbers_of, IsEntryOf, AreEntriesOf}
use Rattle.t1_core_rule.proofs.Numbers.{byte_part}

-- ---- the youngest entry that overlaps an access

abbrev NoneOf : List Entry → ℕ → ℕ → Type 0
NoneOf [] a z = Unit {0}
NoneOf (e ∷ es) a z = (overlaps e a z ≡ false) × NoneOf es a z

record IsYoungest (es : List Entry) (a z : ℕ) (e : Entry) : Type 0 where
  older : List Entry
  younger : List Entry
  are : es ≡ older ++ e ∷ younger
  overlaps_it : overlaps e a z ≡ true
  none : NoneOf younger a z

abbrev Found : Look → List Entry → ℕ → ℕ → Look → Type 0
Found before es a z l = ((e : Entry) × IsYoungest es a z e × (k : ℕ) × (l ≡ answer_of e k a z)) ⊎ (NoneOf es a z × (l ≡ before))

found_here : (before : Look) (place : ℕ) (e : Entry) (es : List Entry) (a z : ℕ) (l : Look) → NoneOf es a z → l ≡ (if overlaps e a z then answer_of e place a z else before)
    → (b : Bool) → overlaps e a z ≡ b → Found before (e ∷ es) a z l
found_here before place e es a z l none is true m =
    inl (e, record { older = []; younger = es; are = refl; overlaps_it = m; none = none }, place, is ∙ ap (λ (b : Bool). if b then answer_of e place a z else before) m)
found_here before place e es a z l none is false m = inr ((m, none), is ∙ ap (λ (b : Bool). if b then answer_of e place a z else before) m)

look_found : (before : Look) (place : ℕ) (es : List Entry) (a z : ℕ) → Found before es a z (look_from before place es a z)
unfolding look_from
look_found before place [] a z = inr (tt, refl)
look_found before place (e ∷ es) a z =
    elim (look_found (if overlaps e a z then answer_of e place a z else before) (place + 1) es a z) [
      | inl p ↦ inl (
        p.0,
        record { older = e ∷ p.1.older; younger = p.1.younger; are = ap (λ (l : List Entry). e ∷ l) p.1.are; overlaps_it = p.1.overlaps_it; none = p.1.none },
        p.2,
        p.3,
      )
      | inr p ↦ found_here before place e es a z (look_from (if overlaps e a z then answer_of e place a z else before) (place + 1) es a z) p.0 p.1 (overlaps e a z) refl
    ]

answer_covers : (e : Entry) (k a z v : ℕ) (b : Bool) → holds_all e a z ≡ b → answer_of e k a z ≡ look.Covers v → (holds_all e a z ≡ true) × (v ≡ bytes_in e a z)
answer_covers e k a z v true h is =
    let q : look.Covers (bytes_in e a z) ≡ look.Covers v = rw h at is in (h, (let r : v ≡ bytes_in e a z = cc in r))
answer_covers e k a z v false h is = absurd (let q : look.Overlaps k ≡ look.Covers v = rw h at is in cc)

answer_not_clear : (e : Entry) (k a z : ℕ) (b : Bool) → holds_all e a z ≡ b → answer_of e k a z ≡ look.Clear → ⊥
answer_not_clear e k a z true h is = let q : look.Covers (bytes_in e a z) ≡ look.Clear = rw h at is in cc
answer_not_clear e k a z false h is = let q : look.Overlaps k ≡ look.Clear = rw h at is in cc

covers_from : (es : List Entry) (a z v : ℕ) → look_of es a z ≡ look.Covers v
    → (e : Entry) × IsYoungest es a z e × (holds_all e a z ≡ true) × (v ≡ bytes_in e a z)
covers_from es a z v is =
    elim (look_found look.Clear 0 es a z) [
      | inl p ↦ (let c = answer_covers p.0 p.2 a z v (holds_all p.0 a z) refl (sym p.3 ∙ is) in (p.0, p.1, c.0, c.1))
      | inr p ↦ absurd (let q : look.Clear ≡ look.Covers v = sym p.1 ∙ is in cc)
    ]

clear_none : (es : List Entry) (a z : ℕ) → look_of es a z ≡ look.Clear → NoneOf es a z
clear_none es a z is =
    elim (look_found look.Clear 0 es a z) [
      | inl p ↦ absurd (answer_not_clear p.0 p.2 a z (holds_all p.0 a z) refl (sym p.3 ∙ is))
      | inr p ↦ p.0
    ]

-- ---- held stores

-- an item of the buffer that overlaps the access is not among entries that do not
none_in : (items : List Item) (es : List Entry) (i : ℕ) (y x : Item) → AreEntriesOf items es → NoneOf es x.addr x.size → IsIn i (numbers_of es)
    → HasItem items i y → Overlaps y x → ⊥
none_in items [] i y x b n h has o = h
none_in items (e ∷ es) i y x b n (inr h) has o = none_in items es i y x b.1 n.1 h has o
none_in items (e ∷ es) i y x b n (inl q) has o =
    let there : HasItem items i b.0.item = subst (λ (k : ℕ). HasItem items k b.0.item) (sym q) b.0.has in
    let same : y ≡ b.0.item = one_item items i y b.0.item has there in
    let addr : y.addr ≡ e.addr = ap (λ (v : Item). v.addr) same ∙ b.0.addr in
    let size : y.size ≡ e.size = ap (λ (v : Item). v.size) same ∙ b.0.size in
    let low = o.0 in let high = o.1 in
    let low' : e.addr < x.addr + x.size = omega (arith, low, addr) in
    let high' : x.addr < e.addr + e.size = omega (arith, high, addr, size) in
    let on : overlaps e x.addr x.size ≡ true = rw (lt-ltb e.addr (x.addr + x.size) low', lt-ltb x.addr (e.addr + e.size) high') refl in
    let clash : true ≡ false = sym on ∙ n.0 in cc

in_parts : (older : List Entry) (e : Entry) (younger : List Entry) (i : ℕ) → IsIn i (numbers_of (older ++ e ∷ younger))
    → IsIn i (numbers_of older) ⊎ ((i ≡ e.item) ⊎ IsIn i (numbers_of younger))
in_parts [] e younger i (inl q) = inr (inl q)
in_parts [] e younger i (inr h) = inr (inr h)
in_parts (d ∷ ds) e younger i (inl q) = inl (inl q)
in_parts (d ∷ ds) e younger i (inr h) = elim (in_parts ds e younger i h) [ inl p ↦ inl (inr p) | inr p ↦ inr p ]

in_numbers : (ds : List Entry) (e : Entry) (younger : List Entry) → IsIn e.item (numbers_of (ds ++ e ∷ younger))
in_numbers [] e younger = inl refl
in_numbers (d ∷ ds) e younger = inr (in_numbers ds e younger)

older_below : (low : ℕ) (older : List Entry) (e : Entry) (younger : List Entry) (i : ℕ) → Ascends low (numbers_of (older ++ e ∷ younger)) → IsIn i (numbers_of older) → i < e.item
older_below low [] e younger i asc h = absurd h
older_below low (d ∷ ds) e younger i asc (inr h) = older_below (suc d.item) ds e younger i asc.1 h
older_below low (d ∷ ds) e younger i asc (inl q) =
    let l = ascends_above (suc d.item) (numbers_of (ds ++ e ∷ younger)) e.item asc.1 (in_numbers ds e younger) in omega (arith, l, q)

entries_younger : (items : List Item) (older : List Entry) (e : Entry) (younger : List Entry) → AreEntriesOf items (older ++ e ∷ younger) → AreEntriesOf items younger
entries_younger items [] e younger b = b.1
entries_younger items (d ∷ ds) e younger b = entries_younger items ds e younger b.1

entry_here : (items : List Item) (older : List Entry) (e : Entry) (younger : List Entry) → AreEntriesOf items (older ++ e ∷ younger) → IsEntryOf items e
entry_here items [] e younger b = b.0
entry_here items (d ∷ ds) e younger b = entry_here items ds e younger b.1

module _ (apart : ℕ → ℕ → Bool) (items : List Item) (es : List Entry) (clock : ℕ) (o : IsOrderly apart items (numbers_of es) clock) where
  -- at an access that is made now, the held stores are those of the buffer
  held_now : (i : ℕ) (y : Item) → IsHeldIn items (length items) clock i y → IsIn i (numbers_of es)
  held_now i y h = elim (o.waits i y h.has h.kind_is) [ inl d ↦ absurd (late_done clock y.how h.late d) | inr w ↦ w ]

  pub none_held : es ≡ [] → NoneHeldIn items (length items) clock
  none_held e i y h = subst (λ (ds : List Entry). IsIn i (numbers_of ds)) e (held_now i y h)

  module _ (entries : AreEntriesOf items es) (x : Item) where
    pub none_overlaps : look_of es x.addr x.size ≡ look.Clear → NoneOverlapsIn items (length items) clock x
    none_overlaps clear i y h on = none_in items es i y x entries (clear_none es x.addr x.size clear) (held_now i y h) h.has on

    youngest_last : (e : Entry) → IsYoungest es x.addr x.size e → (i : ℕ) (y : Item) → IsHeldIn items (length items) clock i y → Overlaps y x → i ≤ e.item
    youngest_last e young i y h on =
        let inside : IsIn i (numbers_of (young.older ++ e ∷ young.younger)) = subst (λ (l : List Entry). IsIn i (numbers_of l)) young.are (held_now i y h) in
        let asc : Ascends 0 (numbers_of (young.older ++ e ∷ young.younger)) = subst (λ (l : List Entry). Ascends 0 (numbers_of l)) young.are o.ascend in
        let own : AreEntriesOf items young.younger = entries_younger items young.older e young.younger (subst (λ (l : List Entry). AreEntriesOf items l) young.are entries) in
        elim (in_parts young.older e young.younger i inside) [
          | inl p ↦ let l = older_below 0 young.older e young.younger i asc p in omega (arith, l)
          | inr (inl q) ↦ omega (arith, q)
          | inr (inr p) ↦ absurd (none_in items young.younger i y x own young.none p h.has on)
        ]

    pub forwarded : look_of es x.addr x.size ≡ look.Covers x.got → IsForwardedIn items (length items) clock x
    forwarded is =
        let c = covers_from es x.addr x.size x.got is in
        let e : Entry = c.0 in
        let young : IsYoungest es x.addr x.size e = c.1 in
        let b : IsEntryOf items e = entry_here items young.older e young.younger (subst (λ (ds : List Entry). AreEntriesOf items ds) young.are entries) in
        let here : IsIn e.item (numbers_of es) = subst (λ (ds : List Entry). IsIn e.item (numbers_of ds)) (sym young.are) (in_numbers young.older e young.younger) in
        let w = o.held e.item here in
        let same : w.0 ≡ b.item = one_item items e.item w.0 b.item w.1 b.has in
        let how : b.item.how ≡ Unplaced = subst (λ (v : Item). v.how ≡ Unplaced) same w.3 in
        let store : b.item.kind ≡ kind.Store = subst (λ (v : Item). v.kind ≡ kind.Store) same w.2 in
        let parts = and_parts (nat_le e.addr x.addr) (nat_le (x.addr + x.size) (e.addr + e.size)) c.2 in
        let low : e.addr ≤ x.addr = leb-true e.addr x.addr parts.0 in
        let high : x.addr + x.size ≤ e.addr + e.size = leb-true (x.addr + x.size) (e.addr + e.size) parts.1 in
        let addr : b.item.addr ≡ e.addr = b.addr in
        let size : b.item.size ≡ e.size = b.size in
        record {
          number = e.item;
          from = b.item;
          held = record { earlier = has_below items e.item b.item b.has; has = b.has; kind_is = store; late = subst (λ (h : How). IsLate clock h) (sym how) tt };
          last = λ i y h on. youngest_last e young i y h on;
          covers = λ a cov. (let p = cov.0 in let q = cov.1 in (omega (arith, p, low, addr), omega (arith, q, high, addr, size)));
          bytes = λ a cov.
              (let p = cov.0 in let q = cov.1 in
              let d : ℕ = e.addr + e.size - (x.addr + x.size) in
              let f : ℕ = x.addr - e.addr in
              let whole : f + x.size + d ≡ b.item.size = omega (arith, low, high, size) in
              let place : f + (a - x.addr) ≡ a - b.item.addr = omega (arith, low, p, addr) in
              ap (λ (v : ℕ). byte_of v x.size (a - x.addr)) c.3
              ∙ (byte_part e.value f x.size d (a - x.addr) (omega (arith, p, q))
              ∙ (ap (λ (v : ℕ). byte_of v (f + x.size + d) (f + (a - x.addr))) (sym b.put)
              ∙ (ap (λ (n : ℕ). byte_of b.item.put n (f + (a - x.addr))) whole ∙ ap (λ (k : ℕ). byte_of b.item.put b.item.size k) place))));
        }
