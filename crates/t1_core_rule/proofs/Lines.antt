-- What a cache answers, in the words of the table of places.
use Rattle.t1_shape.specs.Shapes.{Shape}
use Rattle.std.proofs.Common.{◌≡◌, ℕ, ◌+◌, ◌-◌, ◌%◌, zero, suc, List, [], ◌∷◌, get_or, Option, Some, None, refl, ap, sym, ◌∙◌, subst, arith}
use Rattle.std.specs.List.{slice_get}
use Rattle.t1_num.specs.Memory.{IsSize, byte_of, number_at}
use Rattle.t1_num.proofs.MemoryLaws.{byte_of_number_at}
use Rattle.t1_shape.specs.Slots.{Line, tag, tags_of, at_slot, slot_of, first_slot}
use Rattle.t1_shape.proofs.Slots.{Found, slot_some}
use Rattle.t1_packet.specs.declared.cache.Cache.{Cache}
use Rattle.t1_packet.specs.Caches.{layout, width, line_of}
use Rattle.t1_l1.specs.Cache.{CacheState, way_from, look_of, bytes_of, get_of, read_in, read_of}
use Rattle.t1_event.specs.declared.item.Item.{Item}
use Rattle.t1_event.specs.Places.{GotLine, IsMissing}
use Rattle.t1_core.specs.Replays.{AreByteLines}
use Rattle.t1_core_rule.specs.Fitting.{cache_with}
use Rattle.t1_core_rule.proofs.Numbers.{place_in_line}

tag_at : (slots : List (Option Line)) (k : ℕ) → get_or (tags_of slots) k None ≡ tag (get_or slots k None)
tag_at [] k = refl
tag_at (s ∷ slots) zero = refl
tag_at (s ∷ slots) (suc k) = tag_at slots k

module _ (chip : Shape) (cache : Cache) (slots : List (Option Line)) (pointers : List ℕ) (addr size : ℕ) where
  abbrev c : CacheState
  c = cache_with chip cache slots pointers

  abbrev slot : Option ℕ
  slot = slot_of (layout chip cache) (tags_of slots) (line_of cache addr)

  abbrev first : ℕ
  first = first_slot (layout chip cache) (line_of cache addr)

  -- what a look-up that found a number says
  pub record IsRead (value : ℕ) : Type 0 where
    pub line : Line
    pub at : ℕ
    pub slot_is : slot ≡ Some at
    pub line_is : get_or slots at None ≡ Some line
    pub value_is : number_at line.bytes (addr % width cache) size ≡ value

  in_slot : (value j : ℕ) → slot ≡ Some j → (o : Option Line) → get_or slots j None ≡ o → number_at (bytes_of o) (addr % width cache) size ≡ value → IsRead value
  in_slot value j s None e g =
      let t = (slot_some (layout chip cache) (tags_of slots) (line_of cache addr) j s).is in
      let n : tag None ≡ Some (line_of cache addr) = ap tag (sym e) ∙ (sym (tag_at slots j) ∙ t) in
      let clash : ◌≡◌ {A = Option ℕ} None (Some (line_of cache addr)) = n in cc
  in_slot value j s (Some l) e g = record { line = l; at = j; slot_is = s; line_is = e; value_is = g }

  by_slot : (value : ℕ) (o : Option ℕ) → slot ≡ o → read_in c addr size (way_from first o) ≡ Some value → IsRead value
  unfolding get_of
  by_slot value None s e = let clash : ◌≡◌ {A = Option ℕ} None (Some value) = e in cc
  by_slot value (Some j) s e =
      let found : Found (tags_of slots) (line_of cache addr) first (layout chip cache).ways j = slot_some (layout chip cache) (tags_of slots) (line_of cache addr) j s in
      let above = found.above in
      let at : first + (j - first) ≡ j = omega (arith, above) in
      let q : number_at (bytes_of (get_or slots (first + (j - first)) None)) (addr % width cache) size ≡ value = cc (e) in
      let q' : number_at (bytes_of (get_or slots j None)) (addr % width cache) size ≡ value =
      subst (λ (k : ℕ). number_at (bytes_of (get_or slots k None)) (addr % width cache) size ≡ value) at q in
      in_slot value j s (get_or slots j None) refl q'

  pub read_found : (value : ℕ) → read_of c addr size ≡ Some value → IsRead value
  unfolding read_of look_of
  read_found value e = by_slot value slot refl e

  read_missing : (o : Option ℕ) → slot ≡ o → read_in c addr size (way_from first o) ≡ None → at_slot slots slot ≡ None
  read_missing None s e = ap (at_slot slots) s
  read_missing (Some j) s e = let clash : ◌≡◌ {A = Option ℕ} (Some (get_of c addr size (j - first))) None = e in cc

  pub read_none : read_of c addr size ≡ None → at_slot slots slot ≡ None
  unfolding read_of look_of
  read_none e = read_missing slot refl e

line_there : (slots : List (Option Line)) (k : ℕ) (line : Line) → get_or slots k None ≡ Some line → slice_get slots k ≡ Some (Some line)
line_there [] k line e = let clash : ◌≡◌ {A = Option Line} None (Some line) = e in cc
line_there (s ∷ slots) zero line e = ap (λ (o : Option Line). Some o) e
line_there (s ∷ slots) (suc k) line e = line_there slots k line e

pub got_line : (chip : Shape) (cache : Cache) (slots : List (Option Line)) (pointers : List ℕ) (x : Item) → AreByteLines slots → IsSize x.size → x.addr % x.size ≡ 0
    → read_of (cache_with chip cache slots pointers) x.addr x.size ≡ Some x.got → GotLine chip cache slots x
got_line chip cache slots pointers x bytes size aligned e =
    let r = read_found chip cache slots pointers x.addr x.size x.got e in
    record {
      line = r.line;
      present = ap (at_slot slots) r.slot_is ∙ r.line_is;
      bytes = λ a cov.
          ap (λ (v : ℕ). byte_of v x.size (a - x.addr)) (sym r.value_is)
          ∙ (byte_of_number_at r.line.bytes (bytes r.at r.line (line_there slots r.at r.line r.line_is)) (x.addr % width cache) x.size (a - x.addr) (let p = cov.0 in let q = cov.1 in omega (arith, p, q))
          ∙ ap (λ (i : ℕ). get_or r.line.bytes i 0) (place_in_line cache x.addr x.size a size aligned cov.0 cov.1));
    }

pub is_missing : (chip : Shape) (cache : Cache) (slots : List (Option Line)) (pointers : List ℕ) (x : Item) (size : ℕ)
    → read_of (cache_with chip cache slots pointers) x.addr size ≡ None → IsMissing chip cache slots x
is_missing chip cache slots pointers x size e = read_none chip cache slots pointers x.addr size e
