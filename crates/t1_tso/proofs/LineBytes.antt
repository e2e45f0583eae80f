-- The bytes of a line, and the lines that a cache is found to hold.
use Rattle.std.proofs.Common.{◌≡◌, ℕ, ◌+◌, ◌*◌, ◌/◌, ◌%◌, ◌<◌, ◌≤◌, inl, inr, List, get_or, take, drop, Option, Some, None, refl, ap, sym, ◌∙◌, subst, arith}
use Rattle.std.proofs.lemmas.List.{get_or-take, get_or-drop}
use Rattle.t1_num.specs.Memory.{IsSize}
use Rattle.t1_shape.specs.Slots.{Layout, Line, slot_of, tag, tags_of, at_slot, line_in}
use Rattle.t1_shape.proofs.Slots.{slot_some}
use Rattle.t1_packet.specs.declared.cache.Cache.{Cache}
use Rattle.t1_packet.specs.declared.cache.Cache.TheVariants.{Dcache, Icache}
use Rattle.t1_packet.specs.Caches.{width, line_of}
use Rattle.t1_event.specs.Posts.{memory_line}
use Rattle.t1_tso.proofs.Tags.{tag_at}

same_line_16 : (addr size a : ℕ) → IsSize size → addr % size ≡ 0 → addr ≤ a → a < addr + size → a / 16 ≡ addr / 16
same_line_16 addr size a s al l r =
    elim s [
      | inl e ↦ omega (arith, e)
      | inr (inl e) ↦ let al' : addr % 2 ≡ 0 = subst (λ (n : ℕ). addr % n ≡ 0) e al in omega (arith, e, al')
      | inr (inr (inl e)) ↦ let al' : addr % 4 ≡ 0 = subst (λ (n : ℕ). addr % n ≡ 0) e al in omega (arith, e, al')
      | inr (inr (inr e)) ↦ let al' : addr % 8 ≡ 0 = subst (λ (n : ℕ). addr % n ≡ 0) e al in omega (arith, e, al')
    ]

pub same_line : (cache : Cache) (addr size a : ℕ) → IsSize size → addr % size ≡ 0 → addr ≤ a → a < addr + size → line_of cache a ≡ line_of cache addr
same_line Dcache addr size a s al l r = same_line_16 addr size a s al l r
same_line Icache addr size a s al l r = let e = same_line_16 addr size a s al l r in omega (arith, e)

line_byte_at : (w q r : ℕ) (m : List ℕ) (a : ℕ) → r < w → q * w + r ≡ a → get_or (take w (drop (q * w) m)) r 0 ≡ get_or m a 0
line_byte_at w q r m a l e =
    get_or-take w (drop (q * w) m) r 0 l ∙ (get_or-drop (q * w) m r 0 ∙ ap (λ (i : ℕ). get_or m i 0) e)

-- the byte of a line of memory
pub line_byte : (cache : Cache) (m : List ℕ) (a : ℕ) → get_or (memory_line cache m (line_of cache a)) (a % width cache) 0 ≡ get_or m a 0
line_byte Dcache m a = line_byte_at 16 (a / 16) (a % 16) m a (omega arith) (omega arith)
line_byte Icache m a = line_byte_at 32 (a / 32) (a % 32) m a (omega arith) (omega arith)

-- a line that is found stands in a slot, and is that line
pub found_line : (g : Layout) (slots : List (Option Line)) (line : ℕ) (l : Line) → line_in g slots line ≡ Some l
    → (j : ℕ) × (get_or slots j None ≡ Some l) × (l.number ≡ line)
found_line g slots line l e = go (slot_of g (tags_of slots) line) refl
  where
    go : (o : Option ℕ) → slot_of g (tags_of slots) line ≡ o → (j : ℕ) × (get_or slots j None ≡ Some l) × (l.number ≡ line)
    go None is = let bad : None ≡ Some l = sym (ap (λ (o : Option ℕ). at_slot slots o) is) ∙ e in cc
    go (Some j) is =
        let here : get_or slots j None ≡ Some l = sym (ap (λ (o : Option ℕ). at_slot slots o) is) ∙ e in
        let t : Some l.number ≡ Some line = sym (ap (λ (o : Option Line). tag o) here) ∙ (sym (tag_at slots j) ∙ (slot_some g (tags_of slots) line j is).is) in
        (j, here, (let q : l.number ≡ line = cc in q))
