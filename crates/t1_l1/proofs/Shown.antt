-- What each call of a cache does to its arrays, and what that is for the cache that they stand for.
use Rattle.std.proofs.Common.{◌≡◌, ◌+◌, ◌-◌, ◌*◌, ◌/◌, ◌%◌, ◌<◌, ◌≤◌, ℕ, List, [], length, get_or, set, replicate, Option, Some, None, refl, ap, sym, ◌∙◌, subst, arith}
use Rattle.t1_num.specs.Memory.{number_at, with_number_at}
use Rattle.t1_shape.specs.Slots.{Layout, Line, first_slot, slot_of, tags_of, scan, empty_way, way_or, victim_of, with_bytes, with_bytes_at}
use Rattle.t1_shape.proofs.Slots.{Found, scan_some, slot_is_scan}
use Rattle.t1_l1.specs.Cache.{CacheState, empty_cache, way_from, look_of, IsAt, bytes_of, get_of, victim_at, line_with, filled, emptied, updated}
use Rattle.t1_l1.specs.Arrays.{line_of_tag, slots_with, shown}
use Rattle.t1_l1.proofs.Merged.{tags-slots_with, get_or-slots_with, empty_way-slots_with, slots_filled, slots_emptied, slots_rewritten, slots_empty}

module _ (ways sets width : ℕ) (tags : List (Option ℕ)) (lines : List (List ℕ)) (pointers : List ℕ) where
  slot_here : (line : ℕ) → slot_of (record { ways = ways; sets = sets }) (tags_of (slots_with tags lines)) line ≡ scan tags line (ways * (line % sets)) ways
  slot_here line =
      ap (λ (ts : List (Option ℕ)). slot_of (record { ways = ways; sets = sets }) ts line) (tags-slots_with tags lines)
      ∙ slot_is_scan (record { ways = ways; sets = sets }) tags line

  look_here : (addr : ℕ) → look_of (shown ways sets width tags lines pointers) addr
      ≡ way_from (ways * (addr / width % sets)) (scan tags (addr / width) (ways * (addr / width % sets)) ways)
  unfolding look_of
  look_here addr = ap (λ (o : Option ℕ). way_from (ways * (addr / width % sets)) o) (slot_here (addr / width))

  -- the look-up of the cache is that of the tags
  pub look_is : (a : CacheState) (addr first : ℕ) (o : Option ℕ) → shown ways sets width tags lines pointers ≡ a → first ≡ ways * (addr / width % sets)
      → o ≡ scan tags (addr / width) first ways → look_of a addr ≡ way_from first o
  look_is a addr first o v f s =
      ap (λ (c : CacheState). look_of c addr) (sym v) ∙ (look_here addr
      ∙ (ap (λ (k : ℕ). way_from k (scan tags (addr / width) k ways)) (sym f) ∙ ap (λ (p : Option ℕ). way_from first p) (sym s)))

  -- a slot that is found holds the line
  pub at_is : (a : CacheState) (addr first slot : ℕ) → shown ways sets width tags lines pointers ≡ a → first ≡ ways * (addr / width % sets)
      → Some slot ≡ scan tags (addr / width) first ways → IsAt a addr (slot - first)
  at_is a addr first slot v f s =
      let found : Found tags (addr / width) first ways slot = scan_some tags (addr / width) first ways slot (sym s) in
      let low : first ≤ slot = found.above in
      let high : slot < first + ways = found.below in
      let place : ways * (addr / width % sets) + (slot - first) ≡ slot = omega (arith, f, low) in
      let here : IsAt (shown ways sets width tags lines pointers) addr (slot - first) = record {
        below = omega (arith, low, high);
        line = ap (λ (ts : List (Option ℕ)). get_or ts (ways * (addr / width % sets) + (slot - first)) None) (tags-slots_with tags lines)
            ∙ (ap (λ (k : ℕ). get_or tags k None) place ∙ found.is);
      } in
      subst (λ (c : CacheState). IsAt c addr (slot - first)) v here

  -- where it is
  pub found_within : (addr first slot : ℕ) → Some slot ≡ scan tags (addr / width) first ways → (first ≤ slot) × (slot < first + ways)
  found_within addr first slot s =
      let found : Found tags (addr / width) first ways slot = scan_some tags (addr / width) first ways slot (sym s) in
      (found.above, found.below)

  bytes_here : (k number : ℕ) → get_or tags k None ≡ Some number → bytes_of (get_or (slots_with tags lines) k None) ≡ get_or lines k []
  bytes_here k number is =
      ap (λ (o : Option Line). bytes_of o) (get_or-slots_with tags lines k) ∙ ap (λ (t : Option ℕ). bytes_of (line_of_tag t (get_or lines k []))) is

  get_here : (addr size way : ℕ) → IsAt (shown ways sets width tags lines pointers) addr way
      → get_of (shown ways sets width tags lines pointers) addr size way ≡ number_at (get_or lines (ways * (addr / width % sets) + way) []) (addr % width) size
  unfolding get_of
  get_here addr size way at =
      let tag_is : get_or tags (ways * (addr / width % sets) + way) None ≡ Some (addr / width) =
      ap (λ (ts : List (Option ℕ)). get_or ts (ways * (addr / width % sets) + way) None) (sym (tags-slots_with tags lines)) ∙ at.line in
      ap (λ (bytes : List ℕ). number_at bytes (addr % width) size) (bytes_here (ways * (addr / width % sets) + way) (addr / width) tag_is)

  -- the number that is read is that of the bytes of its slot
  pub get_is : (a : CacheState) (addr size way slot : ℕ) → shown ways sets width tags lines pointers ≡ a → IsAt a addr way → slot ≡ ways * (addr / width % sets) + way
      → number_at (get_or lines slot []) (addr % width) size ≡ get_of a addr size way
  get_is a addr size way slot v at s =
      let here : IsAt (shown ways sets width tags lines pointers) addr way = subst (λ (c : CacheState). IsAt c addr way) (sym v) at in
      ap (λ (k : ℕ). number_at (get_or lines k []) (addr % width) size) s
      ∙ (sym (get_here addr size way here) ∙ ap (λ (c : CacheState). get_of c addr size way) v)

  -- a way of the cache is one of its set
  pub way_fits : (a : CacheState) (addr way : ℕ) → shown ways sets width tags lines pointers ≡ a → IsAt a addr way → way < ways
  way_fits a addr way v at =
      let here : IsAt (shown ways sets width tags lines pointers) addr way = subst (λ (c : CacheState). IsAt c addr way) (sym v) at in
      here.below

  victim_here : (addr : ℕ) → victim_at (shown ways sets width tags lines pointers) addr
      ≡ way_or (empty_way tags (ways * (addr / width % sets)) 0 ways) (get_or pointers (addr / width % sets) 0)
  unfolding victim_at victim_of
  victim_here addr =
      ap (λ (o : Option ℕ). way_or o (get_or pointers (addr / width % sets) 0)) (empty_way-slots_with tags lines (ways * (addr / width % sets)) 0 ways)

  -- the victim is an empty way, or the pointer
  pub victim_is : (a : CacheState) (addr first s : ℕ) (o : Option ℕ) → shown ways sets width tags lines pointers ≡ a → first ≡ ways * (addr / width % sets)
      → s ≡ addr / width % sets → o ≡ empty_way tags first 0 ways → victim_at a addr ≡ way_or o (get_or pointers s 0)
  victim_is a addr first s o v f at e =
      ap (λ (c : CacheState). victim_at c addr) (sym v) ∙ (victim_here addr
      ∙ (ap (λ (k : ℕ). way_or (empty_way tags k 0 ways) (get_or pointers (addr / width % sets) 0)) (sym f)
      ∙ (ap (λ (n : ℕ). way_or (empty_way tags first 0 ways) (get_or pointers n 0)) (sym at)
      ∙ ap (λ (p : Option ℕ). way_or p (get_or pointers s 0)) (sym e))))

  pub fill_is : (a : CacheState) (addr way slot s : ℕ) (bytes : List ℕ) → shown ways sets width tags lines pointers ≡ a
      → s ≡ addr / width % sets → slot ≡ ways * s + way → slot < length lines
      → shown ways sets width (set tags slot (Some (addr / width))) (set lines slot bytes) (set pointers s ((way + 1) % ways)) ≡ filled a addr way bytes
  unfolding filled
  fill_is a addr way slot s bytes v at place within =
      let k : slot ≡ ways * (addr / width % sets) + way = place ∙ ap (λ (n : ℕ). ways * n + way) at in
      let same : slots_with (set tags slot (Some (addr / width))) (set lines slot bytes) ≡ set (slots_with tags lines) (ways * (addr / width % sets) + way) (Some (line_with bytes (addr / width))) =
      slots_filled tags lines slot (addr / width) bytes within ∙ ap (λ (n : ℕ). set (slots_with tags lines) n (Some (line_with bytes (addr / width)))) k in
      let P : List (Option Line) → ℕ → CacheState = λ xs n. record { layout = record { ways = ways; sets = sets }; width = width; slots = xs; pointers = set pointers n ((way + 1) % ways) } in
      ap (λ (xs : List (Option Line)). P xs s) same
      ∙ (ap (λ (n : ℕ). P (set (slots_with tags lines) (ways * (addr / width % sets) + way) (Some (line_with bytes (addr / width)))) n) at
      ∙ ap (λ (c : CacheState). filled c addr way bytes) v)

  pub empty_is : (a : CacheState) (s way slot : ℕ) → shown ways sets width tags lines pointers ≡ a → slot ≡ ways * s + way
      → shown ways sets width (set tags slot None) lines pointers ≡ emptied a s way
  unfolding emptied
  empty_is a s way slot v place =
      let P : List (Option Line) → CacheState = λ xs. record { layout = record { ways = ways; sets = sets }; width = width; slots = xs; pointers = pointers } in
      ap P (slots_emptied tags lines slot ∙ ap (λ (n : ℕ). set (slots_with tags lines) n None) place) ∙ ap (λ (c : CacheState). emptied c s way) v

  with_bytes_here : (slot number at size value : ℕ) → get_or tags slot None ≡ Some number
      → with_bytes at size value (get_or (slots_with tags lines) slot None) ≡ line_of_tag (get_or tags slot None) (with_number_at (get_or lines slot []) at size value)
  with_bytes_here slot number at size value is =
      ap (λ (o : Option Line). with_bytes at size value o) (get_or-slots_with tags lines slot)
      ∙ (ap (λ (t : Option ℕ). with_bytes at size value (line_of_tag t (get_or lines slot []))) is
      ∙ ap (λ (t : Option ℕ). line_of_tag t (with_number_at (get_or lines slot []) at size value)) (sym is))

  updated_here : (addr size value : ℕ) (o : Option ℕ) → o ≡ scan tags (addr / width) (ways * (addr / width % sets)) ways
      → updated (shown ways sets width tags lines pointers) addr size value
      ≡ record { layout = record { ways = ways; sets = sets }; width = width; slots = with_bytes_at o (addr % width) size value (slots_with tags lines); pointers = pointers }
  unfolding updated
  updated_here addr size value o s =
      let P : Option ℕ → CacheState = λ p. record { layout = record { ways = ways; sets = sets }; width = width; slots = with_bytes_at p (addr % width) size value (slots_with tags lines); pointers = pointers } in
      ap P (slot_here (addr / width) ∙ sym s)

  pub update_is : (a : CacheState) (addr size value first slot : ℕ) → shown ways sets width tags lines pointers ≡ a → first ≡ ways * (addr / width % sets)
      → Some slot ≡ scan tags (addr / width) first ways → slot < length lines
      → shown ways sets width tags (set lines slot (with_number_at (get_or lines slot []) (addr % width) size value)) pointers ≡ updated a addr size value
  update_is a addr size value first slot v f s within =
      let found : Found tags (addr / width) first ways slot = scan_some tags (addr / width) first ways slot (sym s) in
      let from : Some slot ≡ scan tags (addr / width) (ways * (addr / width % sets)) ways = s ∙ ap (λ (k : ℕ). scan tags (addr / width) k ways) f in
      let P : List (Option Line) → CacheState = λ xs. record { layout = record { ways = ways; sets = sets }; width = width; slots = xs; pointers = pointers } in
      ap P (slots_rewritten tags lines slot (with_number_at (get_or lines slot []) (addr % width) size value) within
      ∙ ap (λ (o : Option Line). set (slots_with tags lines) slot o) (sym (with_bytes_here slot (addr / width) (addr % width) size value found.is)))
      ∙ (sym (updated_here addr size value (Some slot) from) ∙ ap (λ (c : CacheState). updated c addr size value) v)

  pub update_none : (a : CacheState) (addr size value first : ℕ) → shown ways sets width tags lines pointers ≡ a → first ≡ ways * (addr / width % sets)
      → None ≡ scan tags (addr / width) first ways → shown ways sets width tags lines pointers ≡ updated a addr size value
  update_none a addr size value first v f s =
      let from : None ≡ scan tags (addr / width) (ways * (addr / width % sets)) ways = s ∙ ap (λ (k : ℕ). scan tags (addr / width) k ways) f in
      sym (updated_here addr size value None from) ∙ ap (λ (c : CacheState). updated c addr size value) v

-- an empty cache in its arrays
pub new_is : (ways sets width : ℕ) (lines : List (List ℕ))
    → shown ways sets width (replicate (ways * sets) None) lines (replicate sets 0) ≡ empty_cache (record { ways = ways; sets = sets }) width
unfolding empty_cache
new_is ways sets width lines =
    let P : List (Option Line) → CacheState = λ xs. record { layout = record { ways = ways; sets = sets }; width = width; slots = xs; pointers = replicate sets 0 } in
    ap P (slots_empty (ways * sets) lines)
