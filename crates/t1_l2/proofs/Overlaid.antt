-- The lines that are read, through writes, fills and write-backs.
use Rattle.std.proofs.Common.{◌≡◌, ℕ, ◌/◌, ◌<◌, List, [], ◌∷◌, length, get_or, set, replicate, Option, Some, None, refl, ap, sym, ◌∙◌, subst, arith, zero, suc}
use Rattle.std.proofs.lemmas.List.{get_or-set_same, get_or-set_other, length-set, set-set, set_comm, set-get_or}
use Rattle.t1_l2.specs.Overlay.{put_over, overlay, AreApart, NoneAt}

module _ (d : ℕ) where
  length_over : (t : Option ℕ) (l : List ℕ) (m : List (List ℕ)) → length (put_over d t l m) ≡ length m
  length_over None l m = refl
  length_over (Some x) l m = length-set m (x / d) l

  pub length_overlay : (ts : List (Option ℕ)) (ls ram : List (List ℕ)) → length (overlay d ts ls ram) ≡ length ram
  unfolding overlay
  length_overlay [] ls ram = refl
  length_overlay (t ∷ ts) [] ram = refl
  length_overlay (t ∷ ts) (l ∷ ls) ram = length_over t l (overlay d ts ls ram) ∙ length_overlay ts ls ram

  -- ---- one slot more

  tail_apart : (t : Option ℕ) (ts : List (Option ℕ)) → AreApart d (t ∷ ts) → AreApart d ts
  tail_apart t ts a i k l m e f g = let q : suc i ≡ suc k = a (suc i) (suc k) l m e f g in omega arith

  tail_none : (t : Option ℕ) (ts : List (Option ℕ)) (i : ℕ) → NoneAt d (t ∷ ts) i → NoneAt d ts i
  tail_none t ts i n k l e f = n (suc k) l e f

  -- the head holds another place than any of the rest
  head_none : (x : ℕ) (ts : List (Option ℕ)) → AreApart d (Some x ∷ ts) → NoneAt d ts (x / d)
  head_none x ts a k l e f = let q : suc k ≡ 0 = a (suc k) 0 l x e refl f in omega arith

  -- a write of the lines elsewhere passes a slot
  over_comm : (t : Option ℕ) (l new : List ℕ) (m : List (List ℕ)) (i : ℕ) → ((x : ℕ) → t ≡ Some x → x / d ≡ i → ⊥) → put_over d t l (set m i new) ≡ set (put_over d t l m) i new
  over_comm None l new m i ne = refl
  over_comm (Some x) l new m i ne = sym (set_comm m (x / d) i l new (λ e. ne x refl e))

  -- ---- reads

  over_skip : (t : Option ℕ) (l : List ℕ) (m : List (List ℕ)) (i : ℕ) → ((x : ℕ) → t ≡ Some x → x / d ≡ i → ⊥) → get_or (put_over d t l m) i [] ≡ get_or m i []
  over_skip None l m i ne = refl
  over_skip (Some x) l m i ne = get_or-set_other m (x / d) i l [] (λ e. ne x refl (sym e))

  pub overlay_skip : (ts : List (Option ℕ)) (ls ram : List (List ℕ)) (i : ℕ) → NoneAt d ts i → get_or (overlay d ts ls ram) i [] ≡ get_or ram i []
  unfolding overlay
  overlay_skip [] ls ram i n = refl
  overlay_skip (t ∷ ts) [] ram i n = refl
  overlay_skip (t ∷ ts) (l ∷ ls) ram i n =
      over_skip t l (overlay d ts ls ram) i (λ x e f. n 0 x e f) ∙ overlay_skip ts ls ram i (tail_none t ts i n)

  pub overlay_read : (ts : List (Option ℕ)) (ls ram : List (List ℕ)) (k x : ℕ) → AreApart d ts → get_or ts k None ≡ Some x → k < length ls → x / d < length ram
      → get_or (overlay d ts ls ram) (x / d) [] ≡ get_or ls k []
  unfolding overlay
  overlay_read [] ls ram k x a e f w = let clash : ◌≡◌ {A = Option ℕ} None (Some x) = e in cc
  overlay_read (t ∷ ts) [] ram k x a e f w = absurd (omega (arith, f))
  overlay_read (t ∷ ts) (l ∷ ls) ram zero x a e f w =
      ap (λ (o : Option ℕ). get_or (put_over d o l (overlay d ts ls ram)) (x / d) []) e
      ∙ get_or-set_same (overlay d ts ls ram) (x / d) l [] (omega (arith, w, length_overlay ts ls ram))
  overlay_read (t ∷ ts) (l ∷ ls) ram (suc k) x a e f w =
      over_skip t l (overlay d ts ls ram) (x / d) (λ y g h. let q : 0 ≡ suc k = a 0 (suc k) y x g e h in omega arith)
      ∙ overlay_read ts ls ram k x (tail_apart t ts a) e (omega (arith, f)) w

  -- ---- a line is written

  pub overlay_line : (ts : List (Option ℕ)) (ls ram : List (List ℕ)) (k x : ℕ) (new : List ℕ) → AreApart d ts → get_or ts k None ≡ Some x → k < length ls
      → overlay d ts (set ls k new) ram ≡ set (overlay d ts ls ram) (x / d) new
  unfolding overlay
  overlay_line [] ls ram k x new a e f = let clash : ◌≡◌ {A = Option ℕ} None (Some x) = e in cc
  overlay_line (t ∷ ts) [] ram k x new a e f = absurd (omega (arith, f))
  overlay_line (t ∷ ts) (l ∷ ls) ram zero x new a e f =
      let m : List (List ℕ) = overlay d ts ls ram in
      ap (λ (o : Option ℕ). put_over d o new m) e
      ∙ (sym (set-set m (x / d) l new)
      ∙ ap (λ (o : Option ℕ). set (put_over d o l m) (x / d) new) (sym e))
  overlay_line (t ∷ ts) (l ∷ ls) ram (suc k) x new a e f =
      ap (λ (m : List (List ℕ)). put_over d t l m) (overlay_line ts ls ram k x new (tail_apart t ts a) e (omega (arith, f)))
      ∙ over_comm t l new (overlay d ts ls ram) (x / d) (λ y g h. let q : 0 ≡ suc k = a 0 (suc k) y x g e h in omega arith)

  -- ---- a line is written back and its slot emptied

  pub overlay_ram : (ts : List (Option ℕ)) (ls ram : List (List ℕ)) (i : ℕ) (v : List ℕ) → NoneAt d ts i → overlay d ts ls (set ram i v) ≡ set (overlay d ts ls ram) i v
  unfolding overlay
  overlay_ram [] ls ram i v n = refl
  overlay_ram (t ∷ ts) [] ram i v n = refl
  overlay_ram (t ∷ ts) (l ∷ ls) ram i v n =
      ap (λ (m : List (List ℕ)). put_over d t l m) (overlay_ram ts ls ram i v (tail_none t ts i n))
      ∙ over_comm t l v (overlay d ts ls ram) i (λ x e f. n 0 x e f)

  pub overlay_back : (ts : List (Option ℕ)) (ls ram : List (List ℕ)) (k x : ℕ) → AreApart d ts → get_or ts k None ≡ Some x → k < length ls
      → overlay d (set ts k None) ls (set ram (x / d) (get_or ls k [])) ≡ overlay d ts ls ram
  unfolding overlay
  overlay_back [] ls ram k x a e f = let clash : ◌≡◌ {A = Option ℕ} None (Some x) = e in cc
  overlay_back (t ∷ ts) [] ram k x a e f = absurd (omega (arith, f))
  overlay_back (t ∷ ts) (l ∷ ls) ram zero x a e f =
      overlay_ram ts ls ram (x / d) l (head_none x ts (subst (λ (o : Option ℕ). AreApart d (o ∷ ts)) e a))
      ∙ ap (λ (o : Option ℕ). put_over d o l (overlay d ts ls ram)) (sym e)
  overlay_back (t ∷ ts) (l ∷ ls) ram (suc k) x a e f =
      ap (λ (m : List (List ℕ)). put_over d t l m) (overlay_back ts ls ram k x (tail_apart t ts a) e (omega (arith, f)))

  -- ---- a line is read into an empty slot

  pub overlay_fill : (ts : List (Option ℕ)) (ls ram : List (List ℕ)) (k x : ℕ) → NoneAt d ts (x / d) → get_or ts k None ≡ None → k < length ts → k < length ls
      → overlay d (set ts k (Some x)) (set ls k (get_or ram (x / d) [])) ram ≡ overlay d ts ls ram
  unfolding overlay
  overlay_fill [] ls ram k x n e g f = absurd (omega (arith, g))
  overlay_fill (t ∷ ts) [] ram k x n e g f = absurd (omega (arith, f))
  overlay_fill (t ∷ ts) (l ∷ ls) ram zero x n e g f =
      let m : List (List ℕ) = overlay d ts ls ram in
      ap (λ (v : List ℕ). set m (x / d) v) (sym (overlay_skip ts ls ram (x / d) (tail_none t ts (x / d) n)))
      ∙ (set-get_or m (x / d) []
      ∙ ap (λ (o : Option ℕ). put_over d o l m) (sym e))
  overlay_fill (t ∷ ts) (l ∷ ls) ram (suc k) x n e g f =
      ap (λ (m : List (List ℕ)). put_over d t l m) (overlay_fill ts ls ram k x (tail_none t ts (x / d) n) e (omega (arith, g)) (omega (arith, f)))

  pub put_none : (n : ℕ) (ls ram : List (List ℕ)) → overlay d (replicate n None) ls ram ≡ ram
  unfolding overlay
  put_none zero ls ram = refl
  put_none (suc n) [] ram = refl
  put_none (suc n) (l ∷ ls) ram = put_none n ls ram
