-- The slots of a cache and the arrays that they are kept in.
use Rattle.std.proofs.Common.{◌≡◌, ◌+◌, ◌<◌, ℕ, zero, suc, List, [], ◌∷◌, length, get_or, set, map, replicate, Option, Some, None, is_none, refl, ap, sym, ◌∙◌, arith, if◌then◌else◌}
use Rattle.t1_shape.specs.Slots.{Line, tag, tags_of, empty_way}
use Rattle.t1_l1.specs.Cache.{line_with}
use Rattle.t1_l1.specs.Arrays.{line_of_tag, slots_with}

pub length-slots_with : (tags : List (Option ℕ)) (lines : List (List ℕ)) → length (slots_with tags lines) ≡ length tags
unfolding slots_with
length-slots_with [] lines = refl
length-slots_with (t ∷ tags) [] = ap suc (length-slots_with tags [])
length-slots_with (t ∷ tags) (b ∷ lines) = ap suc (length-slots_with tags lines)

tag_of_line : (t : Option ℕ) (bytes : List ℕ) → tag (line_of_tag t bytes) ≡ t
tag_of_line None bytes = refl
tag_of_line (Some number) bytes = refl

two : {A : Type 0} (x y : A) (xs ys : List A) → x ≡ y → xs ≡ ys → x ∷ xs ≡ y ∷ ys
two {A} x y xs ys e f = ap (λ (z : A). z ∷ xs) e ∙ ap (λ (zs : List A). y ∷ zs) f

pub tags-slots_with : (tags : List (Option ℕ)) (lines : List (List ℕ)) → tags_of (slots_with tags lines) ≡ tags
unfolding slots_with
tags-slots_with [] lines = refl
tags-slots_with (t ∷ tags) [] = two (tag (line_of_tag t [])) t (tags_of (slots_with tags [])) tags (tag_of_line t []) (tags-slots_with tags [])
tags-slots_with (t ∷ tags) (b ∷ lines) = two (tag (line_of_tag t b)) t (tags_of (slots_with tags lines)) tags (tag_of_line t b) (tags-slots_with tags lines)

-- the line in a slot
pub get_or-slots_with : (tags : List (Option ℕ)) (lines : List (List ℕ)) (k : ℕ)
    → get_or (slots_with tags lines) k None ≡ line_of_tag (get_or tags k None) (get_or lines k [])
unfolding slots_with
get_or-slots_with [] lines k = refl
get_or-slots_with (t ∷ tags) [] zero = refl
get_or-slots_with (t ∷ tags) (b ∷ lines) zero = refl
get_or-slots_with (t ∷ tags) [] (suc k) = get_or-slots_with tags [] k
get_or-slots_with (t ∷ tags) (b ∷ lines) (suc k) = get_or-slots_with tags lines k

none_of_tag : (t : Option ℕ) (bytes : List ℕ) → is_none (line_of_tag t bytes) ≡ is_none t
none_of_tag None bytes = refl
none_of_tag (Some number) bytes = refl

-- the empty ways are those without a tag
pub empty_way-slots_with : (tags : List (Option ℕ)) (lines : List (List ℕ)) (first way n : ℕ) → empty_way (slots_with tags lines) first way n ≡ empty_way tags first way n
empty_way-slots_with tags lines first way zero = refl
empty_way-slots_with tags lines first way (suc n) =
    let same : is_none (get_or (slots_with tags lines) (first + way) None) ≡ is_none (get_or tags (first + way) None) =
    ap (λ (o : Option Line). is_none o) (get_or-slots_with tags lines (first + way)) ∙ none_of_tag (get_or tags (first + way) None) (get_or lines (first + way) []) in
    rw (same, empty_way-slots_with tags lines first (suc way) n) refl

-- a slot is filled
pub slots_filled : (tags : List (Option ℕ)) (lines : List (List ℕ)) (k number : ℕ) (bytes : List ℕ) → k < length lines
    → slots_with (set tags k (Some number)) (set lines k bytes) ≡ set (slots_with tags lines) k (Some (line_with bytes number))
unfolding slots_with
slots_filled [] lines k number bytes h = refl
slots_filled (t ∷ tags) [] k number bytes h = absurd (omega arith)
slots_filled (t ∷ tags) (b ∷ lines) zero number bytes h = refl
slots_filled (t ∷ tags) (b ∷ lines) (suc k) number bytes h =
    ap (λ (xs : List (Option Line)). line_of_tag t b ∷ xs) (slots_filled tags lines k number bytes (omega arith))

-- a slot is emptied
pub slots_emptied : (tags : List (Option ℕ)) (lines : List (List ℕ)) (k : ℕ)
    → slots_with (set tags k None) lines ≡ set (slots_with tags lines) k None
unfolding slots_with
slots_emptied [] lines k = refl
slots_emptied (t ∷ tags) [] zero = refl
slots_emptied (t ∷ tags) (b ∷ lines) zero = refl
slots_emptied (t ∷ tags) [] (suc k) = ap (λ (xs : List (Option Line)). line_of_tag t [] ∷ xs) (slots_emptied tags [] k)
slots_emptied (t ∷ tags) (b ∷ lines) (suc k) = ap (λ (xs : List (Option Line)). line_of_tag t b ∷ xs) (slots_emptied tags lines k)

-- the bytes of a slot change
pub slots_rewritten : (tags : List (Option ℕ)) (lines : List (List ℕ)) (k : ℕ) (bytes : List ℕ) → k < length lines
    → slots_with tags (set lines k bytes) ≡ set (slots_with tags lines) k (line_of_tag (get_or tags k None) bytes)
unfolding slots_with
slots_rewritten [] lines k bytes h = refl
slots_rewritten (t ∷ tags) [] k bytes h = absurd (omega arith)
slots_rewritten (t ∷ tags) (b ∷ lines) zero bytes h = refl
slots_rewritten (t ∷ tags) (b ∷ lines) (suc k) bytes h =
    ap (λ (xs : List (Option Line)). line_of_tag t b ∷ xs) (slots_rewritten tags lines k bytes (omega arith))

pub slots_empty : (n : ℕ) (lines : List (List ℕ)) → slots_with (replicate n None) lines ≡ replicate n None
unfolding slots_with
slots_empty zero lines = refl
slots_empty (suc n) [] = ap (λ (xs : List (Option Line)). None ∷ xs) (slots_empty n [])
slots_empty (suc n) (b ∷ lines) = ap (λ (xs : List (Option Line)). None ∷ xs) (slots_empty n lines)
