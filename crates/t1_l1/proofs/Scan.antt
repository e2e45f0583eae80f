-- The ways of a set, one after another.
use Rattle.std.proofs.Common.{◌≡◌, ◌+◌, ◌-◌, ◌<◌, ◌≤◌, ℕ, zero, suc, true, false, List, get_or, Option, Some, None, refl, ap, sym, ◌∙◌, arith, is_none}
use Rattle.std.proofs.lemmas.Bool.{cond-true, cond-false}
use Rattle.t1_shape.specs.Slots.{holds, scan, empty_way}

pub scan_begins : (tags : List (Option ℕ)) (line first ways : ℕ) → scan tags line first ways ≡ scan tags line (first + 0) (ways - 0)
scan_begins tags line first ways =
    let k : first ≡ first + 0 = omega arith in
    let n : ways ≡ ways - 0 = omega arith in
    ap (λ (j : ℕ). scan tags line j ways) k ∙ ap (λ (m : ℕ). scan tags line (first + 0) m) n

pub scan_goes_on : (tags : List (Option ℕ)) (line first way ways : ℕ) → way < ways → holds (get_or tags (first + way) None) line ≡ false
    → scan tags line (first + way) (ways - way) ≡ scan tags line (first + (way + 1)) (ways - (way + 1))
scan_goes_on tags line first way ways h off =
    let n : ways - way ≡ suc (ways - (way + 1)) = omega arith in
    let k : suc (first + way) ≡ first + (way + 1) = omega arith in
    ap (λ (m : ℕ). scan tags line (first + way) m) n
    ∙ (cond-false (holds (get_or tags (first + way) None) line) (Some (first + way)) (scan tags line (suc (first + way)) (ways - (way + 1))) off
    ∙ ap (λ (j : ℕ). scan tags line j (ways - (way + 1))) k)

pub scan_finds : (tags : List (Option ℕ)) (line first way ways : ℕ) → way < ways → holds (get_or tags (first + way) None) line ≡ true
    → scan tags line (first + way) (ways - way) ≡ Some (first + way)
scan_finds tags line first way ways h on =
    let n : ways - way ≡ suc (ways - (way + 1)) = omega arith in
    ap (λ (m : ℕ). scan tags line (first + way) m) n
    ∙ cond-true (holds (get_or tags (first + way) None) line) (Some (first + way)) (scan tags line (suc (first + way)) (ways - (way + 1))) on

pub scan_ends : (tags : List (Option ℕ)) (line slot way ways : ℕ) → ways ≤ way → scan tags line slot (ways - way) ≡ None
scan_ends tags line slot way ways h =
    let n : ways - way ≡ 0 = omega arith in
    ap (λ (m : ℕ). scan tags line slot m) n

pub search_begins : (tags : List (Option ℕ)) (first ways : ℕ) → empty_way tags first 0 ways ≡ empty_way tags first 0 (ways - 0)
search_begins tags first ways =
    let n : ways ≡ ways - 0 = omega arith in
    ap (λ (m : ℕ). empty_way tags first 0 m) n

pub search_goes_on : (tags : List (Option ℕ)) (first way ways : ℕ) → way < ways → is_none (get_or tags (first + way) None) ≡ false
    → empty_way tags first way (ways - way) ≡ empty_way tags first (way + 1) (ways - (way + 1))
search_goes_on tags first way ways h off =
    let n : ways - way ≡ suc (ways - (way + 1)) = omega arith in
    let k : suc way ≡ way + 1 = omega arith in
    ap (λ (m : ℕ). empty_way tags first way m) n
    ∙ (cond-false (is_none (get_or tags (first + way) None)) (Some way) (empty_way tags first (suc way) (ways - (way + 1))) off
    ∙ ap (λ (j : ℕ). empty_way tags first j (ways - (way + 1))) k)

pub search_finds : (tags : List (Option ℕ)) (first way ways : ℕ) → way < ways → is_none (get_or tags (first + way) None) ≡ true
    → empty_way tags first way (ways - way) ≡ Some way
search_finds tags first way ways h on =
    let n : ways - way ≡ suc (ways - (way + 1)) = omega arith in
    ap (λ (m : ℕ). empty_way tags first way m) n
    ∙ cond-true (is_none (get_or tags (first + way) None)) (Some way) (empty_way tags first (suc way) (ways - (way + 1))) on

pub search_ends : (tags : List (Option ℕ)) (first from way ways : ℕ) → ways ≤ way → empty_way tags first from (ways - way) ≡ None
search_ends tags first from way ways h =
    let n : ways - way ≡ 0 = omega arith in
    ap (λ (m : ℕ). empty_way tags first from m) n
