-- The elements of a list that stands in a text, one after another, are found.
use Rattle.std.proofs.Common.{◌≡◌, ◌∙◌, ℕ, ◌+◌, ◌<◌, ◌++◌, List, length, drop, get_or, All, refl, sym, ap, inl, inr, arith}
use Rattle.t1_log.specs.Texts.{lines_from}
use Rattle.t1_take.proofs.Leaving.{IsLeft, IsNext, left_cases, peeked, all_next}
use Rattle.t1_read.specs.Exact.{NextIsNot}

-- an element stands next
pub record IsElementNext {A : Type 0} (f : ℕ → A → List ℕ) (P : A → Type 0) (text : List ℕ) (at number : ℕ) (done all : List A) (rest : List ℕ) : Type 0 where
  pub here : IsNext f text at done all rest
  pub good : P here.one
  pub after : List ℕ
  pub after_is : after ≡ lines_from f (length done + 1) here.more ++ rest
  pub reads : drop at text ≡ f number here.one ++ after

element_next : {A : Type 0} (f : ℕ → A → List ℕ) (P : A → Type 0) (text : List ℕ) (at number : ℕ) (done all : List A) (rest : List ℕ) → length done ≡ number → All P all → IsNext f text at done all rest
    → IsElementNext f P text at number done all rest
element_next {A = A} f P text at number done all rest count good n =
    let after : List ℕ = lines_from f (length done + 1) n.more ++ rest in
    record {
      here = n;
      good = all_next P done all n.one n.more good n.all_is;
      after = after;
      after_is = refl;
      reads = n.rest_is ∙ ap (λ (k : ℕ). f k n.one ++ after) count;
    }

-- where the next byte is one with which what follows the list does not begin
pub next_by_byte : {A : Type 0} (f : ℕ → A → List ℕ) (P : A → Type 0) (text : List ℕ) (at number byte : ℕ) (done all : List A) (rest : List ℕ) → IsLeft f text at done all rest → length done ≡ number → All P all
    → NextIsNot byte rest → get_or text at 0 ≡ byte → IsElementNext f P text at number done all rest
next_by_byte f P text at number byte done all rest left count good other first =
    elim (left_cases f text at done all rest left) [
      | inl none ↦ absurd (other.other (sym (peeked text at rest none.1) ∙ first))
      | inr n ↦ element_next f P text at number done all rest count good n
    ]

-- where fewer were read than there are
pub next_by_count : {A : Type 0} (f : ℕ → A → List ℕ) (P : A → Type 0) (text : List ℕ) (at number : ℕ) (done all : List A) (rest : List ℕ) → IsLeft f text at done all rest → length done ≡ number → All P all
    → number < length all → IsElementNext f P text at number done all rest
next_by_count f P text at number done all rest left count good fewer =
    elim (left_cases f text at done all rest left) [
      | inl none ↦ absurd (let n = ap length none.0 in omega (arith, n, count, fewer))
      | inr n ↦ element_next f P text at number done all rest count good n
    ]
