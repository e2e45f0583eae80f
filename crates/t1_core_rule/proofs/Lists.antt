-- One element of a list is replaced; a class of requests is of one strand.
use Rattle.std.proofs.Common.{◌≡◌, ◌≢◌, ◌⊎◌, ◌≤◌, ℕ, zero, suc, Bool, List, [], ◌∷◌, ◌++◌, set, Option, Some, None, refl, ap, sym, ◌∙◌, subst, inl, inr, arith}
use Rattle.std.specs.List.{slice_get}
use Rattle.std.proofs.lemmas.Bool.{cases_Bool, cases_eq}
use mathlib.Core.List.{append-nil}
use Rattle.t1_packet.specs.Data.{RequestData}
use Rattle.t1_joint.specs.Lists.{IsIn}
use Rattle.t1_joint.specs.CoreRule.{SeenAscends}
use Rattle.t1_received.specs.Requests.{is_of, of_class}
use Rattle.t1_received.proofs.Sorts.{class_of}
use Rattle.t1_core.specs.Threads.{ThreadState}
use Rattle.t1_core_rule.specs.Outs.{outs, outs_at}

pub got_set : {A : Type 0} (xs : List A) (k : ℕ) (v : A) (i : ℕ) (x : A) → slice_get (set xs k v) i ≡ Some x → ((i ≡ k) × (v ≡ x)) ⊎ ((i ≢ k) × (slice_get xs i ≡ Some x))
got_set {A} [] k v i x e = let clash : ◌≡◌ {A = Option A} None (Some x) = e in cc
got_set (y ∷ ys) zero v zero x e = inl (refl, (let q : v ≡ x = cc (e) in q))
got_set (y ∷ ys) zero v (suc i) x e = inr ((λ q. omega (arith, q)), e)
got_set (y ∷ ys) (suc k) v zero x e = inr ((λ q. omega (arith, q)), e)
got_set (y ∷ ys) (suc k) v (suc i) x e =
    elim (got_set ys k v i x e) [
      | inl p ↦ inl (omega (arith, p.0), p.1)
      | inr p ↦ inr ((λ q. p.0 (omega (arith, q))), p.1)
    ]

pub put_same : {A : Type 0} (xs : List A) (i : ℕ) (x v : A) → slice_get xs i ≡ Some x → slice_get (set xs i v) i ≡ Some v
put_same {A} [] i x v e = let clash : ◌≡◌ {A = Option A} None (Some x) = e in cc
put_same (y ∷ ys) zero x v e = refl
put_same (y ∷ ys) (suc i) x v e = put_same ys i x v e

pub put_other : {A : Type 0} (xs : List A) (i j : ℕ) (v : A) → j ≢ i → slice_get (set xs i v) j ≡ slice_get xs j
put_other [] i j v ne = refl
put_other (y ∷ ys) zero zero v ne = absurd (ne refl)
put_other (y ∷ ys) zero (suc j) v ne = refl
put_other (y ∷ ys) (suc i) zero v ne = refl
put_other (y ∷ ys) (suc i) (suc j) v ne = put_other ys i j v (λ e. ne (omega (arith, e)))

-- ---- `seen` along what is sent

seen_new : (low t : ℕ) (new : List RequestData) → low ≤ t → ((r : RequestData) → IsIn r new → r.seen ≡ t) → SeenAscends low new
seen_new low t [] l f = tt
seen_new low t (r ∷ rs) l f =
    let e = f r (inl refl) in
    (omega (arith, l, e), seen_new r.seen t rs (omega (arith, e)) (λ q h. f q (inr h)))

pub seen_more : (low t : ℕ) (old new : List RequestData) → low ≤ t → SeenAscends low old → ((r : RequestData) → IsIn r old → r.seen ≤ t)
    → ((r : RequestData) → IsIn r new → r.seen ≡ t) → SeenAscends low (old ++ new)
seen_more low t [] new l s b f = seen_new low t new l f
seen_more low t (r ∷ rs) new l s b f = (s.0, seen_more r.seen t rs new (b r (inl refl)) s.1 (λ q h. b q (inr h)) f)

-- ---- classes of one strand

-- requests of one strand are no class of another
pub class_apart : (i j : ℕ) (b : Bool) (new : List RequestData) → j ≢ i → ((r : RequestData) → IsIn r new → r.strand ≡ i) → of_class j b new ≡ []
class_apart i j b [] ne f = refl
class_apart i j b (r ∷ rs) ne f =
    elim (cases_Bool (is_of j b r)) [
      | inl c ↦ absurd (let p = class_of j b r c in ne (sym p.0 ∙ f r (inl refl)))
      | inr c ↦ rw c (class_apart i j b rs ne (λ q h. f q (inr h)))
    ]

module _ (core ram i : ℕ) (threads : List ThreadState) (t u : ThreadState) (requests : List RequestData) (e : slice_get threads i ≡ Some t)
    (strands : (r : RequestData) → IsIn r requests → r.strand ≡ i) where
  -- requests of strand i go out
  pub set_more : ((b : Bool) → outs core i ram b u ≡ outs core i ram b t ++ of_class i b requests)
      → (j : ℕ) (b : Bool) → outs_at core j ram b (slice_get (set threads i u) j) ≡ outs_at core j ram b (slice_get threads j) ++ of_class j b requests
  set_more f j b =
      elim (cases_eq j i) [
        | inl same ↦
            let here : outs_at core i ram b (slice_get (set threads i u) i) ≡ outs_at core i ram b (slice_get threads i) ++ of_class i b requests =
            ap (λ (o : Option ThreadState). outs_at core i ram b o) (put_same threads i t u e)
            ∙ (f b ∙ ap (λ (o : Option ThreadState). outs_at core i ram b o ++ of_class i b requests) (sym e)) in
            subst (λ (k : ℕ). outs_at core k ram b (slice_get (set threads i u) k) ≡ outs_at core k ram b (slice_get threads k) ++ of_class k b requests) (sym same) here
        | inr apart ↦
            ap (λ (o : Option ThreadState). outs_at core j ram b o) (put_other threads i j u apart)
            ∙ (sym (append-nil (outs_at core j ram b (slice_get threads j)))
            ∙ ap (λ (rs : List RequestData). outs_at core j ram b (slice_get threads j) ++ rs) (sym (class_apart i j b requests apart strands)))
      ]

  -- requests of strand i are answered
  pub set_less : ((b : Bool) → outs core i ram b t ≡ of_class i b requests ++ outs core i ram b u)
      → (j : ℕ) (b : Bool) → outs_at core j ram b (slice_get threads j) ≡ of_class j b requests ++ outs_at core j ram b (slice_get (set threads i u) j)
  set_less f j b =
      elim (cases_eq j i) [
        | inl same ↦
            let here : outs_at core i ram b (slice_get threads i) ≡ of_class i b requests ++ outs_at core i ram b (slice_get (set threads i u) i) =
            ap (λ (o : Option ThreadState). outs_at core i ram b o) e
            ∙ (f b ∙ ap (λ (o : Option ThreadState). of_class i b requests ++ outs_at core i ram b o) (sym (put_same threads i t u e))) in
            subst (λ (k : ℕ). outs_at core k ram b (slice_get threads k) ≡ of_class k b requests ++ outs_at core k ram b (slice_get (set threads i u) k)) (sym same) here
        | inr apart ↦
            ap (λ (o : Option ThreadState). outs_at core j ram b o) (sym (put_other threads i j u apart))
            ∙ ap (λ (rs : List RequestData). rs ++ outs_at core j ram b (slice_get (set threads i u) j)) (sym (class_apart i j b requests apart strands))
      ]
