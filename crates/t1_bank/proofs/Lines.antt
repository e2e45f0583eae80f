-- A line of a flat memory after a write: within the line it is that write, elsewhere nothing.
use Rattle.std.proofs.Common.{◌≡◌, ℕ, zero, suc, ◌+◌, ◌-◌, ◌/◌, ◌%◌, ◌<◌, ◌≤◌, List, [], ◌∷◌, set, take, drop, refl, ap, ◌∙◌, inl, inr, ◌⊎◌, arith, add_assoc}
use Rattle.std.proofs.lemmas.List.{drop-set-add, drop-set-lt, take-set-le}
use Rattle.t1_num.specs.Memory.{with_number_at}

take_set : (w : ℕ) (xs : List ℕ) (i v : ℕ) → take w (set xs i v) ≡ set (take w xs) i v
take_set zero xs i v = refl
take_set (suc w) [] i v = refl
take_set (suc w) (x ∷ xs) zero v = refl
take_set (suc w) (x ∷ xs) (suc i) v = ap (λ (l : List ℕ). x ∷ l) (take_set w xs i v)

pub put_in_line : (w : ℕ) (m : List ℕ) (b off size v : ℕ) → take w (drop b (with_number_at m (b + off) size v)) ≡ with_number_at (take w (drop b m)) off size v
unfolding with_number_at
put_in_line w m b off zero v = refl
put_in_line w m b off (suc n) v =
    let before : List ℕ = with_number_at m (b + off) n (v / 256) in
    ap (λ (i : ℕ). take w (drop b (set before i (v % 256)))) (add_assoc b off n)
    ∙ (ap (λ (l : List ℕ). take w l) (drop-set-add b before (off + n) (v % 256))
    ∙ (take_set w (drop b before) (off + n) (v % 256)
    ∙ ap (λ (l : List ℕ). set l (off + n) (v % 256)) (put_in_line w m b off n (v / 256))))

set_off_line : (w : ℕ) (m : List ℕ) (b i v : ℕ) → (i < b) ⊎ (b + w ≤ i) → take w (drop b (set m i v)) ≡ take w (drop b m)
set_off_line w m b i v (inl l) = ap (λ (l : List ℕ). take w l) (drop-set-lt b m i v l)
set_off_line w m b i v (inr l) =
    let e : i ≡ b + (i - b) = omega arith in
    ap (λ (n : ℕ). take w (drop b (set m n v))) e
    ∙ (ap (λ (l : List ℕ). take w l) (drop-set-add b m (i - b) v) ∙ take-set-le w (drop b m) (i - b) v (omega arith))

pub put_off_line : (w : ℕ) (m : List ℕ) (b addr size v : ℕ) → (addr + size ≤ b) ⊎ (b + w ≤ addr) → take w (drop b (with_number_at m addr size v)) ≡ take w (drop b m)
unfolding with_number_at
put_off_line w m b addr zero v out = refl
put_off_line w m b addr (suc n) v out =
    let out' : (addr + n ≤ b) ⊎ (b + w ≤ addr) = elim out [ inl l ↦ inl (omega arith) | inr l ↦ inr l ] in
    let at : (addr + n < b) ⊎ (b + w ≤ addr + n) = elim out [ inl l ↦ inl (omega arith) | inr l ↦ inr (omega arith) ] in
    set_off_line w (with_number_at m addr n (v / 256)) b (addr + n) (v % 256) at ∙ put_off_line w m b addr n (v / 256) out'
