-- Chunks of an output.
use Rattle.std.proofs.Common.{◌≡◌, ◌≤◌, ◌<◌, ℕ, List, [], ◌∷◌, ◌++◌, ◌-◌, ◌∙◌, zero, suc, length, refl, ap, arith, append-nil, append_assoc}
use Rattle.std.specs.Prelude.{replicate}
use Rattle.t1_elf.specs.declared.object.Chunk.{Chunk}
use Rattle.t1_asm.specs.Passes.{kept, Out, appended}

pub kept_some : (done : List Chunk) (addr : ℕ) (bs : List ℕ) → 0 < length bs → kept done addr bs ≡ done ++ (record { addr = addr; bytes = bs; zeros = 0 }) ∷ []
kept_some done addr [] h = absurd (omega arith)
kept_some done addr (b ∷ bs) h = refl

pub kept_none : (done : List Chunk) (addr : ℕ) (bs : List ℕ) → length bs ≤ 0 → kept done addr bs ≡ done
kept_none done addr [] h = refl
kept_none done addr (b ∷ bs) h = absurd (omega arith)

pub no_zeros : (out : Out) (n : ℕ) → n ≤ 0 → appended out (replicate n 0) ≡ out
no_zeros out zero h = ap (λ bs. record { done = out.done; addr = out.addr; bytes = bs }) (append-nil out.bytes)
no_zeros out (suc n) h = absurd (omega arith)

pub one_zero : (out : Out) (n : ℕ) → 0 < n → appended (appended out (0 ∷ [])) (replicate (n - 1) 0) ≡ appended out (replicate n 0)
one_zero out zero h = absurd (omega arith)
one_zero out (suc n) h =
    let e : suc n - 1 ≡ n = omega arith in
    ap (λ m. appended (appended out (0 ∷ [])) (replicate m 0)) e
    ∙ ap (λ bs. record { done = out.done; addr = out.addr; bytes = bs }) (append_assoc out.bytes (0 ∷ []) (replicate n 0))
