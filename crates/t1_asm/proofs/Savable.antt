-- An object that is assembled can be saved.
use Rattle.std.proofs.Common.{◌≡◌, ◌≤◌, ◌<◌, ◌+◌, ◌^◌, ℕ, List, [], ◌∷◌, length, length-append, refl, arith, Result, Ok, Err}
use Rattle.std.proofs.lemmas.List.Elements.{All-cons, All-nil}
use Rattle.std.specs.Prelude.{IfOk, All}
use Rattle.t1_elf.specs.declared.object.Object.{Object}
use Rattle.t1_elf.specs.declared.object.Chunk.{Chunk}
use Rattle.t1_elf.specs.Saved.{contents_of, HasSize, IsSavable}
use Rattle.t1_asm.specs.declared.error.AsmError.{AsmError}
use Rattle.t1_asm.specs.Passes.{bytes_of_chunks, assembled, IsAnswer}
use Rattle.t1_asm.proofs.Counting.{AreWhole, few_chunks, whole_chunks}
use Rattle.t1_asm.proofs.Totals.{few_bytes}

contents_bytes : (cs : List Chunk) → length (contents_of cs) ≡ bytes_of_chunks cs
unfolding contents_of
contents_bytes [] = refl
contents_bytes (c ∷ cs) = omega (arith, length-append c.bytes (contents_of cs), contents_bytes cs)

sizes : (cs : List Chunk) → bytes_of_chunks cs ≤ 16777216 → AreWhole cs → All HasSize cs
sizes [] b h = All-nil HasSize
sizes (c ∷ cs) b h = All-cons HasSize c cs (omega (arith, b, h.0)) (sizes cs (omega (arith, b)) h.1)

savable : (text : List ℕ) (o : Object) → assembled text ≡ Ok o → IsSavable o
savable text o e =
    let b = few_bytes text o e in
    record { count = omega (arith, few_chunks text o e); bytes = omega (arith, b, contents_bytes o.chunks); sizes = sizes o.chunks b (whole_chunks text o e) }

pub answer_savable : (r : Result Object AsmError) (text : List ℕ) → IsAnswer r (assembled text) → IfOk r (λ o. IsSavable o)
answer_savable (Ok o) text e = savable text o e
answer_savable (Err e) text h = tt
