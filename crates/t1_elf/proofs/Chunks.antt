-- Chunks, one after another.
use Rattle.std.proofs.Common.{◌≡◌, ℕ, suc, ◌+◌, ◌<◌, ◌≤◌, List, [], ◌∷◌, ◌++◌, length, drop, get_or, ap, sym, ◌∙◌, append_assoc, append-nil, arith, length-append}
use Rattle.std.proofs.lemmas.List.Elements.{All-cons, All-nil}
use Rattle.std.proofs.Math.ListN.{drop_of_length-le}
use Rattle.std.proofs.Math.Seq.{drop-cons}
use Rattle.t1_elf.specs.declared.object.Chunk.{Chunk}
use Rattle.t1_elf.specs.Saved.{program_header_of, program_headers_from, contents_of, HasSize, IsSavable}

-- the chunk at a number, and those behind it
pub chunk_next : (chunks : List Chunk) (i : ℕ) (chunk : Chunk) → i < length chunks → chunk ≡ get_or chunks i chunk
    → drop i chunks ≡ chunk ∷ drop (i + 1) chunks
chunk_next chunks i chunk less is =
    let next : suc i ≡ i + 1 = omega arith in
    drop-cons chunks i chunk less ∙ ap (λ c. c ∷ drop (suc i) chunks) (sym is) ∙ ap (λ k. chunk ∷ drop k chunks) next

-- ---- their bytes

pub contents_next : (chunks : List Chunk) (i : ℕ) (chunk : Chunk) → i < length chunks → chunk ≡ get_or chunks i chunk
    → contents_of (drop i chunks) ≡ chunk.bytes ++ contents_of (drop (i + 1) chunks)
unfolding contents_of
contents_next chunks i chunk less is = ap contents_of (chunk_next chunks i chunk less is)

pub contents_shrink : (chunks : List Chunk) (i : ℕ) (chunk : Chunk) → i < length chunks → chunk ≡ get_or chunks i chunk
    → length (contents_of (drop i chunks)) ≡ length chunk.bytes + length (contents_of (drop (i + 1) chunks))
contents_shrink chunks i chunk less is =
    ap length (contents_next chunks i chunk less is) ∙ length-append chunk.bytes (contents_of (drop (i + 1) chunks))

pub no_contents : (chunks : List Chunk) (i : ℕ) → length chunks ≤ i → contents_of (drop i chunks) ≡ []
unfolding contents_of
no_contents chunks i past = ap contents_of (drop_of_length-le chunks past)

pub put_next : (file file' bytes : List ℕ) (chunks : List Chunk) (i : ℕ) (chunk : Chunk) → i < length chunks → chunk ≡ get_or chunks i chunk
    → file' ≡ file ++ bytes → bytes ≡ chunk.bytes
    → file' ++ contents_of (drop (i + 1) chunks) ≡ file ++ contents_of (drop i chunks)
put_next file file' bytes chunks i chunk less is grown bytes_is =
    ap (λ f. f ++ contents_of (drop (i + 1) chunks)) (grown ∙ ap (λ b. file ++ b) bytes_is)
    ∙ append_assoc file chunk.bytes (contents_of (drop (i + 1) chunks))
    ∙ ap (λ c. file ++ c) (sym (contents_next chunks i chunk less is))

pub put_all : (file : List ℕ) (chunks : List Chunk) (i : ℕ) → length chunks ≤ i → file ++ contents_of (drop i chunks) ≡ file
put_all file chunks i past = ap (λ c. file ++ c) (no_contents chunks i past) ∙ append-nil file

-- ---- their program headers

pub put_header_next : (file file' header : List ℕ) (offset offset' : ℕ) (chunks : List Chunk) (i : ℕ) (chunk : Chunk)
    → i < length chunks → chunk ≡ get_or chunks i chunk → file' ≡ file ++ header → header ≡ program_header_of offset chunk
    → offset' ≡ offset + length chunk.bytes
    → file' ++ program_headers_from offset' (drop (i + 1) chunks) ≡ file ++ program_headers_from offset (drop i chunks)
unfolding program_headers_from
put_header_next file file' header offset offset' chunks i chunk less is grown header_is offset_is =
    let rest : List ℕ = program_headers_from (offset + length chunk.bytes) (drop (i + 1) chunks) in
    ap (λ n. file' ++ program_headers_from n (drop (i + 1) chunks)) offset_is
    ∙ ap (λ f. f ++ rest) (grown ∙ ap (λ h. file ++ h) header_is)
    ∙ append_assoc file (program_header_of offset chunk) rest
    ∙ ap (λ cs. file ++ program_headers_from offset cs) (sym (chunk_next chunks i chunk less is))

pub put_all_headers : (file : List ℕ) (offset : ℕ) (chunks : List Chunk) (i : ℕ) → length chunks ≤ i
    → file ++ program_headers_from offset (drop i chunks) ≡ file
unfolding program_headers_from
put_all_headers file offset chunks i past =
    ap (λ cs. file ++ program_headers_from offset cs) (drop_of_length-le chunks past) ∙ append-nil file

-- ---- an object of one chunk

pub one_is_savable : (entry : ℕ) (chunk : Chunk) → length chunk.bytes ≤ 67108864 → HasSize chunk
    → IsSavable (record { entry = entry; chunks = chunk ∷ [] })
unfolding contents_of
one_is_savable entry chunk few size = record {
  count = omega arith;
  bytes = omega (arith, length-append chunk.bytes [], few);
  sizes = All-cons HasSize chunk [] size (All-nil HasSize);
}
