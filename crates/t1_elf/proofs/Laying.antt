-- Bytes that are laid over a memory.
use Rattle.std.proofs.Common.{◌≡◌, ℕ, suc, ◌+◌, ◌-◌, ◌<◌, ◌≤◌, List, [], ◌∷◌, ◌++◌, length, take, drop, get_or, refl, ap, sym, ◌∙◌, subst, arith, length-append, length-drop}
use Rattle.std.specs.Prelude.{All}
use Rattle.std.proofs.lemmas.List.{length-take-le, length-replicate, take_more, get_or-take, get_or-drop, get_or_append_left, get_or-append_right}
use Rattle.t1_elf.specs.declared.object.Chunk.{Chunk}
use Rattle.t1_elf.specs.Images.{zeros_of, with_bytes_at, laid}
use Rattle.t1_elf.specs.Parsed.{IsBelow}

pub length-with_bytes_at : (memory : List ℕ) (addr : ℕ) (bytes : List ℕ) → addr + length bytes ≤ length memory
    → length (with_bytes_at memory addr bytes) ≡ length memory
unfolding with_bytes_at
length-with_bytes_at memory addr bytes within =
    let front : length (take addr memory) ≡ addr = length-take-le addr memory (omega (arith, within)) in
    let back : length (drop (addr + length bytes) memory) ≡ length memory - (addr + length bytes) = length-drop (addr + length bytes) memory in
    let whole : length (take addr memory ++ (bytes ++ drop (addr + length bytes) memory))
    ≡ length (take addr memory) + (length bytes + length (drop (addr + length bytes) memory)) =
    length-append (take addr memory) (bytes ++ drop (addr + length bytes) memory)
    ∙ ap (λ n. length (take addr memory) + n) (length-append bytes (drop (addr + length bytes) memory)) in
    omega (arith, front, back, whole, within)

-- ---- one byte of them

pub byte_before : (memory : List ℕ) (addr : ℕ) (bytes : List ℕ) (j : ℕ) → addr ≤ length memory → j < addr
    → get_or (with_bytes_at memory addr bytes) j 0 ≡ get_or memory j 0
unfolding with_bytes_at
byte_before memory addr bytes j within less =
    get_or_append_left (take addr memory) (bytes ++ drop (addr + length bytes) memory) 0 j (omega (arith, less, length-take-le addr memory within))
    ∙ get_or-take addr memory j 0 less

pub byte_inside : (memory : List ℕ) (addr : ℕ) (bytes : List ℕ) (j : ℕ) → addr ≤ length memory → addr ≤ j → j < addr + length bytes
    → get_or (with_bytes_at memory addr bytes) j 0 ≡ get_or bytes (j - addr) 0
unfolding with_bytes_at
byte_inside memory addr bytes j within above below =
    get_or-append_right (take addr memory) (bytes ++ drop (addr + length bytes) memory) addr j 0 (length-take-le addr memory within) above
    ∙ get_or_append_left bytes (drop (addr + length bytes) memory) 0 (j - addr) (omega (arith, above, below))

pub byte_behind : (memory : List ℕ) (addr : ℕ) (bytes : List ℕ) (j : ℕ) → addr ≤ length memory → addr + length bytes ≤ j
    → get_or (with_bytes_at memory addr bytes) j 0 ≡ get_or memory j 0
unfolding with_bytes_at
byte_behind memory addr bytes j within above =
    let place : addr + length bytes + (j - addr - length bytes) ≡ j = omega (arith, above) in
    get_or-append_right (take addr memory) (bytes ++ drop (addr + length bytes) memory) addr j 0 (length-take-le addr memory within) (omega (arith, above))
    ∙ get_or-append_right bytes (drop (addr + length bytes) memory) (length bytes) (j - addr) 0 refl (omega (arith, above))
    ∙ get_or-drop (addr + length bytes) memory (j - addr - length bytes) 0
    ∙ ap (λ n. get_or memory n 0) place

-- ---- chunks

pub length-laid : (memory : List ℕ) (chunks : List Chunk) → All (IsBelow (length memory)) chunks → length (laid memory chunks) ≡ length memory
unfolding laid
length-laid memory [] below = refl
length-laid memory (chunk ∷ chunks) below =
    let content : List ℕ = chunk.bytes ++ zeros_of chunk.zeros in
    let first : chunk.addr + length chunk.bytes + chunk.zeros ≤ length memory = below 0 chunk (omega arith) in
    let size : length content ≡ length chunk.bytes + chunk.zeros =
    length-append chunk.bytes (zeros_of chunk.zeros) ∙ ap (λ n. length chunk.bytes + n) (length-replicate {A = ℕ} chunk.zeros 0) in
    let len : length (with_bytes_at memory chunk.addr content) ≡ length memory =
    length-with_bytes_at memory chunk.addr content (omega (arith, first, size)) in
    let P : ℕ → Type 0 = λ n. All (IsBelow n) chunks in
    let rest : All (IsBelow (length memory)) chunks = λ k d less. below (suc k) d (omega (arith, less)) in
    length-laid (with_bytes_at memory chunk.addr content) chunks (subst P (sym len) rest) ∙ len

laid_snoc : (memory : List ℕ) (chunks : List Chunk) (chunk : Chunk)
    → laid memory (chunks ++ chunk ∷ []) ≡ with_bytes_at (laid memory chunks) chunk.addr (chunk.bytes ++ zeros_of chunk.zeros)
unfolding laid
laid_snoc memory [] chunk = refl
laid_snoc memory (first ∷ chunks) chunk =
    laid_snoc (with_bytes_at memory first.addr (first.bytes ++ zeros_of first.zeros)) chunks chunk

-- the first chunks and the next one
pub laid_more : (memory : List ℕ) (chunks : List Chunk) (i : ℕ) (chunk : Chunk) → i < length chunks → chunk ≡ get_or chunks i chunk
    → laid memory (take (i + 1) chunks) ≡ with_bytes_at (laid memory (take i chunks)) chunk.addr (chunk.bytes ++ zeros_of chunk.zeros)
laid_more memory chunks i chunk less is =
    ap (laid memory) (take_more chunks i chunk less ∙ ap (λ c. take i chunks ++ c ∷ []) (sym is)) ∙ laid_snoc memory (take i chunks) chunk
