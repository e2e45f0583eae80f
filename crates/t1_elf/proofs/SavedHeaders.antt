-- The headers of a saved file, read back.
use Rattle.std.proofs.Common.{◌≡◌, ℕ, suc, ◌+◌, ◌*◌, ◌^◌, ◌<◌, ◌≤◌, true, List, [], ◌∷◌, ◌++◌, length, take, drop, refl, ap, sym, ◌∙◌, append_assoc, arith, length-append}
use Rattle.std.specs.Prelude.{All}
use Rattle.std.proofs.lemmas.List.{length-replicate}
use Rattle.t1_num.specs.Memory.{number_at}
use Rattle.t1_elf.specs.declared.header.ProgramHeader.{ProgramHeader}
use Rattle.t1_elf.specs.declared.object.Chunk.{Chunk}
use Rattle.t1_elf.specs.Fields.{header_at, headers_from}
use Rattle.t1_elf.specs.Images.{zeros_of}
use Rattle.t1_elf.specs.Saved.{with_fields, file_header_fields, file_header_of, program_header_fields, program_header_of, program_headers_from, contents_of, HasSize}
use Rattle.t1_elf.proofs.Reading.{number_in_front, number_in_back, lies_apart, length-with_fields, field_is_read}

-- ---- elements of lists

pub head_of : {X : Type 0} (P : X → Type 0) (x : X) (xs : List X) → All P (x ∷ xs) → P x
head_of P x xs all = all 0 x (omega arith)

pub tail_of : {X : Type 0} (P : X → Type 0) (x : X) (xs : List X) → All P (x ∷ xs) → All P xs
tail_of P x xs all = λ k d less. all (suc k) d (omega (arith, less))

-- ---- lengths

pub length-file_header_of : (entry count : ℕ) → length (file_header_of entry count) ≡ 64
unfolding file_header_of
length-file_header_of entry count = length-with_fields (zeros_of 64) (file_header_fields entry count) ∙ length-replicate {A = ℕ} 64 0

pub length-program_header_of : (offset : ℕ) (chunk : Chunk) → length (program_header_of offset chunk) ≡ 56
unfolding program_header_of
length-program_header_of offset chunk = length-with_fields (zeros_of 56) (program_header_fields offset chunk) ∙ length-replicate {A = ℕ} 56 0

pub length-program_headers_from : (offset : ℕ) (chunks : List Chunk) → length (program_headers_from offset chunks) ≡ 56 * length chunks
unfolding program_headers_from
length-program_headers_from offset [] = refl
length-program_headers_from offset (chunk ∷ chunks) =
    omega (
      arith,
      length-append (program_header_of offset chunk) (program_headers_from (offset + length chunk.bytes) chunks),
      length-program_header_of offset chunk,
      length-program_headers_from (offset + length chunk.bytes) chunks,
    )

-- ---- fields

-- a field of the file header, by its number in the table of fields
pub file_field : (entry count : ℕ) (rest : List ℕ) (k at size value : ℕ)
    → take k (file_header_fields entry count) ++ (at, size, value) ∷ drop (suc k) (file_header_fields entry count) ≡ file_header_fields entry count
    → at + size ≤ 64 → lies_apart at size (drop (suc k) (file_header_fields entry count)) ≡ true → value < 256 ^ size
    → number_at (file_header_of entry count ++ rest) at size ≡ value
unfolding file_header_of
file_field entry count rest k at size value is within apart fits =
    number_in_front (file_header_of entry count) rest at size (omega (arith, within, length-file_header_of entry count))
    ∙ ap (λ fields. number_at (with_fields (zeros_of 64) fields) at size) (sym is)
    ∙ field_is_read (zeros_of 64) (take k (file_header_fields entry count)) at size value (drop (suc k) (file_header_fields entry count))
    (omega (arith, within, length-replicate {A = ℕ} 64 0)) apart fits

-- a field of a program header
program_field : (front back : List ℕ) (offset : ℕ) (chunk : Chunk) (k at size value : ℕ)
    → take k (program_header_fields offset chunk) ++ (at, size, value) ∷ drop (suc k) (program_header_fields offset chunk) ≡ program_header_fields offset chunk
    → at + size ≤ 56 → lies_apart at size (drop (suc k) (program_header_fields offset chunk)) ≡ true → value < 256 ^ size
    → number_at (front ++ (program_header_of offset chunk ++ back)) (length front + at) size ≡ value
unfolding program_header_of
program_field front back offset chunk k at size value is within apart fits =
    number_in_back front (program_header_of offset chunk ++ back) at size
    ∙ number_in_front (program_header_of offset chunk) back at size (omega (arith, within, length-program_header_of offset chunk))
    ∙ ap (λ fields. number_at (with_fields (zeros_of 56) fields) at size) (sym is)
    ∙ field_is_read (zeros_of 56) (take k (program_header_fields offset chunk)) at size value (drop (suc k) (program_header_fields offset chunk))
    (omega (arith, within, length-replicate {A = ℕ} 56 0)) apart fits

-- ---- program headers

abbrev pub header_with : ℕ → ℕ → ℕ → ℕ → ℕ → ProgramHeader
header_with kind offset address file_size memory_size =
    record { kind = kind; offset = offset; address = address; file_size = file_size; memory_size = memory_size }

-- the program header of a chunk
abbrev pub header_for : ℕ → Chunk → ProgramHeader
header_for offset chunk = header_with 1 offset chunk.addr (length chunk.bytes) (length chunk.bytes + chunk.zeros)

abbrev pub headers_for : ℕ → List Chunk → List ProgramHeader
headers_for offset [] = []
headers_for offset (chunk ∷ chunks) = header_for offset chunk ∷ headers_for (offset + length chunk.bytes) chunks

header_is_read : (front back : List ℕ) (offset : ℕ) (chunk : Chunk) → HasSize chunk → chunk.addr < 2 ^ 64 → offset < 2 ^ 64
    → header_at (front ++ (program_header_of offset chunk ++ back)) (length front) ≡ header_for offset chunk
header_is_read front back offset chunk size addr low =
    let file : List ℕ = front ++ (program_header_of offset chunk ++ back) in
    let here : length front ≡ length front + 0 = omega arith in
    let bytes : length chunk.bytes < 2 ^ 64 = omega (arith, size) in
    let kind : number_at file (length front) 4 ≡ 1 =
    ap (λ at. number_at file at 4) here ∙ program_field front back offset chunk 0 0 4 1 refl (omega arith) refl (omega arith) in
    let place : number_at file (length front + 8) 8 ≡ offset = program_field front back offset chunk 2 8 8 offset refl (omega arith) refl low in
    let address : number_at file (length front + 16) 8 ≡ chunk.addr = program_field front back offset chunk 3 16 8 chunk.addr refl (omega arith) refl addr in
    let in_file : number_at file (length front + 32) 8 ≡ length chunk.bytes =
    program_field front back offset chunk 5 32 8 (length chunk.bytes) refl (omega arith) refl bytes in
    let in_memory : number_at file (length front + 40) 8 ≡ length chunk.bytes + chunk.zeros =
    program_field front back offset chunk 6 40 8 (length chunk.bytes + chunk.zeros) refl (omega arith) refl size in
    ap (λ n. header_with n (number_at file (length front + 8) 8) (number_at file (length front + 16) 8) (number_at file (length front + 32) 8) (number_at file (length front + 40) 8)) kind
    ∙ ap (λ n. header_with 1 n (number_at file (length front + 16) 8) (number_at file (length front + 32) 8) (number_at file (length front + 40) 8)) place
    ∙ ap (λ n. header_with 1 offset n (number_at file (length front + 32) 8) (number_at file (length front + 40) 8)) address
    ∙ ap (λ n. header_with 1 offset chunk.addr n (number_at file (length front + 40) 8)) in_file
    ∙ ap (λ n. header_with 1 offset chunk.addr (length chunk.bytes) n) in_memory

-- an address has 64 bits
abbrev pub HasAddress : Chunk → Type 0
HasAddress chunk = chunk.addr < 2 ^ 64

pub headers_are_read : (front : List ℕ) (offset : ℕ) (chunks : List Chunk) (rest : List ℕ) → All HasSize chunks → All HasAddress chunks
    → offset + length (contents_of chunks) < 2 ^ 64
    → headers_from (front ++ (program_headers_from offset chunks ++ rest)) (length front) (length chunks) ≡ headers_for offset chunks
unfolding headers_from program_headers_from contents_of
headers_are_read front offset [] rest sizes addresses low = refl
headers_are_read front offset (chunk ∷ chunks) rest sizes addresses low =
    let header : List ℕ = program_header_of offset chunk in
    let table : List ℕ = program_headers_from (offset + length chunk.bytes) chunks in
    let whole : length (chunk.bytes ++ contents_of chunks) ≡ length chunk.bytes + length (contents_of chunks) = length-append chunk.bytes (contents_of chunks) in
    let apart : front ++ ((header ++ table) ++ rest) ≡ front ++ (header ++ (table ++ rest)) = ap (λ t. front ++ t) (append_assoc header table rest) in
    let behind : front ++ (header ++ (table ++ rest)) ≡ (front ++ header) ++ (table ++ rest) = sym (append_assoc front header (table ++ rest)) in
    let len : length front + 56 ≡ length (front ++ header) = omega (arith, length-append front header, length-program_header_of offset chunk) in
    let first : header_at (front ++ ((header ++ table) ++ rest)) (length front) ≡ header_for offset chunk =
    ap (λ f. header_at f (length front)) apart
    ∙ header_is_read front (table ++ rest) offset chunk (head_of HasSize chunk chunks sizes) (head_of HasAddress chunk chunks addresses) (omega (arith, low)) in
    let others : headers_from (front ++ ((header ++ table) ++ rest)) (length front + 56) (length chunks) ≡ headers_for (offset + length chunk.bytes) chunks =
    ap (λ f. headers_from f (length front + 56) (length chunks)) (apart ∙ behind)
    ∙ ap (λ n. headers_from ((front ++ header) ++ (table ++ rest)) n (length chunks)) len
    ∙ headers_are_read (front ++ header) (offset + length chunk.bytes) chunks rest (tail_of HasSize chunk chunks sizes)
    (tail_of HasAddress chunk chunks addresses) (omega (arith, low, whole)) in
    ap (λ h. h ∷ headers_from (front ++ ((header ++ table) ++ rest)) (length front + 56) (length chunks)) first
    ∙ ap (λ hs. header_for offset chunk ∷ hs) others
