-- The file of an object passes the tests, and is read back.
use Rattle.std.proofs.Common.{◌≡◌, ℕ, ◌+◌, ◌-◌, ◌*◌, ◌%◌, ◌^◌, ◌<◌, ◌≤◌, ◌==◌, ◌||◌, nat_lt, not, true, false, List, [], ◌∷◌, ◌++◌, length, take, drop, map, None, Ok, refl, ap, sym, ◌∙◌, append_assoc, arith, length-append}
use Rattle.std.specs.Prelude.{All, filter}
use Rattle.std.specs.List.{list_any}
use Rattle.std.proofs.lemmas.Bool.{and_right, or_left, or_from, cond-true, lt-ltb, le-ltb}
use Rattle.std.proofs.Math.Seq.{take-append_seam, drop-append_seam}
use Rattle.t1_num.specs.Memory.{number_at}
use Rattle.t1_elf.specs.declared.header.ProgramHeader.{ProgramHeader}
use Rattle.t1_elf.specs.declared.object.Chunk.{Chunk}
use Rattle.t1_elf.specs.declared.object.Object.{Object}
use Rattle.t1_elf.specs.Fields.{type_of, machine_of, entry_of, table_of, header_size_of, header_count_of, headers_from, headers_of}
use Rattle.t1_elf.specs.Laws.{IsFilled, IsWhole, SavedIsRead}
use Rattle.t1_elf.specs.Parsed.{chunk_of, chunks_of, answer_of, parsed, IsBelow, KeepsTo}
use Rattle.t1_elf.specs.Saved.{file_header_of, program_headers_from, contents_of}
use Rattle.t1_elf.specs.Tests.{is_too_short, is_not_elf, has_wrong_class, has_wrong_order, has_wrong_machine, has_wrong_type, has_bad_table, has_dynamic, has_no_segment, has_segment_outside, has_entry_outside, has_entry_misaligned, is_dynamic, is_segment, is_outside, tests_of, first_failure}
use Rattle.t1_elf.proofs.Failures.{no_failure}
use Rattle.t1_elf.proofs.SavedHeaders.{head_of, tail_of, length-file_header_of, length-program_headers_from, file_field, header_for, headers_for, headers_are_read}

-- ---- the headers of chunks, tested

none_dynamic : (offset : ℕ) (chunks : List Chunk) → list_any is_dynamic (headers_for offset chunks) ≡ false
none_dynamic offset [] = refl
none_dynamic offset (chunk ∷ chunks) = none_dynamic (offset + length chunk.bytes) chunks

is_filled : (chunk : Chunk) → IsFilled chunk → nat_lt 0 (length chunk.bytes + chunk.zeros) ≡ true
is_filled chunk filled = lt-ltb 0 (length chunk.bytes + chunk.zeros) filled

some_segment : (offset : ℕ) (chunks : List Chunk) → 0 < length chunks → All IsFilled chunks → list_any is_segment (headers_for offset chunks) ≡ true
some_segment offset [] some filled = absurd (omega (arith, some))
some_segment offset (chunk ∷ chunks) some filled =
    or_left (nat_lt 0 (length chunk.bytes + chunk.zeros)) (list_any is_segment (headers_for (offset + length chunk.bytes) chunks))
    (is_filled chunk (head_of IsFilled chunk chunks filled))

all_segments : (offset : ℕ) (chunks : List Chunk) → All IsFilled chunks → filter is_segment (headers_for offset chunks) ≡ headers_for offset chunks
all_segments offset [] filled = refl
all_segments offset (chunk ∷ chunks) filled =
    let rest : List ProgramHeader = headers_for (offset + length chunk.bytes) chunks in
    cond-true (nat_lt 0 (length chunk.bytes + chunk.zeros)) (header_for offset chunk ∷ filter is_segment rest) (filter is_segment rest)
    (is_filled chunk (head_of IsFilled chunk chunks filled))
    ∙ ap (λ hs. header_for offset chunk ∷ hs) (all_segments (offset + length chunk.bytes) chunks (tail_of IsFilled chunk chunks filled))

none_outside : (len limit offset : ℕ) (chunks : List Chunk) → offset + length (contents_of chunks) ≤ len → All (IsBelow limit) chunks
    → list_any (is_outside len limit) (headers_for offset chunks) ≡ false
unfolding contents_of
none_outside len limit offset [] within below = refl
none_outside len limit offset (chunk ∷ chunks) within below =
    let size : ℕ = length chunk.bytes + chunk.zeros in
    let whole : length (chunk.bytes ++ contents_of chunks) ≡ length chunk.bytes + length (contents_of chunks) = length-append chunk.bytes (contents_of chunks) in
    let low : chunk.addr + length chunk.bytes + chunk.zeros ≤ limit = head_of (IsBelow limit) chunk chunks below in
    let fits : nat_lt size (length chunk.bytes) ≡ false = le-ltb size (length chunk.bytes) (omega arith) in
    let in_file : nat_lt len (offset + length chunk.bytes) ≡ false = le-ltb len (offset + length chunk.bytes) (omega (arith, within, whole)) in
    let in_memory : nat_lt limit (chunk.addr + size) ≡ false = le-ltb limit (chunk.addr + size) (omega (arith, low)) in
    or_from (is_outside len limit (header_for offset chunk)) (list_any (is_outside len limit) (headers_for (offset + length chunk.bytes) chunks))
    (and_right (nat_lt 0 size) (nat_lt size (length chunk.bytes) || (nat_lt len (offset + length chunk.bytes) || nat_lt limit (chunk.addr + size)))
    (or_from (nat_lt size (length chunk.bytes)) (nat_lt len (offset + length chunk.bytes) || nat_lt limit (chunk.addr + size)) fits
    (or_from (nat_lt len (offset + length chunk.bytes)) (nat_lt limit (chunk.addr + size)) in_file in_memory)))
    (none_outside len limit (offset + length chunk.bytes) chunks (omega (arith, within, whole)) (tail_of (IsBelow limit) chunk chunks below))

-- ---- the chunks, read

abbrev chunk_with : ℕ → List ℕ → ℕ → Chunk
chunk_with addr bytes zeros = record { addr = addr; bytes = bytes; zeros = zeros }

chunks_are_read : (front : List ℕ) (chunks : List Chunk) → map (chunk_of (front ++ contents_of chunks)) (headers_for (length front) chunks) ≡ chunks
unfolding contents_of
chunks_are_read front [] = refl
chunks_are_read front (chunk ∷ chunks) =
    let rest : List ℕ = contents_of chunks in
    let n : ℕ = length chunk.bytes in
    let bytes : take n (drop (length front) (front ++ (chunk.bytes ++ rest))) ≡ chunk.bytes =
    ap (take n) (drop-append_seam front (chunk.bytes ++ rest)) ∙ take-append_seam chunk.bytes rest in
    let zeros : n + chunk.zeros - n ≡ chunk.zeros = omega arith in
    let first : chunk_of (front ++ (chunk.bytes ++ rest)) (header_for (length front) chunk) ≡ chunk =
    ap (λ b. chunk_with chunk.addr b (n + chunk.zeros - n)) bytes ∙ ap (λ z. chunk_with chunk.addr chunk.bytes z) zeros in
    let others : map (chunk_of (front ++ (chunk.bytes ++ rest))) (headers_for (length front + n) chunks) ≡ chunks =
    ap (λ f. map (chunk_of f) (headers_for (length front + n) chunks)) (sym (append_assoc front chunk.bytes rest))
    ∙ ap (λ k. map (chunk_of ((front ++ chunk.bytes) ++ rest)) (headers_for k chunks)) (sym (length-append front chunk.bytes))
    ∙ chunks_are_read (front ++ chunk.bytes) chunks in
    ap (λ c. c ∷ map (chunk_of (front ++ (chunk.bytes ++ rest))) (headers_for (length front + n) chunks)) first
    ∙ ap (λ cs. chunk ∷ cs) others

-- ---- the fields of the file header

-- the numbers that are read of a file
record HasFields (file : List ℕ) (entry count : ℕ) : Type 0 where
  pub magic : number_at file 0 4 ≡ 0x7f454c46
  pub class : number_at file 4 1 ≡ 2
  pub order : number_at file 5 1 ≡ 2
  pub kind : type_of file ≡ 2
  pub machine : machine_of file ≡ 43
  pub start : entry_of file ≡ entry
  pub table : table_of file ≡ 64
  pub header_size : header_size_of file ≡ 56
  pub headers : header_count_of file ≡ count

has_fields : (entry count : ℕ) (rest : List ℕ) → entry < 2 ^ 64 → count ≤ 65535 → HasFields (file_header_of entry count ++ rest) entry count
has_fields entry count rest low few = record {
  magic = file_field entry count rest 0 0 4 0x7f454c46 refl (omega arith) refl (omega arith);
  class = file_field entry count rest 1 4 1 2 refl (omega arith) refl (omega arith);
  order = file_field entry count rest 2 5 1 2 refl (omega arith) refl (omega arith);
  kind = file_field entry count rest 4 16 2 2 refl (omega arith) refl (omega arith);
  machine = file_field entry count rest 5 18 2 43 refl (omega arith) refl (omega arith);
  start = file_field entry count rest 7 24 8 entry refl (omega arith) refl low;
  table = file_field entry count rest 8 32 8 64 refl (omega arith) refl (omega arith);
  header_size = file_field entry count rest 10 54 2 56 refl (omega arith) refl (omega arith);
  headers = file_field entry count rest 11 56 2 count refl (omega arith) refl (omega (arith, few));
}

-- ---- the tests

-- a file with these fields and headers passes the tests
passes_all : (file : List ℕ) (object : Object) (limit : ℕ) → HasFields file object.entry (length object.chunks)
    → length file ≡ 64 + 56 * length object.chunks + length (contents_of object.chunks)
    → headers_of file ≡ headers_for (64 + 56 * length object.chunks) object.chunks
    → IsWhole object → KeepsTo limit object → first_failure (tests_of file limit) ≡ None
unfolding is_too_short is_not_elf has_wrong_class has_wrong_order has_wrong_machine has_wrong_type has_bad_table has_dynamic has_no_segment has_segment_outside has_entry_outside has_entry_misaligned
passes_all file object limit fields len headers whole keeps =
    let count : ℕ = length object.chunks in
    let offset : ℕ = 64 + 56 * count in
    let long : nat_lt (length file) 64 ≡ false = le-ltb (length file) 64 (omega (arith, len)) in
    let in_file : nat_lt (length file) (table_of file + 56 * header_count_of file) ≡ false =
    le-ltb (length file) (table_of file + 56 * header_count_of file) (omega (arith, len, fields.table, fields.headers)) in
    let table_good = and_right (nat_lt 0 (header_count_of file)) (not (header_size_of file == 56) || nat_lt (length file) (table_of file + 56 * header_count_of file))
    (or_from (not (header_size_of file == 56)) (nat_lt (length file) (table_of file + 56 * header_count_of file)) (ap (λ n. not (n == 56)) fields.header_size) in_file) in
    let entry_in : nat_lt limit (entry_of file + 4) ≡ false = le-ltb limit (entry_of file + 4) (omega (arith, keeps.entry, fields.start)) in
    let aligned : not (entry_of file % 4 == 0) ≡ false = ap (λ n. not (n == 0)) (ap (λ n. n % 4) fields.start ∙ keeps.aligned) in
    no_failure (tests_of file limit) (
      long,
      (
        ap (λ n. not (n == 0x7f454c46)) fields.magic,
        (
          ap (λ n. not (n == 2)) fields.class,
          (
            ap (λ n. not (n == 2)) fields.order,
            (
              ap (λ n. not (n == 43)) fields.machine,
              (
                ap (λ n. not (n == 2)) fields.kind,
                (
                  table_good,
                  (
                    ap (list_any is_dynamic) headers ∙ none_dynamic offset object.chunks,
                    (
                      ap not (ap (list_any is_segment) headers ∙ some_segment offset object.chunks whole.some whole.filled),
                      (
                        ap (list_any (is_outside (length file) limit)) headers ∙ none_outside (length file) limit offset object.chunks (omega (arith, len)) keeps.chunks,
                        (entry_in, (aligned, tt)),
                      ),
                    ),
                  ),
                ),
              ),
            ),
          ),
        ),
      ),
    )

-- ---- the law

abbrev object_with : ℕ → List Chunk → Object
object_with entry chunks = record { entry = entry; chunks = chunks }

pub saved_is_read : SavedIsRead
unfolding parsed
saved_is_read object limit savable whole keeps =
    let chunks : List Chunk = object.chunks in
    let count : ℕ = length chunks in
    let offset : ℕ = 64 + 56 * count in
    let header : List ℕ = file_header_of object.entry count in
    let table : List ℕ = program_headers_from offset chunks in
    let contents : List ℕ = contents_of chunks in
    let file : List ℕ = header ++ (table ++ contents) in
    let header_len : length header ≡ 64 = length-file_header_of object.entry count in
    let table_len : length table ≡ 56 * count = length-program_headers_from offset chunks in
    let len : length file ≡ 64 + 56 * count + length contents =
    omega (arith, length-append header (table ++ contents), length-append table contents, header_len, table_len) in
    let fields : HasFields file object.entry count = has_fields object.entry count (table ++ contents) whole.entry savable.count in
    let place : table_of file ≡ length header = fields.table ∙ sym header_len in
    let headers : headers_of file ≡ headers_for offset chunks =
    ap (λ at. headers_from file at (header_count_of file)) place
    ∙ ap (headers_from file (length header)) fields.headers
    ∙ headers_are_read header offset chunks contents savable.sizes whole.addresses (omega (arith, savable.count, savable.bytes)) in
    let front_len : length (header ++ table) ≡ offset = omega (arith, length-append header table, header_len, table_len) in
    let read : chunks_of file ≡ chunks =
    ap (λ hs. map (chunk_of file) (filter is_segment hs)) headers
    ∙ ap (map (chunk_of file)) (all_segments offset chunks whole.filled)
    ∙ ap (λ f. map (chunk_of f) (headers_for offset chunks)) (sym (append_assoc header table contents))
    ∙ ap (λ at. map (chunk_of ((header ++ table) ++ contents)) (headers_for at chunks)) (sym front_len)
    ∙ chunks_are_read (header ++ table) chunks in
    ap (answer_of file) (passes_all file object limit fields len headers whole keeps)
    ∙ ap (λ e. Ok (object_with e (chunks_of file))) fields.start
    ∙ ap (λ cs. Ok (object_with object.entry cs)) read
