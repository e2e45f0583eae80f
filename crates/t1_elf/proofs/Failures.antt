-- The first test that fails, and what is known where none does.
use Rattle.std.proofs.Common.{◌≡◌, ℕ, ◌+◌, ◌≤◌, ◌&&◌, ◌||◌, nat_lt, Bool, true, false, cond, List, [], ◌∷◌, ◌++◌, length, take, drop, map, Some, None, refl, arith}
use Rattle.std.specs.Prelude.{All, filter}
use Rattle.std.specs.List.{list_any}
use Rattle.std.proofs.lemmas.Bool.{or_parts, ltb-false}
use Rattle.std.proofs.lemmas.Bool.Decides.{nat_tests}
use Rattle.std.proofs.lemmas.List.{length-take}
use Rattle.std.proofs.lemmas.List.Elements.{All-cons, All-nil}
use Rattle.t1_elf.specs.declared.error.ElfError.{ElfError}
use Rattle.t1_elf.specs.declared.error.ElfError.TheVariants.{Dynamic, NoSegment, SegmentOutside, EntryOutside, EntryMisaligned}
use Rattle.t1_elf.specs.declared.header.ProgramHeader.{ProgramHeader}
use Rattle.t1_elf.specs.Fields.{headers_of}
use Rattle.t1_elf.specs.Parsed.{chunk_of, object_of, IsBelow, KeepsTo}
use Rattle.t1_elf.specs.Tests.{first_failure, program_tests_of, is_segment, is_outside, has_dynamic, has_no_segment, has_segment_outside, has_entry_outside, has_entry_misaligned, HasBytes}

-- ---- tests one after another

pub failure_in_first : (a b : List (Bool × ElfError)) (e : ElfError) → first_failure a ≡ Some e → first_failure (a ++ b) ≡ Some e
failure_in_first [] b e h = cc
failure_in_first ((true, x) ∷ a) b e h = h
failure_in_first ((false, x) ∷ a) b e h = failure_in_first a b e h

pub failure_in_second : (a b : List (Bool × ElfError)) → first_failure a ≡ None → first_failure (a ++ b) ≡ first_failure b
failure_in_second [] b h = refl
failure_in_second ((true, x) ∷ a) b h = cc
failure_in_second ((false, x) ∷ a) b h = failure_in_second a b h

-- where none of two lists fails, none of the second does
pub second_passes : (a b : List (Bool × ElfError)) → first_failure (a ++ b) ≡ None → first_failure b ≡ None
second_passes [] b h = h
second_passes ((true, x) ∷ a) b h = absurd (cc)
second_passes ((false, x) ∷ a) b h = second_passes a b h

-- no test fails
abbrev pub NoneFails : List (Bool × ElfError) → Type 0
NoneFails [] = Unit {0}
NoneFails ((fails, error) ∷ tests) = (fails ≡ false) × NoneFails tests

pub no_failure : (tests : List (Bool × ElfError)) → NoneFails tests → first_failure tests ≡ None
no_failure [] none = refl
no_failure ((true, error) ∷ tests) none = let first = none.0 in absurd (cc)
no_failure ((false, error) ∷ tests) none = no_failure tests none.1

-- what the tests of the program headers and of the entry leave
pub record Passed (file : List ℕ) (limit : ℕ) : Type 0 where
  pub inside : has_segment_outside file limit ≡ false
  pub entry : has_entry_outside file limit ≡ false
  pub aligned : has_entry_misaligned file ≡ false

-- the last three of five tests
last_pass : (a b c d e : Bool) (t u v w x : ElfError)
    → first_failure ((a, t) ∷ (b, u) ∷ (c, v) ∷ (d, w) ∷ (e, x) ∷ []) ≡ None
    → (c ≡ false) × (d ≡ false) × (e ≡ false)
last_pass true b c d e t u v w x h = absurd (cc)
last_pass false true c d e t u v w x h = absurd (cc)
last_pass false false true d e t u v w x h = absurd (cc)
last_pass false false false true e t u v w x h = absurd (cc)
last_pass false false false false true t u v w x h = absurd (cc)
last_pass false false false false false t u v w x h = (refl, refl, refl)

pub passed : (file : List ℕ) (limit : ℕ) → first_failure (program_tests_of file limit) ≡ None → Passed file limit
passed file limit h =
    let last = last_pass (has_dynamic file) (has_no_segment file) (has_segment_outside file limit) (has_entry_outside file limit)
    (has_entry_misaligned file) Dynamic NoSegment SegmentOutside EntryOutside EntryMisaligned h in
    record { inside = last.0; entry = last.1; aligned = last.2 }

-- ---- segments that are not outside

-- what is known of a segment that is not outside
record IsInside (len limit : ℕ) (header : ProgramHeader) : Type 0 where
  pub fits : header.file_size ≤ header.memory_size
  pub in_file : header.offset + header.file_size ≤ len
  pub below : header.address + header.memory_size ≤ limit

inside_of : (segment : Bool) (len limit : ℕ) (header : ProgramHeader) → segment ≡ true
    → (segment && (nat_lt header.memory_size header.file_size || (nat_lt len (header.offset + header.file_size)
    || nat_lt limit (header.address + header.memory_size)))) ≡ false
    → IsInside len limit header
inside_of false len limit header is not_outside = absurd (cc)
inside_of true len limit header is not_outside =
    let a : Bool = nat_lt header.memory_size header.file_size in
    let b : Bool = nat_lt len (header.offset + header.file_size) in
    let c : Bool = nat_lt limit (header.address + header.memory_size) in
    let first = or_parts a (b || c) not_outside in
    let second = or_parts b c first.1 in
    record {
      fits = ltb-false header.memory_size header.file_size first.0;
      in_file = ltb-false len (header.offset + header.file_size) second.0;
      below = ltb-false limit (header.address + header.memory_size) second.1;
    }

has_bytes : (len limit : ℕ) (header : ProgramHeader) → is_outside len limit header ≡ false → HasBytes len header
has_bytes len limit header not_outside = λ segment.
    let inside = inside_of (is_segment header) len limit header segment not_outside in (inside.fits, inside.in_file)

pub all_have_bytes : (len limit : ℕ) (headers : List ProgramHeader) → list_any (is_outside len limit) headers ≡ false
    → All (HasBytes len) headers
all_have_bytes len limit [] none = All-nil (HasBytes len)
all_have_bytes len limit (header ∷ headers) none =
    let parts = or_parts (is_outside len limit header) (list_any (is_outside len limit) headers) none in
    All-cons (HasBytes len) header headers (has_bytes len limit header parts.0) (all_have_bytes len limit headers parts.1)

is_below : (file : List ℕ) (limit : ℕ) (header : ProgramHeader) → IsInside (length file) limit header → IsBelow limit (chunk_of file header)
is_below file limit header inside =
    let bytes : length (take header.file_size (drop header.offset file)) ≤ header.file_size =
    omega (arith, length-take header.file_size (drop header.offset file)) in
    omega (arith, bytes, inside.fits, inside.below)

all_below : (file : List ℕ) (limit : ℕ) (headers : List ProgramHeader) → list_any (is_outside (length file) limit) headers ≡ false
    → All (IsBelow limit) (map (chunk_of file) (filter is_segment headers))
all_below file limit [] none = All-nil (IsBelow limit)
all_below file limit (header ∷ headers) none =
    let parts = or_parts (is_outside (length file) limit header) (list_any (is_outside (length file) limit) headers) none in
    step (is_segment header) refl (all_below file limit headers parts.1) parts.0
  where
    step : (segment : Bool) → is_segment header ≡ segment
        → All (IsBelow limit) (map (chunk_of file) (filter is_segment headers))
        → is_outside (length file) limit header ≡ false
        → All (IsBelow limit) (map (chunk_of file) (cond segment (header ∷ filter is_segment headers) (filter is_segment headers)))
    step false is rest not_outside = rest
    step true is rest not_outside =
        All-cons (IsBelow limit) (chunk_of file header) (map (chunk_of file) (filter is_segment headers))
        (is_below file limit header (inside_of (is_segment header) (length file) limit header is not_outside)) rest

-- an object that passes the tests keeps to the limit
pub keeps_to : (file : List ℕ) (limit : ℕ) → Passed file limit → KeepsTo limit (object_of file)
unfolding has_segment_outside has_entry_outside has_entry_misaligned
keeps_to file limit p = record {
  chunks = all_below file limit (headers_of file) p.inside;
  entry = let h = p.entry in grind (arith, nat_tests);
  aligned = let h = p.aligned in grind (arith, nat_tests);
}

pub segments_have_bytes : (file : List ℕ) (limit : ℕ) → Passed file limit → All (HasBytes (length file)) (headers_of file)
unfolding has_segment_outside
segments_have_bytes file limit p = all_have_bytes (length file) limit (headers_of file) p.inside
