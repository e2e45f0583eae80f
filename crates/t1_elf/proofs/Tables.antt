-- The table of program headers, header by header.
use Rattle.std.proofs.Common.{◌≡◌, ℕ, zero, suc, ◌+◌, ◌-◌, ◌*◌, ◌<◌, ◌≤◌, ◌||◌, Bool, true, false, cond, List, [], ◌∷◌, ◌++◌, length, map, get_or, refl, ap, sym, ◌∙◌, append_assoc, append-nil, arith, subst}
use Rattle.std.specs.Prelude.{All, filter}
use Rattle.std.specs.List.{list_any}
use Rattle.t1_elf.specs.declared.header.ProgramHeader.{ProgramHeader}
use Rattle.t1_elf.specs.declared.object.Chunk.{Chunk}
use Rattle.t1_elf.specs.Fields.{table_of, header_count_of, header_at, headers_from, headers_of}
use Rattle.t1_elf.specs.Parsed.{chunk_of}
use Rattle.t1_elf.specs.Tests.{is_segment, HasBytes}

-- the headers from a number on
headers_next : (file : List ℕ) (table number count : ℕ) → number < count
    → headers_from file (table + number * 56) (count - number)
    ≡ header_at file (table + number * 56) ∷ headers_from file (table + (number + 1) * 56) (count - (number + 1))
unfolding headers_from
headers_next file table number count less =
    let left : count - number ≡ suc (count - (number + 1)) = omega arith in
    let next : table + number * 56 + 56 ≡ table + (number + 1) * 56 = omega arith in
    ap (headers_from file (table + number * 56)) left
    ∙ ap (λ at. header_at file (table + number * 56) ∷ headers_from file at (count - (number + 1))) next

none_left : (file : List ℕ) (at number count : ℕ) → count ≤ number → headers_from file at (count - number) ≡ []
unfolding headers_from
none_left file at number count past =
    let none : count - number ≡ 0 = omega (arith, past) in
    ap (headers_from file at) none

or_assoc : (a b c : Bool) → ((a || b) || c) ≡ (a || (b || c))
or_assoc true b c = refl
or_assoc false b c = refl

or_false : (a : Bool) → (a || false) ≡ a
or_false true = refl
or_false false = refl

-- ---- a test of all headers

-- one header more was tested
pub any_next : (p : ProgramHeader → Bool) (file : List ℕ) (table number count : ℕ) (found found' : Bool) → number < count
    → found' ≡ (found || p (header_at file (table + number * 56)))
    → (found' || list_any p (headers_from file (table + (number + 1) * 56) (count - (number + 1))))
    ≡ (found || list_any p (headers_from file (table + number * 56) (count - number)))
any_next p file table number count found found' less is =
    let rest : List ProgramHeader = headers_from file (table + (number + 1) * 56) (count - (number + 1)) in
    ap (λ b. b || list_any p rest) is
    ∙ or_assoc found (p (header_at file (table + number * 56))) (list_any p rest)
    ∙ ap (λ hs. found || list_any p hs) (sym (headers_next file table number count less))

-- all were tested
pub any_done : (p : ProgramHeader → Bool) (file : List ℕ) (at number count : ℕ) (found : Bool) → count ≤ number
    → (found || list_any p (headers_from file at (count - number))) ≡ found
any_done p file at number count found past =
    ap (λ hs. found || list_any p hs) (none_left file at number count past) ∙ or_false found

-- ---- the chunks of the segments

pub chunks_next : (file : List ℕ) (table number count : ℕ) (chunks chunks' : List Chunk) → number < count
    → chunks' ≡ chunks ++ map (chunk_of file) (filter is_segment (header_at file (table + number * 56) ∷ []))
    → chunks' ++ map (chunk_of file) (filter is_segment (headers_from file (table + (number + 1) * 56) (count - (number + 1))))
    ≡ chunks ++ map (chunk_of file) (filter is_segment (headers_from file (table + number * 56) (count - number)))
chunks_next file table number count chunks chunks' less is =
    let h : ProgramHeader = header_at file (table + number * 56) in
    let rest : List ProgramHeader = headers_from file (table + (number + 1) * 56) (count - (number + 1)) in
    ap (λ cs. cs ++ map (chunk_of file) (filter is_segment rest)) is
    ∙ append_assoc chunks (map (chunk_of file) (filter is_segment (h ∷ []))) (map (chunk_of file) (filter is_segment rest))
    ∙ ap (λ cs. chunks ++ cs) (first_apart (is_segment h) h rest)
    ∙ ap (λ hs. chunks ++ map (chunk_of file) (filter is_segment hs)) (sym (headers_next file table number count less))
  where
    first_apart : (b : Bool) (h : ProgramHeader) (rest : List ProgramHeader)
        → map (chunk_of file) (cond b (h ∷ []) []) ++ map (chunk_of file) (filter is_segment rest)
        ≡ map (chunk_of file) (cond b (h ∷ filter is_segment rest) (filter is_segment rest))
    first_apart true h rest = refl
    first_apart false h rest = refl

pub chunks_done : (file : List ℕ) (at number count : ℕ) (chunks : List Chunk) → count ≤ number
    → chunks ++ map (chunk_of file) (filter is_segment (headers_from file at (count - number))) ≡ chunks
chunks_done file at number count chunks past =
    ap (λ hs. chunks ++ map (chunk_of file) (filter is_segment hs)) (none_left file at number count past) ∙ append-nil chunks

-- ---- one header of the table

length-headers_from : (file : List ℕ) (at n : ℕ) → length (headers_from file at n) ≡ n
unfolding headers_from
length-headers_from file at zero = refl
length-headers_from file at (suc n) = ap suc (length-headers_from file (at + 56) n)

get_or-headers_from : (file : List ℕ) (at n k : ℕ) (d : ProgramHeader) → k < n
    → get_or (headers_from file at n) k d ≡ header_at file (at + k * 56)
unfolding headers_from
get_or-headers_from file at zero k d less = absurd (omega (arith, less))
get_or-headers_from file at (suc n) zero d less =
    let here : at ≡ at + 0 * 56 = omega arith in
    ap (header_at file) here
get_or-headers_from file at (suc n) (suc k) d less =
    let next : at + 56 + k * 56 ≡ at + suc k * 56 = omega arith in
    get_or-headers_from file (at + 56) n k d (omega (arith, less)) ∙ ap (header_at file) next

pub header_has_bytes : (file : List ℕ) (table number count : ℕ) (header : ProgramHeader) → table ≡ table_of file → count ≡ header_count_of file
    → All (HasBytes (length file)) (headers_of file) → number < count → header ≡ header_at file (table + number * 56)
    → HasBytes (length file) header
header_has_bytes file table number count header table_is count_is all less is =
    let P : ProgramHeader → Type 0 = λ h. HasBytes (length file) h in
    let fits : number < length (headers_of file) = omega (arith, length-headers_from file (table_of file) (header_count_of file), count_is, less) in
    let at : get_or (headers_of file) number header ≡ header_at file (table_of file + number * 56) =
    get_or-headers_from file (table_of file) (header_count_of file) number header (omega (arith, count_is, less)) in
    let place : get_or (headers_of file) number header ≡ header =
    at ∙ ap (λ t. header_at file (t + number * 56)) (sym table_is) ∙ sym is in
    subst P place (all number header fits)
