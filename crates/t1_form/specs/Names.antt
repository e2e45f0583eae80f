-- The names of mnemonics, registers and directives.
use Rattle.std.specs.Prelude.{ℕ, ◌+◌, ◌*◌, ◌-◌, ◌==◌, ◌&&◌, ◌||◌, nat_le, min, if◌then◌else◌, List, [], ◌∷◌, Option, Some, None, codes, is_some, Bool, true, false}
use Rattle.std.specs.Str.{bytes_eq}
use Rattle.t1_form.specs.declared.directive.Width.TheVariants.{Byte, Half, Word, Xword}
use Rattle.t1_form.specs.declared.directive.Directive.{Directive}
use Rattle.t1_form.specs.declared.directive.Directive.TheVariants.{Org, Skip, Align, Numbers, Text, Section, Global}
use Rattle.t1_lex.specs.Bytes.{is_digit}
use denote.Ref.{Bor}

-- what stands beside a name in a table
abbrev pub named : {A : Type 0} → List ℕ → List (List ℕ × A) → Option A
named n [] = None
named n (row ∷ rows) = if bytes_eq n row.0 then Some row.1 else named n rows

-- the names of the rows of a table
abbrev pub seen_rows : {A : Type 0} → List (Bor (List ℕ) × A) → List (List ℕ × A)
seen_rows [] = []
seen_rows (r ∷ rs) = (r.0.now, r.1) ∷ seen_rows rs

-- conditions
abbrev pub condition_names : List (List ℕ × ℕ)
condition_names =
    (codes "n", 0) ∷
    (codes "e", 1) ∷
    (codes "le", 2) ∷
    (codes "l", 3) ∷
    (codes "leu", 4) ∷
    (codes "cs", 5) ∷
    (codes "neg", 6) ∷
    (codes "vs", 7) ∷
    (codes "a", 8) ∷
    (codes "ne", 9) ∷
    (codes "g", 10) ∷
    (codes "ge", 11) ∷
    (codes "gu", 12) ∷
    (codes "cc", 13) ∷
    (codes "pos", 14) ∷
    (codes "vc", 15) ∷
    []

-- conditions of a register
abbrev pub register_condition_names : List (List ℕ × ℕ)
register_condition_names =
    (codes "z", 1) ∷
    (codes "lez", 2) ∷
    (codes "lz", 3) ∷
    (codes "nz", 5) ∷
    (codes "gz", 6) ∷
    (codes "gez", 7) ∷
    []

-- ancillary state registers
abbrev pub state_names : List (List ℕ × ℕ)
state_names =
    (codes "%y", 0) ∷
    (codes "%ccr", 2) ∷
    (codes "%asi", 3) ∷
    (codes "%tick", 4) ∷
    (codes "%pc", 5) ∷
    (codes "%fprs", 6) ∷
    (codes "%set_softint", 20) ∷
    (codes "%clear_softint", 21) ∷
    (codes "%softint", 22) ∷
    []

-- privileged registers
abbrev pub privileged_names : List (List ℕ × ℕ)
privileged_names =
    (codes "%tpc", 0) ∷
    (codes "%tnpc", 1) ∷
    (codes "%tstate", 2) ∷
    (codes "%tt", 3) ∷
    (codes "%tick", 4) ∷
    (codes "%tba", 5) ∷
    (codes "%pstate", 6) ∷
    (codes "%tl", 7) ∷
    (codes "%pil", 8) ∷
    (codes "%cwp", 9) ∷
    (codes "%cansave", 10) ∷
    (codes "%canrestore", 11) ∷
    (codes "%cleanwin", 12) ∷
    (codes "%otherwin", 13) ∷
    (codes "%wstate", 14) ∷
    (codes "%gl", 16) ∷
    []

-- what a barrier orders
abbrev pub barrier_names : List (List ℕ × ℕ)
barrier_names =
    (codes "#LoadLoad", 1) ∷
    (codes "#StoreLoad", 2) ∷
    (codes "#LoadStore", 4) ∷
    (codes "#StoreStore", 8) ∷
    (codes "#Lookaside", 16) ∷
    (codes "#MemIssue", 32) ∷
    (codes "#Sync", 64) ∷
    []

-- directives
abbrev pub directive_names : List (List ℕ × Directive)
directive_names =
    (codes ".org", Org) ∷
    (codes ".skip", Skip) ∷
    (codes ".align", Align) ∷
    (codes ".byte", Numbers Byte) ∷
    (codes ".half", Numbers Half) ∷
    (codes ".word", Numbers Word) ∷
    (codes ".xword", Numbers Xword) ∷
    (codes ".ascii", Text false) ∷
    (codes ".asciz", Text true) ∷
    (codes ".text", Section) ∷
    (codes ".global", Global) ∷
    []

-- the first register of a letter: g o l i
unfoldable pub bank_of : ℕ → Option ℕ
bank_of l =
    if l == 103 then Some 0 else
    if l == 111 then Some 8 else
    if l == 108 then Some 16 else
    if l == 105 then Some 24 else
    None

unfoldable pub in_bank : Option ℕ → ℕ → Option ℕ
in_bank None d = None
in_bank (Some r) d = if nat_le 48 d && nat_le d 55 then Some (r + (d - 48)) else None

-- the register of a %name: %g0 to %i7, %sp, %fp
unfoldable pub register_of : List ℕ → Option ℕ
register_of (p ∷ l ∷ d ∷ []) =
    if (l == 115) && (d == 112) then Some 14 else
    if (l == 102) && (d == 112) then Some 30 else
    in_bank (bank_of l) d
register_of _ = None

-- what stands behind a prefix
unfoldable pub behind : List ℕ → List ℕ → Option (List ℕ)
behind [] bs = Some bs
behind (p ∷ ps) [] = None
behind (p ∷ ps) (b ∷ bs) = if b == p then behind ps bs else None

-- the value of decimal digits after a value; above 254 it is 255, which no register has
unfoldable pub capped_from : ℕ → List ℕ → Option ℕ
capped_from n [] = Some n
capped_from n (d ∷ ds) = if is_digit d then capped_from (min (n * 10 + (d - 48)) 255) ds else None

-- decimal digits without a leading 0
unfoldable pub capped : List ℕ → Option ℕ
capped [] = None
capped (d ∷ []) = capped_from 0 (d ∷ [])
capped (d ∷ e ∷ ds) = if d == 48 then None else capped_from 0 (d ∷ e ∷ ds)

unfoldable pub numbered_state : Option (List ℕ) → Option ℕ
numbered_state None = None
numbered_state (Some digits) = capped digits

-- an ancillary state register by its name, or %asr and its number
unfoldable pub state_of : List ℕ → Option ℕ
state_of name = elim (named name state_names) [
  | Some n ↦ Some n
  | None ↦ numbered_state (behind (codes "%asr") name)
]

-- the % names that say something
unfoldable pub is_known_percent : List ℕ → Bool
is_known_percent name =
    is_some (register_of name) || (bytes_eq name (codes "%hi") || (bytes_eq name (codes "%lo") || (bytes_eq name (codes "%icc") || (bytes_eq name (codes "%xcc") || (bytes_eq name (codes "%asi") || (is_some (state_of name) || is_some (named name privileged_names)))))))
