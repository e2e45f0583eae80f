-- The values of names, of a map.
use Rattle.std.specs.Prelude.{ℕ, ◌≡◌, if◌then◌else◌, List, Some}
use Rattle.std.specs.Str.{bytes_eq}
use Rattle.std.specs.BTreeMap.{BTreeMap, get_by}
use Rattle.std.specs.Ordering.{nat_cmp}
use Rattle.std.specs.Cmp.Lexicographic.{slice_cmp}
use denote.Ref.{Bor}
use Rattle.t1_expr.specs.Exprs.{Env}

abbrev pub env_of : BTreeMap (Bor (List ℕ)) ℕ → Env
env_of m q = get_by (λ k. slice_cmp nat_cmp q k.now) m

-- a name has a value, and the others have what they had
abbrev pub Defines : Env → Env → List ℕ → ℕ → Type 0
Defines old new name value = (q : List ℕ) → new q ≡ (if bytes_eq name q then Some value else old q)
