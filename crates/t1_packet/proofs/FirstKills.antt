-- The first kills of a core, after some that were found.
use Rattle.std.proofs.Common.{◌≡◌, ℕ, ◌+◌, ◌<◌, ◌≤◌, eqb, true, false, List, [], ◌∷◌, ◌++◌, length, take, drop, get_or, refl, ap, sym, ◌∙◌, arith}
use Rattle.std.specs.List.{filter}
use Rattle.std.proofs.lemmas.Bool.{cond-true, cond-false, eq-eqb, ne_eqb}
use Rattle.std.proofs.lemmas.List.{append-nil, take-append-le, take_all, append_assoc, drop_more}
use Rattle.t1_packet.specs.Data.{KillData}
use Rattle.t1_packet.specs.Packets.{most_kills, kills_to}

unfoldable pub first_after : ℕ → List KillData → List KillData → List KillData
first_after core found rest = take most_kills (found ++ filter (λ (kill : KillData). eqb kill.core core) rest)

pub first_of_all : (core : ℕ) (kills : List KillData) → first_after core [] kills ≡ kills_to core kills
unfolding first_after
first_of_all core kills = refl

-- a list that is full takes no more
pub first-full : (core : ℕ) (found rest : List KillData) → length found ≡ 8 → first_after core found rest ≡ found
unfolding first_after
first-full core found rest full =
    take-append-le 8 found (filter (λ (kill : KillData). eqb kill.core core) rest) (omega (arith, full)) ∙ take_all 8 found (omega (arith, full))

pub first-end : (core : ℕ) (found : List KillData) → length found ≤ 8 → first_after core found [] ≡ found
unfolding first_after
first-end core found few = ap (λ (ks : List KillData). take 8 ks) (append-nil found) ∙ take_all 8 found few

-- a kill of the core comes behind those found
pub first-more : (core : ℕ) (found : List KillData) (kill : KillData) (rest : List KillData) → eqb kill.core core ≡ true
    → first_after core found (kill ∷ rest) ≡ first_after core (found ++ kill ∷ []) rest
unfolding first_after
first-more core found kill rest own =
    let others : List KillData = filter (λ (k : KillData). eqb k.core core) rest in
    ap (λ (ks : List KillData). take 8 (found ++ ks)) (cond-true (eqb kill.core core) (kill ∷ others) others own)
    ∙ ap (λ (ks : List KillData). take 8 ks) (sym (append_assoc found (kill ∷ []) others))

-- a kill of another core is passed over
pub first-other : (core : ℕ) (found : List KillData) (kill : KillData) (rest : List KillData) → eqb kill.core core ≡ false
    → first_after core found (kill ∷ rest) ≡ first_after core found rest
unfolding first_after
first-other core found kill rest other =
    let others : List KillData = filter (λ (k : KillData). eqb k.core core) rest in
    ap (λ (ks : List KillData). take 8 (found ++ ks)) (cond-false (eqb kill.core core) (kill ∷ others) others other)

-- ---- one kill of a list further

abbrev pub IsAt : List KillData → ℕ → KillData → Type 0
IsAt kills i kill = (i < length kills) × (kill ≡ get_or kills i kill)

left_at : (kills : List KillData) (i : ℕ) (kill : KillData) → IsAt kills i kill → drop i kills ≡ kill ∷ drop (i + 1) kills
left_at kills i kill is = drop_more kills i kill is.0 ∙ ap (λ (k : KillData). k ∷ drop (i + 1) kills) (sym is.1)

pub next-more : (core : ℕ) (found kills : List KillData) (i : ℕ) (kill : KillData) → IsAt kills i kill → kill.core ≡ core
    → first_after core (found ++ kill ∷ []) (drop (i + 1) kills) ≡ first_after core found (drop i kills)
next-more core found kills i kill is own =
    sym (ap (λ (ks : List KillData). first_after core found ks) (left_at kills i kill is)
    ∙ first-more core found kill (drop (i + 1) kills) (eq-eqb kill.core core own))

pub next-other : (core : ℕ) (found kills : List KillData) (i : ℕ) (kill : KillData) → IsAt kills i kill → (kill.core ≡ core → ⊥)
    → first_after core found (drop (i + 1) kills) ≡ first_after core found (drop i kills)
next-other core found kills i kill is other =
    sym (ap (λ (ks : List KillData). first_after core found ks) (left_at kills i kill is)
    ∙ first-other core found kill (drop (i + 1) kills) (ne_eqb kill.core core other))

pub next-full : (core : ℕ) (found kills : List KillData) (i : ℕ) → length found ≡ 8
    → first_after core found (drop (i + 1) kills) ≡ first_after core found (drop i kills)
next-full core found kills i full = first-full core found (drop (i + 1) kills) full ∙ sym (first-full core found (drop i kills) full)
