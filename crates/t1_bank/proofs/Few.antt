-- At most six kills a core.
use Rattle.std.proofs.Common.{◌≡◌, ℕ, ◌+◌, ◌*◌, ◌/◌, ◌<◌, ◌≤◌, ◌==◌, ◌⊎◌, Bool, true, false, List, [], ◌∷◌, ◌++◌, length, Option, Some, None, refl, inl, inr, arith, zero, suc, length-append}
use Rattle.std.proofs.lemmas.Bool.{cases_eq, cases_Bool, ne_eqb}
use Rattle.std.proofs.lemmas.List.Elements.{filter-append}
use Rattle.std.specs.List.{filter}
use Rattle.t1_bank.specs.Copies.{copies_below, copies_of, copy_at, doomed_data, doomed_insn}
use Rattle.t1_dir.specs.Directory.{DirectoryState, tags_at}
use Rattle.t1_packet.specs.Caches.{layout, width}
use Rattle.t1_packet.specs.Data.{KillData}
use Rattle.t1_packet.specs.declared.cache.Cache.{Cache}
use Rattle.t1_packet.specs.declared.cache.Cache.TheVariants.{Dcache, Icache}
use Rattle.t1_packet.specs.declared.op.Op.{Op}
use Rattle.t1_packet.specs.declared.op.Op.TheVariants.{Cas, Fetch, Load, Store, Swap}
use Rattle.t1_shape.specs.Shapes.{Shape}
use Rattle.t1_shape.specs.Slots.{slot_of}

length_copy : (shape : Shape) (core : ℕ) (cache : Cache) (o : Option ℕ) → length (copy_at shape core cache o) ≤ 1
length_copy shape core cache None = omega arith
length_copy shape core cache (Some j) = omega arith

length_copies : (d : DirectoryState) (core : ℕ) (cache : Cache) (addrs : List ℕ) → length (copies_of d core cache addrs) ≤ length addrs
length_copies d core cache [] = omega arith
length_copies d core cache (a ∷ rest) =
    let o : Option ℕ = slot_of (layout d.shape cache) (tags_at d core cache) (a / width cache) in
    let x = length_copy d.shape core cache o in
    let y = length_copies d core cache rest in
    let z = length-append (copy_at d.shape core cache o) (copies_of d core cache rest) in
    omega (arith, x, y, z)

filter_less : (p : KillData → Bool) (ks : List KillData) → length (filter p ks) ≤ length ks
filter_less p [] = omega arith
filter_less p (k ∷ ks) =
    let rest = filter_less p ks in
    elim (cases_Bool (p k)) [ inl e ↦ rw e (omega (arith, rest)) | inr e ↦ rw e (omega (arith, rest)) ]

copy_other : (shape : Shape) (c core : ℕ) (cache : Cache) (o : Option ℕ) → (core ≡ c → ⊥) → length (filter (λ k. k.core == c) (copy_at shape core cache o)) ≡ 0
copy_other shape c core cache None ne = refl
copy_other shape c core cache (Some j) ne = let off : (core == c) ≡ false = ne_eqb core c ne in rw off refl

copies_other : (d : DirectoryState) (c core : ℕ) (cache : Cache) (addrs : List ℕ) → (core ≡ c → ⊥) → length (filter (λ k. k.core == c) (copies_of d core cache addrs)) ≡ 0
copies_other d c core cache [] ne = refl
copies_other d c core cache (a ∷ rest) ne =
    let o : Option ℕ = slot_of (layout d.shape cache) (tags_at d core cache) (a / width cache) in
    let x = copy_other d.shape c core cache o ne in
    let y = copies_other d c core cache rest ne in
    let z : length (filter (λ k. k.core == c) (copy_at d.shape core cache o ++ copies_of d core cache rest))
    ≡ length (filter (λ k. k.core == c) (copy_at d.shape core cache o)) + length (filter (λ k. k.core == c) (copies_of d core cache rest)) = simp (filter-append, length-append) in
    omega (arith, x, y, z)

pub few_data : (own : Bool) (v : Option ℕ) (op : Op) → length (doomed_data own v op) ≤ 4
few_data own (Some e) op = omega arith
few_data own None (Fetch addr way) = omega arith
few_data own None (Load addr size way) = omega arith
few_data true None (Store addr size value) = omega arith
few_data false None (Store addr size value) = omega arith
few_data own None (Swap addr size new) = omega arith
few_data own None (Cas addr size expect new) = omega arith

pub few_insn : (v : Option ℕ) (op : Op) → length (doomed_insn v op) ≤ 2
few_insn (Some e) op = omega arith
few_insn None (Fetch addr way) = omega arith
few_insn None (Load addr size way) = omega arith
few_insn None (Store addr size value) = omega arith
few_insn None (Swap addr size new) = omega arith
few_insn None (Cas addr size expect new) = omega arith

pub few_copies : (d : DirectoryState) (own : ℕ) (v : Option ℕ) (op : Op) (c n : ℕ)
    → ((c < n) × (length (filter (λ k. k.core == c) (copies_below d own v op n)) ≤ 6)) ⊎ ((n ≤ c) × (length (filter (λ k. k.core == c) (copies_below d own v op n)) ≡ 0))
few_copies d own v op c zero = inr (omega arith, refl)
few_copies d own v op c (suc m) =
    let ds : List KillData = copies_of d m Dcache (doomed_data (own == m) v op) in
    let is : List KillData = copies_of d m Icache (doomed_insn v op) in
    let parts : length (filter (λ k. k.core == c) (copies_below d own v op m ++ ds ++ is))
    ≡ (length (filter (λ k. k.core == c) (copies_below d own v op m)) + length (filter (λ k. k.core == c) ds)) + length (filter (λ k. k.core == c) is) = simp (filter-append, length-append) in
    elim (cases_eq m c) [
      | inl same ↦
          let x = filter_less (λ k. k.core == c) ds in
          let y = filter_less (λ k. k.core == c) is in
          let x' = length_copies d m Dcache (doomed_data (own == m) v op) in
          let y' = length_copies d m Icache (doomed_insn v op) in
          let x'' = few_data (own == m) v op in
          let y'' = few_insn v op in
          elim (few_copies d own v op c m) [
            | inl p ↦ absurd (omega (arith, p, same))
            | inr p ↦ inl (omega (arith, same), omega (arith, parts, x, y, x', y', x'', y'', p))
          ]
      | inr apart ↦
          let x = copies_other d c m Dcache (doomed_data (own == m) v op) apart in
          let y = copies_other d c m Icache (doomed_insn v op) apart in
          elim (few_copies d own v op c m) [
            | inl p ↦ inl (omega (arith, p), omega (arith, parts, x, y, p))
            | inr p ↦ inr (omega (arith, p, apart), omega (arith, parts, x, y, p))
          ]
    ]

pub few_all : (d : DirectoryState) (own : ℕ) (v : Option ℕ) (op : Op) (n : ℕ) → length (copies_below d own v op n) ≤ 6 * n
few_all d own v op zero = omega arith
few_all d own v op (suc m) =
    let ds : List KillData = copies_of d m Dcache (doomed_data (own == m) v op) in
    let is : List KillData = copies_of d m Icache (doomed_insn v op) in
    let a = length-append (copies_below d own v op m ++ ds) is in
    let b = length-append (copies_below d own v op m) ds in
    let x = length_copies d m Dcache (doomed_data (own == m) v op) in
    let y = length_copies d m Icache (doomed_insn v op) in
    let x' = few_data (own == m) v op in
    let y' = few_insn v op in
    let rest = few_all d own v op m in
    omega (arith, a, b, x, y, x', y', rest)
