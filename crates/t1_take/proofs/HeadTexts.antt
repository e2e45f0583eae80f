-- The line of a machine, in pieces, and what it can name.
use Rattle.std.proofs.Common.{◌≡◌, ℕ, ◌^◌, ◌<◌, ◌≤◌, ◌==◌, ◌||◌, Bool, true, false, ◌++◌, codes, decimal, IsTrue, refl, arith}
use Rattle.std.proofs.lemmas.Bool.{and_parts, leb-true, eqb-true}
use Rattle.t1_event.specs.declared.report.Config.{Config}
use Rattle.t1_log.specs.Lines.{config_line_of}
use Rattle.t1_log.proofs.Firsts.{IsOfFirst, first_is}
use Rattle.t1_take.specs.Limits.{is_set_count, is_in_limits}

-- its chip and mode go without saying, and its numbers have 32 bits
pub record CanBeNamed (config : Config) : Type 0 where
  pub first : IsOfFirst config
  pub cores : config.cores < 2 ^ 32
  pub strands : config.strands < 2 ^ 32
  pub ram : config.ram < 2 ^ 32
  pub sets : config.sets < 2 ^ 32
  pub budget : config.budget < 2 ^ 32

either : (a b : Bool) (P : Type 0) → (a ≡ true → P) → (b ≡ true → P) → (a || b) ≡ true → P
either true b P f g e = f refl
either false b P f g e = g e

at_most : (n k : ℕ) → (n == k) ≡ true → k < 2 ^ 32 → n < 2 ^ 32
at_most n k e l = (let f = eqb-true n k e in omega (arith, f, l))

sets_small : (n : ℕ) → is_set_count n ≡ true → n < 2 ^ 32
unfolding is_set_count
sets_small n =
    let P : Type 0 = n < 2 ^ 32 in
    either _ _ P (λ e. at_most n 1 e (omega arith))
    (either _ _ P (λ e. at_most n 2 e (omega arith))
    (either _ _ P (λ e. at_most n 4 e (omega arith))
    (either _ _ P (λ e. at_most n 8 e (omega arith))
    (either _ _ P (λ e. at_most n 16 e (omega arith))
    (either _ _ P (λ e. at_most n 32 e (omega arith))
    (either _ _ P (λ e. at_most n 64 e (omega arith))
    (either _ _ P (λ e. at_most n 128 e (omega arith))
    (either _ _ P (λ e. at_most n 256 e (omega arith))
    (either _ _ P (λ e. at_most n 512 e (omega arith)) (λ e. at_most n 1024 e (omega arith)))))))))))

pub numbers_small : (config : Config) → IsTrue (is_in_limits config) → CanBeNamed config
numbers_small config limits =
    let whole = and_parts _ _ limits in
    let all = and_parts _ _ whole.1 in
    let cores : config.cores ≤ 8 = leb-true _ _ (and_parts _ _ all.0).1 in
    let rest = and_parts _ _ all.1 in
    let strands : config.strands ≤ 4 = leb-true _ _ (and_parts _ _ rest.0).1 in
    let memory = and_parts _ _ rest.1 in
    let ram : config.ram ≤ 268435456 = leb-true _ _ (and_parts _ _ (and_parts _ _ memory.0).1).0 in
    let last = and_parts _ _ memory.1 in
    let budget : config.budget ≤ 1000000 = leb-true _ _ (and_parts _ _ (and_parts _ _ last.1).1).0 in
    record {
      first = first_is config whole.0;
      cores = omega (arith, cores);
      strands = omega (arith, strands);
      ram = omega (arith, ram);
      sets = sets_small config.sets last.0;
      budget = omega (arith, budget);
    }

pub config_text : (config : Config) → config_line_of config
    ≡ codes "config cores " ++ (decimal config.cores ++ (codes " strands " ++ (decimal config.strands ++ (codes " ram " ++ (decimal config.ram ++ (codes " sets " ++ (decimal config.sets ++ (codes " budget " ++ (decimal config.budget ++ codes "\n")))))))))
unfolding config_line_of
config_text config = refl
