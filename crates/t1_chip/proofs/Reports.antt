-- Traces and console bytes, one after another.
use Rattle.std.proofs.Common.{◌≡◌, ◌∙◌, ◌+◌, ◌≤◌, ℕ, List, [], ◌∷◌, ◌++◌, length, Option, Some, None, refl, ap, sym, arith, append_assoc, subst}
use Rattle.t1_event.specs.declared.commit.Commit.{Commit}
use Rattle.t1_event.specs.declared.trace.Trace.{Trace}
use Rattle.t1_event.specs.declared.item.Item.{Item}
use Rattle.t1_event.specs.declared.report.Place.{Place}
use Rattle.t1_event.specs.Keys.{IsOrderByKeys}
use Rattle.t1_order.specs.Orderable.{GrowsByOrder}
use Rattle.t1_iob.specs.Console.{console_byte_of, with_byte, console_of}
use Rattle.t1_core.specs.Steps.{CoreState}
use Rattle.t1_core.specs.Ends.{traces_of}
use Rattle.t1_machine_rule.specs.Parts.{traces_in}

pub traces_append : (xs ys : List CoreState) → traces_in (xs ++ ys) ≡ traces_in xs ++ traces_in ys
traces_append [] ys = refl
traces_append (x ∷ xs) ys = ap (λ (ts : List Trace). traces_of x ++ ts) (traces_append xs ys) ∙ sym (append_assoc (traces_of x) (traces_in xs) (traces_in ys))

with_byte_append : (o : Option ℕ) (xs ys : List ℕ) → with_byte o (xs ++ ys) ≡ with_byte o xs ++ ys
with_byte_append None xs ys = refl
with_byte_append (Some b) xs ys = refl

pub console_append : (xs ys : List Commit) → console_of (xs ++ ys) ≡ console_of xs ++ console_of ys
console_append [] ys = refl
console_append (x ∷ xs) ys = ap (λ (bs : List ℕ). with_byte (console_byte_of x.op) bs) (console_append xs ys) ∙ with_byte_append (console_byte_of x.op) (console_of xs) (console_of ys)

with_byte_length : (o : Option ℕ) (bs : List ℕ) → length (with_byte o bs) ≤ length bs + 1
with_byte_length None bs = omega arith
with_byte_length (Some b) bs = omega arith

pub console_short : (log : List Commit) → length (console_of log) ≤ length log
console_short [] = omega arith
console_short (x ∷ xs) = let k = with_byte_length (console_byte_of x.op) (console_of xs) in let rest = console_short xs in omega (arith, k, rest)

-- an order that grew from nothing
pub order_from : (traces : List (List Item)) (before after : List Place) → before ≡ [] → GrowsByOrder traces before after → IsOrderByKeys traces after
order_from traces before after e g = subst (λ (ps : List Place). IsOrderByKeys traces ps) (sym (g.grows ∙ ap (λ (ps : List Place). ps ++ g.order) e)) g.by_keys
