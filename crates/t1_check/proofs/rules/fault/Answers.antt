use Rattle.std.proofs.Common.{subst, sym, arith, ℕ, List, get_or, [], Option, inl, inr}
use Rattle.std.proofs.lemmas.Bool.{cases_eq}
use Rattle.std.specs.Option.{MatchOption}
use Rattle.t1_event.specs.declared.item.Item.{Item}
use Rattle.t1_event.specs.Items.{items_of}
use Rattle.t1_check.specs.Rules.{IsObeyed, IsFirstCross}
use Rattle.t1_check.proofs.rules.fault.Goals as goal

pub loop-strand-preserved : goal.loop-strand-preserved
loop-strand-preserved c = λ s l. (
    let xs : List Item = c.items_at.result.now in
    let row : List ℕ = c.row.result.now in
    let here : IsObeyed c.args.rule xs row =
    subst (λ (r : Option (ℕ × ℕ)). MatchOption r (IsObeyed c.args.rule xs row) (λ p. IsFirstCross c.args.rule xs row p.0 p.1)) c.in-None.is c.in_ok-first.ensures in
    elim (cases_eq s c.loop-strand.strand) [
      | inl e ↦
          subst (λ (n : ℕ). IsObeyed c.args.rule (get_or (items_of c.args.traces.now) n []) (get_or c.args.table.now n [])) (sym e)
          (subst (λ (ys : List Item). IsObeyed c.args.rule ys (get_or c.args.table.now c.loop-strand.strand [])) c.items_at.ensures (subst (λ (r : List ℕ). IsObeyed c.args.rule xs r) c.row.ensures here))
      | inr other ↦ c.loop-strand.invariant s (omega (arith, l, other))
    ]
    )

pub returns : goal.returns
returns c = λ s l. c.loop-strand.invariant s (omega (arith, l, c.loop-strand-test.false))
