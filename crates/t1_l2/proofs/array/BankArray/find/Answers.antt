use Rattle.std.proofs.Common.{◌≡◌, ◌<◌, None, true, length, get_or, ap, sym, ◌∙◌, arith}
use Rattle.std.proofs.lemmas.List.{get_or_read}
use Rattle.t1_shape.specs.Slots.{holds}
use Rattle.t1_shape.proofs.Slots.{option_eq-holds, holds-true}
use Rattle.t1_l2.specs.Array.{ArrayState}
use Rattle.t1_l2.proofs.Kept.{slot_held}
use Rattle.t1_l2.proofs.View.{kept_now, found_at, found_absent}
use Rattle.t1_l2.proofs.array.BankArray.find.Goals as goal

pub returns-then-eq-clause-value : goal.returns-then-eq-clause-value
returns-then-eq-clause-value c =
    let i = c.self.inside in
    let fits : i.recent < length i.tags.items = (let f = c.self.invariant.first in let s = c.self.invariant.l2.size in omega (arith, f, s)) in
    let read : c.index.result.now ≡ get_or c.args.self.now.tags i.recent None =
    get_or_read i.tags.items i.recent c.index.result.now fits c.index.ensures None ∙ ap (λ (a : ArrayState). get_or a.tags i.recent None) c.self.view_is in
    let on : holds c.index.result.now c.args.line ≡ true = sym (option_eq-holds c.index.result.now c.args.line) ∙ (sym c.eq.ensures ∙ c.if-eq.true) in
    sym (slot_held c.args.self.now (length i.ram.items) c.args.line i.recent (kept_now c.args.self.now c.self.invariant.l2 c.self.view_is)
    (sym read ∙ holds-true c.index.result.now c.args.line on))

pub returns-clause-at : goal.returns-clause-at
returns-clause-at c =
    found_at c.args.self.now (length c.self.inside.ram.items) c.args.line (kept_now c.args.self.now c.self.invariant.l2 c.self.view_is) c.slot_of.result c.slot_of.ensures

pub returns-clause-absent : goal.returns-clause-absent
returns-clause-absent c =
    found_absent c.args.self.now (length c.self.inside.ram.items) c.args.line (kept_now c.args.self.now c.self.invariant.l2 c.self.view_is) c.slot_of.result c.slot_of.ensures
