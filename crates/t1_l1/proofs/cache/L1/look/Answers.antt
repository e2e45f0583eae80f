-- The look-up among the tags is that of the cache.
use Rattle.std.proofs.Common.{◌≡◌, ◌/◌, ℕ, List, Option, Some, None, ap, sym, ◌∙◌}
use Rattle.t1_shape.specs.Slots.{scan}
use Rattle.t1_l1.proofs.Shown.{look_is, at_is}
use Rattle.t1_l1.proofs.cache.L1.look.Goals as goal

pub returns-in-None-clause-value : goal.returns-in-None-clause-value
returns-in-None-clause-value g c =
    let i = c.self.inside in
    let line : ℕ = c.args.addr / g.row.LINE in
    let first : ℕ = c.first_slot-first.result in
    let s : None ≡ scan i.tags.items line first g.row.WAYS = c.in-None.ensures.slot ∙ ap (λ (ts : List (Option ℕ)). scan ts line first g.row.WAYS) c.as_slice.ensures.value in
    sym (look_is g.row.WAYS i.sets g.row.LINE i.tags.items i.lines.items i.pointers.items c.args.self.now c.args.addr first None c.self.view_is c.first_slot-first.ensures.value s)

pub returns-in-Some-clause-value : goal.returns-in-Some-clause-value
returns-in-Some-clause-value g c =
    let i = c.self.inside in
    let line : ℕ = c.args.addr / g.row.LINE in
    let first : ℕ = c.first_slot-first.result in
    let s : Some c.in-Some.slot ≡ scan i.tags.items line first g.row.WAYS = c.in-Some.ensures.slot ∙ ap (λ (ts : List (Option ℕ)). scan ts line first g.row.WAYS) c.as_slice.ensures.value in
    sym (look_is g.row.WAYS i.sets g.row.LINE i.tags.items i.lines.items i.pointers.items c.args.self.now c.args.addr first (Some c.in-Some.slot) c.self.view_is c.first_slot-first.ensures.value s)

pub returns-in-Some-clause-at : goal.returns-in-Some-clause-at
returns-in-Some-clause-at g c =
    let i = c.self.inside in
    let line : ℕ = c.args.addr / g.row.LINE in
    let first : ℕ = c.first_slot-first.result in
    let s : Some c.in-Some.slot ≡ scan i.tags.items line first g.row.WAYS = c.in-Some.ensures.slot ∙ ap (λ (ts : List (Option ℕ)). scan ts line first g.row.WAYS) c.as_slice.ensures.value in
    at_is g.row.WAYS i.sets g.row.LINE i.tags.items i.lines.items i.pointers.items c.args.self.now c.args.addr first c.in-Some.slot c.self.view_is c.first_slot-first.ensures.value s
