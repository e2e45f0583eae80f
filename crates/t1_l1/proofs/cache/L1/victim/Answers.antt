-- An empty way of the tags is one of the cache, and the pointer is the cache's.
use Rattle.std.proofs.Common.{◌≡◌, ◌+◌, ◌<◌, ◌≤◌, ℕ, List, length, get_or, Option, Some, None, ap, sym, ◌∙◌, arith}
use Rattle.std.proofs.lemmas.List.{get_or_read}
use Rattle.t1_shape.specs.Slots.{empty_way}
use Rattle.t1_l1.proofs.Shown.{victim_is}
use Rattle.t1_l1.proofs.cache.L1.victim.Goals as goal

pub returns-in-None-clause-value : goal.returns-in-None-clause-value
returns-in-None-clause-value g c =
    let i = c.self.inside in
    let first : ℕ = c.first_slot-first.result in
    let set : ℕ = c.set_of-set.result in
    let e : None ≡ empty_way i.tags.items first 0 g.row.WAYS = c.in-None.ensures.value ∙ ap (λ (ts : List (Option ℕ)). empty_way ts first 0 g.row.WAYS) c.as_slice.ensures.value in
    let count : length i.pointers.items ≡ i.sets = c.self.invariant.pointer_count in
    let low : set < i.sets = c.set_of-set.ensures.within in
    get_or_read i.pointers.items set c.index.result.now (omega (arith, count, low)) c.index.ensures 0
    ∙ sym (victim_is g.row.WAYS i.sets g.row.LINE i.tags.items i.lines.items i.pointers.items c.args.self.now c.args.addr first set None c.self.view_is
    c.first_slot-first.ensures.value c.set_of-set.ensures.value e)

pub returns-in-Some-clause-value : goal.returns-in-Some-clause-value
returns-in-Some-clause-value g c =
    let i = c.self.inside in
    let first : ℕ = c.first_slot-first.result in
    let set : ℕ = c.set_of-set.result in
    let e : Some c.in-Some.way ≡ empty_way i.tags.items first 0 g.row.WAYS = c.in-Some.ensures.value ∙ ap (λ (ts : List (Option ℕ)). empty_way ts first 0 g.row.WAYS) c.as_slice.ensures.value in
    sym (victim_is g.row.WAYS i.sets g.row.LINE i.tags.items i.lines.items i.pointers.items c.args.self.now c.args.addr first set (Some c.in-Some.way) c.self.view_is
    c.first_slot-first.ensures.value c.set_of-set.ensures.value e)
