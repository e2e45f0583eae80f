-- The bytes of the slot that is found change, and those of no other.
use Rattle.std.proofs.Common.{◌≡◌, ◌+◌, ◌*◌, ◌/◌, ◌%◌, ◌<◌, ◌≤◌, ℕ, List, [], length, get_or, set, Option, Some, None, ap, sym, ◌∙◌, arith}
use Rattle.std.proofs.lemmas.List.{get_or_read}
use Rattle.t1_num.specs.Memory.{with_number_at}
use Rattle.t1_shape.specs.Slots.{scan}
use Rattle.t1_l1.specs.Cache.{updated}
use Rattle.t1_l1.specs.Arrays.{shown}
use Rattle.t1_l1.proofs.Shown.{update_is, update_none}
use Rattle.t1_l1.proofs.cache.L1.update.Goals as goal

pub returns-in_default : goal.returns-in_default
returns-in_default g c =
    let i = c.self.inside in
    let line : ℕ = c.args.addr / g.row.LINE in
    let first : ℕ = c.first_slot-first.result in
    let none : None ≡ scan i.tags.items line first g.row.WAYS = sym c.in_default.is ∙ (c.lowest.ensures.slot ∙ ap (λ (ts : List (Option ℕ)). scan ts line first g.row.WAYS) c.as_slice.ensures.value) in
    sym c.self.view_is ∙ update_none g.row.WAYS i.sets g.row.LINE i.tags.items i.lines.items i.pointers.items c.args.self.now c.args.addr c.args.size c.args.value first
    c.self.view_is c.first_slot-first.ensures.value none

pub returns : goal.returns
returns g c =
    let i = c.self.inside in
    let line : ℕ = c.args.addr / g.row.LINE in
    let first : ℕ = c.first_slot-first.result in
    let slot : ℕ = c.in-Some.slot in
    let room : first + g.row.WAYS ≤ g.row.WAYS * i.sets = c.first_slot-first.ensures.room in
    let count : length i.lines.items ≡ g.row.WAYS * i.sets = c.self.invariant.line_count in
    let high : slot < first + g.row.WAYS = c.in-Some.ensures.within.1 in
    let within : slot < length i.lines.items = omega (arith, room, count, high) in
    let some : Some slot ≡ scan i.tags.items line first g.row.WAYS = c.in-Some.ensures.slot ∙ ap (λ (ts : List (Option ℕ)). scan ts line first g.row.WAYS) c.as_slice.ensures.value in
    let here : c.index_mut.result.now ≡ get_or i.lines.items slot [] = get_or_read i.lines.items slot c.index_mut.result.now within c.index_mut.ensures.value [] in
    let put : c.put_in.new.line ≡ with_number_at (get_or i.lines.items slot []) (c.args.addr % g.row.LINE) c.args.size c.args.value =
    c.put_in.ensures ∙ ap (λ (bs : List ℕ). with_number_at bs (c.args.addr % g.row.LINE) c.args.size c.args.value) here in
    ap (λ (bs : List ℕ). shown g.row.WAYS i.sets g.row.LINE i.tags.items (set i.lines.items slot bs) i.pointers.items) put
    ∙ update_is g.row.WAYS i.sets g.row.LINE i.tags.items i.lines.items i.pointers.items c.args.self.now c.args.addr c.args.size c.args.value first slot
    c.self.view_is c.first_slot-first.ensures.value some within
