-- The bytes of the slot are those of the line that the way holds.
use Rattle.std.proofs.Common.{◌≡◌, ◌+◌, ◌*◌, ◌%◌, ◌<◌, ◌≤◌, ℕ, List, [], length, get_or, ap, ◌∙◌, arith}
use Rattle.std.proofs.lemmas.List.{get_or_read}
use Rattle.t1_num.specs.Memory.{number_at}
use Rattle.t1_l1.proofs.Shown.{get_is, way_fits}
use Rattle.t1_l1.proofs.cache.L1.get.Goals as goal

pub returns-clause-value : goal.returns-clause-value
returns-clause-value g c =
    let i = c.self.inside in
    let slot : ℕ = c.first_slot.result + c.args.way in
    let room : c.first_slot.result + g.row.WAYS ≤ g.row.WAYS * i.sets = c.first_slot.ensures.room in
    let count : length i.lines.items ≡ g.row.WAYS * i.sets = c.self.invariant.line_count in
    let way : c.args.way < g.row.WAYS = way_fits g.row.WAYS i.sets g.row.LINE i.tags.items i.lines.items i.pointers.items c.args.self.now c.args.addr c.args.way c.self.view_is c.requires.at in
    let within : slot < length i.lines.items = omega (arith, room, count, way) in
    let bytes : c.index-line.result.now ≡ get_or i.lines.items slot [] = get_or_read i.lines.items slot c.index-line.result.now within c.index-line.ensures [] in
    c.get_be.ensures.value
    ∙ (ap (λ (bs : List ℕ). number_at bs (c.args.addr % g.row.LINE) c.args.size) bytes
    ∙ get_is g.row.WAYS i.sets g.row.LINE i.tags.items i.lines.items i.pointers.items c.args.self.now c.args.addr c.args.size c.args.way slot c.self.view_is c.requires.at
    (ap (λ (n : ℕ). n + c.args.way) c.first_slot.ensures.value))
