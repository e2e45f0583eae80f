use Rattle.std.proofs.Common.{◌≡◌, ◌∙◌, ap, [], get_or, Option, None}
use Rattle.std.proofs.lemmas.Option.{unwrap_or-slice_get}
use Rattle.std.specs.List.{slice_get}
use Rattle.std.specs.Option.{unwrap_or}
use Rattle.t1_event.specs.declared.item.Item.{Item}
use Rattle.t1_event.specs.declared.report.Place.{Place}
use Rattle.t1_event.specs.Items.{items_of}
use Rattle.t1_check.specs.Positions.{no_place, no_item}
use Rattle.t1_check.proofs.value.item_in.Goals as goal

pub returns-in-None : goal.returns-in-None
returns-in-None c =
    let p : Place = get_or c.args.order.now c.args.line no_place in
    let none : None ≡ slice_get (get_or (items_of c.args.traces.now) p.strand []) p.item =
    c.in-None.ensures ∙ ap (λ (q : Place). slice_get (get_or (items_of c.args.traces.now) q.strand []) q.item) c.place_at.ensures in
    ap (λ (o : Option Item). unwrap_or o no_item) none ∙ unwrap_or-slice_get (get_or (items_of c.args.traces.now) p.strand []) p.item no_item
