use Rattle.std.proofs.Common.{◌≡◌, ◌<◌, ◌∙◌, [], List, Some, length, get_or, ap, sym, subst, arith}
use Rattle.std.specs.List.{slice_get}
use mathlib.Core.List.{IsPrefix}
use Rattle.t1_packet.specs.Data.{RequestData}
use Rattle.t1_ring.specs.Ends.{Seat, TxState}
use Rattle.t1_ring.specs.Queue.{DestSeatState, of_core}
use Rattle.t1_ring.specs.Row.{sent_by}
use Rattle.t1_ring.proofs.Sets.{tx_marks_length}
use Rattle.t1_live.specs.Lanes.{by_core}
use Rattle.t1_live.specs.Sides.{CoreSide, DestinationSide}
use Rattle.t1_live.proofs.Lanes.{from_length, from_at, by_core_at}
use Rattle.t1_live.proofs.ties.tie_request.Goals as goal

pub tie_at-requires-clause-within : goal.tie_at-requires-clause-within
tie_at-requires-clause-within c =
    let l = tx_marks_length c.core.inside.lanes.items in
    let h = subst (λ (v : CoreSide). c.args.at < length v.to) (sym c.core.view_is) c.requires.here in
    omega (arith, l, h)

pub tie_at-requires-clause-seat : goal.tie_at-requires-clause-seat
tie_at-requires-clause-seat c =
    let seat = c.dest.inside.seat in
    let long = from_length seat.queue 0 seat.cores in
    let there = subst (λ (v : DestinationSide). c.args.place < length v.from) (sym c.dest.view_is) c.requires.there in
    ap (λ (v : CoreSide). slice_get v.to c.args.at) c.core.view_is ∙ (c.requires.port ∙ (ap (λ (v : DestinationSide). slice_get v.from c.args.place) (sym c.dest.view_is)
    ∙ (from_at seat.queue 0 seat.cores c.args.place (omega (arith, long, there)) ∙ ap (λ n. Some (Seat seat.queue n)) (omega arith))))

pub returns-clause-tied : goal.returns-clause-tied
returns-clause-tied c =
    let seat = c.dest.inside.seat in
    let long = from_length seat.queue 0 seat.cores in
    let there = subst (λ (v : DestinationSide). c.args.place < length v.from) (sym c.dest.view_is) c.requires.there in
    let here : get_or (by_core seat.taken 0 seat.cores) c.args.place [] ≡ of_core c.args.place seat.taken =
    by_core_at seat.taken 0 seat.cores c.args.place (omega (arith, long, there)) ∙ ap (λ n. of_core n seat.taken) (omega arith) in
    let first : IsPrefix (get_or (by_core seat.taken 0 seat.cores) c.args.place []) (get_or (sent_by c.core.inside.lanes.items) c.args.at []) =
    subst (λ (l : List RequestData). IsPrefix l (get_or (sent_by c.core.inside.lanes.items) c.args.at [])) (sym here) c.tie_at.ensures.first in
    subst (λ (ls : List (TxState RequestData)). IsPrefix (get_or (by_core c.tie_at.new.dest.taken 0 c.tie_at.new.dest.cores) c.args.place []) (get_or (sent_by ls) c.args.at [])) (sym c.tie_at.ensures.same.0)
    (subst (λ (s : DestSeatState). IsPrefix (get_or (by_core s.taken 0 s.cores) c.args.place []) (get_or (sent_by c.core.inside.lanes.items) c.args.at [])) (sym c.tie_at.ensures.same.1) first)
