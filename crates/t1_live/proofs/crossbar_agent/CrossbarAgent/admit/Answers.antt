use Rattle.std.proofs.Common.{◌≡◌, ◌<◌, ◌∙◌, List, length, get_or, Some, None, ap, sym, subst, arith}
use Rattle.std.proofs.lemmas.List.{get_or_read}
use Rattle.t1_shape.specs.Numbers.{destinations}
use Rattle.t1_packet.specs.declared.packet.Packet.{Packet}
use Rattle.t1_xbar.specs.Admission.{XbarState}
use Rattle.t1_machine.specs.Machine.{posts_pushed}
use Rattle.t1_machine.specs.Start.{setup_of}
use Rattle.t1_ring.specs.Row.{received_by, sent_by, rooms_of}
use Rattle.t1_ring.proofs.Sets.{sents_length}
use Rattle.t1_live.specs.Sides.{CrossbarSide}
use Rattle.t1_live.proofs.Posting.{is_done, done_can}
use Rattle.t1_live.proofs.Crossings.{crossbar_reserves, crossbar_admits}
use Rattle.t1_live.proofs.crossbar_agent.CrossbarAgent.admit.Goals as goal

pub rooms-rooms-requires : goal.rooms-rooms-requires
rooms-rooms-requires c =
    let e = sents_length c.self.inside.packets.items in
    let ends = c.self.invariant.all_ends in
    let few = c.self.invariant.runs.few_cores in
    omega (arith, e, ends, few)

pub post_all-requires : goal.post_all-requires
post_all-requires c =
    done_can c.reserve.new.self c.args.dest c.in-Some.served c.rooms-rooms.result c.in-Done.index c.in-Done.posts (rooms_of c.rooms-rooms.new.ends.items) c.rooms-rooms.ensures.room (sym c.in-Done.ensures.answer)

pub invariant_of-self-in-Done : goal.invariant_of-self-in-Done
invariant_of-self-in-Done c =
    let w = setup_of c.self.inside.config c.self.inside.image.value in
    let x : XbarState = c.self.inside.xbar in
    let y : XbarState = c.reserve.new.self in
    let held = c.self.inside.held.items in
    let here = subst (λ (v : CrossbarSide). c.args.dest < destinations v.setup.config.chip) (sym c.self.view_is) c.requires in
    let within : c.args.dest < length held = (let l = c.self.invariant.all_held in omega (arith, l, here)) in
    let some : get_or held c.args.dest None ≡ Some c.in-Some.served = sym (get_or_read held _ _ within c.index.ensures None) ∙ c.in-Some.is in
    let same : length y.log ≡ length x.log = ap (λ (z : XbarState). length z.log) c.in_ok-reserve.ensures.ok.0 in
    let room : length y.log < 4294967295 = (let l = c.len.ensures in let f = c.if-len.false in let s = c.self.invariant.short in omega (arith, l, f, s, same)) in
    let k = crossbar_reserves w x y held (received_by c.self.inside.served.items) (sent_by c.self.inside.packets.items) y.room c.in_ok-reserve.ensures.ok.0 c.self.invariant in
    let d = is_done y c.args.dest c.in-Some.served c.rooms-rooms.result c.in-Done.index c.in-Done.posts (sym c.in-Done.ensures.answer) in
    crossbar_admits w y c.admit.new.self held (received_by c.self.inside.served.items) (sent_by c.self.inside.packets.items) (sent_by c.post_all.new.ends.items) c.args.dest c.in-Some.served c.in-Done.posts
    here some room d.seen d.posts_are (c.admit.ensures.xbar ∙ d.after_is)
    (c.post_all.ensures.sent ∙ ap (λ (l : List (List Packet)). posts_pushed c.in-Done.posts l) c.rooms-rooms.ensures.sent) k
