use Rattle.std.proofs.Common.{◌∙◌, List, length, ap, sym, subst, arith, length-append}
use Rattle.t1_packet.specs.declared.packet.Packet.{Packet}
use Rattle.t1_xbar.specs.declared.admitted.Post.{Post}
use Rattle.t1_machine.specs.Machine.{posts_pushed}
use Rattle.t1_machine.proofs.Posts.{last_pushed}
use Rattle.t1_ring.specs.Row.{sent_by, rooms_of}
use Rattle.t1_ring.proofs.Sets.{within_room, rooms_length}
use Rattle.t1_live.specs.Posts.{CanPost}
use Rattle.t1_live.proofs.Posting.{last_can, rest_can}
use Rattle.t1_live.proofs.crossbar_agent.post_all.Goals as goal

pub send_at-requires-clause-within : goal.send_at-requires-clause-within
send_at-requires-clause-within c =
    let rooms = rooms_of c.loop-post.ends.items in
    let can = subst (λ (ps : List Post). CanPost 0 ps rooms) c.in-Some.ensures.some c.loop-post.invariant.can in
    let w = within_room rooms c.in-Some.post.core (last_can 0 c.pop.new.self c.in-Some.post rooms can) in
    let l = rooms_length c.loop-post.ends.items in
    omega (arith, w, l)

pub send_at-requires-clause-room : goal.send_at-requires-clause-room
send_at-requires-clause-room c =
    let rooms = rooms_of c.loop-post.ends.items in
    last_can 0 c.pop.new.self c.in-Some.post rooms (subst (λ (ps : List Post). CanPost 0 ps rooms) c.in-Some.ensures.some c.loop-post.invariant.can)

pub loop-post-smaller : goal.loop-post-smaller
loop-post-smaller c = omega (arith, simp length-append at (ap (λ (l : List Post). length l) c.in-Some.ensures.some))

pub loop-post-preserved : goal.loop-post-preserved
loop-post-preserved c =
    let i = c.loop-post.invariant in
    let rooms = rooms_of c.loop-post.ends.items in
    let rest : List Post = c.pop.new.self in
    let post : Post = c.in-Some.post in
    let before = sent_by c.loop-post.ends.items in
    record {
      marks = c.send_at.ensures.marks ∙ i.marks;
      can = rest_can 0 rest post rooms (rooms_of c.send_at.new.ends.items) (subst (λ (ps : List Post). CanPost 0 ps rooms) c.in-Some.ensures.some i.can) c.send_at.ensures.others;
      sent = ap (λ (l : List (List Packet)). posts_pushed rest l) c.send_at.ensures.sent
          ∙ (sym (last_pushed rest post before) ∙ (ap (λ (ps : List Post). posts_pushed ps before) (sym c.in-Some.ensures.some) ∙ i.sent));
    }

pub returns-clause-sent : goal.returns-clause-sent
unfolding posts_pushed
returns-clause-sent c = sym (ap (λ (ps : List Post). posts_pushed ps (sent_by c.loop-post.ends.items)) c.in_default.ensures.none) ∙ c.loop-post.invariant.sent
