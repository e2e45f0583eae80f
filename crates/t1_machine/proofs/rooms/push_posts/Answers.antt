use Rattle.std.proofs.Common.{◌≡◌, ◌∙◌, ◌++◌, ◌∷◌, [], List, length, get_or, set, ap, sym, subst, arith, length-append}
use Rattle.std.proofs.Math.ListN.{length-set}
use Rattle.std.proofs.lemmas.List.{get_or_read}
use Rattle.t1_packet.specs.declared.packet.Packet.{Packet}
use Rattle.t1_xbar.specs.declared.admitted.Post.{Post}
use Rattle.t1_machine.specs.Machine.{posts_pushed, post_pushed}
use Rattle.t1_machine.specs.Pushes.{CanPush}
use Rattle.t1_machine.proofs.Posts.{last_pushed, last_fits, rest_fits, other_ring}
use Rattle.t1_machine.proofs.rooms.push_posts.Goals as goal

pub overflow_shl-cores : goal.overflow_shl-cores
overflow_shl-cores c =
    let f = subst (λ (ps : List Post). CanPush 0 ps c.loop-post.replies.items) c.in-Some.ensures.some c.loop-post.invariant.fits in
    let k = last_fits 0 c.pop.new.self c.in-Some.post c.loop-post.replies.items f in
    omega (arith, k.0, c.loop-post.invariant.len, c.requires.rings)

pub index_mut-ring-requires : goal.index_mut-ring-requires
index_mut-ring-requires c =
    let f = subst (λ (ps : List Post). CanPush 0 ps c.loop-post.replies.items) c.in-Some.ensures.some c.loop-post.invariant.fits in
    let k = last_fits 0 c.pop.new.self c.in-Some.post c.loop-post.replies.items f in
    omega (arith, k.0, c.loop-post.replies.ok)

pub push-requires : goal.push-requires
push-requires c =
    let f = subst (λ (ps : List Post). CanPush 0 ps c.loop-post.replies.items) c.in-Some.ensures.some c.loop-post.invariant.fits in
    let k = last_fits 0 c.pop.new.self c.in-Some.post c.loop-post.replies.items f in
    let within = k.0 in
    let e : c.index_mut-ring.result.now ≡ get_or c.loop-post.replies.items c.in-Some.post.core [] =
    get_or_read c.loop-post.replies.items _ _ within c.index_mut-ring.ensures.value [] in
    rw e (omega arith, k.1)

pub loop-post-smaller : goal.loop-post-smaller
loop-post-smaller c = omega (arith, simp length-append at (ap (λ (l : List Post). length l) c.in-Some.ensures.some))

pub loop-post-preserved : goal.loop-post-preserved
loop-post-preserved c =
    let items : List (List Packet) = c.loop-post.replies.items in
    let rest : List Post = c.pop.new.self in
    let post : Post = c.in-Some.post in
    let f = subst (λ (ps : List Post). CanPush 0 ps c.loop-post.replies.items) c.in-Some.ensures.some c.loop-post.invariant.fits in
    let within = (last_fits 0 rest post items f).0 in
    let e : c.index_mut-ring.result.now ≡ get_or c.loop-post.replies.items c.in-Some.post.core [] =
    get_or_read c.loop-post.replies.items _ _ within c.index_mut-ring.ensures.value [] in
    let w : set items post.core c.push.new.self ≡ post_pushed items post =
    ap (λ (l : List Packet). set items post.core l) (c.push.ensures ∙ ap (λ (l : List Packet). l ++ post.packet ∷ []) e) in
    record {
      pushed = ap (λ (rs : List (List Packet)). posts_pushed rest rs) w
          ∙ (sym (last_pushed rest post items) ∙ (ap (λ (ps : List Post). posts_pushed ps items) (sym c.in-Some.ensures.some) ∙ c.loop-post.invariant.pushed));
      fits = subst (λ (rs : List (List Packet)). CanPush 0 rest rs) (sym w) (rest_fits 0 rest post items f);
      len = length-set items post.core c.push.new.self ∙ c.loop-post.invariant.len;
      others = λ core bit. other_ring c.loop-post.cores post.core core items _ c.push.new.self (omega (arith, within, c.loop-post.invariant.len, c.requires.rings)) bit (λ b. c.loop-post.invariant.others core b);
    }

pub returns-clause-pushed : goal.returns-clause-pushed
unfolding posts_pushed
returns-clause-pushed c = sym (ap (λ (ps : List Post). posts_pushed ps c.loop-post.replies.items) c.in_default.ensures.none) ∙ c.loop-post.invariant.pushed
