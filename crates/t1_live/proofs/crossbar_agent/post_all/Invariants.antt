use Rattle.std.proofs.Common.{◌≡◌, length}
use Rattle.t1_machine.specs.Machine.{posts_pushed}
use Rattle.t1_ring.specs.Row.{sent_by, rooms_of, tx_marks}
use Rattle.t1_live.specs.Posts.{CanPost}
use Rattle.t1_live.proofs.crossbar_agent.post_all.Given as goal

abbrev pub invariant-loop-post : goal.invariant-loop-post
invariant-loop-post l = record {
  marks : tx_marks l.ends.items ≡ tx_marks l.initial.ends.items;
  can : CanPost 0 l.posts (rooms_of l.ends.items);
  sent : posts_pushed l.posts (sent_by l.ends.items) ≡ posts_pushed l.initial.posts (sent_by l.initial.ends.items);
}

abbrev pub decreases-loop-post : goal.decreases-loop-post
decreases-loop-post l = length l.posts
