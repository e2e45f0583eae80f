use Rattle.std.proofs.Common.{◌≡◌, ℕ, [], get_or, length}
use Rattle.std.specs.Int.{bit_at}
use Rattle.t1_machine.specs.Machine.{posts_pushed}
use Rattle.t1_machine.specs.Pushes.{CanPush}
use Rattle.t1_machine.proofs.rooms.push_posts.Given as goal

abbrev pub invariant-loop-post : goal.invariant-loop-post
invariant-loop-post l = record {
  pushed : posts_pushed l.posts l.replies.items ≡ posts_pushed l.initial.posts l.initial.replies.items;
  len : length l.replies.items ≡ length l.initial.replies.items;
  fits : CanPush 0 l.posts l.replies.items;
  others : (core : ℕ) → bit_at l.cores core ≡ 0 → get_or l.replies.items core [] ≡ get_or l.initial.replies.items core [];
}

abbrev pub decreases-loop-post : goal.decreases-loop-post
decreases-loop-post l = length l.posts
