use Rattle.std.proofs.Common.{ℕ, ◌≡◌, ◌∙◌, ◌+◌, ◌-◌, ◌/◌, ◌%◌, ◌^◌, ◌++◌, true, List, Some, sym, ap, arith, length-append}
use Rattle.std.proofs.lemmas.Bool.{eq-eqb}
use Rattle.t1_packet.specs.Packets.{packet_to}
use Rattle.t1_xbar.specs.declared.admitted.Post.{Post}
use Rattle.t1_xbar.specs.Admission.{posts_from, has_room}
use Rattle.t1_xbar.proofs.Cores.{posts_more, full_more}
use Rattle.t1_xbar.proofs.xbar.posts_of.Goals as goal

-- src/xbar.rt:40:5
pub loop-core-preserved : goal.loop-core-preserved
loop-core-preserved c =
    let core : ℕ = c.loop-core.core in
    let some : packet_to core c.args.index c.args.served.now ≡ Some c.in-Some.packet = sym c.packet_for.ensures ∙ c.in-Some.is in
    let one : c.args.rooms / 2 ^ core % 2 ≡ 1 = omega (arith, c.if-rooms-core-eq0.false) in
    let room : has_room c.args.rooms core ≡ true = eq-eqb (c.args.rooms / 2 ^ core % 2) 1 one in
    let below = c.loop-core-test.true in
    record {
      few = simp (c.push.ensures, length-append) (omega (arith, c.loop-core.invariant.few));
      posts =
          ap (λ (ps : List Post). ps ++ posts_from c.args.index c.args.served.now (core + 1) (c.args.cores - (core + 1))) c.push.ensures
          ∙ (posts_more c.args.index c.args.served.now core c.args.cores c.loop-core.posts c.in-Some.packet below some ∙ c.loop-core.invariant.posts);
      full = full_more c.args.rooms c.args.index c.args.served.now core c.args.cores c.in-Some.packet below some room ∙ c.loop-core.invariant.full;
    }
