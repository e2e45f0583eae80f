-- By the laws of the definition.
use Rattle.std.proofs.Common.{sym, subst}
use Rattle.t1_core.specs.declared.answers.Drained.{Drained}
use Rattle.t1_core.specs.Steps.{CoreState, drain_of}
use Rattle.t1_core.specs.Told.{HasDrainRing, DrainsStill}
use Rattle.t1_core.proofs.Quiet.{drain_ring, drain_still}
use Rattle.t1_core.proofs.sparc_core.Core.drain.Goals as goal

pub returns-clause-ring : goal.returns-clause-ring
returns-clause-ring c = subst (λ (d : Drained). HasDrainRing c.args.room d) (sym c.drain_strand.ensures.did) (drain_ring c.args.self.now c.args.strand c.args.room)

pub returns-clause-still : goal.returns-clause-still
returns-clause-still c =
    subst (λ (d : Drained). DrainsStill c.args.self.now c.drain_strand.new.self d) (sym c.drain_strand.ensures.did)
    (subst (λ (k : CoreState). DrainsStill c.args.self.now k (drain_of c.args.self.now c.args.strand c.args.room).did) (sym c.drain_strand.ensures.core)
    (drain_still c.args.self.now c.args.strand c.args.room))
