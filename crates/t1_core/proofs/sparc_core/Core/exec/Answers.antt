-- By the laws of the definition.
use Rattle.std.proofs.Common.{sym, subst}
use Rattle.t1_core.specs.declared.answers.Did.{Did}
use Rattle.t1_core.specs.Steps.{CoreState, exec_of}
use Rattle.t1_core.specs.Told.{HasRing, WaitsStill}
use Rattle.t1_core.proofs.Quiet.{exec_ring, exec_still}
use Rattle.t1_core.proofs.sparc_core.Core.exec.Goals as goal

pub returns-clause-ring : goal.returns-clause-ring
returns-clause-ring c = subst (λ (d : Did). HasRing c.args.room d) (sym c.exec_strand.ensures.did) (exec_ring c.args.self.now c.args.strand c.args.room)

pub returns-clause-still : goal.returns-clause-still
returns-clause-still c =
    subst (λ (d : Did). WaitsStill c.args.self.now c.exec_strand.new.self d) (sym c.exec_strand.ensures.did)
    (subst (λ (k : CoreState). WaitsStill c.args.self.now k (exec_of c.args.self.now c.args.strand c.args.room).did) (sym c.exec_strand.ensures.core)
    (exec_still c.args.self.now c.args.strand c.args.room))
