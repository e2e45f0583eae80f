use Rattle.std.proofs.Common.{sym, subst, vec_capacity}
use Rattle.t1_machine.specs.Start.{setup_of}
use Rattle.t1_machine_rule.specs.Parts.{traces_in}
use Rattle.t1_crew.specs.Slots.{AreOver}
use Rattle.t1_live.specs.Sides.{is_core_over}
use Rattle.t1_live.specs.Whole.{AgentsState, AreFitting, cores_of}
use Rattle.t1_live.specs.Reports.{LiveEnds}
use Rattle.t1_live.proofs.Ends.{ends_of}
use Rattle.t1_live.proofs.agents.Agents.ends.Goals as goal

pub returns : goal.returns
returns c =
    let state : AgentsState = record { setup = setup_of c.self.inside.config c.self.inside.image; cores = c.self.inside.cores.items; dests = c.self.inside.dests.items; crossbar = c.self.inside.crossbar; console = vec_capacity c.self.inside.room.console } in
    let over = subst (λ (v : AgentsState). AreOver is_core_over v.cores) (sym c.self.view_is) c.requires.over in
    let fits = subst (λ (v : AgentsState). AreFitting v.setup v.cores v.dests v.crossbar) (sym c.self.view_is) c.requires.fits in
    subst (λ (v : AgentsState). LiveEnds v.setup (traces_in (cores_of v.cores)) v.crossbar.xbar.log) c.self.view_is (ends_of c.self.inside.config c.self.inside.image state c.self.invariant.0 fits over)
