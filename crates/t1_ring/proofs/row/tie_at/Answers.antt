use Rattle.std.proofs.Common.{◌∙◌, ◌++◌, ap, arith, sym}
use Rattle.std.proofs.lemmas.Grind.{common_steps}
use Rattle.t1_ring.proofs.Sets.{one_port, sent_at_set, got_at_set}
use Rattle.t1_ring.proofs.row.tie_at.Goals as goal

pub tie-requires : goal.tie-requires
tie-requires g c = one_port c.args.ends.now.items c.args.others.now.items c.args.at c.args.place _ _ c.index_mut-tx.ensures.value (grind (arith, common_steps)) c.index_mut-rx.ensures.value (grind (arith, common_steps)) c.requires.port

pub returns-clause-tied : goal.returns-clause-tied
returns-clause-tied g c = (
  c.tie.new.rx.known,
  ap (λ l. l ++ c.tie.new.rx.known) (got_at_set c.args.others.now.items c.args.place c.tie.new.rx (grind (arith, common_steps)))
      ∙ sym c.tie.ensures.tied ∙ sym (sent_at_set c.args.ends.now.items c.args.at c.tie.new.tx (grind (arith, common_steps))),
)
