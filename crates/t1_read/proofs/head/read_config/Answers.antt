use Rattle.std.proofs.Common.{◌∙◌, ◌++◌, ℕ, List, ap}
use Rattle.std.proofs.lemmas.Option.{none-some}
use Rattle.t1_take.proofs.Leaving.{begun_good, begun_at}
use Rattle.t1_read.specs.Faults.{AtConfig}
use Rattle.t1_read.proofs.Judging.{named, at_config}
use Rattle.t1_read.proofs.head.read_config.Goals as goal

pub returns-in-None-clause-leads : goal.returns-in-None-clause-leads
returns-in-None-clause-leads c = λ s. named c.args.text.now c.args.lines.now.at AtConfig _ _ s
    (at_config c.args.text.now c.args.lines.now.at
    (λ one rest g e. none-some _ (c.in-None.ensures.finds g.0 rest g.1 (begun_good c.next-cursor.result _ c.next-cursor.ensures) (begun_at c.args.text.now c.next-cursor.result _ _ c.next-cursor.ensures (e ∙ ap (λ (t : List ℕ). t ++ rest) g.2))).0))
    c.fault.ensures
