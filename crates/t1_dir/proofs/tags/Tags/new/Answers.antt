use Rattle.std.proofs.Common.{rules}
use Rattle.t1_dir.proofs.tags.Tags.new.Goals as goal

pub returns : goal.returns
returns c = c.in_ok-from_elem.ensures.items_if_clones_equal (λ y h. search rules)
