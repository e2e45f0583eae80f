use Rattle.std.proofs.Common.{ℕ, List}
use Rattle.t1_event.specs.Items.{items_of}
use Rattle.t1_check.specs.Sources.{SourcesAre}
use Rattle.t1_check.specs.Wrong.{AreRightBytes}
use Rattle.t1_check.proofs.value.wrong_byte.Given as goal

abbrev pub invariant-loop-offset : goal.invariant-loop-offset
invariant-loop-offset l =
    (table : List (List ℕ)) → SourcesAre (items_of l.traces) l.order l.own l.latest table l.line → AreRightBytes l.image (items_of l.traces) l.order table l.line l.offset
