-- Answers, and the readings that they give.
use Rattle.std.specs.Prelude.{◌≡◌, Option, Some, None, Result, Ok, Err}
use Rattle.t1_expr.specs.declared.stop.Stop.{Stop}
use Rattle.t1_expr.specs.declared.stop.Stop.TheVariants.{Bad, Memory}

-- an answer, seen by view, is this reading, where there was memory
abbrev pub Gives : {X Y : Type 0} → (X → Y) → Result X Stop → Option Y → Type 0
Gives view (Ok x) read = read ≡ Some (view x)
Gives view (Err Bad) read = read ≡ None
Gives view (Err Memory) read = Unit {0}
