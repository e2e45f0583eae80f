-- Answers of a line, and the readings that they give.
use Rattle.std.specs.Prelude.{◌≡◌, Result, Ok, Err}
use Rattle.t1_stmt.specs.declared.fault.Halt.{Halt}
use Rattle.t1_stmt.specs.declared.fault.Halt.TheVariants as halt
use Rattle.t1_stmt.specs.declared.fault.Fault.{Fault}

-- an answer, seen by view, is this reading, where there was memory
abbrev pub Answers : {X Y : Type 0} → (X → Y) → Result X Halt → Result Y Fault → Type 0
Answers view (Ok x) read = read ≡ Ok (view x)
Answers view (Err (halt.Fault k)) read = read ≡ Err k
Answers view (Err halt.Memory) read = Unit {0}

abbrev pub then_do : {A B : Type 0} → Result A Fault → (A → Result B Fault) → Result B Fault
then_do (Ok a) f = f a
then_do (Err e) f = Err e
