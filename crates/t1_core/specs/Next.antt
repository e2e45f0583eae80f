-- What a strand would do next, and the way that it asks for.
use Rattle.std.specs.Prelude.{ℕ, ◌≡◌, ◌<◌}
use Rattle.t1_packet.specs.declared.op.Op.{Op}
use Rattle.t1_packet.specs.declared.op.Op.TheVariants as op
use Rattle.t1_core.specs.declared.asker.Asker.{Asker}
use Rattle.t1_core.specs.declared.plan.Next.{Next}
use Rattle.t1_core.specs.declared.plan.Next.TheVariants as next
use Rattle.t1_core.specs.declared.answers.Did.{Did}
use Rattle.t1_core.specs.declared.answers.Did.TheVariants as did
use Rattle.t1_core.specs.Threads.{ThreadState}
use Rattle.t1_core.specs.Steps.{ThreadActed, waits, asked}
use Rattle.t1_core.specs.Room.{owed}

-- a fetch asks for one of so many ways of the instruction cache, a load for one of the data cache, which
-- has four on every chip
abbrev pub AsksForWay : ℕ → Op → Type 0
AsksForWay ways (op.Fetch addr way) = way < ways
AsksForWay ways (op.Load addr size way) = way < 4
AsksForWay ways (op.Store addr size value) = Unit {0}
AsksForWay ways (op.Swap addr size new) = Unit {0}
AsksForWay ways (op.Cas addr size expect new) = Unit {0}

-- what is sent asks so
abbrev pub SendsForWay : ℕ → Did → Type 0
SendsForWay ways did.Moved = Unit {0}
SendsForWay ways (did.Waits w) = Unit {0}
SendsForWay ways (did.Sent dest request) = AsksForWay ways request.op

-- this is what a step of the strand comes to
abbrev pub IsNext : ℕ → Asker → ThreadState → ThreadActed → Next → Type 0
IsNext ways x t a next.Moves = a.did ≡ did.Moved
IsNext ways x t a (next.Waits w) = a ≡ waits t w
IsNext ways x t a (next.Asks o p) = (a ≡ asked x t o p) × (owed p ≡ owed t.phase) × AsksForWay ways o
