-- Which strand of a core executes next.
use Rattle.std.specs.Prelude.{ℕ, zero, suc, ◌+◌, ◌*◌, Bool, is_none, if◌then◌else◌, List, slice_index, Option, Some, None}
use Rattle.t1_select.specs.Queue.{first_ready, moved_last}
use Rattle.t1_core.specs.declared.answers.Did.{Did}
use Rattle.t1_core.specs.Steps.{CoreState, exec_of, wait_of}

-- a strand would not wait
abbrev pub is_ready : CoreState → ℕ → ℕ → Bool
is_ready c room i = is_none (wait_of c i room)

abbrev pub ready_bit : CoreState → ℕ → ℕ → ℕ
ready_bit c room i = if is_ready c room i then 1 else 0

-- a word with a bit for each of eight strands that is ready
-- so many bits, from a strand on
abbrev pub ready_bits : CoreState → ℕ → ℕ → ℕ → ℕ
ready_bits c room i zero = 0
ready_bits c room i (suc n) = ready_bit c room i + 2 * ready_bits c room (i + 1) n

unfoldable pub ready_word : CoreState → ℕ → ℕ
ready_word c room = ready_bits c room 0 8

-- the place of the first strand of the queue that is ready
abbrev pub next_place : CoreState → ℕ → Option ℕ
next_place c room = first_ready (λ i. is_ready c room i) c.turns

-- what a turn changes, and what the strand did, where one acted
pub record Turned : Type 0 where
  pub core : CoreState
  pub did : Option Did

abbrev pub with_turns : CoreState → List ℕ → CoreState
with_turns c turns = record c { turns = turns }

abbrev pub turned_at : CoreState → ℕ → Option ℕ → Turned
turned_at c room None = record { core = c; did = None }
turned_at c room (Some place) =
    let a = exec_of c (slice_index c.turns place) room in
    record { core = with_turns a.core (moved_last c.turns place); did = Some a.did }

-- the least recently picked of the ready strands executes
unfoldable pub turn_of : CoreState → ℕ → Turned
turn_of c room = turned_at c room (next_place c room)
