-- The room that a strand's items have, and what a plan may count on.
use Rattle.std.specs.Prelude.{ℕ, ◌≡◌, ◌+◌, ◌-◌, ◌*◌, ◌%◌, ◌^◌, ◌<◌, ◌≤◌, min, List, [], length}
use Rattle.t1_num.specs.Memory.{IsSize}
use Rattle.t1_shape.specs.Numbers.{most_strands}
use Rattle.t1_exec.specs.Needs.{IsRam}
use Rattle.t1_event.specs.declared.report.Config.{Config}
use Rattle.t1_event.specs.declared.trace.Trace.{Trace}
use Rattle.t1_core.specs.Threads.{ThreadState}
use Rattle.t1_insn.specs.declared.instruction.Insn.{Insn}
use Rattle.t1_insn.specs.Ranges.{IsInRange}
use Rattle.t1_decode.specs.Words.{insn_of}
use Rattle.t1_core.specs.declared.phase.Phase.{Phase}
use Rattle.t1_core.specs.declared.phase.Phase.TheVariants as phase
use Rattle.t1_core.specs.declared.plan.Plan.{Plan}
use Rattle.t1_core.specs.declared.plan.Plan.TheVariants as plan

-- the most items that the unit under way can still make
abbrev pub owed : Phase → ℕ
owed phase.Fetch = 2
owed (phase.Have word) = 1
owed (phase.OutFetch way seen) = 2
owed (phase.OutData word way seen) = 1
owed (phase.Ended e) = 0

-- a unit makes at most two items, so a run of a budget makes at most twice as many, which there is room for
pub record HasRoom (units budget owes count capacity : ℕ) : Type 0 where
  pub small : budget ≤ 1000000
  pub live : units + min owes 1 ≤ budget
  pub items : count + 2 * (budget - (units + 1)) + owes ≤ 2 * budget
  pub room : 2 * budget ≤ capacity

-- what a plan says of numbers: a trap's type, an access of a size and aligned, a store that has room
abbrev pub IsPlan : Plan → ℕ → Type 0
IsPlan (plan.Waits w) held = Unit {0}
IsPlan (plan.Trap number) held = number < 512
IsPlan plan.Act held = Unit {0}
IsPlan plan.Halt held = Unit {0}
IsPlan (plan.Membar mask) held = Unit {0}
IsPlan plan.Flush held = Unit {0}
IsPlan (plan.Store addr size value) held = (held < 8) × IsSize size × (addr % size ≡ 0) × (value < 2 ^ (8 * size))
IsPlan (plan.Forward addr size value) held = Unit {0}
IsPlan (plan.Look addr size) held = IsSize size × (addr % size ≡ 0)
IsPlan (plan.Send addr) held = Unit {0}

-- an instruction is that of a word
pub record IsInsnOf (insn : Insn) (word : ℕ) : Type 0 where
  pub is : insn ≡ insn_of word
  pub fields : IsInRange insn

-- a configuration of which a core can be
pub record IsCoreConfig (config : Config) : Type 0 where
  pub some_strands : 1 ≤ config.strands
  pub few_strands : config.strands ≤ most_strands config.chip
  pub few_cores : config.cores ≤ 8
  pub ram_is : IsRam config.ram
  pub some_budget : 1 ≤ config.budget
  pub small_budget : config.budget ≤ 1000000

-- what the parts of a core keep of one another: `made` traces are made so far, with room for more
pub record AreParts (number : ℕ) (threads : List ThreadState) (ram : ℕ) (turns : List ℕ) (made : List Trace) (capacity : ℕ) : Type 0 where
  pub core : number < 8
  pub few : length threads ≤ 8
  pub ram_is : IsRam ram
  pub queue : length turns ≡ length threads
  pub none_made : made ≡ []
  pub room : length threads ≤ capacity
