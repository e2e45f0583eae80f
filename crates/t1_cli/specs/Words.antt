-- The words of the command line: a command, and its options in any order, each at most once.
use Rattle.std.specs.Prelude.{ℕ, ◌+◌, ◌*◌, ◌-◌, ◌%◌, ◌^◌, ◌≤◌, ◌==◌, ◌&&◌, ◌||◌, nat_le, nat_lt, not, Bool, true, false, IsTrue, List, [], ◌∷◌, length, codes, Option, Some, None, is_none, option_map, unwrap_or, if◌then◌else◌, ⊤}
use Rattle.std.specs.Str.{bytes_eq}
use Rattle.t1_num.specs.declared.chip.ChipKind.TheVariants.{T1}
use Rattle.t1_event.specs.declared.report.Config.{Config}
use Rattle.t1_take.specs.Limits.{is_in_limits}
use Rattle.t1_cli.specs.declared.command.Command.{Command}
use Rattle.t1_cli.specs.declared.command.Command.TheVariants as command
use Rattle.t1_cli.specs.declared.command.Flag.{Flag}
use Rattle.t1_cli.specs.declared.command.Flag.TheVariants.{Cores, Strands, Ram, Sets, Budget, Seed, Size, Brief}
use Rattle.t1_cli.specs.declared.command.Given.{Given}
use Rattle.t1_cli.specs.declared.command.Reading.{Reading}
use Rattle.t1_machine.specs.declared.schedule.Schedule.{Schedule}
use Rattle.t1_machine.specs.declared.schedule.Schedule.TheVariants as schedule
use Rattle.t1_cli.specs.declared.command.Task.{Task}
use Rattle.t1_cli.specs.declared.command.Task.TheVariants as task

-- ---- numbers

-- the value of digits behind a value, where each is a digit and each value has 64 bits
unfoldable pub digits_from : ℕ → List ℕ → Option ℕ
digits_from value [] = Some value
digits_from value (digit ∷ digits) =
    if nat_le 48 digit && nat_le digit 57 && nat_lt (value * 10 + (digit - 48)) (2 ^ 64)
    then digits_from (value * 10 + (digit - 48)) digits else None

-- a number: 1 to 20 digits, of a value below 2 ^ 64
unfoldable pub number_of : List ℕ → Option ℕ
number_of word = if nat_le 1 (length word) && nat_le (length word) 20 then digits_from 0 word else None

-- ---- options

unfoldable pub flag_of : List ℕ → Option Flag
flag_of word =
    if bytes_eq word (codes "--cores") then Some Cores else
    if bytes_eq word (codes "--strands") then Some Strands else
    if bytes_eq word (codes "--ram") then Some Ram else
    if bytes_eq word (codes "--sets") then Some Sets else
    if bytes_eq word (codes "--budget") then Some Budget else
    if bytes_eq word (codes "--seed") then Some Seed else
    if bytes_eq word (codes "--size") then Some Size else
    if bytes_eq word (codes "--brief") then Some Brief else
    None

-- no options
abbrev pub none_given : Given
none_given = record { cores = None; strands = None; ram = None; sets = None; budget = None; seed = None; size = None; brief = false }

-- the options with one more, where it was not given before
abbrev pub once : Bool → Given → Option Given
once before given = if before then None else Some given

unfoldable pub with_number : Given → Flag → ℕ → Option Given
with_number given Cores n = once (not (is_none given.cores)) (record given { cores = Some n })
with_number given Strands n = once (not (is_none given.strands)) (record given { strands = Some n })
with_number given Ram n = once (not (is_none given.ram)) (record given { ram = Some n })
with_number given Sets n = once (not (is_none given.sets)) (record given { sets = Some n })
with_number given Budget n = once (not (is_none given.budget)) (record given { budget = Some n })
with_number given Seed n = once (not (is_none given.seed)) (record given { seed = Some n })
with_number given Size n = once (not (is_none given.size)) (record given { size = Some n })
with_number given Brief n = None

abbrev pub complete : Option Given → Option Reading
complete None = None
complete (Some given) = Some (record { given = given; waiting = None })

-- a word that begins an option: all but --brief wait for a number
abbrev pub begun : Given → Option Flag → Option Reading
begun given None = None
begun given (Some Brief) = complete (once given.brief (record given { brief = true }))
begun given (Some Cores) = Some (record { given = given; waiting = Some Cores })
begun given (Some Strands) = Some (record { given = given; waiting = Some Strands })
begun given (Some Ram) = Some (record { given = given; waiting = Some Ram })
begun given (Some Sets) = Some (record { given = given; waiting = Some Sets })
begun given (Some Budget) = Some (record { given = given; waiting = Some Budget })
begun given (Some Seed) = Some (record { given = given; waiting = Some Seed })
begun given (Some Size) = Some (record { given = given; waiting = Some Size })

abbrev pub numbered : Given → Flag → Option ℕ → Option Reading
numbered given flag None = None
numbered given flag (Some n) = complete (with_number given flag n)

abbrev pub read_at : Given → Option Flag → List ℕ → Option Reading
read_at given None word = begun given (flag_of word)
read_at given (Some flag) word = numbered given flag (number_of word)

-- one word more
unfoldable pub read_next : Reading → List ℕ → Option Reading
read_next reading word = read_at reading.given reading.waiting word

abbrev pub ended : Given → Option Flag → Option Given
ended given None = Some given
ended given (Some flag) = None

-- the options of these words, after what was read before
unfoldable pub options_after : Option Reading → List (List ℕ) → Option Given
options_after None words = None
options_after (Some reading) [] = ended reading.given reading.waiting
options_after (Some reading) (word ∷ words) = options_after (read_next reading word) words

abbrev pub options_of : List (List ℕ) → Option Given
options_of words = options_after (Some (record { given = none_given; waiting = None })) words

-- ---- the machine

-- the machine that is asked for, an OpenSPARC T1 with no hyperprivileged mode, with what stands where an option
-- is not given
abbrev pub config_of : Given → Config
config_of given = record {
  chip = T1;
  hyper = false;
  cores = unwrap_or given.cores 8;
  strands = unwrap_or given.strands 4;
  ram = unwrap_or given.ram 16777216;
  sets = unwrap_or given.sets 1024;
  budget = unwrap_or given.budget 10000;
}

-- a machine, where it is in its limits
abbrev pub config_in_limits : Config → Option Config
config_in_limits config = if is_in_limits config then Some config else None

-- ---- commands

abbrev pub has_no_machine : Given → Bool
has_no_machine given = is_none given.cores && (is_none given.strands && (is_none given.ram && (is_none given.sets && is_none given.budget)))

abbrev pub is_bare : Given → Bool
is_bare given = has_no_machine given && (is_none given.seed && (is_none given.size && not given.brief))

abbrev pub run_command : Given → Option Command
run_command given =
    if is_none given.size then option_map (λ config. command.Run config given.seed given.brief) (config_in_limits (config_of given)) else None

abbrev pub live_command : Given → Option Command
live_command given =
    if is_none given.seed && (is_none given.size && not given.brief) then option_map command.Live (config_in_limits (config_of given)) else None

abbrev pub bare_command : Command → Given → Option Command
bare_command command given = if is_bare given then Some command else None

abbrev pub guest_command : Given → Option ℕ → Option ℕ → Option Command
guest_command given (Some seed) (Some size) =
    if has_no_machine given && (not given.brief && (nat_le 1 size && nat_le size 4000)) then Some (command.Gen seed size) else None
guest_command given (Some seed) None = None
guest_command given None size = None

unfoldable pub command_named : List ℕ → Given → Option Command
command_named name given =
    if bytes_eq name (codes "run") then run_command given else
    if bytes_eq name (codes "live") then live_command given else
    if bytes_eq name (codes "asm") then bare_command command.Asm given else
    if bytes_eq name (codes "dis") then bare_command command.Dis given else
    if bytes_eq name (codes "check") then bare_command command.Check given else
    if bytes_eq name (codes "gen") then guest_command given given.seed given.size else
    None

abbrev pub command_with : List ℕ → Option Given → Option Command
command_with name None = None
command_with name (Some given) = command_named name given

-- what the words ask for; None where they are not in the form
unfoldable pub command_of : List (List ℕ) → Option Command
command_of [] = None
command_of (name ∷ words) = command_with name (options_of words)

-- what is known of a command that the words ask for
abbrev pub IsCommand : Command → Type 0
IsCommand (command.Run config seed brief) = IsTrue (is_in_limits config)
IsCommand (command.Live config) = IsTrue (is_in_limits config)
IsCommand (command.Gen seed size) = (1 ≤ size) × (size ≤ 4000)
IsCommand command.Asm = ⊤
IsCommand command.Dis = ⊤
IsCommand command.Check = ⊤

-- ---- what is served on one thread

-- by turns, or by the generator of a seed
abbrev pub schedule_of : Option ℕ → Schedule
schedule_of None = schedule.Turns
schedule_of (Some seed) = schedule.Seed seed

-- a run of the machine, the assembler, the disassembler and the checker, a guest; not the run in threads
abbrev pub served : Option Command → Option Task
served None = None
served (Some (command.Run config seed brief)) = Some (task.Run (record { config = config; schedule = schedule_of seed; brief = brief }))
served (Some (command.Gen seed size)) = Some (task.Gen seed size)
served (Some (command.Live config)) = None
served (Some command.Asm) = Some task.Asm
served (Some command.Dis) = Some task.Dis
served (Some command.Check) = Some task.Check

abbrev pub task_of : List (List ℕ) → Option Task
task_of words = served (command_of words)

-- what is known of a task that the words ask for
abbrev pub IsTask : Task → Type 0
IsTask (task.Run run) = IsTrue (is_in_limits run.config)
IsTask task.Asm = ⊤
IsTask task.Dis = ⊤
IsTask task.Check = ⊤
IsTask (task.Gen seed size) = (1 ≤ size) × (size ≤ 4000)
