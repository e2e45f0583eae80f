-- The lines on err that tell why an input is refused or how its run ended.
use Rattle.std.specs.Prelude.{ℕ, List, ◌++◌, codes, decimal}
use Rattle.t1_elf.specs.declared.error.ElfError.{ElfError}
use Rattle.t1_elf.specs.declared.error.ElfError.TheVariants as elf
use Rattle.t1_log.specs.Hex.{hex_of}
use Rattle.t1_stmt.specs.declared.fault.Fault.{Fault}
use Rattle.t1_stmt.specs.declared.fault.Fault.TheVariants as fault
use Rattle.t1_cli.specs.declared.refusal.Refusal.{Refusal}
use Rattle.t1_read.specs.declared.error.LogKind.{LogKind}
use Rattle.t1_read.specs.declared.error.LogKind.TheVariants as kind
use Rattle.t1_cli.specs.declared.refusal.Refusal.TheVariants.{TooLong, Misformed, Faulty, NoLog}

-- the name of a kind of fault of a file
abbrev pub name_of : ElfError → List ℕ
name_of elf.TooShort = codes "TooShort"
name_of elf.NotElf = codes "NotElf"
name_of elf.WrongClass = codes "WrongClass"
name_of elf.WrongOrder = codes "WrongOrder"
name_of elf.WrongMachine = codes "WrongMachine"
name_of elf.WrongType = codes "WrongType"
name_of elf.BadHeader = codes "BadHeader"
name_of elf.Dynamic = codes "Dynamic"
name_of elf.NoSegment = codes "NoSegment"
name_of elf.SegmentOutside = codes "SegmentOutside"
name_of elf.EntryOutside = codes "EntryOutside"
name_of elf.EntryMisaligned = codes "EntryMisaligned"
name_of elf.OutOfMemory = codes "OutOfMemory"

-- the name of a kind of fault of an assembly text
abbrev pub fault_name_of : Fault → List ℕ
fault_name_of fault.Syntax = codes "Syntax"
fault_name_of fault.UnknownName = codes "UnknownName"
fault_name_of fault.BadOperand = codes "BadOperand"
fault_name_of fault.OutOfRange = codes "OutOfRange"
fault_name_of fault.DuplicateLabel = codes "DuplicateLabel"
fault_name_of fault.MissingLabel = codes "MissingLabel"
fault_name_of fault.TooLong = codes "TooLong"

-- the name of a kind of fault of a log
abbrev pub kind_name_of : LogKind → List ℕ
kind_name_of kind.Version = codes "Version"
kind_name_of kind.Syntax = codes "Syntax"
kind_name_of kind.Range = codes "Range"
kind_name_of kind.Unended = codes "Unended"
kind_name_of kind.OutOfMemory = codes "OutOfMemory"

abbrev pub elf_line : ElfError → List ℕ
elf_line error = codes "t1sim: elf " ++ (name_of error ++ codes "\n")

abbrev pub asm_line : ℕ → Fault → List ℕ
asm_line line fault = codes "t1sim: asm line " ++ (decimal line ++ (codes ": " ++ (fault_name_of fault ++ codes "\n")))

abbrev pub log_line : ℕ → LogKind → List ℕ
log_line line fault = codes "t1sim: log line " ++ (decimal line ++ (codes ": " ++ (kind_name_of fault ++ codes "\n")))

abbrev pub refusal_line : Refusal → List ℕ
refusal_line TooLong = codes "t1sim: input too long\n"
refusal_line (Misformed error) = elf_line error
refusal_line (Faulty line fault) = asm_line line fault
refusal_line (NoLog line fault) = log_line line fault

abbrev pub fault_line : ℕ → ℕ → ℕ → List ℕ
fault_line strand number pc =
    codes "t1sim: strand " ++ (decimal strand ++ (codes " fault " ++ (hex_of 3 number ++ (codes " at " ++ (hex_of 16 pc ++ codes "\n")))))

abbrev pub spent_line : ℕ → List ℕ
spent_line strand = codes "t1sim: strand " ++ (decimal strand ++ codes " spent\n")
