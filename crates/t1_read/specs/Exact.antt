-- The log of a well-formed report reads as that report.
use Rattle.std.specs.Prelude.{ℕ, ◌≡◌, ◌<◌, List, length, get_or, Result, MatchResult}
use Rattle.t1_num.specs.MemoryLaws.{AreBytes}
use Rattle.t1_event.specs.declared.report.Report.{Report}
use Rattle.t1_read.specs.declared.error.LogError.{LogError}
use Rattle.t1_read.specs.declared.error.LogKind.TheVariants.{OutOfMemory}

-- this was read, or memory was wanting
abbrev pub IsRead : {A : Type 0} → Result A LogError → (A → Type 0) → Type 0
IsRead result P = MatchResult result P (λ e. e.kind ≡ OutOfMemory)

-- something follows, and it begins otherwise
pub record NextIsNot (byte : ℕ) (rest : List ℕ) : Type 0 where
  pub some : 0 < length rest
  pub other : get_or rest 0 0 ≡ byte → ⊥

-- the memory and the console hold bytes, as their types say
pub record HasBytes (report : Report) : Type 0 where
  pub image : AreBytes report.image.ram
  pub console : AreBytes report.console
