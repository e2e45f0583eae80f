-- The console: a store of one byte to the first address of I/O space puts that byte on it (this
-- project's profile).
use Rattle.std.specs.Prelude.{ℕ, ◌%◌, ◌^◌, ◌==◌, ◌&&◌, if◌then◌else◌, List, [], ◌∷◌, Option, Some, None}
use Rattle.t1_packet.specs.declared.op.Op.{Op}
use Rattle.t1_packet.specs.declared.op.Op.TheVariants.{Fetch, Load, Store, Swap, Cas}
use Rattle.t1_event.specs.declared.commit.Commit.{Commit}

abbrev pub console_addr : ℕ
console_addr = 2 ^ 39

-- the byte that an access puts on the console, or none
abbrev pub console_byte_of : Op → Option ℕ
console_byte_of (Store addr size value) = if (addr == console_addr) && (size == 1) then Some (value % 256) else None
console_byte_of (Fetch addr way) = None
console_byte_of (Load addr size way) = None
console_byte_of (Swap addr size new) = None
console_byte_of (Cas addr size expect new) = None

abbrev pub with_byte : Option ℕ → List ℕ → List ℕ
with_byte None bytes = bytes
with_byte (Some byte) bytes = byte ∷ bytes

-- what a log puts on the console, in order
abbrev pub console_of : List Commit → List ℕ
console_of [] = []
console_of (commit ∷ commits) = with_byte (console_byte_of commit.op) (console_of commits)
