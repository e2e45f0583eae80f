-- The log: the record of each access that a destination served, in the order of admission.
use Rattle.std.specs.Prelude.{ℕ, zero, suc, ◌+◌, ◌*◌, ◌/◌, ◌==◌, if◌then◌else◌, List, Option, Some, None}
use Rattle.std.specs.List.{slice_get}
use Rattle.t1_num.specs.Memory.{with_number_at}
use Rattle.t1_packet.specs.declared.op.Op.{Op}
use Rattle.t1_packet.specs.declared.op.Op.TheVariants.{Fetch, Load, Store, Swap, Cas}
use Rattle.t1_packet.specs.declared.served.Served.{Served}
use Rattle.t1_event.specs.declared.commit.Commit.{Commit}

-- ---- a record

-- a filled way, or 0 where there is none
abbrev pub way_or_zero : Option ℕ → ℕ
way_or_zero None = 0
way_or_zero (Some way) = way

-- the plain form of an op: a fetch or load with the way that was filled, and a compare as what it did:
-- a swap where the old value was the expected one, and else a compare of zeros, which never wrote
abbrev pub plain_op : Op → ℕ → Option ℕ → Op
plain_op (Fetch addr asked) old way = Fetch addr (way_or_zero way)
plain_op (Load addr size asked) old way = Load addr size (way_or_zero way)
plain_op (Store addr size value) old way = Store addr size value
plain_op (Swap addr size new) old way = Swap addr size new
plain_op (Cas addr size expect new) old way = if old == expect then Swap addr size new else Cas addr size 0 0

-- the old value that is kept: none of a store
abbrev pub kept_old : Op → ℕ → ℕ
kept_old (Store addr size value) old = 0
kept_old (Fetch addr asked) old = old
kept_old (Load addr size asked) old = old
kept_old (Swap addr size new) old = old
kept_old (Cas addr size expect new) old = old

-- the record of an access that a destination served; its strand is counted over all cores
abbrev pub commit_of : ℕ → ℕ → Served → Commit
commit_of strands dest served = record {
  dest = dest;
  strand = served.request.core * strands + served.request.strand;
  item = served.request.item;
  op = plain_op served.request.op served.old served.way;
  seen = served.request.seen;
  old = kept_old served.request.op served.old;
  way = served.way;
  evicted = served.evicted;
  kills = served.kills;
}

-- the core that asked
abbrev pub core_of : ℕ → Commit → ℕ
core_of strands commit = commit.strand / strands

-- ---- memory by a log

-- memory after an access in its plain form; a write beyond the memory, as into I/O, changes nothing
abbrev pub written : List ℕ → Op → List ℕ
written memory (Store addr size value) = with_number_at memory addr size value
written memory (Swap addr size new) = with_number_at memory addr size new
written memory (Fetch addr way) = memory
written memory (Load addr size way) = memory
written memory (Cas addr size expect new) = memory

abbrev pub written_by : List ℕ → Option Commit → List ℕ
written_by memory None = memory
written_by memory (Some commit) = written memory commit.op

-- memory after the first n commits
abbrev pub memory_at : List ℕ → List Commit → ℕ → List ℕ
memory_at image log zero = image
memory_at image log (suc n) = written_by (memory_at image log n) (slice_get log n)
