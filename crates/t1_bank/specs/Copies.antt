-- The kills of an access by look-ups: only the addresses whose copies may have to go are looked for.
use Rattle.std.specs.Prelude.{ℕ, zero, suc, ◌+◌, ◌==◌, ◌<◌, ◌++◌, Bool, true, false, List, [], ◌∷◌, Option, Some, None}
use Rattle.t1_shape.specs.Shapes.{Shape}
use Rattle.t1_shape.specs.Slots.{slot_of}
use Rattle.t1_packet.specs.declared.cache.Cache.{Cache}
use Rattle.t1_packet.specs.declared.cache.Cache.TheVariants.{Dcache, Icache}
use Rattle.t1_packet.specs.declared.op.Op.{Op}
use Rattle.t1_packet.specs.declared.op.Op.TheVariants.{Fetch, Load, Store, Swap, Cas}
use Rattle.t1_packet.specs.Data.{KillData}
use Rattle.t1_packet.specs.Caches.{layout, line_of}
use Rattle.t1_dir.specs.Directory.{DirectoryState, HasCore, tags_at}
use Rattle.t1_event.specs.Kills.{kill_at}

-- the copies of these addresses' lines that one core and cache shows, as kills
abbrev pub copy_at : Shape → ℕ → Cache → Option ℕ → List KillData
copy_at shape core cache None = []
copy_at shape core cache (Some slot) = kill_at shape core cache slot ∷ []

abbrev pub copies_of : DirectoryState → ℕ → Cache → List ℕ → List KillData
copies_of d core cache [] = []
copies_of d core cache (addr ∷ addrs) =
    copy_at d.shape core cache (slot_of (layout d.shape cache) (tags_at d core cache) (line_of cache addr)) ++ copies_of d core cache addrs

-- where the copies that have to go may stand: in the line that was evicted; else in the line that is
-- written. Where a line is evicted the accessed one was absent, and so is shown nowhere
abbrev pub doomed_data : Bool → Option ℕ → Op → List ℕ
doomed_data own (Some evicted) op = evicted ∷ (evicted + 16) ∷ (evicted + 32) ∷ (evicted + 48) ∷ []
doomed_data own None (Fetch addr way) = []
doomed_data own None (Load addr size way) = []
doomed_data true None (Store addr size value) = []
doomed_data false None (Store addr size value) = addr ∷ []
doomed_data own None (Swap addr size new) = addr ∷ []
doomed_data own None (Cas addr size expect new) = []

abbrev pub doomed_insn : Option ℕ → Op → List ℕ
doomed_insn (Some evicted) op = evicted ∷ (evicted + 32) ∷ []
doomed_insn None (Fetch addr way) = []
doomed_insn None (Load addr size way) = []
doomed_insn None (Store addr size value) = addr ∷ []
doomed_insn None (Swap addr size new) = addr ∷ []
doomed_insn None (Cas addr size expect new) = []

-- the kills of the first cores
abbrev pub copies_below : DirectoryState → ℕ → Option ℕ → Op → ℕ → List KillData
copies_below d asker evicted op zero = []
copies_below d asker evicted op (suc core) =
    copies_below d asker evicted op core
    ++ copies_of d core Dcache (doomed_data (asker == core) evicted op)
    ++ copies_of d core Icache (doomed_insn evicted op)

-- the directory has these cores
abbrev pub HasCores : DirectoryState → ℕ → Type 0
HasCores d cores = (core : ℕ) → core < cores → HasCore d core

-- each kill is of one of these cores, and of a set and a way of its cache
abbrev pub AreOfCaches : Shape → ℕ → List KillData → Type 0
AreOfCaches shape cores [] = Unit {0}
AreOfCaches shape cores (kill ∷ kills) =
    ((kill.core < cores) × (kill.set < (layout shape kill.cache).sets) × (kill.way < (layout shape kill.cache).ways)) × AreOfCaches shape cores kills
