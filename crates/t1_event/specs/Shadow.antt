-- Directories and L2 arrays by a log: what the banks' commits made of them.
use Rattle.std.specs.Prelude.{ℕ, zero, suc, ◌==◌, if◌then◌else◌, List, Option, Some, None}
use Rattle.std.specs.List.{slice_get}
use Rattle.t1_shape.specs.Shapes.{Shape}
use Rattle.t1_shape.specs.Slots.{with_fill}
use Rattle.t1_packet.specs.declared.cache.Cache.{Cache}
use Rattle.t1_packet.specs.Caches.{layout, filled_line, with_kills}
use Rattle.t1_l2.specs.Array.{ArrayState, array_start}
use Rattle.t1_dir.specs.Directory.{no_tags}
use Rattle.t1_event.specs.declared.commit.Commit.{Commit}
use Rattle.t1_event.specs.Log.{core_of}
use Rattle.t1_event.specs.BankRule.{array_after}

-- ---- directories: the tags of one core and cache, over the sets of all banks

-- a commit's kills, and then, where the core asked, its fill
abbrev pub with_commit : Shape → ℕ → ℕ → Cache → List (Option ℕ) → Option Commit → List (Option ℕ)
with_commit shape strands core cache tags None = tags
with_commit shape strands core cache tags (Some commit) =
    let left = with_kills shape core cache commit.kills tags in
    if core_of strands commit == core then with_fill (layout shape cache) (filled_line cache commit.op) commit.way (λ line. line) left else left

-- what the directories show of a core's cache after the first n commits; a set is of one bank
abbrev pub directory_at : Shape → ℕ → List Commit → ℕ → Cache → ℕ → List (Option ℕ)
directory_at shape strands log core cache zero = no_tags shape cache
directory_at shape strands log core cache (suc n) = with_commit shape strands core cache (directory_at shape strands log core cache n) (slice_get log n)

-- ---- arrays: the lines that are present in a bank's L2

abbrev pub array_with : ℕ → ArrayState → Option Commit → ArrayState
array_with bank a None = a
array_with bank a (Some commit) = if commit.dest == bank then array_after a commit.op else a

-- a bank's array after its commits among the first n
abbrev pub present_at : Shape → ℕ → List ℕ → List Commit → ℕ → ℕ → ArrayState
present_at shape sets image log bank zero = array_start shape bank sets image
present_at shape sets image log bank (suc n) = array_with bank (present_at shape sets image log bank n) (slice_get log n)
