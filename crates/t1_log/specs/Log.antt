-- The log of a report: what was done, where each access stands, what the destinations served, and the
-- memory order.
use Rattle.std.specs.Prelude.{ℕ, ◌+◌, ◌/◌, IsTrue, List, [], ◌∷◌, ◌++◌, length, codes, decimal, Option, Some, None}
use Rattle.t1_packet.specs.declared.cache.Cache.{Cache}
use Rattle.t1_packet.specs.declared.cache.Cache.TheVariants.{Dcache, Icache}
use Rattle.t1_packet.specs.Data.{KillData}
use Rattle.t1_event.specs.declared.item.Item.{Item}
use Rattle.t1_event.specs.declared.item.How.{How}
use Rattle.t1_event.specs.declared.item.How.TheVariants as how
use Rattle.t1_event.specs.declared.commit.Commit.{Commit}
use Rattle.t1_event.specs.declared.report.Report.{Report}
use Rattle.t1_event.specs.declared.trace.Trace.{Trace}
use Rattle.t1_event.specs.Printable.{IsPrintableReport}
use Rattle.t1_log.specs.Hex.{hex_of, hex_of_bytes}
use Rattle.t1_log.specs.Lines.{is_first, item_fields_of, last_line_of, end_line}
use Rattle.t1_log.specs.Texts.{lines_from, blocks_from, head_lines_of, order_lines_of}

abbrev pub version_line : List ℕ
version_line = codes "t1log 1\n"

-- ---- strands

-- where an access stands: the time of a forwarded load or a hit, the index and `seen` of a commit
unfoldable pub place_fields_of : How → List ℕ
place_fields_of how.Unplaced = []
place_fields_of (how.Forward time) = codes " F " ++ decimal time
place_fields_of (how.Hit time) = codes " H " ++ decimal time
place_fields_of (how.Commit index seen) = codes " M " ++ (decimal index ++ (codes " " ++ decimal seen))

-- an item of a strand, at its number
unfoldable pub item_line_of : ℕ → ℕ → Item → List ℕ
item_line_of strand number item =
    codes "i " ++ (decimal strand ++ (codes " " ++ (decimal number ++ (codes " " ++ (item_fields_of item ++ (place_fields_of item.how ++ codes "\n"))))))

-- a strand: its items, and its end
unfoldable pub trace_lines_of : ℕ → Trace → List ℕ
trace_lines_of strand trace = lines_from (item_line_of strand) 0 trace.items ++ last_line_of strand trace

-- ---- commits

abbrev pub cache_letter : Cache → List ℕ
cache_letter Dcache = codes "d"
cache_letter Icache = codes "i"

-- a killed copy: core, cache, set and way
unfoldable pub kill_field_of : KillData → List ℕ
kill_field_of kill =
    codes " " ++ (decimal kill.core ++ (codes "." ++ (cache_letter kill.cache ++ (codes "." ++ (decimal kill.set ++ (codes "." ++ decimal kill.way))))))

unfoldable pub kill_fields_of : List KillData → List ℕ
kill_fields_of [] = []
kill_fields_of (kill ∷ kills) = kill_field_of kill ++ kill_fields_of kills

-- the way that was filled, or a dash
abbrev pub way_field_of : Option ℕ → List ℕ
way_field_of None = codes "-"
way_field_of (Some way) = decimal way

-- the address of the line that was evicted, or a dash
abbrev pub evicted_field_of : Option ℕ → List ℕ
evicted_field_of None = codes "-"
evicted_field_of (Some addr) = hex_of 10 addr

-- what a commit is of, at its index: destination, strand, item
unfoldable pub commit_head_of : ℕ → Commit → List ℕ
commit_head_of index commit =
    codes "c " ++ (decimal index ++ (codes " " ++ (decimal commit.dest ++ (codes " " ++ (decimal commit.strand ++ (codes " " ++ (decimal commit.item ++ codes " ")))))))

-- a commit: what it is of, the way that it filled, the line that was evicted for it, its kills
unfoldable pub commit_line_of : ℕ → Commit → List ℕ
commit_line_of index commit =
    commit_head_of index commit ++ (way_field_of commit.way ++ (codes " " ++ (evicted_field_of commit.evicted ++ (kill_fields_of commit.kills ++ codes "\n"))))

-- ---- the console

-- some bytes that reached the console
unfoldable pub console_line_of : ℕ → List ℕ → List ℕ
console_line_of number bytes = codes "k " ++ (hex_of_bytes bytes ++ codes "\n")

-- the console's bytes, 32 in each line but the last
abbrev pub console_lines_of : List ℕ → List ℕ
console_lines_of bytes = lines_from console_line_of 0 (blocks_from ((length bytes + 31) / 32) bytes)

-- ---- all

-- a report that version 1 of the log can print
pub record HasLog (report : Report) : Type 0 where
  pub printable : IsPrintableReport report
  pub first : IsTrue (is_first report.config)

-- the machine and the image, the strands, the commits, the memory order, the console
unfoldable pub text_of : Report → List ℕ
text_of report =
    head_lines_of version_line report.config report.image
    ++ (lines_from trace_lines_of 0 report.traces
    ++ (lines_from commit_line_of 0 report.log
    ++ (order_lines_of report.order
    ++ (console_lines_of report.console ++ end_line))))
