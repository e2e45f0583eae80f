-- The end of a core's run.
use Rattle.std.specs.Prelude.{ℕ, ◌&&◌, Bool, true, false, List, [], ◌∷◌, map, Option, Some, None}
use Rattle.t1_sbuf.specs.declared.entry.Entry.{Entry}
use Rattle.t1_event.specs.declared.trace.Ending.{Ending}
use Rattle.t1_event.specs.declared.trace.Trace.{Trace}
use Rattle.t1_core.specs.declared.phase.Phase.{Phase}
use Rattle.t1_core.specs.declared.phase.Phase.TheVariants as phase
use Rattle.t1_core.specs.Threads.{ThreadState}
use Rattle.t1_core.specs.Steps.{CoreState}

abbrev pub ending_of : Phase → Option Ending
ending_of (phase.Ended e) = Some e
ending_of phase.Fetch = None
ending_of (phase.Have word) = None
ending_of (phase.OutFetch way seen) = None
ending_of (phase.OutData word way seen) = None

abbrev pub has_no_store : List Entry → Bool
has_no_store [] = true
has_no_store (e ∷ es) = false

abbrev pub is_over_in : Phase → List Entry → Bool
is_over_in (phase.Ended e) es = has_no_store es
is_over_in phase.Fetch es = false
is_over_in (phase.Have word) es = false
is_over_in (phase.OutFetch way seen) es = false
is_over_in (phase.OutData word way seen) es = false

-- a strand has ended, with an empty buffer
abbrev pub is_over : ThreadState → Bool
is_over t = is_over_in t.phase t.stores

abbrev pub all_over : List ThreadState → Bool
all_over [] = true
all_over (t ∷ ts) = is_over t && all_over ts

-- all strands of a core are over
abbrev pub finished_of : CoreState → Bool
finished_of c = all_over c.threads

-- the trace of a strand
abbrev pub trace_of : ThreadState → Trace
trace_of t = record { items = t.items; units = t.strand.units; pc = t.strand.pc; ending = ending_of t.phase }

abbrev pub traces_of : CoreState → List Trace
traces_of c = map trace_of c.threads
