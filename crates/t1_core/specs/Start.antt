-- The start of a core.
use Rattle.std.specs.Prelude.{ℕ, zero, suc, ◌+◌, ◌*◌, List, [], ◌∷◌}
use Rattle.t1_state.specs.declared.strand.Strand.{Strand}
use Rattle.t1_packet.specs.declared.cache.Cache.TheVariants.{Dcache, Icache}
use Rattle.t1_packet.specs.Caches.{layout, width}
use Rattle.t1_event.specs.declared.report.Config.{Config}
use Rattle.t1_l1.specs.Cache.{empty_cache}
use Rattle.t1_select.specs.Queue.{counted}
use Rattle.t1_joint.specs.Start.{start_in}
use Rattle.t1_core.specs.declared.phase.Phase.TheVariants as phase
use Rattle.t1_core.specs.Threads.{ThreadState}
use Rattle.t1_core.specs.Steps.{CoreState}

-- a strand that has done nothing
abbrev pub first_thread : Strand → ℕ → ThreadState
first_thread s budget = record { strand = s; phase = phase.Fetch; stores = []; times = []; items = []; budget = budget }

-- n strands, which are numbered over all cores, from a number on
unfoldable pub threads_from : Config → ℕ → ℕ → ℕ → List ThreadState
threads_from config entry number zero = []
threads_from config entry number (suc n) = first_thread (start_in config entry number) config.budget ∷ threads_from config entry (number + 1) n

unfoldable pub new_core : Config → ℕ → ℕ → CoreState
new_core config core entry = record {
  chip = config.chip;
  number = core;
  threads = threads_from config entry (core * config.strands) config.strands;
  dcache = empty_cache (layout config.chip Dcache) (width Dcache);
  icache = empty_cache (layout config.chip Icache) (width Icache);
  time = 0;
  ram = config.ram;
  turns = counted 0 config.strands;
}
