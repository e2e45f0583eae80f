-- Coverage of a machine's state: what the L1 caches hold, once the packets in flight are applied, is what the
-- banks' directories show.
use Rattle.std.specs.Prelude.{ℕ, ◌≡◌, ◌/◌, ◌<◌, List, [], ◌++◌, length, get_or, Option, Some, None}
use Rattle.std.specs.List.{slice_get}
use Rattle.t1_shape.specs.Shapes.{Shape}
use Rattle.t1_shape.specs.Slots.{Line, slots_in, tags_of}
use Rattle.t1_packet.specs.declared.cache.Cache.{Cache}
use Rattle.t1_packet.specs.declared.cache.Cache.TheVariants.{Dcache, Icache}
use Rattle.t1_packet.specs.declared.packet.Packet.{Packet}
use Rattle.t1_packet.specs.Caches as caches
use Rattle.t1_packet.specs.Caches.{layout}
use Rattle.t1_dir.specs.Directory.{tags_at}
use Rattle.t1_joint.specs.Parts.{posts_from}
use Rattle.t1_joint.specs.Proper.{slots_after}
use Rattle.t1_core.specs.Steps.{CoreState}
use Rattle.t1_machine.specs.Machine.{MachineState, bank_of}

abbrev pub slots_of : Cache → CoreState → List (Option Line)
slots_of Dcache core = core.dcache.slots
slots_of Icache core = core.icache.slots

-- the bank of a slot, by its set: neighbouring 64-byte lines are of neighbouring banks, so that four sets of a
-- data cache, and two of an instruction cache, are of one bank
abbrev pub bank_of_slot : Shape → Cache → ℕ → ℕ
bank_of_slot shape cache slot = caches.bank_of shape cache (slot / (layout shape cache).ways)

-- the packets that a core is to take: those of its reply ring, and then those that what a destination served
-- will post to it
abbrev pub in_flight : MachineState → ℕ → ℕ → List Packet
in_flight m core dest = get_or m.replies core [] ++ posts_from core (length m.xbar.log) (get_or m.served dest [])

-- the tags of a core's cache once these came
abbrev pub tags_with : MachineState → ℕ → CoreState → Cache → ℕ → List (Option ℕ)
tags_with m c core cache dest = tags_of (slots_after m.chip c cache (slots_of cache core) (in_flight m c dest))

-- what a bank's directory shows of a core's cache
abbrev pub shown_by : MachineState → ℕ → ℕ → Cache → List (Option ℕ)
shown_by m bank core cache = tags_at (bank_of m.banks bank).directory core cache

-- in each slot of each core's caches, the tag once the packets in flight from the bank of its set came is the
-- one that this bank's directory shows
abbrev pub IsCoveredState : MachineState → Type 0
IsCoveredState m =
    (c slot : ℕ) (cache : Cache) (core : CoreState) → slice_get m.cores c ≡ Some core → slot < slots_in (layout m.chip cache)
    → get_or (tags_with m c core cache (bank_of_slot m.chip cache slot)) slot None ≡ get_or (shown_by m (bank_of_slot m.chip cache slot) c cache) slot None
