-- The two caches of a core by the packets that it received, slots and pointers together.
use Rattle.std.specs.Prelude.{ℕ, List}
use Rattle.t1_shape.specs.Shapes.{Shape}
use Rattle.t1_packet.specs.declared.cache.Cache.{Cache}
use Rattle.t1_packet.specs.declared.packet.Packet.{Packet}
use Rattle.t1_joint.specs.Rows.{Caches}
use Rattle.t1_joint.specs.Proper.{l1_by, pointers_by}

-- the slots of each cache by time
abbrev pub slots_by : Shape → ℕ → List Packet → Caches
slots_by shape core received = λ t cache. l1_by shape core received t cache

-- the pointers of the sets of each cache by time
abbrev pub pointers_at : Shape → List Packet → ℕ → Cache → List ℕ
pointers_at shape received = λ t cache. pointers_by shape received t cache
