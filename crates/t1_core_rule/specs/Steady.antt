-- What a core keeps whatever packets come.
use Rattle.std.specs.Prelude.{ℕ, ◌≡◌, ◌≤◌, ◌<◌, List, [], ◌∷◌, length, Some}
use Rattle.std.specs.List.{slice_get}
use Rattle.t1_shape.specs.Shapes.{Shape}
use Rattle.t1_packet.specs.declared.cache.Cache.{Cache}
use Rattle.t1_packet.specs.declared.cache.Cache.TheVariants.{Dcache, Icache}
use Rattle.t1_packet.specs.Caches.{layout, width}
use Rattle.t1_packet.specs.Data.{RequestData}
use Rattle.t1_packet.specs.Ops.{op_dest}
use Rattle.t1_sbuf.specs.declared.entry.Entry.{Entry}
use Rattle.t1_l1.specs.Cache.{CacheState, ArePointers}
use Rattle.t1_joint.specs.Lists.{IsIn}
use Rattle.t1_joint.specs.Start.{Setup}
use Rattle.t1_joint.specs.Proper.{IsTime}
use Rattle.t1_joint.specs.CoreRule.{IsAsked, SeenAscends}
use Rattle.t1_received.specs.Laws.{ArePast}
use Rattle.t1_core.specs.Threads.{ThreadState}
use Rattle.t1_core.specs.Stores.{AreSent, store_op}
use Rattle.t1_core_rule.specs.Histories.{History}

-- a store of the buffer: as a core may ask for it, with the number of its destination
pub record IsGoodEntry (chip : Shape) (ram : ℕ) (e : Entry) : Type 0 where
  pub asked : IsAsked chip ram (store_op e)
  pub dest : e.dest ≡ op_dest chip (store_op e)

abbrev pub AreGoodEntries : Shape → ℕ → List Entry → Type 0
AreGoodEntries chip ram [] = Unit {0}
AreGoodEntries chip ram (e ∷ es) = IsGoodEntry chip ram e × AreGoodEntries chip ram es

-- a cache of the chip, whose pointers are ways
pub record IsCache (chip : Shape) (cache : Cache) (c : CacheState) : Type 0 where
  pub layout_is : c.layout ≡ layout chip cache
  pub width_is : c.width ≡ width cache
  pub pointers_are : ArePointers (layout chip cache).ways c.pointers

-- a request as this core sends it
pub record IsOwn (w : Setup) (core time : ℕ) (request : RequestData) : Type 0 where
  pub core_is : request.core ≡ core
  pub strand_is : request.strand < w.config.strands
  pub past : request.seen ≤ time
  pub asked : IsAsked w.config.chip w.config.ram request.op

pub record IsThread (chip : Shape) (ram : ℕ) (t : ThreadState) : Type 0 where
  pub sent : AreSent t.stores t.times
  pub good : AreGoodEntries chip ram t.stores

pub record IsSteady (w : Setup) (core : ℕ) (h : History) : Type 0 where
  pub chip : h.core.chip ≡ w.config.chip
  pub number : h.core.number ≡ core
  pub ram : h.core.ram ≡ w.config.ram
  pub size : length h.core.threads ≡ w.config.strands
  pub dcache : IsCache h.core.chip Dcache h.core.dcache
  pub icache : IsCache h.core.chip Icache h.core.icache
  pub time : IsTime h.received h.core.time
  pub past : ArePast h.core.time h.received
  pub own : (request : RequestData) → IsIn request h.sent → IsOwn w core h.core.time request
  pub sent_times : (request : RequestData) → IsIn request h.sent → IsTime h.received request.seen
  pub ascends : SeenAscends 0 h.sent
  pub threads : (s : ℕ) (t : ThreadState) → slice_get h.core.threads s ≡ Some t → IsThread w.config.chip w.config.ram t
