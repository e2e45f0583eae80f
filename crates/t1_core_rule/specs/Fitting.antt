-- Caches as their slots and pointers; and what a core keeps where the packets that came are proper.
use Rattle.std.specs.Prelude.{ℕ, ◌≡◌, ◌++◌, Bool, List, Option, Some}
use Rattle.std.specs.List.{slice_get}
use Rattle.t1_shape.specs.Shapes.{Shape}
use Rattle.t1_shape.specs.Slots.{Line}
use Rattle.t1_packet.specs.declared.cache.Cache.{Cache}
use Rattle.t1_packet.specs.declared.cache.Cache.TheVariants.{Dcache, Icache}
use Rattle.t1_packet.specs.Caches.{layout, width, filled_line}
use Rattle.t1_packet.specs.declared.packet.Packet.{Packet}
use Rattle.t1_packet.specs.Data.{RequestData, ReplyData}
use Rattle.t1_packet.specs.Ops.{asked_way}
use Rattle.t1_l1.specs.Cache.{CacheState}
use Rattle.t1_event.specs.declared.item.Item.{Item}
use Rattle.t1_event.specs.declared.item.How.TheVariants.{Commit}
use Rattle.t1_event.specs.Kinds.{IsAccess}
use Rattle.t1_event.specs.Times.{at_of}
use Rattle.t1_joint.specs.Lists.{IsIn}
use Rattle.t1_joint.specs.Start.{Setup}
use Rattle.t1_joint.specs.Parts.{answered}
use Rattle.t1_joint.specs.Proper.{IsTime, l1_by, pointers_by, victim_by}
use Rattle.t1_joint.specs.Waits.{HasItem}
use Rattle.t1_joint.specs.CoreRule.{HasCome}
use Rattle.t1_strand_order.specs.Kept.{IsKept}
use Rattle.t1_strand_order.specs.Places.{ArePlacedRightly}
use Rattle.t1_strand_order.specs.Laws.{one_destination}
use Rattle.t1_received.specs.Requests.{sent_to, of_class, GoTo}
use Rattle.t1_received.specs.Caches.{slots_by}
use Rattle.t1_core.specs.Threads.{ThreadState}
use Rattle.t1_core_rule.specs.Histories.{History}
use Rattle.t1_core_rule.specs.Outs.{stores_out, outs_at, track_of, AreEntriesOf}

abbrev pub cache_with : Shape → Cache → List (Option Line) → List ℕ → CacheState
cache_with chip cache slots pointers = record { layout = layout chip cache; width = width cache; slots = slots; pointers = pointers }

-- the item that a reply made, or placed, stands where it says
pub record IsMadeBy (threads : List ThreadState) (index : ℕ) (reply : ReplyData) : Type 0 where
  pub thread : ThreadState
  pub has_thread : slice_get threads reply.strand ≡ Some thread
  pub item : Item
  pub has : HasItem thread.items reply.item item
  pub access : IsAccess item.kind
  pub how : item.how ≡ Commit index reply.seen

-- one strand of the core of this number, over the packets that came, with the units of its run
pub record IsFittingThread (chip : Shape) (number ram clock budget : ℕ) (received : List Packet) (strand : ℕ) (t : ThreadState) : Type 0 where
  pub budget_is : t.budget ≡ budget
  -- program order, times and places
  pub kept : IsKept (one_destination chip) (track_of ram clock t)
  pub right : ArePlacedRightly chip ram (slots_by chip number received) (track_of ram clock t)
  pub entries : AreEntriesOf t.items t.stores
  pub times : (k : ℕ) (x : Item) → HasItem t.items k x → IsTime received (at_of x.how)
  -- what it has out, and what answered it
  pub way : (d : ℕ) × GoTo chip d (stores_out number strand t.stores t.times)
  pub came : (k n seen : ℕ) (x : Item) → HasItem t.items k x → x.how ≡ Commit n seen → HasCome received strand k n seen x

pub record IsFitting (w : Setup) (h : History) : Type 0 where
  -- the requests without a reply, by destination, are what the strands have out
  pub rest : ℕ → List RequestData
  pub are : (d : ℕ) → answered h.core.chip h.core.number d h.received ++ rest d ≡ sent_to h.core.chip d h.sent
  pub out : (s : ℕ) (stores : Bool) (d : ℕ) → of_class s stores (rest d) ≡ sent_to h.core.chip d (outs_at h.core.number s h.core.ram stores (slice_get h.core.threads s))
  pub threads : (s : ℕ) (t : ThreadState) → slice_get h.core.threads s ≡ Some t
      → IsFittingThread h.core.chip h.core.number h.core.ram h.core.time w.config.budget h.received s t
  pub replies : (packet : Packet) (reply : ReplyData) → IsIn packet h.received → packet.reply ≡ Some reply → IsMadeBy h.core.threads packet.index reply
  -- the caches are those of the packets
  pub dcache : h.core.dcache ≡ cache_with h.core.chip Dcache (l1_by h.core.chip h.core.number h.received h.core.time Dcache) (pointers_by h.core.chip h.received h.core.time Dcache)
  pub icache : h.core.icache ≡ cache_with h.core.chip Icache (l1_by h.core.chip h.core.number h.received h.core.time Icache) (pointers_by h.core.chip h.received h.core.time Icache)
  -- a fetch or load asked for the victim of its cache
  pub ways : (r : RequestData) (cache : Cache) (line : ℕ) → IsIn r h.sent → filled_line cache r.op ≡ Some line
      → asked_way r.op ≡ victim_by h.core.chip h.core.number h.received r.seen cache line
