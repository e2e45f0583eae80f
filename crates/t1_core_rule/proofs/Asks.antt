-- What a load or an atomic asks for, the item that it makes, and what its reply does to a cache.
use Rattle.t1_shape.specs.Shapes.{Shape}
use Rattle.std.proofs.Common.{◌≡◌, ◌≤◌, ◌<◌, ℕ, ◌+◌, ◌==◌, List, take, Option, Some, None, refl, ap, sym, ◌∙◌, subst, inl, inr, arith}
use Rattle.std.proofs.lemmas.Bool.{cases_Bool}
use Rattle.t1_num.specs.Memory.{IsSize}
use Rattle.t1_shape.specs.Slots.{Line, victim_of}
use Rattle.t1_exec.specs.declared.need.Need.{Need}
use Rattle.t1_exec.specs.declared.need.Need.TheVariants as need
use Rattle.t1_exec.specs.declared.need.AtomicOp.TheVariants.{Swap, Cas}
use Rattle.t1_packet.specs.declared.cache.Cache.{Cache}
use Rattle.t1_packet.specs.declared.cache.Cache.TheVariants.{Dcache, Icache}
use Rattle.t1_packet.specs.Caches.{layout, filled_line, line_of, with_answer, pointers_with_answer}
use Rattle.t1_packet.specs.Ops.{op_addr, op_size, asked_way}
use Rattle.t1_l1.specs.Cache.{CacheState, ArePointers, victim_at}
use Rattle.t1_l1.proofs.Pointers.{victim_below}
use Rattle.t1_event.specs.declared.item.How.{How}
use Rattle.t1_event.specs.Kinds.{IsRead, IsAccess}
use Rattle.t1_event.specs.Log.{plain_op}
use Rattle.t1_event.specs.Records.{op_of}
use Rattle.t1_joint.specs.Proper.{IsReplyWay}
use Rattle.t1_joint.specs.CoreRule.{IsAsked}
use Rattle.t1_joint.proofs.Needs.{IsShapedNeed}
use Rattle.t1_strand_order.specs.Allowed.{IsLike}
use Rattle.t1_core.specs.Threads.{placed, read_item, op_for}
use Rattle.t1_core.specs.Takes.{fill_with}
use Rattle.t1_core.specs.Replays.{IsReading}
use Rattle.t1_core_rule.specs.Steady.{IsCache}
use Rattle.t1_core_rule.specs.Fitting.{cache_with}
use Rattle.t1_core_rule.proofs.Kills.{load_fill}
use Rattle.t1_core_rule.proofs.Pieces.{size_some}

-- ---- what it asks for

pub below : (ram a z : ℕ) → IsSize z → a + z ≤ ram → a < ram
below ram a z is l = let some = size_some z is in omega (arith, some, l)

pub op_fine : (chip : Shape) (ram : ℕ) (n : Need) (way : ℕ) → IsReading n → IsShapedNeed ram n → way < (layout chip Dcache).ways → IsAsked chip ram (op_for n way)
op_fine chip ram (need.Load a z) way r f w = (
  record { size_is = f.0.size_is; aligned = f.0.aligned },
  elim f.1 [ inl l ↦ inl (below ram a z f.0.size_is l) | inr io ↦ inr io ],
  w,
)
op_fine chip ram (need.Atomic a z (Swap new)) way r f w = (record { size_is = f.0.size_is; aligned = f.0.aligned }, below ram a z f.0.size_is f.1)
op_fine chip ram (need.Atomic a z (Cas expect new)) way r f w = (record { size_is = f.0.size_is; aligned = f.0.aligned }, below ram a z f.0.size_is f.1)
op_fine chip ram need.Plain way r f w = absurd r
op_fine chip ram need.Halt way r f w = absurd r
op_fine chip ram (need.Trap number) way r f w = absurd r
op_fine chip ram (need.Store a z p) way r f w = absurd r
op_fine chip ram (need.Membar mask) way r f w = absurd r
op_fine chip ram need.Flush way r f w = absurd r

pub way_below : (chip : Shape) (cache : Cache) (c : CacheState) (addr : ℕ) → IsCache chip cache c → 0 < (layout chip cache).ways → victim_at c addr < (layout chip cache).ways
way_below chip cache c addr is some =
    let ways : c.layout.ways ≡ (layout chip cache).ways = ap (λ g. g.ways) is.layout_is in
    subst (λ (n : ℕ). victim_at c addr < n) ways
    (victim_below c addr (subst (λ (n : ℕ). 0 < n) (sym ways) some) (subst (λ (n : ℕ). ArePointers n c.pointers) (sym ways) is.pointers_are))

pub data_victim : (chip : Shape) (dcache : CacheState) (slots : Cache → List (Option Line)) (pointers : Cache → List ℕ) (n : Need) (addr : ℕ) → ((a z : ℕ) → n ≡ need.Load a z → a ≡ addr) → IsReading n → (cache : Cache) (line : ℕ) → filled_line cache (op_for n (victim_at dcache addr)) ≡ Some line
    → dcache ≡ cache_with chip Dcache (slots Dcache) (pointers Dcache) → asked_way (op_for n (victim_at dcache addr)) ≡ victim_of (layout chip cache) (slots cache) (pointers cache) line
unfolding victim_at
data_victim chip dcache slots pointers (need.Load a z) addr f r Dcache line e is =
    let l : line_of Dcache a ≡ line = cc (e) in
    ap (λ (c : CacheState). victim_at c addr) is
    ∙ (ap (λ (m : ℕ). victim_of (layout chip Dcache) (slots Dcache) (pointers Dcache) (line_of Dcache m)) (sym (f a z refl))
    ∙ ap (λ (n : ℕ). victim_of (layout chip Dcache) (slots Dcache) (pointers Dcache) n) l)
data_victim chip dcache slots pointers (need.Load a z) addr f r Icache line e is = let clash : ◌≡◌ {A = Option ℕ} None (Some line) = e in cc
data_victim chip dcache slots pointers (need.Atomic a z (Swap new)) addr f r cache line e is = let clash : ◌≡◌ {A = Option ℕ} None (Some line) = e in cc
data_victim chip dcache slots pointers (need.Atomic a z (Cas expect new)) addr f r cache line e is = let clash : ◌≡◌ {A = Option ℕ} None (Some line) = e in cc
data_victim chip dcache slots pointers need.Plain addr f r cache line e is = absurd r
data_victim chip dcache slots pointers need.Halt addr f r cache line e is = absurd r
data_victim chip dcache slots pointers (need.Trap number) addr f r cache line e is = absurd r
data_victim chip dcache slots pointers (need.Store a z p) addr f r cache line e is = absurd r
data_victim chip dcache slots pointers (need.Membar mask) addr f r cache line e is = absurd r
data_victim chip dcache slots pointers need.Flush addr f r cache line e is = absurd r

pub read_kind : (n : Need) → IsReading n → IsRead (read_item n 0).kind
read_kind (need.Load a z) r = refl
read_kind (need.Atomic a z (Swap new)) r = refl
read_kind (need.Atomic a z (Cas expect new)) r = refl
read_kind need.Plain r = absurd r
read_kind need.Halt r = absurd r
read_kind (need.Trap number) r = absurd r
read_kind (need.Store a z p) r = absurd r
read_kind (need.Membar mask) r = absurd r
read_kind need.Flush r = absurd r

-- ---- what it makes, and its reply

-- the item of a load or an atomic
pub record IsValueOf (m : Need) (w : ℕ) (v : ℕ) (how : How) (way : Option ℕ) : Type 0 where
  pub access : IsAccess (read_item m v).kind
  pub size_is : op_size (op_for m w) ≡ (read_item m v).size
  pub op_is : plain_op (op_for m w) v way ≡ op_of (placed (read_item m v) how) way (read_item m v).kind
  pub got : (read_item m v).got ≡ v
  pub like : IsLike (read_item m v).kind (read_item m 0).kind
  pub addr : (read_item m v).addr ≡ (read_item m 0).addr
  pub size : (read_item m v).size ≡ (read_item m 0).size

pub value_of : (m : Need) (w v : ℕ) (how : How) (way : Option ℕ) → IsReading m → IsValueOf m w v how way
value_of (need.Load a z) w v how way r = record { access = refl; size_is = refl; op_is = refl; got = refl; like = refl; addr = refl; size = refl }
value_of (need.Atomic a z (Swap new)) w v how way r = record { access = refl; size_is = refl; op_is = refl; got = refl; like = tt; addr = refl; size = refl }
value_of (need.Atomic a z (Cas expect new)) w v how way r = record {
  access = refl;
  size_is = refl;
  op_is = elim (cases_Bool (v == expect)) [ inl e ↦ rw e refl | inr e ↦ rw e refl ];
  got = refl;
  like = tt;
  addr = refl;
  size = refl;
}
value_of need.Plain w v how way r = absurd r
value_of need.Halt w v how way r = absurd r
value_of (need.Trap number) w v how way r = absurd r
value_of (need.Store a z p) w v how way r = absurd r
value_of (need.Membar mask) w v how way r = absurd r
value_of need.Flush w v how way r = absurd r

-- an atomic's reply has no way, so nothing is filled
pub data_fill : (chip : Shape) (m : Need) (w : ℕ) (way : Option ℕ) (line : List ℕ) (sd : List (Option Line)) (pd : List ℕ) → IsReading m → IsReplyWay chip (op_for m w) way
    → fill_with (cache_with chip Dcache sd pd) (op_addr (op_for m w)) way (take 16 line)
    ≡ cache_with chip Dcache (with_answer chip Dcache (op_for m w) way line sd) (pointers_with_answer chip Dcache (op_for m w) way pd)
data_fill chip (need.Load a z) w way line sd pd r e = load_fill chip sd pd a z w way line
data_fill chip (need.Atomic a z (Swap new)) w way line sd pd r e = rw e refl
data_fill chip (need.Atomic a z (Cas expect new)) w way line sd pd r e = rw e refl
data_fill chip need.Plain w way line sd pd r e = absurd r
data_fill chip need.Halt w way line sd pd r e = absurd r
data_fill chip (need.Trap number) w way line sd pd r e = absurd r
data_fill chip (need.Store a z p) w way line sd pd r e = absurd r
data_fill chip (need.Membar mask) w way line sd pd r e = absurd r
data_fill chip need.Flush w way line sd pd r e = absurd r

pub data_keep : (chip : Shape) (m : Need) (w : ℕ) (way : Option ℕ) (line : List ℕ) (si : List (Option Line)) (pi : List ℕ) → IsReading m
    → cache_with chip Icache si pi ≡ cache_with chip Icache (with_answer chip Icache (op_for m w) way line si) (pointers_with_answer chip Icache (op_for m w) way pi)
data_keep chip (need.Load a z) w way line si pi r = refl
data_keep chip (need.Atomic a z (Swap new)) w way line si pi r = refl
data_keep chip (need.Atomic a z (Cas expect new)) w way line si pi r = refl
data_keep chip need.Plain w way line si pi r = absurd r
data_keep chip need.Halt w way line si pi r = absurd r
data_keep chip (need.Trap number) w way line si pi r = absurd r
data_keep chip (need.Store a z p) w way line si pi r = absurd r
data_keep chip (need.Membar mask) w way line si pi r = absurd r
data_keep chip need.Flush w way line si pi r = absurd r
