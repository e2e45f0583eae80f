-- The ways, lines and old values that a destination may serve.
use Rattle.std.proofs.Common.{◌≡◌, ℕ, ◌+◌, ◌*◌, ◌%◌, ◌^◌, ◌<◌, ◌≤◌, true, List, replicate, Option, Some, None, refl, ap, arith}
use Rattle.t1_shape.specs.Shapes.{Shape}
use Rattle.t1_shape.specs.Numbers.{l2_line}
use Rattle.t1_shape.specs.Slots.{slot_of}
use Rattle.t1_space.specs.Places.{is_io}
use Rattle.t1_packet.specs.declared.cache.Cache.{Cache}
use Rattle.t1_packet.specs.declared.cache.Cache.TheVariants.{Dcache, Icache}
use Rattle.t1_packet.specs.declared.op.Op.{Op}
use Rattle.t1_packet.specs.declared.op.Op.TheVariants.{Fetch, Load, Store, Swap, Cas}
use Rattle.t1_packet.specs.Ops.{op_addr}
use Rattle.t1_packet.specs.Caches.{layout, width, line_of, filled_line}
use Rattle.t1_event.specs.Kills.{way_for, fill_way_in}
use Rattle.t1_event.specs.Posts.{reply_line}
use Rattle.t1_event.specs.Kills.{fill_way}
use Rattle.t1_packet.specs.Ops.{asked_way}
use Rattle.t1_joint.specs.Proper.{IsReplyWay, IsIoZero}
use Rattle.t1_joint.specs.CoreRule.{IsAsked}
use Rattle.std.proofs.lemmas.Nat.{pow_pos}
use Rattle.t1_packet.proofs.Caches.{way_below}

-- ---- ways

pub fill_same : (shape : Shape) (shown shown' : ℕ → Cache → List (Option ℕ)) (asker : ℕ) (op : Op) → ((cache : Cache) → shown asker cache ≡ shown' asker cache) → fill_way shape shown asker op ≡ fill_way shape shown' asker op
fill_same shape shown shown' asker (Fetch addr asked) same = ap (λ (ts : List (Option ℕ)). Some (fill_way_in shape Icache ts (line_of Icache addr) asked)) (same Icache)
fill_same shape shown shown' asker (Load addr size asked) same = ap (λ (ts : List (Option ℕ)). Some (fill_way_in shape Dcache ts (line_of Dcache addr) asked)) (same Dcache)
fill_same shape shown shown' asker (Store addr size value) same = refl
fill_same shape shown shown' asker (Swap addr size new) same = refl
fill_same shape shown shown' asker (Cas addr size expect new) same = refl

-- the way of a fill is one of the cache
pub way_small : (shape : Shape) (cache : Cache) (tags : List (Option ℕ)) (line asked : ℕ) → asked < (layout shape cache).ways → fill_way_in shape cache tags line asked < (layout shape cache).ways
way_small shape cache tags line asked l = by (slot_of (layout shape cache) tags line)
  where
    by : (o : Option ℕ) → way_for (layout shape cache) o asked < (layout shape cache).ways
    by None = l
    by (Some slot) = way_below shape cache slot

-- what a fill of an asked access is
pub record IsFill (shape : Shape) (shown : ℕ → Cache → List (Option ℕ)) (asker : ℕ) (op : Op) (cache : Cache) (line : ℕ) : Type 0 where
  pub way : ℕ
  pub is : fill_way shape shown asker op ≡ Some way
  pub way_is : way ≡ fill_way_in shape cache (shown asker cache) line (asked_way op)
  pub small : way < (layout shape cache).ways

pub fill_is : (shape : Shape) (ram : ℕ) (shown : ℕ → Cache → List (Option ℕ)) (asker : ℕ) (op : Op) (cache : Cache) (line : ℕ) → IsAsked shape ram op → filled_line cache op ≡ Some line → IsFill shape shown asker op cache line
fill_is shape ram shown asker (Fetch addr asked) Icache line a e =
    let q : line_of Icache addr ≡ line = cc (e) in
    record {
      way = fill_way_in shape Icache (shown asker Icache) (line_of Icache addr) asked;
      is = refl;
      way_is = ap (λ (l : ℕ). fill_way_in shape Icache (shown asker Icache) l asked) q;
      small = way_small shape Icache (shown asker Icache) (line_of Icache addr) asked a.2;
    }
fill_is shape ram shown asker (Load addr size asked) Dcache line a e =
    let q : line_of Dcache addr ≡ line = cc (e) in
    record {
      way = fill_way_in shape Dcache (shown asker Dcache) (line_of Dcache addr) asked;
      is = refl;
      way_is = ap (λ (l : ℕ). fill_way_in shape Dcache (shown asker Dcache) l asked) q;
      small = way_small shape Dcache (shown asker Dcache) (line_of Dcache addr) asked a.2;
    }
fill_is shape ram shown asker (Fetch addr asked) Dcache line a e = let clash : ◌≡◌ {A = Option ℕ} None (Some line) = e in cc
fill_is shape ram shown asker (Load addr size asked) Icache line a e = let clash : ◌≡◌ {A = Option ℕ} None (Some line) = e in cc
fill_is shape ram shown asker (Store addr size value) cache line a e = let clash : ◌≡◌ {A = Option ℕ} None (Some line) = e in cc
fill_is shape ram shown asker (Swap addr size new) cache line a e = let clash : ◌≡◌ {A = Option ℕ} None (Some line) = e in cc
fill_is shape ram shown asker (Cas addr size expect new) cache line a e = let clash : ◌≡◌ {A = Option ℕ} None (Some line) = e in cc

pub fill_none : (shape : Shape) (shown : ℕ → Cache → List (Option ℕ)) (asker : ℕ) (op : Op) → ((cache : Cache) → filled_line cache op ≡ None) → fill_way shape shown asker op ≡ None
fill_none shape shown asker (Fetch addr asked) f = let clash : ◌≡◌ {A = Option ℕ} (Some (line_of Icache addr)) None = f Icache in cc
fill_none shape shown asker (Load addr size asked) f = let clash : ◌≡◌ {A = Option ℕ} (Some (line_of Dcache addr)) None = f Dcache in cc
fill_none shape shown asker (Store addr size value) f = refl
fill_none shape shown asker (Swap addr size new) f = refl
fill_none shape shown asker (Cas addr size expect new) f = refl

-- the way that a bank's reply has is one that a core takes
pub reply_way : (shape : Shape) (ram : ℕ) (shown : ℕ → Cache → List (Option ℕ)) (asker : ℕ) (op : Op) → IsAsked shape ram op → (is_io (op_addr op) ≡ true → ⊥) → IsReplyWay shape op (fill_way shape shown asker op)
reply_way shape ram shown asker (Fetch addr asked) a off = way_small shape Icache (shown asker Icache) (line_of Icache addr) asked a.2
reply_way shape ram shown asker (Load addr size asked) a off = (way_small shape Dcache (shown asker Dcache) (line_of Dcache addr) asked a.2, λ io. absurd (off io))
reply_way shape ram shown asker (Store addr size value) a off = refl
reply_way shape ram shown asker (Swap addr size new) a off = refl
reply_way shape ram shown asker (Cas addr size expect new) a off = refl

pub none_way : (shape : Shape) (op : Op) → IsReplyWay shape op None
none_way shape (Fetch addr asked) = tt
none_way shape (Load addr size asked) = (tt, λ io. refl)
none_way shape (Store addr size value) = refl
none_way shape (Swap addr size new) = refl
none_way shape (Cas addr size expect new) = refl

pub two_above : (k : ℕ) → 0 < 2 ^ k
two_above k = pow_pos k

-- ---- lines

pub line_none : (m : List ℕ) (op : Op) → replicate 32 0 ≡ reply_line m op None
line_none m (Fetch addr asked) = refl
line_none m (Load addr size asked) = refl
line_none m (Store addr size value) = refl
line_none m (Swap addr size new) = refl
line_none m (Cas addr size expect new) = refl

pub io_zero : (op : Op) (old : ℕ) → (is_io (op_addr op) ≡ true → old ≡ 0) → IsIoZero op old
io_zero (Fetch addr asked) old f = tt
io_zero (Load addr size asked) old f = f
io_zero (Store addr size value) old f = tt
io_zero (Swap addr size new) old f = tt
io_zero (Cas addr size expect new) old f = tt

-- the line that holds an address starts in its 64-byte line, and ends there
pub line_block : (cache : Cache) (addr : ℕ) → (l2_line (line_of cache addr * width cache) ≡ l2_line addr) × (line_of cache addr * width cache % 64 + width cache ≤ 64)
line_block Dcache addr = (omega arith, omega arith)
line_block Icache addr = (omega arith, omega arith)
