-- What proofs may use of the layout of the L1 caches, and of which bank a line belongs to: each law that
-- needs a number has a clause for each shape.
use Rattle.std.proofs.Common.{◌≡◌, ℕ, ◌+◌, ◌*◌, ◌/◌, ◌%◌, ◌<◌, ◌≤◌, Bool, true, false, if◌then◌else◌, ap, arith}
use Rattle.std.proofs.lemmas.Nat.{div_below, mod_below}
use Rattle.t1_shape.specs.Shapes.{Shape}
use Rattle.t1_num.specs.declared.chip.ChipKind.TheVariants.{T1, T2}
use Rattle.t1_shape.specs.Numbers.{banks, bank_at, l2_line, io_bridge, destinations}
use Rattle.t1_shape.proofs.Numbers.{bank_below, banks_are}
use Rattle.t1_space.specs.Places.{is_io}
use Rattle.t1_shape.specs.Slots.{slots_in, InSet}
use Rattle.t1_packet.specs.declared.cache.Cache.{Cache}
use Rattle.t1_packet.specs.declared.cache.Cache.TheVariants.{Dcache, Icache}
use Rattle.t1_packet.specs.Caches.{layout, width, lines_in, line_of, bank_of}
use Rattle.t1_packet.specs.Ops.{dest_of}

-- ---- ways, sets and slots

pub ways_are : (shape : Shape) (cache : Cache) → (0 < (layout shape cache).ways) × ((layout shape cache).ways ≤ 8)
ways_are T1 Dcache = (omega arith, omega arith)
ways_are T1 Icache = (omega arith, omega arith)
ways_are T2 Dcache = (omega arith, omega arith)
ways_are T2 Icache = (omega arith, omega arith)

pub sets_are : (shape : Shape) (cache : Cache) → (0 < (layout shape cache).sets) × ((layout shape cache).sets ≤ 128)
sets_are T1 Dcache = (omega arith, omega arith)
sets_are T1 Icache = (omega arith, omega arith)
sets_are T2 Dcache = (omega arith, omega arith)
sets_are T2 Icache = (omega arith, omega arith)

-- every cache has 512 slots
pub slots_are : (shape : Shape) (cache : Cache) → slots_in (layout shape cache) ≡ 512
slots_are T1 Dcache = omega arith
slots_are T1 Icache = omega arith
slots_are T2 Dcache = omega arith
slots_are T2 Icache = omega arith

-- a way of a set is one of the 512
pub set_fits : (shape : Shape) (cache : Cache) (set way : ℕ) → set < (layout shape cache).sets → way < (layout shape cache).ways → (layout shape cache).ways * set + way < 512
set_fits T1 Dcache set way p q = omega (arith, p, q)
set_fits T1 Icache set way p q = omega (arith, p, q)
set_fits T2 Dcache set way p q = omega (arith, p, q)
set_fits T2 Icache set way p q = omega (arith, p, q)

-- so is every slot of a line's set
pub slot_in_cache : (shape : Shape) (cache : Cache) (line k : ℕ) → InSet (layout shape cache) line k → k < 512
slot_in_cache T1 Dcache line k i = omega (arith, i.below)
slot_in_cache T1 Icache line k i = omega (arith, i.below)
slot_in_cache T2 Dcache line k i = omega (arith, i.below)
slot_in_cache T2 Icache line k i = omega (arith, i.below)

-- one of the 512 is a way of a set of the cache
pub set_below : (shape : Shape) (cache : Cache) (k : ℕ) → k < 512 → k / (layout shape cache).ways < (layout shape cache).sets
set_below shape cache k l = div_below k (layout shape cache).ways (layout shape cache).sets (ways_are shape cache).0 (omega (arith, l, slots_are shape cache))

pub way_below : (shape : Shape) (cache : Cache) (k : ℕ) → k % (layout shape cache).ways < (layout shape cache).ways
way_below shape cache k = mod_below k (layout shape cache).ways (ways_are shape cache).0

-- the lines of one 64-byte line stand in sets that ascend
pub sets_ascend : (shape : Shape) (cache : Cache) (e i j : ℕ) → i < j → j < lines_in cache
    → (lines_in cache * e + i) % (layout shape cache).sets < (lines_in cache * e + j) % (layout shape cache).sets
sets_ascend T1 Dcache e i j p q = omega (arith, p, q)
sets_ascend T1 Icache e i j p q = omega (arith, p, q)
sets_ascend T2 Dcache e i j p q = omega (arith, p, q)
sets_ascend T2 Icache e i j p q = omega (arith, p, q)

-- ---- banks

-- the bank of a line is that of its addresses, and of the 64-byte line that it lies in
pub line_bank : (shape : Shape) (cache : Cache) (addr line : ℕ) → line_of cache addr ≡ line → bank_of shape cache line ≡ bank_at shape addr
line_bank shape Dcache addr line e = ap (λ (n : ℕ). n % banks shape) (let q : line / 4 ≡ addr / 64 = omega (arith, e) in q)
line_bank shape Icache addr line e = ap (λ (n : ℕ). n % banks shape) (let q : line / 2 ≡ addr / 64 = omega (arith, e) in q)

pub inside_bank : (shape : Shape) (cache : Cache) (line addr : ℕ) → l2_line (line * width cache) ≡ l2_line addr → bank_of shape cache line ≡ bank_at shape addr
inside_bank shape Dcache line addr e = ap (λ (n : ℕ). n % banks shape) (let q : line / 4 ≡ addr / 64 = omega (arith, e) in q)
inside_bank shape Icache line addr e = ap (λ (n : ℕ). n % banks shape) (let q : line / 2 ≡ addr / 64 = omega (arith, e) in q)

-- a set belongs to one bank: its index holds the bank's bits
pub set_bank : (shape : Shape) (cache : Cache) (line : ℕ) → bank_of shape cache line ≡ bank_of shape cache (line % (layout shape cache).sets)
set_bank T1 Dcache line = omega arith
set_bank T1 Icache line = omega arith
set_bank T2 Dcache line = omega arith
set_bank T2 Icache line = omega arith

pub same_set_bank : (shape : Shape) (cache : Cache) (x l k : ℕ) → InSet (layout shape cache) x k → InSet (layout shape cache) l k → bank_of shape cache x ≡ bank_of shape cache l
same_set_bank T1 Dcache x l k p q = omega (arith, p.above, p.below, q.above, q.below)
same_set_bank T1 Icache x l k p q = omega (arith, p.above, p.below, q.above, q.below)
same_set_bank T2 Dcache x l k p q = omega (arith, p.above, p.below, q.above, q.below)
same_set_bank T2 Icache x l k p q = omega (arith, p.above, p.below, q.above, q.below)

-- ---- destinations

-- every address has one, of nine at most
pub dest_below : (shape : Shape) (addr : ℕ) → dest_of shape addr < 9
dest_below shape addr = by (is_io addr)
  where
    by : (t : Bool) → (if t then io_bridge shape else bank_at shape addr) < 9
    by true = let l = (banks_are shape).1 in omega (arith, l)
    by false = let l = bank_below shape addr in let m = (banks_are shape).1 in omega (arith, l, m)

pub dest_in : (shape : Shape) (addr : ℕ) → dest_of shape addr < destinations shape
dest_in shape addr = by (is_io addr)
  where
    by : (t : Bool) → (if t then io_bridge shape else bank_at shape addr) < destinations shape
    by true = omega arith
    by false = let l = bank_below shape addr in omega (arith, l)
