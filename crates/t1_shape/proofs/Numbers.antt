-- What proofs may use of the numbers of a chip: each law that needs a number has a clause for each shape.
use Rattle.std.proofs.Common.{◌≡◌, ℕ, ◌+◌, ◌*◌, ◌/◌, ◌%◌, ◌^◌, ◌<◌, ◌≤◌, arith}
use Rattle.std.proofs.lemmas.Nat.{mod_below}
use Rattle.t1_shape.specs.Shapes.{Shape}
use Rattle.t1_num.specs.declared.chip.ChipKind.TheVariants.{T1, T2}
use Rattle.t1_shape.specs.Numbers.{banks, most_strands, l2_ways, most_l2_sets, bank_at, place_in_bank}

-- ---- bounds

pub banks_are : (shape : Shape) → (0 < banks shape) × (banks shape ≤ 8)
banks_are T1 = (omega arith, omega arith)
banks_are T2 = (omega arith, omega arith)

pub strands_are : (shape : Shape) → (0 < most_strands shape) × (most_strands shape ≤ 8)
strands_are T1 = (omega arith, omega arith)
strands_are T2 = (omega arith, omega arith)

pub l2_ways_are : (shape : Shape) → (0 < l2_ways shape) × (l2_ways shape ≤ 16)
l2_ways_are T1 = (omega arith, omega arith)
l2_ways_are T2 = (omega arith, omega arith)

pub l2_sets_are : (shape : Shape) → most_l2_sets shape ≤ 1024
l2_sets_are T1 = omega arith
l2_sets_are T2 = omega arith

-- ---- the lines of a bank

pub bank_below : (shape : Shape) (addr : ℕ) → bank_at shape addr < banks shape
bank_below shape addr = mod_below (addr / 64) (banks shape) (banks_are shape).0

-- a line's bank and its place there name it
pub line_from_place : (shape : Shape) (l m : ℕ) → l % banks shape ≡ m % banks shape → place_in_bank shape l ≡ place_in_bank shape m → l ≡ m
line_from_place T1 l m p q = omega (arith, p, q)
line_from_place T2 l m p q = omega (arith, p, q)

-- the slots of an L2 set are slots of the bank's array
pub l2_slot_below : (shape : Shape) (n s k : ℕ) → s < n → k < l2_ways shape * s + l2_ways shape → k < l2_ways shape * n
l2_slot_below T1 n s k l p = omega (arith, p, l)
l2_slot_below T2 n s k l p = omega (arith, p, l)

-- an address below a memory of n lines a bank lies in one of them
pub place_within : (shape : Shape) (addr n : ℕ) → addr < 64 * (banks shape * n) → place_in_bank shape (addr / 64) < n
place_within T1 addr n l = omega (arith, l)
place_within T2 addr n l = omega (arith, l)

-- RAM is a whole number of lines for each bank
pub ram_splits : (shape : Shape) (ram : ℕ) → ram % 65536 ≡ 0 → ram ≡ 64 * (banks shape * (ram / 64 / banks shape))
ram_splits T1 ram e = omega (arith, e)
ram_splits T2 ram e = omega (arith, e)

-- line i of bank b ends within RAM
pub line_fits : (shape : Shape) (ram b i : ℕ) → ram % 65536 ≡ 0 → b < banks shape → i < ram / 64 / banks shape → 64 * (banks shape * i + b) + 64 ≤ ram
line_fits T1 ram b i e p q = omega (arith, e, p, q)
line_fits T2 ram b i e p q = omega (arith, e, p, q)

pub place_small : (shape : Shape) (ram : ℕ) → ram ≤ 2 ^ 28 → ram / 64 / banks shape < 2 ^ 40
place_small T1 ram l = omega (arith, l)
place_small T2 ram l = omega (arith, l)

pub line_low : (shape : Shape) (line : ℕ) → place_in_bank shape line < 2 ^ 40 → line < 2 ^ 44
line_low T1 line l = omega (arith, l)
line_low T2 line l = omega (arith, l)

-- an address by its line and bank, and where other lines of the bank lie
pub line_base : (shape : Shape) (addr i b : ℕ) → addr / 64 % banks shape ≡ b → addr / 64 / banks shape ≡ i → addr ≡ 64 * (banks shape * i + b) + addr % 64
line_base T1 addr i b p q = omega (arith, p, q)
line_base T2 addr i b p q = omega (arith, p, q)

pub line_before : (shape : Shape) (addr i b : ℕ) → addr / 64 % banks shape ≡ b → i < addr / 64 / banks shape → 64 * (banks shape * i + b) + 64 ≤ addr
line_before T1 addr i b p q = omega (arith, p, q)
line_before T2 addr i b p q = omega (arith, p, q)

pub line_after : (shape : Shape) (addr i b size : ℕ) → addr / 64 % banks shape ≡ b → addr / 64 / banks shape < i → addr % 64 + size ≤ 64
    → addr + size ≤ 64 * (banks shape * i + b)
line_after T1 addr i b size p q l = omega (arith, p, q, l)
line_after T2 addr i b size p q l = omega (arith, p, q, l)
