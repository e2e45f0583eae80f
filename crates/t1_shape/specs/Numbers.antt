-- The numbers of a chip that name no L1 cache, each once (OpenSPARC T1 Microarchitecture Specification, chapters 1 and 4;
-- OpenSPARC T2 System-On-Chip Microarchitecture Specification).
use Rattle.std.specs.Prelude.{ℕ, ◌+◌, ◌/◌, ◌%◌}
use Rattle.t1_shape.specs.Shapes.{Shape}
use Rattle.t1_num.specs.declared.chip.ChipKind.TheVariants.{T1, T2}

-- strands of a core, at most
abbrev pub most_strands : Shape → ℕ
most_strands T1 = 4
most_strands T2 = 8

-- banks of the L2 cache
abbrev pub banks : Shape → ℕ
banks T1 = 4
banks T2 = 8

-- ways of a set of the L2 cache
abbrev pub l2_ways : Shape → ℕ
l2_ways T1 = 12
l2_ways T2 = 16

-- sets of an L2 bank, at most
abbrev pub most_l2_sets : Shape → ℕ
most_l2_sets T1 = 1024
most_l2_sets T2 = 512

-- destinations are numbered: the banks, and after them the I/O bridge
abbrev pub io_bridge : Shape → ℕ
io_bridge shape = banks shape

abbrev pub destinations : Shape → ℕ
destinations shape = banks shape + 1

-- the number of the 64-byte line of an address
abbrev pub l2_line : ℕ → ℕ
l2_line addr = addr / 64

-- neighbouring 64-byte lines belong to neighbouring banks
abbrev pub bank_at : Shape → ℕ → ℕ
bank_at shape addr = l2_line addr % banks shape

-- the place of a 64-byte line among those of its bank
abbrev pub place_in_bank : Shape → ℕ → ℕ
place_in_bank shape line = line / banks shape
