-- What a request asks: address, size, way, and where it goes.
use Rattle.std.specs.Prelude.{ℕ, Bool, true, false, if◌then◌else◌}
use Rattle.t1_space.specs.Places.{is_io}
use Rattle.t1_shape.specs.Shapes.{Shape}
use Rattle.t1_shape.specs.Numbers.{bank_at, io_bridge}
use Rattle.t1_packet.specs.declared.op.Op.{Op}
use Rattle.t1_packet.specs.declared.op.Op.TheVariants.{Fetch, Load, Store, Swap, Cas}

abbrev pub op_addr : Op → ℕ
op_addr (Fetch addr way) = addr
op_addr (Load addr size way) = addr
op_addr (Store addr size value) = addr
op_addr (Swap addr size new) = addr
op_addr (Cas addr size expect new) = addr

-- a fetch reads a word
abbrev pub op_size : Op → ℕ
op_size (Fetch addr way) = 4
op_size (Load addr size way) = size
op_size (Store addr size value) = size
op_size (Swap addr size new) = size
op_size (Cas addr size expect new) = size

-- the way that an op carries; 0 where it carries none
abbrev pub asked_way : Op → ℕ
asked_way (Fetch addr way) = way
asked_way (Load addr size way) = way
asked_way (Store addr size value) = 0
asked_way (Swap addr size new) = 0
asked_way (Cas addr size expect new) = 0

abbrev pub is_store : Op → Bool
is_store (Store addr size value) = true
is_store (Fetch addr way) = false
is_store (Load addr size way) = false
is_store (Swap addr size new) = false
is_store (Cas addr size expect new) = false

-- the destination of an address: the I/O bridge for one of I/O space, else the bank of its line
abbrev pub dest_of : Shape → ℕ → ℕ
dest_of shape addr = if is_io addr then io_bridge shape else bank_at shape addr

abbrev pub op_dest : Shape → Op → ℕ
op_dest shape op = dest_of shape (op_addr op)
