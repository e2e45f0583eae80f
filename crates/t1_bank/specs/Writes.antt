-- What an access leaves in the array, once its line is present and its effect is known.
use Rattle.t1_packet.specs.declared.op.Op.{Op}
use Rattle.t1_packet.specs.declared.op.Op.TheVariants.{Fetch, Load, Store, Swap, Cas}
use Rattle.t1_l2.specs.Array.{ArrayState, written_at}

abbrev pub wrote : ArrayState → Op → ArrayState
wrote a (Fetch addr way) = a
wrote a (Load addr size way) = a
wrote a (Store addr size value) = written_at a addr size value
wrote a (Swap addr size new) = written_at a addr size new
wrote a (Cas addr size expect new) = a
