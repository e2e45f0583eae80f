-- What a bank's accesses do to one flat memory, which knows no cache.
use Rattle.std.specs.Prelude.{ℕ, if◌then◌else◌, List, [], ◌∷◌}
use Rattle.t1_num.specs.Memory.{number_at}
use Rattle.t1_shape.specs.Shapes.{Shape}
use Rattle.t1_packet.specs.Data.{RequestData}
use Rattle.t1_packet.specs.Ops.{op_addr, op_size}
use Rattle.t1_event.specs.Kills.{effect}
use Rattle.t1_event.specs.Log.{written}
use Rattle.t1_event.specs.BankRule.{fits}

-- a request that the bank serves writes what it writes; any other does nothing
abbrev pub flat_with : Shape → ℕ → ℕ → ℕ → List ℕ → RequestData → List ℕ
flat_with shape cores ram bank memory r =
    if fits shape cores ram bank r then written memory (effect r.op (number_at memory (op_addr r.op) (op_size r.op))) else memory

abbrev pub flat_after : Shape → ℕ → ℕ → ℕ → List ℕ → List RequestData → List ℕ
flat_after shape cores ram bank memory [] = memory
flat_after shape cores ram bank memory (r ∷ rs) = flat_after shape cores ram bank (flat_with shape cores ram bank memory r) rs
