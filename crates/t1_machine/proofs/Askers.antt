-- The core that a destination serves.
use Rattle.std.proofs.Common.{◌≡◌, ◌+◌, ◌*◌, ◌-◌, ◌<◌, ℕ, suc, true, List, [], get_or, refl, arith}
use Rattle.t1_packet.specs.Data.{RequestData}
use Rattle.t1_machine.specs.Rings.{is_empty}
use Rattle.t1_machine.specs.Machine.{asker_from, core_after}

-- a core that asks nothing is passed over
pub asker_skip : (requests : List (List RequestData)) (cores d c k : ℕ) → k < cores → is_empty (get_or requests (9 * c + d) []) ≡ true
    → asker_from requests cores d (core_after cores c) (cores - (k + 1)) ≡ asker_from requests cores d c (cores - k)
unfolding asker_from
asker_skip requests cores d c k h e =
    let left : cores - k ≡ suc (cores - (k + 1)) = omega arith in rw (left, e) refl
