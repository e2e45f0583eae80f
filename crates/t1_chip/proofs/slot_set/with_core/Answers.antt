use Rattle.t1_chip.proofs.Sets.{own_t1, own_t2}
use Rattle.t1_chip.proofs.slot_set.with_core.Goals as goal

pub returns-in-T1 : goal.returns-in-T1
returns-in-T1 c = rw c.in-T1.is (λ n h e.
    let drains = c.with_bits.ensures n e in
    let exec = c.with_slot-execs.ensures n drains.0 in
    record { clear = exec.0; other = own_t1 c.args.core n exec.1 drains.1 })

pub returns-in-T2 : goal.returns-in-T2
returns-in-T2 c = rw c.in-T2.is (λ n h e.
    let drains = c.with_bits-in-T2.ensures n e in
    let exec = c.with_slot-execs.ensures n drains.0 in
    record { clear = exec.0; other = own_t2 c.args.core n exec.1 drains.1 })
