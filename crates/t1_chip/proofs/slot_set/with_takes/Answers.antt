use Rattle.t1_chip.proofs.Sets.{takes_t1, takes_t2}
use Rattle.t1_chip.proofs.slot_set.with_takes.Goals as goal

pub returns-in-T1 : goal.returns-in-T1
returns-in-T1 c = rw c.in-T1.is (λ n h e. let both = c.with_bits.ensures n e in record { clear = both.0; other = takes_t1 c.args.cores n both.1 })

pub returns-in-T2 : goal.returns-in-T2
returns-in-T2 c = rw c.in-T2.is (λ n h e. let both = c.with_bits-in-T2.ensures n e in record { clear = both.0; other = takes_t2 c.args.cores n both.1 })
