use Rattle.t1_chip.proofs.Sets.{admits_t1, admits_t2}
use Rattle.t1_chip.proofs.slot_set.with_admits.Goals as goal

pub returns-in-T1 : goal.returns-in-T1
returns-in-T1 c = rw c.in-T1.is (λ n h e. let both = c.with_bits.ensures n e in record { clear = both.0; other = admits_t1 n h both.1 })

pub returns-in-T2 : goal.returns-in-T2
returns-in-T2 c = rw c.in-T2.is (λ n h e. let both = c.with_bits-in-T2.ensures n e in record { clear = both.0; other = admits_t2 n h both.1 })
