use Rattle.t1_chip.proofs.Sets.{serve_t1, serve_t2}
use Rattle.t1_chip.proofs.slot_set.with_serve.Goals as goal

pub returns-in-T1 : goal.returns-in-T1
returns-in-T1 c = rw c.in-T1.is (λ n h e. let both = c.with_slot.ensures n e in record { clear = both.0; other = serve_t1 c.args.dest n both.1 })

pub returns-in-T2 : goal.returns-in-T2
returns-in-T2 c = rw c.in-T2.is (λ n h e. let both = c.with_slot-in-T2.ensures n e in record { clear = both.0; other = serve_t2 c.args.dest n both.1 })
