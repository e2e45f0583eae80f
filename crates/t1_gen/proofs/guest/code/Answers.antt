use Rattle.std.proofs.Common.{◌++◌, ◌∙◌, ap, arith, length}
use Rattle.t1_gen.specs.Guests.{first_insn, bytes_of_insn}
use Rattle.t1_gen.proofs.Drawing.{guest_is_put, length-guest}
use Rattle.t1_gen.proofs.guest.code.Goals as goal

pub returns-clause-value : goal.returns-clause-value
returns-clause-value c =
    guest_is_put c.args.seed c.args.size c.put_insn.new.code.items c.put_draws.new.code.items c.put_insn-2.new.code.items
    (c.in_ok-put_insn.ensures ∙ ap (λ code. code ++ bytes_of_insn first_insn) c.in_ok-code.ensures.items)
    c.in_ok-put_draws.ensures c.in_ok-put_insn-2.ensures

pub returns-clause-few : goal.returns-clause-few
returns-clause-few c = omega (arith, ap length (returns-clause-value c), length-guest c.args.seed c.args.size)
