use Rattle.std.proofs.Common.{◌≡◌, ◌∙◌, sym, [], arith}
use Rattle.std.proofs.lemmas.List.{get_or_read}
use Rattle.t1_machine.proofs.Steps.{take_wakes}
use Rattle.t1_machine.proofs.machine.Machine.take.Goals as goal

pub returns-clause-woken : goal.returns-clause-woken
returns-clause-woken c =
    let i = c.self.invariant.0 in
    let within = c.if-number-len.false in
    let read = get_or_read c.self.inside.replies.items _ _ (omega (arith, within, c.len.ensures, i.all_replies)) c.index_mut-ring.ensures.value [] in
    take_wakes _ _ c.self.view_is c.args.number _ c.take.new.self c.in-Some.packet c.pop.new.self (omega (arith, within, c.len.ensures, i.few))
    (omega (arith, within, c.len.ensures)) c.index_mut-core.ensures.value (sym read ∙ c.in-Some.ensures.some)
