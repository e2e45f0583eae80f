use Rattle.std.proofs.Common.{◌≡◌, ◌∙◌, sym, arith, rules}
use Rattle.t1_machine.proofs.Steps.{is_core_at, exec_idle, exec_moves}
use Rattle.t1_machine.proofs.machine.Machine.exec_any.Goals as goal

pub returns-in_default-clause-state : goal.returns-in_default-clause-state
returns-in_default-clause-state c =
    (exec_idle _ _ c.self.view_is c.args.number _ _ c.request_rooms-room.result
    (is_core_at _ c.args.number _ _ (omega (arith, c.if-number-len.false, c.len.ensures)) c.index_mut-core.ensures.value (search rules))
    c.in_default.ensures.did c.in_default.ensures.still).state

pub returns-in_default-clause-done : goal.returns-in_default-clause-done
returns-in_default-clause-done c =
    (exec_idle _ _ c.self.view_is c.args.number _ _ c.request_rooms-room.result
    (is_core_at _ c.args.number _ _ (omega (arith, c.if-number-len.false, c.len.ensures)) c.index_mut-core.ensures.value (search rules))
    c.in_default.ensures.did c.in_default.ensures.still).done

pub returns-clause-state : goal.returns-clause-state
returns-clause-state c =
    (exec_moves _ _ c.self.view_is c.args.number _ _ c.request_rooms-room.result c.in-Some.did _ (omega (arith, c.if-number-len.false, c.len.ensures, c.self.invariant.0.few))
    (is_core_at _ c.args.number _ _ (omega (arith, c.if-number-len.false, c.len.ensures)) c.index_mut-core.ensures.value (search rules))
    (sym c.in-Some.is ∙ c.turn.ensures.did) c.turn.ensures.core c.push_sent-woken.ensures.value c.in-Some.ensures.ring).state

pub returns-clause-done : goal.returns-clause-done
returns-clause-done c =
    (exec_moves _ _ c.self.view_is c.args.number _ _ c.request_rooms-room.result c.in-Some.did _ (omega (arith, c.if-number-len.false, c.len.ensures, c.self.invariant.0.few))
    (is_core_at _ c.args.number _ _ (omega (arith, c.if-number-len.false, c.len.ensures)) c.index_mut-core.ensures.value (search rules))
    (sym c.in-Some.is ∙ c.turn.ensures.did) c.turn.ensures.core c.push_sent-woken.ensures.value c.in-Some.ensures.ring).done

pub returns-clause-woken : goal.returns-clause-woken
returns-clause-woken c =
    rw c.push_sent-woken.ensures.woken
    (exec_moves _ _ c.self.view_is c.args.number _ _ c.request_rooms-room.result c.in-Some.did _ (omega (arith, c.if-number-len.false, c.len.ensures, c.self.invariant.0.few))
    (is_core_at _ c.args.number _ _ (omega (arith, c.if-number-len.false, c.len.ensures)) c.index_mut-core.ensures.value (search rules))
    (sym c.in-Some.is ∙ c.turn.ensures.did) c.turn.ensures.core c.push_sent-woken.ensures.value c.in-Some.ensures.ring).woken
