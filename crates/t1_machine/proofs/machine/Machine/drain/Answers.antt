use Rattle.std.proofs.Common.{◌≡◌, ◌∙◌, sym, arith, rules}
use Rattle.t1_machine.proofs.Steps.{is_core_at, drain_idle, drain_moves}
use Rattle.t1_machine.proofs.machine.Machine.drain.Goals as goal

pub returns-in-Empty-clause-state : goal.returns-in-Empty-clause-state
returns-in-Empty-clause-state c =
    (drain_idle _ _ c.self.view_is c.args.number c.args.strand _ _ c.request_rooms-room.result _
    (is_core_at _ c.args.number _ _ (omega (arith, c.if-number-len.false, c.len.ensures)) c.index_mut-core.ensures.value (search rules))
    c.in-Empty.ensures.did tt c.in-Empty.ensures.still).state

pub returns-in-Empty-clause-done : goal.returns-in-Empty-clause-done
returns-in-Empty-clause-done c =
    (drain_idle _ _ c.self.view_is c.args.number c.args.strand _ _ c.request_rooms-room.result _
    (is_core_at _ c.args.number _ _ (omega (arith, c.if-number-len.false, c.len.ensures)) c.index_mut-core.ensures.value (search rules))
    c.in-Empty.ensures.did tt c.in-Empty.ensures.still).done

pub returns-in-Out-clause-state : goal.returns-in-Out-clause-state
returns-in-Out-clause-state c =
    (drain_idle _ _ c.self.view_is c.args.number c.args.strand _ _ c.request_rooms-room.result _
    (is_core_at _ c.args.number _ _ (omega (arith, c.if-number-len.false, c.len.ensures)) c.index_mut-core.ensures.value (search rules))
    c.in-Out.ensures.did tt c.in-Out.ensures.still).state

pub returns-in-Out-clause-done : goal.returns-in-Out-clause-done
returns-in-Out-clause-done c =
    (drain_idle _ _ c.self.view_is c.args.number c.args.strand _ _ c.request_rooms-room.result _
    (is_core_at _ c.args.number _ _ (omega (arith, c.if-number-len.false, c.len.ensures)) c.index_mut-core.ensures.value (search rules))
    c.in-Out.ensures.did tt c.in-Out.ensures.still).done

pub returns-in-NoRoom-clause-state : goal.returns-in-NoRoom-clause-state
returns-in-NoRoom-clause-state c =
    (drain_idle _ _ c.self.view_is c.args.number c.args.strand _ _ c.request_rooms-room.result _
    (is_core_at _ c.args.number _ _ (omega (arith, c.if-number-len.false, c.len.ensures)) c.index_mut-core.ensures.value (search rules))
    c.in-NoRoom.ensures.did tt c.in-NoRoom.ensures.still).state

pub returns-in-NoRoom-clause-done : goal.returns-in-NoRoom-clause-done
returns-in-NoRoom-clause-done c =
    (drain_idle _ _ c.self.view_is c.args.number c.args.strand _ _ c.request_rooms-room.result _
    (is_core_at _ c.args.number _ _ (omega (arith, c.if-number-len.false, c.len.ensures)) c.index_mut-core.ensures.value (search rules))
    c.in-NoRoom.ensures.did tt c.in-NoRoom.ensures.still).done

pub returns-in-Sent-clause-state : goal.returns-in-Sent-clause-state
returns-in-Sent-clause-state c =
    (drain_moves _ _ c.self.view_is c.args.number c.args.strand _ _ c.request_rooms-room.result c.in-Sent.dest _ _ (omega (arith, c.if-number-len.false, c.len.ensures, c.self.invariant.0.few))
    (is_core_at _ c.args.number _ _ (omega (arith, c.if-number-len.false, c.len.ensures)) c.index_mut-core.ensures.value (search rules))
    c.in-Sent.ensures.did c.drain.ensures.core c.push_request.ensures.value c.in-Sent.ensures.ring.1).state

pub returns-in-Sent-clause-done : goal.returns-in-Sent-clause-done
returns-in-Sent-clause-done c =
    (drain_moves _ _ c.self.view_is c.args.number c.args.strand _ _ c.request_rooms-room.result c.in-Sent.dest _ _ (omega (arith, c.if-number-len.false, c.len.ensures, c.self.invariant.0.few))
    (is_core_at _ c.args.number _ _ (omega (arith, c.if-number-len.false, c.len.ensures)) c.index_mut-core.ensures.value (search rules))
    c.in-Sent.ensures.did c.drain.ensures.core c.push_request.ensures.value c.in-Sent.ensures.ring.1).done

pub returns-in-Sent-clause-woken : goal.returns-in-Sent-clause-woken
returns-in-Sent-clause-woken c =
    (drain_moves _ _ c.self.view_is c.args.number c.args.strand _ _ c.request_rooms-room.result c.in-Sent.dest _ _ (omega (arith, c.if-number-len.false, c.len.ensures, c.self.invariant.0.few))
    (is_core_at _ c.args.number _ _ (omega (arith, c.if-number-len.false, c.len.ensures)) c.index_mut-core.ensures.value (search rules))
    c.in-Sent.ensures.did c.drain.ensures.core c.push_request.ensures.value c.in-Sent.ensures.ring.1).woken
