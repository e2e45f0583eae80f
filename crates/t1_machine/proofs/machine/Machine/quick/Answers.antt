use Rattle.std.proofs.Common.{arith}
use Rattle.t1_machine.proofs.Steps.{quick_is, quick_stays}
use Rattle.t1_machine.proofs.machine.Machine.quick.Goals as goal

pub returns-then-not-quick_turn-clause-stays : goal.returns-then-not-quick_turn-clause-stays
returns-then-not-quick_turn-clause-stays c =
    quick_stays _ _ c.self.view_is c.args.number _ _ (omega (arith, c.if-number-len.false, c.len.ensures)) c.index_mut-core.ensures.value (c.quick_turn.ensures.still c.if-not-quick_turn.true)

pub returns-then-holds_stores-clause-state : goal.returns-then-holds_stores-clause-state
returns-then-holds_stores-clause-state c =
    (quick_is _ _ c.self.view_is c.args.number _ _ (omega (arith, c.if-number-len.false, c.len.ensures, c.self.invariant.0.few)) (omega (arith, c.if-number-len.false, c.len.ensures))
    c.index_mut-core.ensures.value (λ room. c.quick_turn.ensures.moved room c.if-not-quick_turn.false)).state

pub returns-then-holds_stores-clause-woken : goal.returns-then-holds_stores-clause-woken
returns-then-holds_stores-clause-woken c =
    (quick_is _ _ c.self.view_is c.args.number _ _ (omega (arith, c.if-number-len.false, c.len.ensures, c.self.invariant.0.few)) (omega (arith, c.if-number-len.false, c.len.ensures))
    c.index_mut-core.ensures.value (λ room. c.quick_turn.ensures.moved room c.if-not-quick_turn.false)).core

pub returns-clause-state : goal.returns-clause-state
returns-clause-state c =
    (quick_is _ _ c.self.view_is c.args.number _ _ (omega (arith, c.if-number-len.false, c.len.ensures, c.self.invariant.0.few)) (omega (arith, c.if-number-len.false, c.len.ensures))
    c.index_mut-core.ensures.value (λ room. c.quick_turn.ensures.moved room c.if-not-quick_turn.false)).state

pub returns-clause-woken : goal.returns-clause-woken
returns-clause-woken c =
    (quick_is _ _ c.self.view_is c.args.number _ _ (omega (arith, c.if-number-len.false, c.len.ensures, c.self.invariant.0.few)) (omega (arith, c.if-number-len.false, c.len.ensures))
    c.index_mut-core.ensures.value (λ room. c.quick_turn.ensures.moved room c.if-not-quick_turn.false)).nothing (c.holds_stores.ensures.none c.if-holds_stores.false)
