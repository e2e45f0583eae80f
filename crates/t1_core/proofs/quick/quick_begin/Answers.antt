-- A fetch that misses needs a ring.
use Rattle.std.proofs.Common.{◌≡◌, ◌∙◌, ℕ, sym, ap}
use Rattle.t1_l1.specs.Cache.{read_of}
use Rattle.t1_joint.specs.Replay.{is_fetchable}
use Rattle.t1_core.specs.Quick.{in_room}
use Rattle.t1_core.proofs.Asks.{begin_held, asks_only}
use Rattle.t1_core.proofs.quick.quick_begin.Goals as goal

pub returns-in-None-clause-step : goal.returns-in-None-clause-step
returns-in-None-clause-step c = λ room.
    let x = c.args.asker in
    let pc = c.pc-pc.ensures.value in
    asks_only c.args.thread.now _ _
    (begin_held (in_room x room) c.args.icache.now c.args.thread.now _ _ (sym c.in_default.ensures.value)
    (sym (c.if-not-is_fetchable.ensures.value ∙ ap (λ (p : ℕ). is_fetchable x.ram p) pc))
    (ap (λ (p : ℕ). read_of c.args.icache.now p 4) (sym pc) ∙ sym c.in-None.ensures.value))
