use Rattle.std.proofs.Common.{◌≡◌, ◌∙◌, [], sym, subst}
use Rattle.t1_packet.specs.declared.op.Op.{Op}
use Rattle.t1_bank.specs.Copies.{copies_below}
use Rattle.t1_bank.proofs.Idle.{IsIdle, idle, store_idle, swap_idle}
use Rattle.t1_bank.proofs.copies.may_kill.Goals as goal

pub returns-else-others_may_show : goal.returns-else-others_may_show
returns-else-others_may_show c cores e =
    subst (λ (op : Op). copies_below c.args.directory.now c.args.own c.args.evicted op cores ≡ []) (sym c.in-Store.is)
    (store_idle c.in-Store.addr c.in-Store.size c.in-Store.value c.args.evicted (sym c.is_some.ensures ∙ c.if-is_some.false) c.args.directory.now c.args.own cores
    (c.others_may_show.ensures c.if-others_may_show.false) (c.may_show.ensures e))

pub returns-in-Fetch : goal.returns-in-Fetch
returns-in-Fetch c cores e = idle c.args.op (subst IsIdle (sym c.in-Fetch.is) tt) c.args.evicted (sym c.is_some.ensures ∙ c.if-is_some.false) c.args.directory.now c.args.own cores

pub returns-in-Load : goal.returns-in-Load
returns-in-Load c cores e = idle c.args.op (subst IsIdle (sym c.in-Load.is) tt) c.args.evicted (sym c.is_some.ensures ∙ c.if-is_some.false) c.args.directory.now c.args.own cores

pub returns-in-Cas : goal.returns-in-Cas
returns-in-Cas c cores e = idle c.args.op (subst IsIdle (sym c.in-Cas.is) tt) c.args.evicted (sym c.is_some.ensures ∙ c.if-is_some.false) c.args.directory.now c.args.own cores

pub returns-else-may_show : goal.returns-else-may_show
returns-else-may_show c cores e =
    subst (λ (op : Op). copies_below c.args.directory.now c.args.own c.args.evicted op cores ≡ []) (sym c.in-Swap.is)
    (swap_idle c.in-Swap.addr c.in-Swap.size c.in-Swap.new c.args.evicted (sym c.is_some.ensures ∙ c.if-is_some.false) c.args.directory.now c.args.own cores
    (c.may_show-in-Swap.ensures c.if-may_show.false) (c.may_show-in-Swap-2.ensures e))
