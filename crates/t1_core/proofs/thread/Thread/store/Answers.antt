-- The store that enters is not sent.
use Rattle.std.proofs.Common.{List, refl, sym, subst}
use Rattle.t1_sbuf.specs.declared.entry.Entry.{Entry}
use Rattle.t1_core.specs.Stores.{AreSent}
use Rattle.t1_core.proofs.Sends.{sent_push}
use Rattle.t1_core.proofs.thread.Thread.store.Goals as goal

pub invariant_of-self : goal.invariant_of-self
invariant_of-self c =
    let i = c.self.inside in
    (c.self.invariant.0, c.self.invariant.1, subst (λ (es : List Entry). AreSent es i.times.items) (sym c.push.ensures) (sent_push i.stores i.times.items _ c.self.invariant.2 refl))
