-- A store that is sent has a time, and each of at most eight stores has one at most.
use Rattle.std.proofs.Common.{◌<◌, ◌≤◌, ℕ, List, [], ◌∷◌, ◌++◌, length, sym, subst, lit<}
use Rattle.std.specs.Prelude.{IsSome}
use Rattle.t1_sbuf.specs.declared.entry.Entry.{Entry}
use Rattle.t1_sbuf.specs.Entries.{next_to_send_of, sent_next}
use Rattle.t1_core.specs.Stores.{AreSent}
use Rattle.t1_core.specs.Threads.{ThreadState}
use Rattle.t1_core.proofs.Sends.{room_for_time, sent_more}
use Rattle.t1_core.proofs.thread.Thread.send.Goals as goal

pub push-requires : goal.push-requires
push-requires c =
    let i = c.self.inside in
    let some : IsSome (next_to_send_of i.stores) = subst (λ (t : ThreadState). IsSome (next_to_send_of t.stores)) (sym c.self.view_is) c.requires in
    let few : length (sent_next i.stores) ≤ 8 = subst (λ (es : List Entry). length es ≤ 8) c.sent.ensures.marked c.sent.ensures.few in
    let low : length i.times.items < 8 = room_for_time i.stores i.times.items c.self.invariant.2 some few in
    (lit< tt, low)

pub invariant_of-self : goal.invariant_of-self
invariant_of-self c =
    let i = c.self.inside in
    let some : IsSome (next_to_send_of i.stores) = subst (λ (t : ThreadState). IsSome (next_to_send_of t.stores)) (sym c.self.view_is) c.requires in
    let more : AreSent (sent_next i.stores) (i.times.items ++ c.args.time ∷ []) = sent_more i.stores i.times.items c.args.time c.self.invariant.2 some in
    let marked : AreSent c.sent.new.self (i.times.items ++ c.args.time ∷ []) = subst (λ (es : List Entry). AreSent es (i.times.items ++ c.args.time ∷ [])) (sym c.sent.ensures.marked) more in
    (c.self.invariant.0, c.self.invariant.1, subst (λ (ts : List ℕ). AreSent c.sent.new.self ts) (sym c.push.ensures.items) marked)
