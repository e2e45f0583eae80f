-- What enters is not sent, so the cursor stays.
use Rattle.std.proofs.Common.{◌≡◌, ◌<◌, List, ◌∷◌, [], ◌++◌, length, sym, subst, ◌∙◌}
use Rattle.t1_sbuf.specs.declared.entry.Entry.{Entry}
use Rattle.t1_sbuf.specs.Entries.{AreEntries, next_place}
use Rattle.t1_sbuf.proofs.Sent.{entries_push, place_push}
use Rattle.t1_sbuf.proofs.buffer.StoreBuffer.push.Goals as goal

pub invariant_of-self : goal.invariant_of-self
invariant_of-self c =
    let es : List Entry = c.self.inside.entries.items in
    let room : length es < 8 = subst (λ (m : List Entry). length m < 8) (sym c.self.view_is) c.requires.room in
    let same : next_place (es ++ c.args.entry ∷ []) ≡ next_place es = place_push es c.args.entry c.requires.unsent in
    subst (λ (xs : List Entry). AreEntries xs × (c.self.inside.cursor ≡ next_place xs)) (sym c.push.ensures.items)
    (entries_push es c.args.entry c.self.invariant.0 room c.requires.store c.requires.unsent, c.self.invariant.1 ∙ sym same)
