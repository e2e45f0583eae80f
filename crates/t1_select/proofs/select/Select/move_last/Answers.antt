-- The strand that is taken out and appended is the one at the place.
use Rattle.std.proofs.Common.{◌≡◌, ◌<◌, ℕ, List, [], ◌∷◌, ◌++◌, length, get_or, ap, sym, ◌∙◌, subst, arith}
use Rattle.std.specs.List.{remove}
use Rattle.std.proofs.lemmas.List.{get_or_default}
use Rattle.t1_select.specs.Queue.{IsQueue, moved_last}
use Rattle.t1_select.proofs.Moves.{queue_moved}
use Rattle.t1_select.proofs.select.Select.move_last.Goals as goal

pub invariant_of-self : goal.invariant_of-self
invariant_of-self c =
    let old : List ℕ = c.self.inside.turns.items in
    let place : ℕ = c.args.place in
    let within : place < length old = omega arith in
    let strand : c.remove-strand.result ≡ get_or old place 0 = c.remove-strand.ensures.value ∙ get_or_default old place c.remove-strand.result 0 within in
    let moved : c.push.new.self.items ≡ moved_last old place =
    c.push.ensures.items ∙ (ap (λ (xs : List ℕ). xs ++ c.remove-strand.result ∷ []) c.remove-strand.ensures.items
    ∙ ap (λ (s : ℕ). remove old place ++ s ∷ []) strand) in
    subst IsQueue (sym moved) (queue_moved old place c.self.invariant within)
