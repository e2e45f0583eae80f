use Rattle.std.proofs.Common.{◌≡◌, ◌<◌, ◌++◌, ◌∷◌, [], List, length, ap, ◌∙◌, arith}
use Rattle.t1_machine.proofs.Ends.{keep_all}
use Rattle.t1_machine.proofs.ring.Ring.push.Goals as goal

-- src/ring.rt:52:5
pub returns : goal.returns
returns g c =
    let items : List g.row.T.Denot = c.self.inside.items.items in
    let view : items ≡ c.args.self.now = c.self.view_is in
    let most : c.self.inside.items.capacity ≡ g.row.MOST = c.self.invariant in
    let len : length items ≡ length c.args.self.now = ap (λ (xs : List g.row.T.Denot). length xs) view in
    let below : length items < c.self.inside.items.capacity = omega (arith, c.requires, most, len) in
    ap (λ b. b.items) c.push_back.ensures.items
    ∙ (keep_all c.self.inside.items.capacity items c.args.item below ∙ ap (λ (xs : List g.row.T.Denot). xs ++ c.args.item ∷ []) view)
