-- No slot has a tag, and each pointer is 0.
use Rattle.std.proofs.Common.{rules, ◌≡◌, ◌*◌, ℕ, List, None, Option, ap, ◌∙◌, replicate}
use Rattle.t1_l1.specs.Arrays.{shown}
use Rattle.t1_l1.proofs.Shown.{new_is}
use Rattle.t1_l1.proofs.cache.L1.new.Goals as goal

pub returns : goal.returns
returns g c =
    let n : ℕ = g.row.WAYS * c.args.sets in
    let tags : c.in_ok-tags.tags.items ≡ replicate n None = c.in_ok-tags.ensures.items_if_clones_equal (search rules) in
    let pointers : c.in_ok-pointers.pointers.items ≡ replicate c.args.sets 0 = c.in_ok-pointers.ensures.items_if_clones_equal (search rules) in
    ap (λ (ts : List (Option ℕ)). shown g.row.WAYS c.args.sets g.row.LINE ts c.in_ok-lines.lines.items c.in_ok-pointers.pointers.items) tags
    ∙ (ap (λ (ps : List ℕ). shown g.row.WAYS c.args.sets g.row.LINE (replicate n None) c.in_ok-lines.lines.items ps) pointers
    ∙ new_is g.row.WAYS c.args.sets g.row.LINE c.in_ok-lines.lines.items)
