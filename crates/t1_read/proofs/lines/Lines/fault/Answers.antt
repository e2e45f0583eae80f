use Rattle.std.proofs.Common.{◌≡◌, ◌∙◌, ◌+◌, ℕ, List, take, drop, ap, subst, arith}
use Rattle.std.proofs.lemmas.List.{length-take}
use Rattle.t1_read.specs.Faults.{feeds, BeginsWith}
use Rattle.t1_read.specs.Standing.{Refused}
use Rattle.t1_read.proofs.Feeds.{feeds_few, cut_front, cut_back}
use Rattle.t1_read.proofs.lines.Lines.fault.Goals as goal

pub overflow_add-result : goal.overflow_add-result
overflow_add-result c = (
    let few = feeds_few (take c.min.result c.args.text.now) in
    let long = length-take c.min.result c.args.text.now in
    let n = c.line_feeds.ensures ∙ ap feeds c.split_at.ensures.front in
    omega (arith, few, long, n, c.requires)
    )

pub returns-in-Some : goal.returns-in-Some
returns-in-Some c = (
    let text = c.args.text.now in
    let at = c.args.self.now.at in
    let back : c.split_at.result.1.now ≡ drop at text = c.split_at.ensures.back ∙ (ap (λ (n : ℕ). drop n text) c.min.ensures ∙ cut_back text at) in
    let front : c.split_at.result.0.now ≡ take at text = c.split_at.ensures.front ∙ (ap (λ (n : ℕ). take n text) c.min.ensures ∙ cut_front text at) in
    let found = c.in-Some.ensures in
    Refused c.in-Some.line.now found.after (subst (λ (t : List ℕ). BeginsWith t c.in-Some.line.now found.after) back found.begins)
    (ap (λ (n : ℕ). n + 1) (c.line_feeds.ensures ∙ ap feeds front)) c.kind_of_fault.ensures
    )
