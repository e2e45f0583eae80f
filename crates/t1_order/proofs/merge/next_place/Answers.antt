use Rattle.std.proofs.Common.{length, Option, Some, None, refl, sym, ◌∙◌, subst, true≢false}
use Rattle.std.proofs.lemmas.Option.{slice_get_read}
use Rattle.t1_event.specs.Items.{items_of}
use Rattle.t1_order.specs.declared.heads.Head.{Head}
use Rattle.t1_order.specs.Merge.{CommitComes}
use Rattle.t1_order.proofs.Steps.{passed_place, commit_place, comes_within, all_listed}
use Rattle.t1_order.proofs.merge.next_place.Goals as goal

pub returns-then-commit_comes-clause-some : goal.returns-then-commit_comes-clause-some
returns-then-commit_comes-clause-some c =
    let log = c.args.log.now in
    let before = c.args.rest.now in
    let comes : CommitComes before.commits (length log) c.first-first.result = c.commit_comes.ensures.0 c.if-commit_comes.true in
    let commit = slice_get_read log (length log) before.commits c.index-log-rest.result refl (comes_within before.commits (length log) c.first-first.result comes) c.index-log-rest.is in
    commit_place (items_of c.args.traces.now) log before c.first-first.result c.index-log-rest.result c.requires.inputs c.requires.rest c.first-first.ensures comes commit

pub returns-in-Some-clause-some : goal.returns-in-Some-clause-some
returns-in-Some-clause-some c =
    let log = c.args.log.now in
    let before = c.args.rest.now in
    let none : CommitComes before.commits (length log) (Some c.in-Some.head) → ⊥ =
    λ comes. true≢false (sym (c.commit_comes.ensures.1 (subst (λ (f : Option Head). CommitComes before.commits (length log) f) (sym c.in-Some.is) comes)) ∙ c.if-commit_comes.false) in
    passed_place (items_of c.args.traces.now) log before c.list_head.new.rest c.in-Some.head c.list_head.result c.requires.inputs c.requires.rest c.in-Some.ensures none c.list_head.ensures

pub returns-in-None-clause-none : goal.returns-in-None-clause-none
returns-in-None-clause-none c =
    let log = c.args.log.now in
    let before = c.args.rest.now in
    let none : CommitComes before.commits (length log) None → ⊥ =
    λ comes. true≢false (sym (c.commit_comes.ensures.1 (subst (λ (f : Option Head). CommitComes before.commits (length log) f) (sym c.in-None.is) comes)) ∙ c.if-commit_comes.false) in
    all_listed (items_of c.args.traces.now) log before c.requires.inputs c.requires.rest c.in-None.ensures none
