use Rattle.std.proofs.Common.{ℕ, ◌++◌, ◌∷◌, [], List, ◌∙◌, refl, ap, sym, arith}
use Rattle.std.proofs.lemmas.Option.{same_Some, none-some}
use Rattle.t1_packet.specs.Data.{KillData}
use Rattle.t1_take.specs.Commits.{kill_tail_of}
use Rattle.t1_take.proofs.CommitTexts.{kill_text, one_more_kill}
use Rattle.t1_take.proofs.commit.take_next_kill.Goals as goal

pub returns-in-Some-clause-takes : goal.returns-in-Some-clause-takes
returns-in-Some-clause-takes c = λ start before.
    one_more_kill c.args.text.now start c.args.cursor.now c.takes.new.self c.take_kill.new.cursor c.args.kills.now c.push.new.self c.in-Some.kill before c.if-not-takes.ensures.cases c.in-Some.ensures.takes c.push.ensures

pub returns-then-not-takes-clause-finds : goal.returns-then-not-takes-clause-finds
returns-then-not-takes-clause-finds c = λ kill rest good after e.
    absurd (let bad = (c.if-not-takes.ensures.finds (kill_tail_of kill ++ rest) (omega arith) (e ∙ ap (λ (t : List ℕ). t ++ rest) (sym (kill_text kill)))).0 in cc)

pub returns-in-Some-clause-finds : goal.returns-in-Some-clause-finds
returns-in-Some-clause-finds c = λ kill rest good after e.
    let space = c.if-not-takes.ensures.finds (kill_tail_of kill ++ rest) (omega arith) (e ∙ ap (λ (t : List ℕ). t ++ rest) (sym (kill_text kill))) in
    let found = c.in-Some.ensures.finds kill rest good after space.1.rest_is in
    let same = same_Some c.in-Some.kill kill found.0 in
    (refl, c.push.ensures ∙ ap (λ (k : KillData). c.args.kills.now ++ k ∷ []) same, record { good = λ g. found.1.good (space.1.good g); rest_is = found.1.rest_is })

pub returns-in-None-clause-finds : goal.returns-in-None-clause-finds
returns-in-None-clause-finds c = λ kill rest good after e.
    let space = c.if-not-takes.ensures.finds (kill_tail_of kill ++ rest) (omega arith) (e ∙ ap (λ (t : List ℕ). t ++ rest) (sym (kill_text kill))) in
    absurd (none-some kill (c.in-None.ensures.finds kill rest good after space.1.rest_is).0)
