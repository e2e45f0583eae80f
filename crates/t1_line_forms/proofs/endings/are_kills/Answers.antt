use Rattle.std.proofs.Common.{◌≡◌, ℕ, suc, ◌+◌, ◌-◌, List, [], length, sym, ap, subst, ◌∙◌, arith}
use Rattle.std.proofs.lemmas.Bool.{eqb-true, eqb-false}
use Rattle.std.proofs.lemmas.List.{nil_from_length}
use Rattle.t1_line_forms.specs.Fields.{Field, Leads}
use Rattle.t1_line_forms.specs.Forms.{AreKills}
use Rattle.t1_line_forms.proofs.Tails.{no_kills, one_more_kill, first_kill, same_kills, kills_decided}
use Rattle.t1_line_forms.proofs.endings.are_kills.Goals as goal

pub returns-then-is_empty : goal.returns-then-is_empty
returns-then-is_empty c =
    let rest = c.loop-count.rest.now in
    c.loop-count.invariant.back (no_kills (64 - c.loop-count.count) rest (nil_from_length rest (eqb-true (length rest) 0 (sym c.is_empty.ensures ∙ c.if-is_empty.true))))

pub returns-in-None : goal.returns-in-None
returns-in-None c = λ all.
    let rest = c.loop-count.rest.now in
    let left : 64 - c.loop-count.count ≡ suc (64 - (c.loop-count.count + 1)) = omega (arith, c.loop-count-test.true) in
    let some = λ (e : rest ≡ []). eqb-false (length rest) 0 (sym c.is_empty.ensures ∙ c.if-is_empty.false) (ap (λ (t : List ℕ). length t) e) in
    let kill = first_kill (64 - (c.loop-count.count + 1)) rest some (subst (λ (n : ℕ). AreKills n rest) left (c.loop-count.invariant.forth all)) in
    c.in-None.ensures.only kill.rest (subst (λ (fields : List Field). Leads [] fields rest kill.rest) (sym c.kill_table.ensures) kill.first)

pub loop-count-preserved : goal.loop-count-preserved
loop-count-preserved c =
    let rest = c.loop-count.rest.now in
    let more = c.in-Some.more.now in
    let left : 64 - c.loop-count.count ≡ suc (64 - (c.loop-count.count + 1)) = omega (arith, c.loop-count-test.true) in
    let some = λ (e : rest ≡ []). eqb-false (length rest) 0 (sym c.is_empty.ensures ∙ c.if-is_empty.false) (ap (λ (t : List ℕ). length t) e) in
    let first = subst (λ (fields : List Field). Leads [] fields rest more) c.kill_table.ensures c.in-Some.ensures.some in
    record {
      back = λ others. c.loop-count.invariant.back (subst (λ (n : ℕ). AreKills n rest) (sym left) (one_more_kill (64 - (c.loop-count.count + 1)) rest more first others));
      forth = λ all. (
          let kill = first_kill (64 - (c.loop-count.count + 1)) rest some (subst (λ (n : ℕ). AreKills n rest) left (c.loop-count.invariant.forth all)) in
          let same : more ≡ kill.rest = c.in-Some.ensures.only kill.rest (subst (λ (fields : List Field). Leads [] fields rest kill.rest) (sym c.kill_table.ensures) kill.first) in
          same_kills (64 - (c.loop-count.count + 1)) more kill.rest same kill.others
          );
    }

pub returns : goal.returns
returns c =
    kills_decided c.is_empty-2.result c.loop-count.rest.now (AreKills 64 c.args.text.now) (64 - c.loop-count.count) (omega (arith, c.loop-count-test.false)) c.is_empty-2.ensures c.loop-count.invariant.back c.loop-count.invariant.forth
