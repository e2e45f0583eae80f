use Rattle.std.proofs.Common.{◌≡◌, ◌∙◌, ◌++◌, ◌∷◌, [], codes, length, drop, inl, inr, ap, sym, subst, arith}
use Rattle.std.proofs.lemmas.List.{length-append}
use Rattle.t1_log.specs.Log.{kill_field_of, kill_fields_of}
use Rattle.t1_take.specs.declared.cursor.Cursor.{Cursor}
use Rattle.t1_take.specs.Taken.{IsGood}
use Rattle.t1_take.specs.WellFormed.{IsGoodKill}
use Rattle.t1_take.proofs.CommitTexts.{no_kills}
use Rattle.t1_take.proofs.ListTexts.{all_none}
use Rattle.t1_take.proofs.Leaving.{pieces_start, pieces_cases, pieces_next, kills_spelled, kills_end, all_next, longer_than}
use Rattle.t1_take.proofs.commit.take_kills.Goals as goal

pub loop-count-init : goal.loop-count-init
loop-count-init c = record {
  good = all_none (IsGoodKill c.args.cores) c.new-kills.result c.new-kills.ensures;
  few = omega (arith, ap length c.new-kills.ensures);
  takes = no_kills c.args.text.now c.args.cursor.now c.new-kills.result c.new-kills.ensures;
  finds = λ all rest good few e. (pieces_start kill_fields_of c.args.text.now c.args.cursor.now c.new-kills.result all (codes "\n" ++ rest) c.new-kills.ensures e, ap length c.new-kills.ensures);
}

pub loop-count-preserved : goal.loop-count-preserved
loop-count-preserved c = record {
  good = c.take_next_kill.ensures.good;
  few = omega (arith, c.take_next_kill.ensures.few, c.loop-count.invariant.few);
  takes = c.take_next_kill.ensures.takes c.args.cursor.now c.loop-count.invariant.takes;
  finds = λ all rest good few e. (
      let so = c.loop-count.invariant.finds all rest good few e in
      elim (pieces_cases kill_fields_of kill_field_of kills_spelled c.args.text.now c.args.cursor.now c.loop-count.cursor c.loop-count.kills all (codes "\n" ++ rest) so.0) [
        | inl none ↦ absurd (let bad = (c.if-not-take_next_kill.ensures.stops rest none.1).0 in cc)
        | inr n ↦
            let found = c.take_next_kill.ensures.finds n.one (kill_fields_of n.more ++ (codes "\n" ++ rest)) (all_next (IsGoodKill c.args.cores) c.loop-count.kills all n.one n.more good n.all_is) (kills_end n.more rest) n.rest_is in (
              pieces_next kill_fields_of kill_field_of c.args.text.now c.args.cursor.now c.loop-count.cursor c.take_next_kill.new.cursor c.loop-count.kills c.take_next_kill.new.kills all (codes "\n" ++ rest) so.0 n found.1 found.2,
              (let m = ap length found.1 ∙ length-append c.loop-count.kills (n.one ∷ []) in omega (arith, m, so.1)),
            )
      ]
      );
}

pub returns-then-not-take_next_kill-clause-finds : goal.returns-then-not-take_next_kill-clause-finds
returns-then-not-take_next_kill-clause-finds c = λ all rest good few e.
    let so = c.loop-count.invariant.finds all rest good few e in
    elim (pieces_cases kill_fields_of kill_field_of kills_spelled c.args.text.now c.args.cursor.now c.loop-count.cursor c.loop-count.kills all (codes "\n" ++ rest) so.0) [
      | inl none ↦
          let stop = c.take_next_kill.ensures.stops rest none.1 in (
            stop.1 ∙ sym none.0,
            record {
              good = λ g. subst IsGood (sym stop.2) (so.0.good g);
              rest_is = subst (λ (k : Cursor). drop k.at c.args.text.now ≡ codes "\n" ++ rest) (sym stop.2) none.1;
            },
          )
      | inr n ↦ absurd (
          let bad = (c.if-not-take_next_kill.ensures.finds n.one (kill_fields_of n.more ++ (codes "\n" ++ rest)) (all_next (IsGoodKill c.args.cores) c.loop-count.kills all n.one n.more good n.all_is) (kills_end n.more rest) n.rest_is).0 in
          cc
          )
    ]

pub returns-clause-finds : goal.returns-clause-finds
returns-clause-finds c = λ all rest good few e.
    let so = c.loop-count.invariant.finds all rest good few e in
    elim (pieces_cases kill_fields_of kill_field_of kills_spelled c.args.text.now c.args.cursor.now c.loop-count.cursor c.loop-count.kills all (codes "\n" ++ rest) so.0) [
      | inl none ↦ (sym none.0, record { good = so.0.good; rest_is = none.1 })
      | inr n ↦ absurd (let l = longer_than c.loop-count.kills all n.one n.more n.all_is in omega (arith, l, few, so.1))
    ]
