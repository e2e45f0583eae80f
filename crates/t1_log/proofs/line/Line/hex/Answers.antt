use Rattle.std.proofs.Common.{◌-◌, ◌++◌, ◌∙◌, arith, ap}
use Rattle.std.proofs.lemmas.Grind.{common_steps}
use Rattle.t1_log.proofs.Digits.{hex_more}
use Rattle.t1_log.specs.Hex.{hex_of}
use Rattle.t1_log.proofs.line.Line.hex.Goals as goal

pub loop-place-preserved : goal.loop-place-preserved
loop-place-preserved g c = record {
  all = ap (λ bytes. bytes ++ hex_of (c.loop-place.place - 1) c.args.number) c.byte.ensures.value
      ∙ hex_more _ c.loop-place.place _ _ (omega arith) c.digit.ensures ∙ c.loop-place.invariant.all;
  room = grind (arith, common_steps);
}
