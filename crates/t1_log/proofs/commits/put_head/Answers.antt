use Rattle.std.proofs.Common.{refl, append_assoc}
use Rattle.t1_log.specs.Log.{commit_head_of}
use Rattle.t1_log.proofs.commits.put_head.Goals as goal

pub returns-clause-value : goal.returns-clause-value
unfolding commit_head_of
returns-clause-value c =
    simp (
      c.byte-4.ensures.value,
      c.decimal-2.ensures.value,
      c.from.ensures,
      c.byte-3.ensures.value,
      c.short-2.ensures.value,
      c.byte-2.ensures.value,
      c.short.ensures.value,
      c.byte.ensures.value,
      c.decimal.ensures.value,
      c.text.ensures.value,
      append_assoc,
    ) refl
