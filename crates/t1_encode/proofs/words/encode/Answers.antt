use Rattle.t1_encode.proofs.Encoding.{again, encoded_in_range}
use Rattle.t1_encode.proofs.words.encode.Goals as goal

pub returns : goal.returns
returns c = record {
  value = c.word.ensures;
  none = rw c.word.ensures (encoded_in_range c.args.insn.now);
  again = rw c.word.ensures (again c.args.insn.now);
}
