use Rattle.std.proofs.Common.{◌∙◌, sym}
use Rattle.t1_io.proofs.Growth.{Grew-nil}
use Rattle.t1_log.specs.Texts.{block_lines_of}
use Rattle.t1_log.proofs.texts.print_block.Goals as goal

pub returns-then-is_blank-clause-all : goal.returns-then-is_blank-clause-all
unfolding block_lines_of
returns-then-is_blank-clause-all g c = rw (sym c.is_blank.ensures ∙ c.if-is_blank.true) (Grew-nil _)
