use Rattle.std.proofs.Common.{ap, sym, ◌∙◌}
use Rattle.t1_io.specs.Held.{Grew, GrewPart}
use Rattle.t1_text.specs.Words.{object_lines_of}
use Rattle.t1_cli.specs.Made.{dis_of, lines_or_error}
use Rattle.t1_cli.proofs.Inputs.{dis_short, wrote_all, wrote_front}
use Rattle.t1_cli.proofs.texts.write_words.Goals as goal

pub returns-then-is_err-clause-made : goal.returns-then-is_err-clause-made
returns-then-is_err-clause-made g c =
    let file = c.args.file.items in
    wrote_front c.print_words.result (dis_of file) (object_lines_of c.in-Ok.object) (GrewPart (g.K.Sink.held c.args.out.now) (g.K.Sink.held c.print_words.new.sink))
    (sym c.if-is_err.true ∙ c.is_err.ensures.value) (dis_short file c.requires ∙ ap lines_or_error c.in-Ok.ensures.object) c.print_words.ensures.part

pub returns-else-is_err-clause-made : goal.returns-else-is_err-clause-made
returns-else-is_err-clause-made g c =
    let file = c.args.file.items in
    wrote_all c.print_words.result (dis_of file) (object_lines_of c.in-Ok.object) (Grew (g.K.Sink.held c.args.out.now) (g.K.Sink.held c.print_words.new.sink))
    (sym c.if-is_err.false ∙ c.is_err.ensures.value) (dis_short file c.requires ∙ ap lines_or_error c.in-Ok.ensures.object) c.print_words.ensures.all
