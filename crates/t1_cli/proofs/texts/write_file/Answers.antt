use Rattle.std.proofs.Common.{◌≡◌, Ok, ap, sym, ◌∙◌}
use Rattle.t1_io.specs.Held.{Grew, GrewPart}
use Rattle.t1_text.specs.Files.{file_of}
use Rattle.t1_cli.specs.Made.{asm_of, file_or_fault}
use Rattle.t1_cli.proofs.Inputs.{asm_short, fault_made, wrote_all, wrote_front}
use Rattle.t1_cli.proofs.texts.write_file.Goals as goal

pub returns-then-is_err-clause-made : goal.returns-then-is_err-clause-made
returns-then-is_err-clause-made g c =
    let text = c.args.text.items in
    let file : file_of text ≡ Ok c.in-Ok.file.items = rw c.as_slice.ensures.value at c.in-Ok.ensures.file in
    wrote_front c.write_all.result (asm_of text) c.in-Ok.file.items (GrewPart (g.K.Sink.held c.args.out.now) (g.K.Sink.held c.write_all.new.sink))
    (sym c.if-is_err.true ∙ c.is_err.ensures.value) (asm_short text c.requires ∙ ap file_or_fault file)
    (rw c.as_slice-in-Ok.ensures.value at c.write_all.ensures.part)

pub returns-in-Ok-clause-made : goal.returns-in-Ok-clause-made
returns-in-Ok-clause-made g c =
    let text = c.args.text.items in
    let file : file_of text ≡ Ok c.in-Ok.file.items = rw c.as_slice.ensures.value at c.in-Ok.ensures.file in
    wrote_all c.write_all.result (asm_of text) c.in-Ok.file.items (Grew (g.K.Sink.held c.args.out.now) (g.K.Sink.held c.write_all.new.sink))
    (sym c.if-is_err.false ∙ c.is_err.ensures.value) (asm_short text c.requires ∙ ap file_or_fault file)
    (rw c.as_slice-in-Ok.ensures.value at c.write_all.ensures.all)

pub returns-clause-made : goal.returns-clause-made
returns-clause-made g c =
    let text = c.args.text.items in
    let held = g.K.Sink.held c.args.out.now in
    fault_made text held held c.fault_verdict.result c.requires (c.fault_verdict.ensures (file_of text) (rw c.as_slice.ensures.value at c.in-Err.ensures.error))
