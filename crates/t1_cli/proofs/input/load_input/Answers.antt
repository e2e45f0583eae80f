use Rattle.std.specs.Io.KnownBytes.{IsAtEnd}
use Rattle.t1_io.specs.Causes.{Rose}
use Rattle.t1_cli.proofs.Inputs.{loads, unread_unloaded}
use Rattle.t1_cli.proofs.input.load_input.Goals as goal

pub returns-in-Ok-clause-image : goal.returns-in-Ok-clause-image
returns-in-Ok-clause-image g c =
    (loads c.args.config.now (g.S.Source.left c.args.input.now) (IsAtEnd (g.S.Source.left c.read_input.new.input))
    (Rose (g.S.Source.faults c.args.input.now) (g.S.Source.faults c.read_input.new.input)) c.in-Ok.bytes.items c.load_image.result c.in-Ok.ensures.read
    c.in-Ok.ensures.end c.load_image.ensures.image c.load_image.ensures.refused).image

pub returns-in-Ok-clause-end : goal.returns-in-Ok-clause-end
returns-in-Ok-clause-end g c =
    (loads c.args.config.now (g.S.Source.left c.args.input.now) (IsAtEnd (g.S.Source.left c.read_input.new.input))
    (Rose (g.S.Source.faults c.args.input.now) (g.S.Source.faults c.read_input.new.input)) c.in-Ok.bytes.items c.load_image.result c.in-Ok.ensures.read
    c.in-Ok.ensures.end c.load_image.ensures.image c.load_image.ensures.refused).end

pub returns-in-Ok-clause-unloaded : goal.returns-in-Ok-clause-unloaded
returns-in-Ok-clause-unloaded g c =
    (loads c.args.config.now (g.S.Source.left c.args.input.now) (IsAtEnd (g.S.Source.left c.read_input.new.input))
    (Rose (g.S.Source.faults c.args.input.now) (g.S.Source.faults c.read_input.new.input)) c.in-Ok.bytes.items c.load_image.result c.in-Ok.ensures.read
    c.in-Ok.ensures.end c.load_image.ensures.image c.load_image.ensures.refused).unloaded

pub returns-in-Ok-clause-fault : goal.returns-in-Ok-clause-fault
returns-in-Ok-clause-fault g c =
    (loads c.args.config.now (g.S.Source.left c.args.input.now) (IsAtEnd (g.S.Source.left c.read_input.new.input))
    (Rose (g.S.Source.faults c.args.input.now) (g.S.Source.faults c.read_input.new.input)) c.in-Ok.bytes.items c.load_image.result c.in-Ok.ensures.read
    c.in-Ok.ensures.end c.load_image.ensures.image c.load_image.ensures.refused).fault

pub returns-in-Err-clause-unloaded : goal.returns-in-Err-clause-unloaded
returns-in-Err-clause-unloaded g c = unread_unloaded c.args.config.now (g.S.Source.left c.args.input.now) c.in-Err.verdict c.in-Err.ensures.unread
