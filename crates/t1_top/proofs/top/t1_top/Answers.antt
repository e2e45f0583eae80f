use Rattle.std.proofs.Common.{sym, ◌∙◌}
use Rattle.t1_top.proofs.Commands.{live_answers, live_usage, live_reads, live_tells, serial_usage, serial_answers, serial_reads, serial_tells}
use Rattle.t1_top.proofs.Headlines.{command_claims}
use Rattle.t1_top.proofs.top.t1_top.Goals as goal

pub returns-in-Some-clause-usage : goal.returns-in-Some-clause-usage
returns-in-Some-clause-usage g c =
    live_usage _ c.in-Some.config c.serve_live-verdict.result _ (sym c.read_live.ensures.value ∙ c.in-Some.is) c.status.ensures c.serve_live-verdict.ensures.usage

pub returns-in-Some-clause-answers : goal.returns-in-Some-clause-answers
returns-in-Some-clause-answers g c =
    live_answers _ c.in-Some.config _ _ _ _ c.serve_live-verdict.result _ (sym c.read_live.ensures.value ∙ c.in-Some.is) c.status.ensures
    c.serve_live-verdict.ensures.serves c.serve_live-verdict.ensures.end

pub returns-in-Some-clause-headline : goal.returns-in-Some-clause-headline
returns-in-Some-clause-headline g c = command_claims _ _ _ _ _ _ (returns-in-Some-clause-answers g c)

pub returns-in-Some-clause-unread : goal.returns-in-Some-clause-unread
returns-in-Some-clause-unread g c =
    λ none. absurd (live_reads _ c.in-Some.config (sym c.read_live.ensures.value ∙ c.in-Some.is) none)

pub returns-in-Some-clause-line : goal.returns-in-Some-clause-line
returns-in-Some-clause-line g c =
    live_tells _ c.in-Some.config _ _ _ _ _ _ _ c.serve_live-verdict.result _ (sym c.read_live.ensures.value ∙ c.in-Some.is) c.status.ensures
    c.serve_live-verdict.ensures.serves c.tell.ensures

pub returns-in-None-clause-usage : goal.returns-in-None-clause-usage
returns-in-None-clause-usage g c = serial_usage _ c.t1_serial.result (sym c.in-None.is ∙ c.read_live.ensures.value) c.t1_serial.ensures.usage

pub returns-in-None-clause-answers : goal.returns-in-None-clause-answers
returns-in-None-clause-answers g c =
    serial_answers _ _ _ _ _ c.t1_serial.result (sym c.in-None.is ∙ c.read_live.ensures.value) c.t1_serial.ensures.answers

pub returns-in-None-clause-headline : goal.returns-in-None-clause-headline
returns-in-None-clause-headline g c = command_claims _ _ _ _ _ _ (returns-in-None-clause-answers g c)

pub returns-in-None-clause-unread : goal.returns-in-None-clause-unread
returns-in-None-clause-unread g c =
    λ none. c.t1_serial.ensures.unread (serial_reads _ (sym c.in-None.is ∙ c.read_live.ensures.value) none)

pub returns-in-None-clause-line : goal.returns-in-None-clause-line
returns-in-None-clause-line g c =
    serial_tells _ _ _ _ _ _ _ _ c.t1_serial.result (sym c.in-None.is ∙ c.read_live.ensures.value) c.t1_serial.ensures.line
