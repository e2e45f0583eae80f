use Rattle.std.proofs.Common.{refl}
use Rattle.t1_log.specs.Log.{text_of}
use Rattle.t1_cli.proofs.Inputs.{not_loaded, not_loaded_judged, loaded_judged}
use Rattle.t1_top.specs.Live.{IsLiveReportOf}
use Rattle.t1_top.proofs.live.serve_live.Goals as goal

pub returns-in-Ok-clause-serves : goal.returns-in-Ok-clause-serves
returns-in-Ok-clause-serves g c =
    loaded_judged c.args.config.now IsLiveReportOf text_of _ _ _ c.write_live.result c.in-Ok.image c.in-Ok.ensures.image c.write_live.ensures.judged

pub returns-in-Err : goal.returns-in-Err
returns-in-Err g c =
    let left = g.S.Source.left c.args.input.now in
    let held = g.K.Sink.held c.args.out.now in
    let none = not_loaded c.args.config.now left c.in-Err.verdict c.in-Err.ensures.unloaded in
    record {
      serves = not_loaded_judged c.args.config.now IsLiveReportOf text_of left held held c.in-Err.verdict c.in-Err.ensures.unloaded;
      usage = none.usage;
      unchanged = λ _. refl;
      read_fault = c.in-Err.ensures.fault;
      write_fault = λ e. absurd (none.write_fault e);
      end = λ text. absurd (none.no_text text);
    }
