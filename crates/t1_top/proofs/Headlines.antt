-- The headline of every command: from what it answers to what it claims.
use Rattle.std.proofs.Common.{◌∙◌, ℕ, List, Option, Some, None, ap, sym, subst}
use Rattle.t1_event.specs.declared.report.Report.{Report}
use Rattle.t1_event.specs.Items.{items_of}
use Rattle.t1_event.specs.Order.{ObeysTso}
use Rattle.t1_joint.specs.Start.{Setup}
use Rattle.t1_log.specs.Log.{text_of}
use Rattle.t1_cli.specs.declared.command.Command.{Command}
use Rattle.t1_cli.specs.declared.command.Command.TheVariants as command
use Rattle.t1_cli.specs.declared.status.Status.{Status}
use Rattle.t1_cli.specs.Headline.{IsInOrder}
use Rattle.t1_cli.specs.Words.{served}
use Rattle.t1_cli.proofs.Headlines.{report_claims, task_claims}
use Rattle.t1_top.specs.Headline.{claimed_of_live, ClaimsCommand}
use Rattle.t1_top.specs.Live.{IsLiveReportOf}
use Rattle.t1_top.specs.Top.{AnswersCommand}

live_in_order : (w : Setup) (report : Report) → IsLiveReportOf w report → IsInOrder w report
live_in_order w report r = record {
  config = ap (λ v. v.config) r.is ∙ ap (λ v. v.config) r.setup;
  image = ap (λ v. v.image) r.is ∙ ap (λ v. v.image) r.setup;
  strands = r.ends.history.all_strands;
  lists = r.listing;
  obeys = subst (λ image. ObeysTso image.ram (items_of report.traces) report.order) (sym (ap (λ v. v.image) r.is ∙ ap (λ v. v.image) r.setup)) r.obeys;
  follows = r.ends.history.table;
}

live_claims : (w : Setup) (report : Report) → IsLiveReportOf w report → claimed_of_live w report
live_claims w report r = (live_in_order w report r, r.ends.history, r.ends.covered)

-- an answer to words makes the headline true of them
pub command_claims : (asked : Option Command) (left left' old new : Option (List ℕ)) (result : Status)
    → AnswersCommand asked left left' old new result → ClaimsCommand asked left old new result
command_claims (Some (command.Live config)) left left' old new result a =
    report_claims config IsLiveReportOf claimed_of_live text_of left left' old new result live_claims a
command_claims None left left' old new result a = tt
command_claims (Some (command.Run config seed brief)) left left' old new result a =
    task_claims (served (Some (command.Run config seed brief))) left left' old new result a
command_claims (Some command.Asm) left left' old new result a = tt
command_claims (Some command.Dis) left left' old new result a = tt
command_claims (Some command.Check) left left' old new result a = tt
command_claims (Some (command.Gen seed size)) left left' old new result a = tt
