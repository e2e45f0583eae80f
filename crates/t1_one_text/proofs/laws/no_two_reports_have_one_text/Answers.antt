use Rattle.t1_one_text.proofs.Reports.{one_report}
use Rattle.t1_one_text.proofs.laws.no_two_reports_have_one_text.Goals as goal

pub returns : goal.returns
returns c = λ one other w b v d e. one_report one other w b v d e
