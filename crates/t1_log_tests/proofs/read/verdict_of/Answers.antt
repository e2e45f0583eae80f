use Rattle.t1_read.proofs.Words.{can_be_checked}
use Rattle.t1_log_tests.proofs.read.verdict_of.Goals as goal

pub check-requires : goal.check-requires
check-requires c = can_be_checked c.in_ok-report.report c.in_ok-report.ensures
