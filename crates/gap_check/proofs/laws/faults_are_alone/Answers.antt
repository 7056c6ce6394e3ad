use Rattle.gap_check.proofs.HistoryLaws.{fault_stays}
use Rattle.gap_check.proofs.OnceLaws.{accepted_once}
use Rattle.gap_check.proofs.OneFault.{fault_or_verdict, one_fault}
use Rattle.gap_check.proofs.laws.faults_are_alone.Goals as goal

pub returns-clause-one : goal.returns-clause-one
returns-clause-one c = one_fault

pub returns-clause-no_verdict : goal.returns-clause-no_verdict
returns-clause-no_verdict c = fault_or_verdict

pub returns-clause-verdict : goal.returns-clause-verdict
returns-clause-verdict c = accepted_once

pub returns-clause-stays : goal.returns-clause-stays
returns-clause-stays c = fault_stays
