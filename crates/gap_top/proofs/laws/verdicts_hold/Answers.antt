use Rattle.gap_top.proofs.VerdictLaws.{check_says, verify_says}
use Rattle.gap_top.proofs.laws.verdicts_hold.Goals as goal

pub returns-clause-check : goal.returns-clause-check
returns-clause-check c = check_says

pub returns-clause-verify : goal.returns-clause-verify
returns-clause-verify c = verify_says
