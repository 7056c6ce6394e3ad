use Rattle.gap_top.proofs.TellLaws.{checked, checked_upgrade, verified}
use Rattle.gap_top.proofs.laws.verdicts_are_right.Goals as goal

pub returns-clause-check : goal.returns-clause-check
returns-clause-check c = checked

pub returns-clause-verify : goal.returns-clause-verify
returns-clause-verify c = verified

pub returns-clause-upgrade : goal.returns-clause-upgrade
returns-clause-upgrade c = checked_upgrade
