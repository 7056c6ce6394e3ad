use Rattle.gap_top.proofs.RenewLaws.{whole_new, front_new}
use Rattle.gap_top.proofs.laws.upgrades_are_right.Goals as goal

pub returns-clause-whole : goal.returns-clause-whole
returns-clause-whole c = whole_new

pub returns-clause-front : goal.returns-clause-front
returns-clause-front c = front_new
