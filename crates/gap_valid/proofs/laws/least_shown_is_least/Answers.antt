use Rattle.gap_valid.proofs.ShownLaws.{least_iff}
use Rattle.gap_valid.proofs.laws.least_shown_is_least.Goals as goal

pub returns : goal.returns
returns c = least_iff
