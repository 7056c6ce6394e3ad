use Rattle.gap_valid.proofs.TreeLaws.{same_shown}
use Rattle.gap_valid.proofs.laws.leaves_show_as_bounds.Goals as goal

pub returns : goal.returns
returns c = same_shown
