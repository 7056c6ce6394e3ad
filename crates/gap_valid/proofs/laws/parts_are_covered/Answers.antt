use Rattle.gap_valid.proofs.TreeLaws.{covered}
use Rattle.gap_valid.proofs.laws.parts_are_covered.Goals as goal

pub returns : goal.returns
returns c = covered
