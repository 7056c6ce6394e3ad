use Rattle.gap_top.proofs.RightLaws.{told_right}
use Rattle.gap_top.proofs.laws.answers_are_right.Goals as goal

pub returns : goal.returns
returns c = told_right
