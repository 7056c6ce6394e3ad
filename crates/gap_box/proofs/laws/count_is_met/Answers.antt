use Rattle.gap_box.proofs.CountLaws.{meets_iff}
use Rattle.gap_box.proofs.laws.count_is_met.Goals as goal

pub returns : goal.returns
returns c = meets_iff
