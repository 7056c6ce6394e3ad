use Rattle.gap_sweep.proofs.FrontLaws.{monotone}
use Rattle.gap_sweep.proofs.laws.frontier_is_monotone.Goals as goal

pub returns : goal.returns
returns c = monotone
