use Rattle.gap_tangent.proofs.ShownLaws.{zero_is}
use Rattle.gap_tangent.proofs.shows.is_zero.Goals as goal

pub returns : goal.returns
returns c = zero_is c.args.third c.ranges.third
