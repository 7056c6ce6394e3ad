use Rattle.std.proofs.Common.{lit<}
use Rattle.gap_base.proofs.Machine.{mul_is, mul_le}
use Rattle.gap_tangent.proofs.shows.charged.Goals as goal

pub returns-clause-value : goal.returns-clause-value
returns-clause-value c = mul_is c.args.alpha c.args.surplus 1000000000000000000000000000000 8000000 c.ranges.alpha c.ranges.surplus c.requires.alpha c.requires.surplus (lit< tt)

pub returns-clause-small : goal.returns-clause-small
returns-clause-small c = mul_le c.args.alpha c.args.surplus 1000000000000000000000000000000 8000000 c.ranges.alpha c.ranges.surplus c.requires.alpha c.requires.surplus (lit< tt)
