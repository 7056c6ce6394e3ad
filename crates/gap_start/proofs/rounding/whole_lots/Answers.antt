use Rattle.std.proofs.Common.{arith}
use Rattle.gap_start.proofs.rounding.whole_lots.Goals as goal

pub returns-clause-small : goal.returns-clause-small
returns-clause-small c = let a = c.max.ensures in let b = c.lo.ensures.most in let d = c.min-lots.ensures in let e = c.hi.ensures.most in let f = c.from-most.ensures in omega arith
