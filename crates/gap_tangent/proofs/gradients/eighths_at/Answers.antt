use Rattle.std.proofs.Common.{arith}
use Rattle.gap_tangent.proofs.RowLaws.{eighths_most}
use Rattle.gap_tangent.proofs.gradients.eighths_at.Goals as goal

pub returns-clause-small : goal.returns-clause-small
returns-clause-small c = let e = c.get.ensures.or_zero in let m = eighths_most c.args.mv.now.instance.now c.args.y.now c.args.i c.n-assets.ensures.instance c.requires.point in omega arith
