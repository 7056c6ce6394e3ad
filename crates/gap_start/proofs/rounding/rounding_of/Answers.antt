use Rattle.gap_start.proofs.RoundingLaws.{rounding_same}
use Rattle.gap_start.proofs.rounding.rounding_of.Goals as goal

pub returns-clause-only : goal.returns-clause-only
returns-clause-only c = rounding_same c.args.inst.now c.args.w.p c.args.w.q c.args.part.now c.args.y.now
