use Rattle.gap_tangent.proofs.ShownLaws.{keeps_from}
use Rattle.gap_tangent.proofs.node_bound.MeanVarianceNodeBound.keeps.Goals as goal

pub returns : goal.returns
returns c = keeps_from c.args.self.now.instance.now c.args.x.now c.keeps.result c.is_none.result c.is_none.ensures c.keeps.ensures.kept
