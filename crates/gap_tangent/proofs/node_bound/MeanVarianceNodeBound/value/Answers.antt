use Rattle.std.proofs.Common.{◌∙◌, arith}
use Rattle.gap_tangent.proofs.ShownLaws.{root_count}
use Rattle.gap_tangent.proofs.node_bound.MeanVarianceNodeBound.value.Goals as goal

pub value-requires : goal.value-requires
value-requires c = record { count = c.requires.same_length ∙ root_count c.args.self.now.instance.now c.n-assets.ensures.instance; least = λ i h. omega arith; most = λ i h. c.requires.most i }
