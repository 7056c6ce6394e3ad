use Rattle.std.proofs.Common.{sym, ap, ◌∙◌}
use Rattle.gap_instance.specs.Instances.{InstanceValue}
use Rattle.gap_tangent.specs.Seen.{setting_of}
use Rattle.gap_guide.proofs.ChildLaws.{part_length}
use Rattle.gap_guide.proofs.steering.SteeringGuideMeanVariance.candidate.Goals as goal

pub rounding_of-list-requires-clause-cells : goal.rounding_of-list-requires-clause-cells
rounding_of-list-requires-clause-cells c = part_length (setting_of c.args.bound.now) c.args.part.now c.args.bound.now.setting c.requires.part ∙ sym (ap (λ (I : InstanceValue). I.market.assets) c.instance-inst.ensures)
