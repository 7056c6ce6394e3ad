use Rattle.gap_instance.specs.Objective.{cov_of}
use Rattle.gap_factor.proofs.LeastLaws.{dominant_of_least}
use Rattle.gap_factor.proofs.choice.factor.Goals as goal

pub returns-clause-dominant : goal.returns-clause-dominant
returns-clause-dominant c = dominant_of_least (cov_of c.args.inst.now.market) c.choose.new.shift c.choose.ensures.least
