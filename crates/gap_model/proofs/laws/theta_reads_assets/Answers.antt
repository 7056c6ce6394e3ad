use Rattle.gap_model.proofs.LagLaws.{lag_same}
use Rattle.gap_model.proofs.ThetaLaws.{theta_from_same}
use Rattle.gap_model.proofs.laws.theta_reads_assets.Goals as goal

pub returns-clause-lagrangian : goal.returns-clause-lagrangian
returns-clause-lagrangian c = lag_same

pub returns-clause-least : goal.returns-clause-least
returns-clause-least c = λ s cells y z alpha tau h. theta_from_same s cells y z alpha tau (λ x. lag_same s y z alpha tau x h)
