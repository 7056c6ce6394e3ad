use Rattle.gap_model.proofs.ThetaLaws.{theta_some_iff, theta_none_iff, void_theta_some_iff, void_theta_none_iff}
use Rattle.gap_model.proofs.laws.theta_is_least.Goals as goal

pub returns-clause-least : goal.returns-clause-least
returns-clause-least c = theta_some_iff

pub returns-clause-none : goal.returns-clause-none
returns-clause-none c = theta_none_iff

pub returns-clause-void_least : goal.returns-clause-void_least
returns-clause-void_least c = void_theta_some_iff

pub returns-clause-void_none : goal.returns-clause-void_none
returns-clause-void_none c = void_theta_none_iff
