use Rattle.gap_model.proofs.LeafSizes.{theta_size, void_theta_size, shown_size}
use Rattle.gap_model.proofs.laws.leaf_sizes.Goals as goal

pub returns-clause-theta : goal.returns-clause-theta
returns-clause-theta c = theta_size

pub returns-clause-void_theta : goal.returns-clause-void_theta
returns-clause-void_theta c = void_theta_size

pub returns-clause-shown : goal.returns-clause-shown
returns-clause-shown c = shown_size
