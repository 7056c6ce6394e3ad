use Rattle.gap_model.proofs.LagLaws.{lag_below, lag_exact, void_lag_below}
use Rattle.gap_model.proofs.laws.lagrangian_bounds.Goals as goal

pub returns-clause-below : goal.returns-clause-below
returns-clause-below c = lag_below

pub returns-clause-exact : goal.returns-clause-exact
returns-clause-exact c = lag_exact

pub returns-clause-void : goal.returns-clause-void
returns-clause-void c = void_lag_below
