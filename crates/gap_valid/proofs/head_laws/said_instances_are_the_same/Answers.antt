use Rattle.gap_valid.proofs.SaidLaws.{rho_said, instance_said, said_is_said, read_is_said, cov_said, risk_said, return_said, objective_said, meets_from_said, meets_said, told_said, neighbours_said}
use Rattle.gap_valid.proofs.OrderLaws.{orders_said}
use Rattle.gap_valid.proofs.head_laws.said_instances_are_the_same.Goals as goal

pub returns-clause-instance : goal.returns-clause-instance
returns-clause-instance c = instance_said

pub returns-clause-again : goal.returns-clause-again
returns-clause-again c = said_is_said

pub returns-clause-read : goal.returns-clause-read
returns-clause-read c = read_is_said

pub returns-clause-rho : goal.returns-clause-rho
returns-clause-rho c = rho_said

pub returns-clause-cov : goal.returns-clause-cov
returns-clause-cov c = cov_said

pub returns-clause-risk : goal.returns-clause-risk
returns-clause-risk c = risk_said

pub returns-clause-ret : goal.returns-clause-ret
returns-clause-ret c = return_said

pub returns-clause-objective : goal.returns-clause-objective
returns-clause-objective c = objective_said

pub returns-clause-meets : goal.returns-clause-meets
returns-clause-meets c = λ I x. (meets_from_said I x, meets_said I x)

pub returns-clause-told : goal.returns-clause-told
returns-clause-told c = told_said

pub returns-clause-neighbours : goal.returns-clause-neighbours
returns-clause-neighbours c = neighbours_said

pub returns-clause-orders : goal.returns-clause-orders
returns-clause-orders c = orders_said
