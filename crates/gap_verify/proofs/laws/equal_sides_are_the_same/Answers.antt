use Rattle.gap_verify.proofs.SideLaws.{instances_same, nodes_same, weights_same, none_of_same}
use Rattle.gap_verify.proofs.laws.equal_sides_are_the_same.Goals as goal

pub returns-clause-instance : goal.returns-clause-instance
returns-clause-instance c = instances_same

pub returns-clause-nodes : goal.returns-clause-nodes
returns-clause-nodes c = nodes_same

pub returns-clause-weights : goal.returns-clause-weights
returns-clause-weights c = weights_same

pub returns-clause-same : goal.returns-clause-same
returns-clause-same c = none_of_same
