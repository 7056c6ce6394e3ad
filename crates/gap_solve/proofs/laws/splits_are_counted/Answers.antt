use Rattle.std.proofs.Common.{ap, ◌∙◌}
use Rattle.gap_valid.specs.CertTrees.{cert_splits}
use Rattle.gap_solve.proofs.TreeLaws.{cert_splits_of, splits_counted}
use Rattle.gap_solve.proofs.laws.splits_are_counted.Goals as goal

pub returns : goal.returns
returns c = λ n solved section h is. ap cert_splits is.tree_is ∙ cert_splits_of n is.tree ∙ splits_counted solved.nodes h is.tree is.stands
