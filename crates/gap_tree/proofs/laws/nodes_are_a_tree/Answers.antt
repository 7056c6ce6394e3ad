use Rattle.gap_tree.proofs.GrownLaws.{has_tree}
use Rattle.gap_tree.proofs.laws.nodes_are_a_tree.Goals as goal

pub returns : goal.returns
returns c = λ nodes n h l. has_tree nodes h n l
