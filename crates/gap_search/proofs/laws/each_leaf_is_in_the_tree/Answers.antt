use Rattle.gap_search.proofs.WholeLaws.{each_leaf}
use Rattle.gap_search.proofs.laws.each_leaf_is_in_the_tree.Goals as goal

pub returns : goal.returns
returns c = λ nodes tree h s. each_leaf nodes tree h s
