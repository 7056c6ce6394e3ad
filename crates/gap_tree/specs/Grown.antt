-- The tree of splits that a list of nodes is. Own to portgap.

use Rattle.std.specs.Prelude.{◌≡◌, ℕ, List, Some}
use Rattle.std.specs.List.{All}
use Rattle.gap_model.specs.Trees.{SplitTree, IsFormedAt, PartLeaf, tree_leaves}
use Rattle.gap_model.specs.Nodes.{Node, part_at, leaf_at, IsTreeOf}

-- a leaf with its part is a leaf of the list, with its part there
pub record IsLeafOf (nodes : List Node) (l : PartLeaf) : Type 0 where
  pub number : ℕ
  pub there : leaf_at nodes number ≡ Some l.leaf
  pub part_is : part_at nodes number ≡ l.part

-- the node n and what is below it is a tree of splits, well formed at the node's part, whose leaves are leaves of the
-- list, with their parts
pub record HasTree (nodes : List Node) (n : ℕ) : Type 0 where
  pub tree : SplitTree
  pub stands : IsTreeOf nodes n tree
  pub formed : IsFormedAt (part_at nodes n) tree
  pub leaves : All (IsLeafOf nodes) (tree_leaves (part_at nodes n) tree)
