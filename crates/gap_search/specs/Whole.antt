-- The tree of a search has all of its leaves. Own to portgap.

use Rattle.std.specs.Prelude.{◌≡◌, ℕ, List, Some, Contains}
use Rattle.gap_model.specs.declared.leaf.Leaf.{Leaf}
use Rattle.gap_model.specs.Trees.{SplitTree, tree_leaves}
use Rattle.gap_model.specs.Nodes.{Node, part_at, leaf_at}

-- each leaf of some nodes is a leaf of a tree that stands at the root, with its part
pub record HasEachLeaf (nodes : List Node) (tree : SplitTree) : Type 0 where
  pub each : (n : ℕ) (leaf : Leaf) → leaf_at nodes n ≡ Some leaf
      → Contains (tree_leaves (part_at nodes 0) tree) (record { part = part_at nodes n; leaf = leaf })
