-- The tree of splits by which a search takes a part apart, as a value. Own to portgap.

use Rattle.std.specs.Prelude.{ℕ, ◌+◌, List, [], ◌∷◌, ◌++◌, IsTrue}
use Rattle.gap_box.specs.declared.cell.Cell.{Cell}
use Rattle.gap_box.specs.declared.split.Split.{Split}
use Rattle.gap_box.specs.declared.split.Side.TheVariants.{First, Second}
use Rattle.gap_box.specs.Splits.{lawful_split, child_cells}
use Rattle.gap_model.specs.declared.leaf.Leaf.{Leaf}

-- a tree is a leaf, or a split with the trees of its first and its second side
pub data SplitTree : Type 0 where
  tip : Leaf → SplitTree
  fork : Split → SplitTree → SplitTree → SplitTree

-- a tree is well formed at a part: each split is lawful at its part, and each side stands at the child of it
abbrev pub IsFormedAt : List Cell → SplitTree → Type 0
IsFormedAt part (tip leaf) = Unit {0}
IsFormedAt part (fork split first second) =
    IsTrue (lawful_split part split) × IsFormedAt (child_cells part split First) first
    × IsFormedAt (child_cells part split Second) second

-- how many splits a tree has
abbrev pub tree_splits : SplitTree → ℕ
tree_splits (tip leaf) = 0
tree_splits (fork split first second) = tree_splits first + tree_splits second + 1

-- a leaf with the part that it stands at
pub record PartLeaf : Type 0 where
  pub part : List Cell
  pub leaf : Leaf

-- the leaves of a tree at a part, with their parts, the first side's before the second's
abbrev pub tree_leaves : List Cell → SplitTree → List PartLeaf
tree_leaves part (tip leaf) = record { part = part; leaf = leaf } ∷ []
tree_leaves part (fork split first second) =
    tree_leaves (child_cells part split First) first ++ tree_leaves (child_cells part split Second) second
