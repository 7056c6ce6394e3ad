-- The tree of a search as the list of its numbered nodes: the root has number 0, and each split gives the next two
-- numbers to its first and its second child. Own to portgap.

use Rattle.std.specs.Prelude.{◌≡◌, ℕ, zero, suc, ◌+◌, ◌*◌, ◌<◌, List, [], ◌∷◌, ◌++◌, length, sum_by, slice_get, Option, Some, None, IsTrue}
use Rattle.gap_box.specs.declared.cell.Cell.{Cell}
use Rattle.gap_box.specs.declared.split.Split.{Split}
use Rattle.gap_box.specs.declared.split.Side.TheVariants.{First, Second}
use Rattle.gap_box.specs.Cells.{AreCells}
use Rattle.gap_box.specs.Parts.{in_part, indicator, points, IsWithin}
use Rattle.gap_box.specs.Splits.{lawful_split, child_cells}
use Rattle.gap_model.specs.declared.leaf.Leaf.{Leaf}
use Rattle.gap_model.specs.Trees.{SplitTree, tip, fork}

-- what became of a node: it ends in a leaf, or forks by a split, where its first child has the number and the second
-- the next
pub data Fate : Type 0 where
  ends : Leaf → Fate
  forks : Split → ℕ → Fate

-- a node: its part, the number of its parent, which the root alone has none of, and what became of it
pub record Node : Type 0 where
  pub part : List Cell
  pub parent : Option ℕ
  pub fate : Fate

-- a number counted at leaves alone
abbrev pub at_leaf : ℕ → Fate → ℕ
at_leaf v (ends leaf) = v
at_leaf v (forks split first) = 0

-- 1 at a split
abbrev pub one_split : Fate → ℕ
one_split (ends leaf) = 0
one_split (forks split first) = 1

-- 1 where a node is a leaf and a list is one of its part
abbrev pub share : List ℕ → Node → ℕ
share x node = at_leaf (indicator (in_part node.part x)) node.fate

-- the points of a leaf's part, 0 for a split
abbrev pub leaf_points : Node → ℕ
leaf_points node = at_leaf (points node.part) node.fate

-- how many nodes are split
abbrev pub splits_of : List Node → ℕ
splits_of nodes = sum_by (λ node. one_split node.fate) nodes

-- the part of a node that may be there
abbrev pub part_in : Option Node → List Cell
part_in None = []
part_in (Some node) = node.part

-- the part of the node with a number
abbrev pub part_at : List Node → ℕ → List Cell
part_at nodes n = part_in (slice_get nodes n)

-- the leaf of a node that may be there; None where the node is split
abbrev pub leaf_in : Option Node → Option Leaf
leaf_in None = None
leaf_in (Some node) = of_fate node.fate where
  of_fate : Fate → Option Leaf
  of_fate (ends leaf) = Some leaf
  of_fate (forks split first) = None

-- the leaf of the node with a number; None where there is no such leaf
abbrev pub leaf_at : List Node → ℕ → Option Leaf
leaf_at nodes n = leaf_in (slice_get nodes n)

-- the split of a node that may be there; None where the node is a leaf
abbrev pub split_in : Option Node → Option Split
split_in None = None
split_in (Some node) = of_fate node.fate where
  of_fate : Fate → Option Split
  of_fate (ends leaf) = None
  of_fate (forks split first) = Some split

-- the split of the node with a number; None where there is no such split
abbrev pub split_at : List Node → ℕ → Option Split
split_at nodes n = split_in (slice_get nodes n)

-- the number of the first child of a node that may be there
abbrev pub first_in : Option Node → Option ℕ
first_in None = None
first_in (Some node) = of_fate node.fate where
  of_fate : Fate → Option ℕ
  of_fate (ends leaf) = None
  of_fate (forks split first) = Some first

-- the number of the first child of the node with a number; None where there is none
abbrev pub first_at : List Node → ℕ → Option ℕ
first_at nodes n = first_in (slice_get nodes n)

-- the parent of a node that may be there
abbrev pub parent_in : Option Node → Option ℕ
parent_in None = None
parent_in (Some node) = node.parent

-- the number of the parent of the node with a number; None at the root
abbrev pub parent_at : List Node → ℕ → Option ℕ
parent_at nodes n = parent_in (slice_get nodes n)

-- a node with another fate
abbrev pub with_fate : Fate → Node → Node
with_fate fate node = record { part = node.part; parent = node.parent; fate = fate }

-- the list with one of its nodes given another fate
abbrev pub refated : Fate → List Node → ℕ → List Node
refated fate [] n = []
refated fate (node ∷ nodes) zero = with_fate fate node ∷ nodes
refated fate (node ∷ nodes) (suc n) = node ∷ refated fate nodes n

-- a new leaf below a node
abbrev pub new_leaf : List Cell → ℕ → Leaf → Node
new_leaf part parent leaf = record { part = part; parent = Some parent; fate = ends leaf }

-- the nodes after the leaf n was split: it forks, and its two children come last
abbrev pub split_nodes : List Node → ℕ → Split → Leaf → Leaf → List Node
split_nodes nodes n split first second =
    refated (forks split (length nodes)) nodes n ++ new_leaf (child_cells (part_at nodes n) split First) n first
    ∷ new_leaf (child_cells (part_at nodes n) split Second) n second ∷ []

-- the nodes after another leaf was put in the place of the leaf n
abbrev pub leaf_nodes : List Node → ℕ → Leaf → List Node
leaf_nodes nodes n leaf = refated (ends leaf) nodes n

-- the nodes of a tree that is one leaf
abbrev pub root_nodes : List Cell → Leaf → List Node
root_nodes part leaf = record { part = part; parent = None; fate = ends leaf } ∷ []

-- the node n is there, with this part and this parent
pub record HasNode (nodes : List Node) (n : ℕ) (part : List Cell) (parent : Option ℕ) : Type 0 where
  pub node : Node
  pub there : slice_get nodes n ≡ Some node
  pub part_is : node.part ≡ part
  pub parent_is : node.parent ≡ parent

-- a node that forks: its split is lawful at its part, and behind it its two children stand side by side
pub record HasChildren (nodes : List Node) (n : ℕ) (part : List Cell) (split : Split) (k : ℕ) : Type 0 where
  pub lawful : IsTrue (lawful_split part split)
  pub behind : n < k
  pub first : HasNode nodes k (child_cells part split First) (Some n)
  pub second : HasNode nodes (k + 1) (child_cells part split Second) (Some n)

-- a list of nodes is a tree: it has a root, which has no parent; its parts have cells in range and are within the
-- root's; where a node forks its children stand; each list of the root is in the part of exactly one leaf; the points of
-- the leaves add up to the root's; and each split adds two nodes
pub record IsTree (nodes : List Node) : Type 0 where
  pub root : (node : Node) × (slice_get nodes 0 ≡ Some node) × (node.parent ≡ None)
  pub cells : (n : ℕ) (node : Node) → slice_get nodes n ≡ Some node → AreCells node.part
  pub within : (n : ℕ) (node : Node) → slice_get nodes n ≡ Some node → IsWithin node.part (part_at nodes 0)
  pub children : (n : ℕ) (node : Node) (split : Split) (k : ℕ) → slice_get nodes n ≡ Some node
      → node.fate ≡ forks split k → HasChildren nodes n node.part split k
  pub cover : (x : List ℕ) → sum_by (share x) nodes ≡ indicator (in_part (part_at nodes 0) x)
  pub sum : sum_by leaf_points nodes ≡ points (part_at nodes 0)
  pub number : length nodes ≡ 2 * splits_of nodes + 1

-- the node n of a list and what is below it is this tree
abbrev pub IsTreeOf : List Node → ℕ → SplitTree → Type 0
IsTreeOf nodes n (tip leaf) = (node : Node) × (slice_get nodes n ≡ Some node) × (node.fate ≡ ends leaf)
IsTreeOf nodes n (fork split first second) =
    (node : Node) × (k : ℕ) × (slice_get nodes n ≡ Some node) × (node.fate ≡ forks split k) × IsTreeOf nodes k first
    × IsTreeOf nodes (k + 1) second
