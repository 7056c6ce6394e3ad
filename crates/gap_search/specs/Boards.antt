-- What a search keeps, and what holds of it between any two steps. Own to portgap.

use Rattle.std.specs.Prelude.{◌≡◌, ℕ, ◌+◌, ◌≤◌, true, List, sum_by, slice_index_or, Option, Some, None, ℤ, ◌≤ℤ◌, ◌<ℤ◌, IsTrue}
use Rattle.gap_box.specs.declared.cell.Cell.{Cell}
use Rattle.gap_box.specs.declared.node.NodeId.{NodeId}
use Rattle.gap_box.specs.Parts.{in_part, can_meet, IsSingle}
use Rattle.gap_model.specs.declared.leaf.Leaf.{Leaf}
use Rattle.gap_model.specs.declared.outcome.Best.{Best}
use Rattle.gap_model.specs.declared.shown.Shown.{Shown}
use Rattle.gap_model.specs.declared.shown.Shown.TheVariants.{AtLeast}
use Rattle.gap_model.specs.Order.{ShownLe}
use Rattle.gap_model.specs.Problems.{Problem, IsPart}
use Rattle.gap_model.specs.Tight.{IsTight}
use Rattle.gap_model.specs.Nodes.{Node, splits_of, part_at, leaf_at, IsTree}

-- what a search keeps: its nodes, what each worker holds, the best list that was found, and how many splits may be made
pub record Board : Type 0 where
  pub nodes : List Node
  pub held : List (Option NodeId)
  pub best : Option Best
  pub budget : ℕ

-- a search: its bound, what it keeps, and how many workers it has
pub record State (B : Type 0) : Type 0 where
  pub bound : B
  pub board : Board
  pub workers : ℕ

-- a ticket: the leaf that a worker holds, with its part
pub record Claimed : Type 0 where
  pub worker : ℕ
  pub node : NodeId
  pub part : List Cell

-- the leaf that a worker holds
abbrev pub node_held : List (Option NodeId) → ℕ → Option NodeId
node_held held w = slice_index_or held w None

abbrev pub one_held : Option NodeId → ℕ
one_held None = 0
one_held (Some node) = 1

-- how many leaves are held
abbrev pub tickets : List (Option NodeId) → ℕ
tickets held = sum_by one_held held

-- the best is there and is at most a number
abbrev pub BestAtMost : Option Best → ℤ → Type 0
BestAtMost None v = ⊥
BestAtMost (Some best) v = best.value ≤ℤ v

-- the best is above a number, or there is none
abbrev pub BestAbove : Option Best → ℤ → Type 0
BestAbove None v = Unit {0}
BestAbove (Some best) v = v <ℤ best.value

-- the best meets the limits and carries its cost
abbrev pub IsBest : Problem → Option Best → Type 0
IsBest p None = Unit {0}
IsBest p (Some best) = (p.meets best.lots ≡ true) × (best.value ≡ p.cost best.lots)

-- a leaf is in range, and tight on a part
pub record FitsPart (p : Problem) (part : List Cell) (leaf : Leaf) : Type 0 where
  pub in_range : p.in_range leaf ≡ true
  pub tight : IsTight p part leaf

-- what a worker may hold: a leaf that shows a number on a part with more than one list
pub record OpenLeaf (p : Problem) (nodes : List Node) (n : ℕ) : Type 0 where
  pub leaf : Leaf
  pub there : leaf_at nodes n ≡ Some leaf
  pub key : ℤ
  pub shows : p.shows (part_at nodes n) leaf ≡ AtLeast key
  pub many : (x : List ℕ) → IsSingle (part_at nodes n) p.fewest p.most x → ⊥

-- a part that can be taken further apart, with its leaf: it is a part of the search, the leaf is in range and tight there
-- and shows a number, the count can be met, and more than one list holds a number of assets in range
pub record IsOpen (p : Problem) (part : List Cell) (leaf : Leaf) : Type 0 where
  pub part_is : IsPart p part
  pub fits : FitsPart p part leaf
  pub key : ℤ
  pub shows : p.shows part leaf ≡ AtLeast key
  pub met : can_meet part p.fewest p.most ≡ true
  pub many : (x : List ℕ) → IsSingle part p.fewest p.most x → ⊥

-- each leaf of some nodes shows no less than this
abbrev pub AllShow : Problem → List Node → Shown → Type 0
AllShow p nodes least = (n : ℕ) (leaf : Leaf) → leaf_at nodes n ≡ Some leaf → ShownLe least (p.shows (part_at nodes n) leaf)

-- some leaf shows exactly this number
pub record IsShown (p : Problem) (nodes : List Node) (bound : ℤ) : Type 0 where
  pub n : ℕ
  pub leaf : Leaf
  pub there : leaf_at nodes n ≡ Some leaf
  pub shows : p.shows (part_at nodes n) leaf ≡ AtLeast bound

-- a list is in the part of exactly one leaf
pub record InOneLeaf (nodes : List Node) (x : List ℕ) : Type 0 where
  pub n : ℕ
  pub leaf : Leaf
  pub there : leaf_at nodes n ≡ Some leaf
  pub inside : IsTrue (in_part (part_at nodes n) x)
  pub only : (m : ℕ) (other : Leaf) → leaf_at nodes m ≡ Some other → IsTrue (in_part (part_at nodes m) x) → m ≡ n

-- what holds between any two steps: the nodes are a tree of the bound's root, and each leaf is in range and tight; the
-- best meets the limits and carries its cost, and is no greater than the list of any part that has that one alone; what
-- is held is an open leaf, by one worker; and splits and held leaves together are within the budget
pub record IsSound (p : Problem) (b : Board) : Type 0 where
  pub tree : IsTree b.nodes
  pub root : part_at b.nodes 0 ≡ p.whole
  pub leaves : (n : ℕ) (leaf : Leaf) → leaf_at b.nodes n ≡ Some leaf → FitsPart p (part_at b.nodes n) leaf
  pub best : IsBest p b.best
  pub single : (n : ℕ) (leaf : Leaf) (x : List ℕ) → leaf_at b.nodes n ≡ Some leaf
      → IsSingle (part_at b.nodes n) p.fewest p.most x → p.meets x ≡ true → BestAtMost b.best (p.cost x)
  pub open_leaves : (w : ℕ) (node : NodeId) → node_held b.held w ≡ Some node → OpenLeaf p b.nodes node.0
  pub apart : (v w : ℕ) (node : NodeId) → node_held b.held v ≡ Some node → node_held b.held w ≡ Some node → v ≡ w
  pub within : splits_of b.nodes + tickets b.held ≤ b.budget
