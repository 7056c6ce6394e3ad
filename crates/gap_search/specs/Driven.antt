-- What the rounds of a search do to it. Own to portgap.

use Rattle.std.specs.Prelude.{◌≡◌, ℕ, ◌<◌, ◌≤◌, ◌⊎◌, List, length, Some, IsTrue}
use Rattle.gap_box.specs.declared.cell.Cell.{Cell}
use Rattle.gap_box.specs.declared.split.Split.{Split}
use Rattle.gap_box.specs.declared.split.Side.TheVariants.{First, Second}
use Rattle.gap_box.specs.Splits.{lawful_split, child_cells}
use Rattle.gap_model.specs.declared.leaf.Leaf.{Leaf}
use Rattle.gap_model.specs.Order.{ShownLe}
use Rattle.gap_model.specs.Problems.{Problem}
use Rattle.gap_model.specs.Nodes.{Node, part_at, leaf_at, split_at}
use Rattle.gap_model.specs.Showing.{ShowsSo}
use Rattle.gap_search.specs.declared.branch.Branch.{Branch}
use Rattle.gap_search.specs.Boards.{Board, State, FitsPart}
use Rattle.gap_search.specs.Steps.{Event, Run}

-- how a part with a leaf can be taken apart: by a lawful split, with a leaf for each child that is in range and tight
-- there and shows no less than the leaf on the part, and beside it what it shows there
pub record IsBranch (p : Problem) (part : List Cell) (leaf : Leaf) (b : Branch) : Type 0 where
  pub lawful : IsTrue (lawful_split part b.split)
  pub first_fits : FitsPart p (child_cells part b.split First) b.first.leaf
  pub second_fits : FitsPart p (child_cells part b.split Second) b.second.leaf
  pub first_no_less : ShownLe (p.shows part leaf) (p.shows (child_cells part b.split First) b.first.leaf)
  pub second_no_less : ShownLe (p.shows part leaf) (p.shows (child_cells part b.split Second) b.second.leaf)
  pub first_shows : ShowsSo p (child_cells part b.split First) b.first
  pub second_shows : ShowsSo p (child_cells part b.split Second) b.second

-- from some nodes on, a guide was followed: each split was there before or is allowed at its part, each leaf was there
-- before or fits its part, and the parts of the nodes from before are what they were
pub record IsFollowed (allows : List Cell → Split → Type 0) (fits : List Cell → Leaf → Type 0)
    (old new : List Node) : Type 0 where
  pub splits : (n : ℕ) (split : Split) → split_at new n ≡ Some split
      → (split_at old n ≡ Some split) ⊎ allows (part_at new n) split
  pub leaves : (n : ℕ) (leaf : Leaf) → leaf_at new n ≡ Some leaf → (leaf_at old n ≡ Some leaf) ⊎ fits (part_at new n) leaf
  pub parts : (n : ℕ) → n < length old → part_at new n ≡ part_at old n
  pub more : length old ≤ length new

-- a board went on to another by steps of the search alone, and a guide was followed
pub record IsDriven (p : Problem) (allows : List Cell → Split → Type 0) (fits : List Cell → Leaf → Type 0)
    (old new : Board) : Type 0 where
  pub events : List Event
  pub run : Run p old events new
  pub followed : IsFollowed allows fits old.nodes new.nodes

-- a search has the bound, the workers and the budget that another has
pub record IsSame {B : Type 0} (old new : State B) : Type 0 where
  pub bound_is : new.bound ≡ old.bound
  pub workers_is : new.workers ≡ old.workers
  pub budget_is : new.board.budget ≡ old.board.budget
