-- What a search knows of its bound, and the laws of bounds. Own to portgap.

use Rattle.std.specs.Prelude.{◌≡◌, ℕ, ◌≤◌, ◌⊎◌, Bool, true, false, List, ℤ, pos, negsuc, unsigned_abs, IsTrue}
use Rattle.gap_box.specs.declared.cell.Cell.{Cell}
use Rattle.gap_box.specs.declared.split.Split.{Split}
use Rattle.gap_box.specs.declared.split.Side.{Side}
use Rattle.gap_box.specs.Cells.{AreCells}
use Rattle.gap_box.specs.Parts.{in_part, can_meet, IsPick, IsSingle, IsWithin, root_cells}
use Rattle.gap_box.specs.Splits.{lawful_split, child_cells}
use Rattle.gap_instance.specs.Objective.{objective}
use Rattle.gap_model.specs.declared.leaf.Leaf.{Leaf}
use Rattle.gap_model.specs.declared.leaf.Leaf.TheVariants.{Count, Void, Tangent}
use Rattle.gap_model.specs.declared.shown.Shown.{Shown}
use Rattle.gap_model.specs.declared.shown.Shown.TheVariants.{AtLeast, Empty}
use Rattle.gap_model.specs.Settings.{Setting}
use Rattle.gap_model.specs.Limits.{meets_limits}
use Rattle.gap_model.specs.Leaves.{in_range, shows, entries_from}
use Rattle.gap_model.specs.Order.{ShownLe}

-- what a search knows of its bound: the fewest and the most assets that may be held, the root, which lists meet
-- the limits and what each costs, which leaves are in range, and what a leaf shows on a part
pub record Problem : Type 0 where
  pub fewest : ℕ
  pub most : ℕ
  pub whole : List Cell
  pub meets : List ℕ → Bool
  pub cost : List ℕ → ℤ
  pub in_range : Leaf → Bool
  pub shows : List Cell → Leaf → Shown

-- a part of the search: its cells are in range, and its lists are lists of the root
pub record IsPart (p : Problem) (part : List Cell) : Type 0 where
  pub valid : AreCells part
  pub within : IsWithin part p.whole

-- a leaf is the tangent at 8x with multipliers 0
abbrev pub IsTangentAt : List ℕ → Leaf → Type 0
IsTangentAt x Count = ⊥
IsTangentAt x (Void alpha tau third) = ⊥
IsTangentAt x (Tangent y alpha tau third) = (y.now ≡ entries_from 0 x) × (alpha ≡ pos 0) × (tau ≡ pos 0) × (third ≡ pos 0)

-- a leaf is in range and shows Empty on a part
pub record ShowsEmpty (p : Problem) (part : List Cell) (leaf : Leaf) : Type 0 where
  pub in_range : p.in_range leaf ≡ true
  pub empty : p.shows part leaf ≡ Empty

-- a leaf is in range and shows exactly a number on a part
pub record ShowsExactly (p : Problem) (part : List Cell) (leaf : Leaf) (value : ℤ) : Type 0 where
  pub in_range : p.in_range leaf ≡ true
  pub exact : p.shows part leaf ≡ AtLeast value

-- what each bound keeps:
-- range: the fewest assets are no more than the most;
-- picked: a list that meets the limits is one of the root, and holds from the fewest to the most assets;
-- below: on a part that has a list which meets the limits no leaf shows more than that list's cost;
-- narrower: on a child of a part a leaf shows no less than on the part;
-- exact: where a list that meets the limits is the part's only one that holds from the fewest to the most assets,
--   the tangent at 8 times it shows its cost;
-- empty: where the part's only such list doesn't meet the limits, a void leaf with (1, 0), (-1, 0) or (0, 1) shows Empty;
-- uncounted: where the count can't be met, Count shows Empty;
-- sizes: the cost of a list that meets the limits is at most 10^30 in size
pub record IsBound (p : Problem) : Type 0 where
  pub range : p.fewest ≤ p.most
  pub picked : (x : List ℕ) → p.meets x ≡ true → IsPick p.whole p.fewest p.most x
  pub below : (part : List Cell) (leaf : Leaf) (x : List ℕ) → IsPart p part → p.in_range leaf ≡ true
      → IsTrue (in_part part x) → p.meets x ≡ true → ShownLe (p.shows part leaf) (AtLeast (p.cost x))
  pub narrower : (part : List Cell) (leaf : Leaf) (split : Split) (side : Side) → IsPart p part
      → p.in_range leaf ≡ true → IsTrue (lawful_split part split)
      → ShownLe (p.shows part leaf) (p.shows (child_cells part split side) leaf)
  pub exact : (part : List Cell) (leaf : Leaf) (x : List ℕ) → IsPart p part → IsSingle part p.fewest p.most x
      → p.meets x ≡ true → IsTangentAt x leaf → ShowsExactly p part leaf (p.cost x)
  pub empty : (part : List Cell) (x : List ℕ) → IsPart p part → IsSingle part p.fewest p.most x → p.meets x ≡ false
      → (third : ℤ) × (ShowsEmpty p part (Void (pos 1) (pos 0) third)
      ⊎ ShowsEmpty p part (Void (negsuc 0) (pos 0) third) ⊎ ShowsEmpty p part (Void (pos 0) (pos 1) third))
  pub uncounted : (part : List Cell) → IsPart p part → can_meet part p.fewest p.most ≡ false → ShowsEmpty p part Count
  pub sizes : (x : List ℕ) → p.meets x ≡ true → unsigned_abs (p.cost x) ≤ 1000000000000000000000000000000

-- what a search knows of a tangent bound over an instance, a shift and a weight
abbrev pub tangent_problem : Setting → Problem
tangent_problem s = record {
  fewest = s.instance.held;
  most = s.instance.held_most;
  whole = root_cells s.instance.least s.instance.greatest;
  meets = meets_limits s.instance;
  cost = objective s.instance s.p s.q;
  in_range = in_range s;
  shows = shows s;
}
