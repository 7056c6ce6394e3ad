-- Bounds whose limits are priced: a Lagrangian of each leaf, whose least over the lists of a part is what the leaf shows.
-- The tangent bound is one of them. Own to portgap.

use Rattle.std.specs.Prelude.{◌≡◌, ℕ, ◌≤◌, ◌⊎◌, Bool, true, false, cond, List, ℤ, pos, negsuc, ◌*ℤ◌, ◌≤ℤ◌, ◌<ℤ◌, unsigned_abs}
use Rattle.gap_box.specs.declared.cell.Cell.{Cell}
use Rattle.gap_box.specs.Parts.{can_meet, IsPick, root_cells}
use Rattle.gap_instance.specs.Objective.{objective}
use Rattle.gap_model.specs.declared.leaf.Leaf.{Leaf}
use Rattle.gap_model.specs.declared.leaf.Leaf.TheVariants.{Count, Void, Tangent}
use Rattle.gap_model.specs.declared.shown.Shown.{Shown}
use Rattle.gap_model.specs.declared.shown.Shown.TheVariants.{Nothing}
use Rattle.gap_model.specs.Settings.{Setting}
use Rattle.gap_model.specs.Lagrangian.{lag, void_lag}
use Rattle.gap_model.specs.Theta.{picks, least_value}
use Rattle.gap_model.specs.Limits.{meets_limits}
use Rattle.gap_model.specs.Leaves.{eighths_at, is_zero, in_range, count_shows, void_shows, tangent_shows}
use Rattle.gap_model.specs.Tight.{is_tangent}
use Rattle.gap_model.specs.Problems.{Problem, IsTangentAt}

-- what a search knows of a bound whose limits are priced: beside what it knows of each bound, which leaves say anything
-- there, and the Lagrangian of a leaf at a list: of a tangent with all its terms, of a void leaf those of its multipliers
pub record PricedProblem : Type 0 where
  pub fewest : ℕ
  pub most : ℕ
  pub whole : List Cell
  pub meets : List ℕ → Bool
  pub cost : List ℕ → ℤ
  pub in_range : Leaf → Bool
  pub says : Leaf → Bool
  pub price : Leaf → List ℕ → ℤ

-- what a leaf shows on a part, by the least of its Lagrangian over the part's lists that hold a number of assets in range
unfoldable pub priced_shows : PricedProblem → List Cell → Leaf → Shown
priced_shows p part Count = count_shows (can_meet part p.fewest p.most)
priced_shows p part (Void alpha tau third) =
    cond (p.says (Void alpha tau third))
    (void_shows (least_value (p.price (Void alpha tau third)) (picks part p.fewest p.most))) Nothing
priced_shows p part (Tangent y alpha tau third) =
    cond (p.says (Tangent y alpha tau third))
    (tangent_shows (least_value (p.price (Tangent y alpha tau third)) (picks part p.fewest p.most))) Nothing

-- the problem of a priced one
abbrev pub problem_of : PricedProblem → Problem
problem_of p = record {
  fewest = p.fewest;
  most = p.most;
  whole = p.whole;
  meets = p.meets;
  cost = p.cost;
  in_range = p.in_range;
  shows = priced_shows p;
}

-- is a leaf void?
abbrev pub is_void : Leaf → Bool
is_void Count = false
is_void (Void alpha tau third) = true
is_void (Tangent y alpha tau third) = false

-- a leaf is in range and says something
pub record IsSaid (p : PricedProblem) (leaf : Leaf) : Type 0 where
  pub in_range : p.in_range leaf ≡ true
  pub says : p.says leaf ≡ true

-- the multipliers of a void leaf charge a list: it is in range, says something, and its terms are positive at the list
pub record Charges (p : PricedProblem) (x : List ℕ) (leaf : Leaf) : Type 0 where
  pub said : IsSaid p leaf
  pub positive : pos 0 <ℤ p.price leaf x

-- the tangent at 8x is in range, says something, and its Lagrangian at x is 64 times the cost
pub record IsExactAt (p : PricedProblem) (x : List ℕ) (leaf : Leaf) : Type 0 where
  pub said : IsSaid p leaf
  pub exact : p.price leaf x ≡ pos 64 *ℤ p.cost x

-- what the prices of a bound keep:
-- range, picked, sizes: as each bound does;
-- counts: the leaf Count is in range;
-- below: a tangent's Lagrangian is at most 64 times the cost of a list that meets the limits;
-- paid: the terms of a void leaf aren't positive at such a list;
-- exact: the Lagrangian of the tangent at 8x is 64 times the cost of x where x meets the limits;
-- charged: a list of the root that holds a number of assets in range and doesn't meet the limits is charged by a void leaf
--   with (1, 0), (-1, 0) or (0, 1)
pub record IsPriced (p : PricedProblem) : Type 0 where
  pub range : p.fewest ≤ p.most
  pub picked : (x : List ℕ) → p.meets x ≡ true → IsPick p.whole p.fewest p.most x
  pub sizes : (x : List ℕ) → p.meets x ≡ true → unsigned_abs (p.cost x) ≤ 1000000000000000000000000000000
  pub counts : p.in_range Count ≡ true
  pub below : (leaf : Leaf) (x : List ℕ) → is_tangent leaf ≡ true → IsSaid p leaf → p.meets x ≡ true
      → p.price leaf x ≤ℤ (pos 64 *ℤ p.cost x)
  pub paid : (leaf : Leaf) (x : List ℕ) → is_void leaf ≡ true → IsSaid p leaf → p.meets x ≡ true → p.price leaf x ≤ℤ pos 0
  pub exact : (leaf : Leaf) (x : List ℕ) → p.meets x ≡ true → IsTangentAt x leaf → IsExactAt p x leaf
  pub charged : (x : List ℕ) → IsPick p.whole p.fewest p.most x → p.meets x ≡ false
      → (third : ℤ) × (Charges p x (Void (pos 1) (pos 0) third) ⊎ Charges p x (Void (negsuc 0) (pos 0) third)
      ⊎ Charges p x (Void (pos 0) (pos 1) third))

-- the Lagrangian of a leaf of the tangent bound; a third multiplier says nothing there
abbrev pub tangent_price : Setting → Leaf → List ℕ → ℤ
tangent_price s Count x = pos 0
tangent_price s (Void alpha tau third) x = void_lag s alpha tau x
tangent_price s (Tangent y alpha tau third) x = lag s (eighths_at y.now) alpha tau x

abbrev pub tangent_says : Leaf → Bool
tangent_says Count = true
tangent_says (Void alpha tau third) = is_zero third
tangent_says (Tangent y alpha tau third) = is_zero third

-- the tangent bound as a priced one
abbrev pub tangent_prices : Setting → PricedProblem
tangent_prices s = record {
  fewest = s.instance.held;
  most = s.instance.held_most;
  whole = root_cells s.instance.least s.instance.greatest;
  meets = meets_limits s.instance;
  cost = objective s.instance s.p s.q;
  in_range = in_range s;
  says = tangent_says;
  price = tangent_price s;
}
