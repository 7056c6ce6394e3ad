-- Theta as a curve over a multiplier. Own to portgap.

use Rattle.std.specs.Prelude.{◌≡◌, ℕ, ◌≤◌, take, List, Option, Some, None, ℤ, pos, ◌+ℤ◌, ◌-ℤ◌, ◌*ℤ◌, true}
use Rattle.gap_box.specs.declared.cell.Cell.{Cell}
use Rattle.gap_box.specs.Parts.{can_meet}
use Rattle.gap_instance.specs.Instances.{InstanceValue}
use Rattle.gap_lines.specs.declared.line.Line.{Line}
use Rattle.gap_model.specs.Settings.{Setting}
use Rattle.gap_model.specs.Theta.{theta}
use Rattle.gap_price.specs.declared.costs.Varied.{Varied}
use Rattle.gap_price.specs.Curves.{CurveValue, costs_of, weights_of, IsLeastAt}

-- a number where there is one, else 0
abbrev pub or_zero : Option ℤ → ℤ
or_zero None = pos 0
or_zero (Some t) = t

-- theta of a part at a point as a curve over alpha, and over tau. Where the count can't be met it is nowhere, and
-- said to be 0
abbrev pub alpha_curve : Setting → List Cell → (ℕ → ℤ) → ℤ → ℤ → ℤ
alpha_curve s part y tau alpha = or_zero (theta s part y alpha tau)

abbrev pub tau_curve : Setting → List Cell → (ℕ → ℤ) → ℤ → ℤ → ℤ
tau_curve s part y alpha tau = or_zero (theta s part y alpha tau)

-- the least cost over a part by the slopes and bends of a point, where a multiplier is added to one of two prices
abbrev pub curve_at : InstanceValue → List ℤ → List ℤ → ℤ → ℤ → Varied → List Cell → CurveValue
curve_at I slopes bends lot_price distance_price varied cells = record {
  costs =
      record {
        linear = take I.market.assets slopes;
        bends = take I.market.assets bends;
        present = I.present;
        lot_price = lot_price;
        distance_price = distance_price;
      };
  varied = varied;
  cells = cells;
  fewest = I.held;
  most = I.held_most;
}

-- a line whose value is a fixed number, less its place times a limit, and the least cost there; its slope is the weight of
-- a list that has it, less the limit
pub record IsCostLine (c : CurveValue) (fixed : ℤ) (limit : ℕ) (l : Line) : Type 0 where
  pub cost : ℤ
  pub weight : ℤ
  pub least : IsLeastAt c l.place cost weight
  pub value_is : l.value ≡ (fixed -ℤ (l.place *ℤ pos limit)) +ℤ cost
  pub slope_is : l.slope ≡ weight -ℤ pos limit

-- for each multiplier, f is a fixed number, less the multiplier times a limit, and the costs of a curve at it; the curve is
-- over a part's lists that hold from `fewest` to `most` assets, of which there are some
pub record IsCurveOf (f : ℤ → List ℕ → ℤ) (cells : List Cell) (fewest most : ℕ) (c : CurveValue) (fixed : ℤ)
    (limit : ℕ) : Type 0 where
  pub terms : (m : ℤ) (x : List ℕ) → f m x ≡ (fixed -ℤ (m *ℤ pos limit)) +ℤ (costs_of c x +ℤ m *ℤ weights_of c x)
  pub cells_are : c.cells ≡ cells
  pub fewest_is : c.fewest ≡ fewest
  pub most_is : c.most ≡ most
  pub order : fewest ≤ most
  pub counted : can_meet cells fewest most ≡ true
