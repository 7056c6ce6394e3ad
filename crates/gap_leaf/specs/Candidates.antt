-- Witnesses that a tangent leaf is made of. Own to portgap.
use Rattle.std.specs.Prelude.{◌≡◌, ℕ, ◌≤◌, List, ℤ, pos, ◌≤ℤ◌, unsigned_abs}
use Rattle.gap_base.specs.Sizes.{most_multiplier}
use Rattle.gap_base.specs.Lots.{lots_at}
use Rattle.gap_base.specs.declared.witness.Witness.{Witness}
use Rattle.gap_box.specs.declared.cell.Cell.{Cell}
use Rattle.gap_model.specs.Settings.{Setting}
use Rattle.gap_model.specs.Leaves.{AreMultipliers}
use Rattle.gap_tangent.specs.Lines.{alpha_curve}
use Rattle.gap_witness.specs.Points.{choice_of, point}
use Rattle.gap_leaf.specs.Finding.{IsWitness}

-- theta of a part at a witness
abbrev pub theta_at : Setting → List Cell → Witness → ℤ
theta_at s part w = alpha_curve s part (lots_at w.y) w.tau w.alpha

-- no alpha in range has a greater theta at a point without a price of the turnover
unfoldable pub IsMostAt : Setting → List Cell → (ℕ → ℤ) → ℤ → Type 0
IsMostAt s part y t = (alpha : ℤ) → unsigned_abs alpha ≤ most_multiplier → alpha_curve s part y (pos 0) alpha ≤ℤ t

-- multipliers for a point, with theta there, which is no less than without a price of the turnover under any alpha
pub record AreBestAt (s : Setting) (part : List Cell) (y : ℕ → ℤ) (alpha tau t : ℤ) : Type 0 where
  pub multipliers : AreMultipliers s.instance.turnover alpha tau
  pub theta_is : alpha_curve s part y tau alpha ≡ t
  pub small : unsigned_abs t ≤ 10000000000000000000000000000000000000
  pub most : IsMostAt s part y t

-- a witness in range with no less theta than the hint, than its own point and than the tangent point from the hint
pub record IsCandidate (s : Setting) (part : List Cell) (hint w : Witness) : Type 0 where
  pub witness : IsWitness s w
  pub hint_less : theta_at s part hint ≤ℤ theta_at s part w
  pub own : IsMostAt s part (lots_at w.y) (theta_at s part w)
  pub point : IsMostAt s part (lots_at (point s (choice_of s part) hint.y)) (theta_at s part w)
