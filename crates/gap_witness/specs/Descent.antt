-- What the rounds of a tangent point lower. Own to portgap.
use Rattle.std.specs.Prelude.{◌≡◌, ◌≢◌, ℕ, ◌<◌, ◌≤◌, ◌+◌, ◌*◌, List, length, slice_index_or, ℤ, pos, ◌+ℤ◌, ◌-ℤ◌, ◌*ℤ◌}
use Rattle.gap_base.specs.Sums.{sum_below}
use Rattle.gap_base.specs.Lots.{lots_at}
use Rattle.gap_model.specs.Settings.{Setting, IsSetting, product_of}
use Rattle.gap_model.specs.Lagrangian.{reward_of}
use Rattle.gap_witness.specs.Frames.{level}
use Rattle.gap_witness.specs.Points.{Choice, gradient, curvature}

-- the quadratic of a point: p y'Ay - sum (8 p D_i (l_i + u_i) + 8 a_i) y_i
unfoldable pub quadratic : Setting → Choice → List ℕ → ℤ
quadratic s c y =
    (pos s.p *ℤ product_of s (lots_at y) (lots_at y))
    -ℤ sum_below s.instance.market.assets (λ i. (level s c i +ℤ (pos 8 *ℤ reward_of s i)) *ℤ lots_at y i)

-- what t eighths that go from asset i to asset j take off it: t (g_i - g_j) - c t^2, by the gradients and the curvature
abbrev pub drop_by : Setting → Choice → List ℕ → ℕ → ℕ → ℕ → ℤ
drop_by s c y t i j =
    (pos t *ℤ (gradient s c y i -ℤ gradient s c y j)) -ℤ (curvature s i j *ℤ (pos t *ℤ pos t))

-- a point over a setting's assets, with a cell for each
pub record IsOver (s : Setting) (c : Choice) (y : List ℕ) : Type 0 where
  pub setting : IsSetting s
  pub cells : length c.cells ≡ s.instance.market.assets
  pub numbers : length y ≡ s.instance.market.assets

-- t eighths may go from asset i to another, j, of which asset i has as many
pub record IsMove (s : Setting) (y : List ℕ) (t i j : ℕ) : Type 0 where
  pub giver : i < s.instance.market.assets
  pub taker : j < s.instance.market.assets
  pub apart : i ≢ j
  pub enough : t ≤ slice_index_or y i 0
