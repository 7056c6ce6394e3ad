-- Points of a tangent bound, and what is kept of them. Own to portgap.

use Rattle.std.specs.Prelude.{◌≡◌, ℕ, ◌+◌, ◌-◌, ◌<◌, List, length, slice_index_or, slice_set, ℤ}
use Rattle.gap_base.specs.Sums.{at}
use Rattle.gap_base.specs.Lots.{lots_at}
use Rattle.gap_model.specs.Settings.{Setting}
use Rattle.gap_model.specs.Leaves.{IsPoint}
use Rattle.gap_tangent.specs.Terms.{gradient_of, AreTermsAt}

-- a point of eighths of lots, with what the bound is taken over
pub record PointValue : Type 0 where
  pub setting : Setting
  pub eighths : List ℕ

-- a list after s of it went from the place i to the place j
abbrev pub after_move : List ℕ → ℕ → ℕ → ℕ → List ℕ
after_move y s i j = slice_set (slice_set y i (slice_index_or y i 0 - s)) j (slice_index_or y j 0 + s)

-- what a point keeps: the gradient at each asset
pub record IsKeptPoint (s : Setting) (y : List ℕ) (gradients : List ℤ) : Type 0 where
  pub point : IsPoint s.instance y
  pub room : length gradients ≡ 256
  pub gradients_are : (i : ℕ) → i < s.instance.market.assets → at gradients i ≡ gradient_of s (lots_at y) i

-- what a tangent keeps beside the bends of its bound: the slope of each asset, and its constant
pub record IsKeptTangent (s : Setting) (y : List ℕ) (bends slopes : List ℤ) (constant : ℤ) : Type 0 where
  pub point : IsPoint s.instance y
  pub room : length slopes ≡ 256
  pub terms : AreTermsAt s (lots_at y) slopes bends constant
