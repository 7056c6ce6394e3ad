-- What is printed of a weight: its portfolio, its bound, and the floor of the bound. Own to portgap.

use Rattle.std.specs.Prelude.{ℕ, replicate, Bool, true, false, List, Option, Some, None, ℤ}
use Rattle.gap_base.specs.Lots.{lots_at, eighths_of}
use Rattle.gap_model.specs.declared.outcome.Best.{Best}
use Rattle.gap_model.specs.declared.outcome.Outcome.{Outcome}
use Rattle.gap_model.specs.declared.outcome.Outcome.TheVariants.{Closed, NoPortfolio, Bounded}
use Rattle.gap_model.specs.declared.shown.Shown.TheVariants.{AtLeast}
use Rattle.gap_model.specs.Settings.{Setting}
use Rattle.gap_witness.specs.Points.{choice_of, point}
use Rattle.gap_witness.specs.Having.{HasTangentPoint}
use Rattle.gap_leaf.specs.Showing.{NoLessThanAt}
use Rattle.gap_solve.specs.Ended.{root_of}

-- the portfolio of an outcome
abbrev pub best_in : Outcome → Option Best
best_in (Closed best) = Some best
best_in NoPortfolio = None
best_in (Bounded best bound) = best

-- the number that no portfolio is below, as an outcome says it: of a closed one the objective
abbrev pub bound_in : Outcome → Option ℤ
bound_in (Closed best) = Some best.value
bound_in NoPortfolio = None
bound_in (Bounded best bound) = Some bound

-- is an outcome open?
abbrev pub is_bounded : Outcome → Bool
is_bounded (Closed best) = false
is_bounded NoPortfolio = false
is_bounded (Bounded best bound) = true

-- the portfolio in eighths, all 0 over n assets where there is none
abbrev pub eighths_in : ℕ → Option Best → List ℕ
eighths_in n None = replicate n 0
eighths_in n (Some best) = eighths_of best.lots

-- a bound has its floor: whatever alpha is, it is no less than what the tangent at a point y shows on the root without a
-- price of the turnover, and where the root has a tangent point no less than the tangent at that point from y shows
pub record HasFloor (s : Setting) (y : List ℕ) (bound : ℤ) : Type 0 where
  pub own : NoLessThanAt s (root_of s) (lots_at y) (AtLeast bound)
  pub point : HasTangentPoint s (root_of s)
      → NoLessThanAt s (root_of s) (lots_at (point s (choice_of s (root_of s)) y)) (AtLeast bound)
