-- What a tangent keeps of its point, without its bound. Own to portgap.

use Rattle.std.specs.Prelude.{◌≡◌, ℕ, ◌<◌, List, length}
use Rattle.gap_base.specs.Sums.{at}
use Rattle.gap_base.specs.Lots.{lots_at}
use Rattle.gap_model.specs.Settings.{Setting}
use Rattle.gap_model.specs.Leaves.{IsPoint}
use Rattle.gap_tangent.specs.declared.terms.TangentTerms.{TangentTerms}
use Rattle.gap_tangent.specs.Terms.{slope_of, constant_at}

-- the eighths of the point whose terms are kept
abbrev pub kept_eighths : TangentTerms → List ℕ
kept_eighths terms = terms.eighths

-- the terms kept are those of the tangent at their eighths, over what a bound is taken over: the slope of each asset, and
-- the constant
pub record AreTermsOf (s : Setting) (terms : TangentTerms) : Type 0 where
  pub point : IsPoint s.instance terms.eighths
  pub room : length terms.slopes ≡ 256
  pub slopes_are : (i : ℕ) → i < s.instance.market.assets → at terms.slopes i ≡ slope_of s (lots_at terms.eighths) i
  pub constant_is : terms.constant ≡ constant_at s (lots_at terms.eighths)
