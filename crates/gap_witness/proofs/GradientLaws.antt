-- The gradient of the definition is that of the point less a level.
use Rattle.std.proofs.Common.{◌≡◌, ℕ, ◌+◌, ◌*◌, List, ℤ, pos, ◌-ℤ◌, ◌*ℤ◌, sym, ap, ◌∙◌, arith}
use Rattle.gap_base.specs.Sums.{sum_below, at}
use Rattle.gap_base.specs.Lots.{lots_at}
use Rattle.gap_base.proofs.Ring.{linear}
use Rattle.gap_model.specs.Settings.{Setting, shifted_cov}
use Rattle.gap_model.specs.Lagrangian.{reward_of}
use Rattle.gap_tangent.specs.Terms.{gradient_of}
use Rattle.gap_tangent.proofs.TermLaws.{tilt_is}
use Rattle.gap_witness.specs.Points.{Choice, lower_end, upper_end, gradient}
use Rattle.gap_witness.specs.Frames.{level}

pub gradient_is : (s : Setting) (c : Choice) (y : List ℕ) (i : ℕ) → gradient s c y i ≡ gradient_of s (lots_at y) i -ℤ level s c i
unfolding gradient
gradient_is s c y i =
    turned (pos (2 * s.p) *ℤ sum_below s.instance.market.assets (λ j. shifted_cov s i j *ℤ lots_at y j)) (level s c i) (pos 8 *ℤ reward_of s i)
    ∙ ap (λ (z : ℤ). ((pos (2 * s.p) *ℤ z) -ℤ (pos 8 *ℤ reward_of s i)) -ℤ level s c i) (sym (tilt_is s (lots_at y) i))
  where
    turned : (a b c : ℤ) → (a -ℤ b) -ℤ c ≡ (a -ℤ c) -ℤ b
    turned a b c = omega (arith, linear)
