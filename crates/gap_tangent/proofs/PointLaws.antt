-- What is kept at a point, as a tangent needs it.

use Rattle.std.proofs.Common.{◌≡◌, ℕ, ◌*◌, ◌<◌, ◌≤◌, List, length, ℤ, pos, ◌+ℤ◌, ◌-ℤ◌, ◌*ℤ◌, neg_ℤ, unsigned_abs, sym, ap, ◌∙◌, subst, arith}
use Rattle.std.proofs.lemmas.Int.{ints}
use Rattle.gap_base.specs.Sums.{at}
use Rattle.gap_base.specs.Lots.{lots_at}
use Rattle.gap_base.specs.Sizes.{most_constant}
use Rattle.gap_base.proofs.Ring.{expand, pull, linear, *ℤ_assoc}
use Rattle.gap_model.specs.Settings.{Setting, IsSetting}
use Rattle.gap_model.specs.Lagrangian.{reward_of}
use Rattle.gap_model.specs.Leaves.{IsPoint}
use Rattle.gap_tangent.specs.declared.terms.TangentTerms.{TangentTerms}
use Rattle.gap_tangent.specs.Kept.{AreTermsOf}
use Rattle.gap_tangent.specs.Points.{IsKeptPoint, IsKeptTangent}
use Rattle.gap_tangent.specs.Terms.{tilt_of, gradient_of, slope_of, constant_at, AreTermsAt, AreBends, AreSmall}
use Rattle.gap_tangent.proofs.SizeLaws.{gradient_small, constant_small}

eight_times : (p : ℕ) (tilt reward : ℤ) → pos 8 *ℤ ((pos (2 * p) *ℤ tilt) +ℤ neg_ℤ (pos 8 *ℤ reward)) ≡ (pos (16 * p) *ℤ tilt) +ℤ neg_ℤ (pos 64 *ℤ reward)
eight_times p tilt reward =
    let a : pos (2 * p) *ℤ tilt ≡ pos 2 *ℤ (pos p *ℤ tilt) = *ℤ_assoc (pos 2) (pos p) tilt in
    let b : pos (16 * p) *ℤ tilt ≡ pos 16 *ℤ (pos p *ℤ tilt) = *ℤ_assoc (pos 16) (pos p) tilt in
    eight (pos (2 * p) *ℤ tilt) (pos (16 * p) *ℤ tilt) (pos p *ℤ tilt) reward a b
  where
    eight : (a b c r : ℤ) → a ≡ pos 2 *ℤ c → b ≡ pos 16 *ℤ c → pos 8 *ℤ (a +ℤ neg_ℤ (pos 8 *ℤ r)) ≡ b +ℤ neg_ℤ (pos 64 *ℤ r)
    eight a b c r e f = omega (arith, ints)

pub slope_is : (s : Setting) (y : ℕ → ℤ) (i : ℕ) → pos 8 *ℤ gradient_of s y i ≡ slope_of s y i
slope_is s y i = eight_times s.p (tilt_of s y i) (reward_of s i)

-- slopes that are eight times the gradients, with the bends of the bound, are the terms of the tangent
pub kept_tangent : (s : Setting) (y : List ℕ) (gradients bends slopes : List ℤ) (constant : ℤ) → AreBends s bends → IsKeptPoint s y gradients → constant ≡ constant_at s (lots_at y) → length slopes ≡ 256 → ((i : ℕ) → i < s.instance.market.assets → at slopes i ≡ pos 8 *ℤ gradient_of s (lots_at y) i) → IsKeptTangent s y bends slopes constant
kept_tangent s y gradients bends slopes constant b p e room h = record {
  point = p.point;
  room = room;
  terms = record { slopes_are = λ i l. h i l ∙ slope_is s (lots_at y) i; bends_are = b.are; constant_is = e };
}

pub kept_small : (s : Setting) (y : List ℕ) (bends slopes : List ℤ) (constant : ℤ) → IsSetting s → AreBends s bends → IsKeptTangent s y bends slopes constant → AreSmall s.instance.market.assets slopes bends
kept_small s y bends slopes constant is b t = record {
  slopes_small = λ i l. subst (λ (z : ℤ). unsigned_abs z ≤ 130000000000000000000000000000) (slope_is s (lots_at y) i ∙ sym (t.terms.slopes_are i l)) (eight_small (gradient_of s (lots_at y) i) (gradient_small s y i is t.point l));
  bends_small = b.small;
  bends_signs = b.signs;
}
  where
    eight_small : (g : ℤ) → unsigned_abs g ≤ 16250000000000000000000000000 → unsigned_abs (pos 8 *ℤ g) ≤ 130000000000000000000000000000
    eight_small g h = omega (arith, ints)

pub kept_constant : (s : Setting) (y : List ℕ) (bends slopes : List ℤ) (constant : ℤ) → IsSetting s → IsKeptTangent s y bends slopes constant → unsigned_abs constant ≤ most_constant
kept_constant s y bends slopes constant is t = subst (λ (z : ℤ). unsigned_abs z ≤ most_constant) (sym t.terms.constant_is) (constant_small s y is t.point)

-- ---- terms without their bound

pub terms_of : (s : Setting) (y : List ℕ) (bends slopes : List ℤ) (constant : ℤ) → IsKeptTangent s y bends slopes constant → AreTermsOf s (record { eighths = y; slopes = slopes; constant = constant })
terms_of s y bends slopes constant t = record { point = t.point; room = t.room; slopes_are = t.terms.slopes_are; constant_is = t.terms.constant_is }

pub tangent_from : (s : Setting) (terms : TangentTerms) (bends : List ℤ) → AreBends s bends → AreTermsOf s terms → IsKeptTangent s terms.eighths bends terms.slopes terms.constant
tangent_from s terms bends b t = record { point = t.point; room = t.room; terms = record { slopes_are = t.slopes_are; bends_are = b.are; constant_is = t.constant_is } }

pub terms_constant : (s : Setting) (terms : TangentTerms) → IsSetting s → AreTermsOf s terms → unsigned_abs terms.constant ≤ most_constant
terms_constant s terms is t = subst (λ (z : ℤ). unsigned_abs z ≤ most_constant) (sym t.constant_is) (constant_small s terms.eighths is t.point)
