-- A dominant shift of an instance and a weight make a setting of the tangent bound.

use Rattle.std.proofs.Common.{◌≡◌, ℕ, ◌≤◌, List, length, ℤ, pos, ◌*ℤ◌, ◌≤ℤ◌, refl, sym, ap, ◌∙◌, subst, arith}
use Rattle.gap_base.specs.declared.weight.Weight.{Weight}
use Rattle.gap_base.specs.Sums.{sum_below}
use Rattle.gap_box.specs.declared.cell.Cell.{Cell}
use Rattle.gap_box.specs.Parts.{IsWithin, root_cells}
use Rattle.gap_box.proofs.PartLaws.{length-root}
use Rattle.gap_instance.specs.Instances.{InstanceValue, IsInstance}
use Rattle.gap_instance.specs.Objective.{cov_of}
use Rattle.gap_instance.proofs.ObjectiveLaws.{cov_of-symmetric}
use Rattle.gap_psd.specs.Forms.{form, IsSymmetric}
use Rattle.gap_psd.specs.Shifts.{ShiftValue, IsShift, shifted, IsDominantShift}
use Rattle.gap_psd.proofs.FormLaws.{form_is}
use Rattle.gap_psd.proofs.ShiftLaws.{semi_everywhere_of_shift}
use Rattle.gap_model.specs.Settings.{Setting, IsSetting, shifted_cov, product_of}
use Rattle.gap_tangent.specs.Bounds.{setting_with}

product_is : (s : Setting) (v w : ℕ → ℤ) → product_of s v w ≡ sum_below s.instance.market.assets (λ i. sum_below s.instance.market.assets (λ j. shifted_cov s i j *ℤ v i *ℤ w j))
unfolding product_of
product_is s v w = refl

semi_setting : (I : InstanceValue) (sh : ShiftValue) (w : Weight) → IsInstance I → I.market.assets ≡ sh.assets → IsDominantShift (cov_of I.market) sh → (v : ℕ → ℤ) → pos 0 ≤ℤ product_of (setting_with I sh w) v v
semi_setting I sh w is e d v =
    let symmetric : IsSymmetric sh.assets (cov_of I.market) = λ i j p q. cov_of-symmetric I.market is.market_is i j (omega arith) (omega arith) in
    let a = semi_everywhere_of_shift (cov_of I.market) sh symmetric d v in
    let b : form sh.assets (shifted (cov_of I.market) sh) v v ≡ product_of (setting_with I sh w) v v = form_is sh.assets (shifted (cov_of I.market) sh) v v ∙ ap (λ n. sum_below n (λ i. sum_below n (λ j. shifted (cov_of I.market) sh i j *ℤ v i *ℤ v j))) (sym e) ∙ sym (product_is (setting_with I sh w) v v) in
    subst (λ (z : ℤ). pos 0 ≤ℤ z) b a

pub setting_is : (I : InstanceValue) (sh : ShiftValue) (w : Weight) → IsInstance I → IsShift sh → I.market.assets ≡ sh.assets → IsDominantShift (cov_of I.market) sh → w.p ≤ w.q → w.q ≤ 100 → IsSetting (setting_with I sh w)
setting_is I sh w is shift e d p q = record {
  instance_is = is;
  p_most = p;
  q_most = q;
  shift_count = shift.diagonal_length ∙ sym e;
  shift_least = λ i h. shift.diagonal_signs i;
  shift_most = λ i h. shift.diagonal_sizes i;
  semidefinite = semi_setting I sh w is e d;
}

-- a part within the root has a cell for each asset
pub part_count : (I : InstanceValue) (part : List Cell) → IsInstance I → IsWithin part (root_cells I.least I.greatest) → length part ≡ I.market.assets
part_count I part is w = w.same_length ∙ length-root I.least I.greatest (is.limits_are.least_within.count ∙ sym is.limits_are.greatest_within.count) ∙ is.limits_are.least_within.count
