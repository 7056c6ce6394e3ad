-- Slopes from the rows of covariances.

use Rattle.std.proofs.Common.{◌≡◌, ℕ, ◌<◌, ◌==◌, if◌then◌else◌, List, ◌⊎◌, inl, inr, ℤ, pos, ◌+ℤ◌, ◌*ℤ◌, sym, ap, ◌∙◌}
use Rattle.std.proofs.Math.IntN.{zero-*ℤ}
use Rattle.std.proofs.lemmas.Bool.{cases_eq}
use Rattle.gap_base.specs.Sums.{sum_below, at}
use Rattle.gap_base.specs.Lots.{lots_at}
use Rattle.gap_base.proofs.Ring.{+ℤ-*ℤ, if_same, if_other}
use Rattle.gap_base.proofs.SumLaws.{sum_same, sum-add, sum_pick}
use Rattle.gap_instance.specs.Objective.{cov_of}
use Rattle.gap_model.specs.Settings.{Setting, shifted_cov}
use Rattle.gap_tangent.specs.Rows.{AreRows}
use Rattle.gap_tangent.specs.Terms.{tilt_of}
use Rattle.gap_tangent.proofs.TermLaws.{tilt_is}

diagonal_term : (d y : ℤ) (i j : ℕ) → (if j == i then d else pos 0) *ℤ y ≡ (if j == i then d *ℤ y else pos 0)
diagonal_term d y i j = by_cases (cases_eq j i)
  where
    by_cases : (j ≡ i) ⊎ (j ≡ i → ⊥) → (if j == i then d else pos 0) *ℤ y ≡ (if j == i then d *ℤ y else pos 0)
    by_cases (inl e) = ap (λ t. t *ℤ y) (if_same j i d (pos 0) e) ∙ sym (if_same j i (d *ℤ y) (pos 0) e)
    by_cases (inr e) = ap (λ t. t *ℤ y) (if_other j i d (pos 0) e) ∙ zero-*ℤ y ∙ sym (if_other j i (d *ℤ y) (pos 0) e)

-- row i of A times Y is the row of covariances and the shift of the asset
pub tilt_parts : (s : Setting) (y : List ℕ) (rows : List ℤ) (i : ℕ) → i < s.instance.market.assets → AreRows s.instance.market y rows → at rows i +ℤ at s.shift i *ℤ lots_at y i ≡ tilt_of s (lots_at y) i
tilt_parts s y rows i h r =
    let n = s.instance.market.assets in
    let a = sum_same n (λ j. shifted_cov s i j *ℤ lots_at y j) (λ j. cov_of s.instance.market i j *ℤ lots_at y j +ℤ (if j == i then at s.shift i else pos 0) *ℤ lots_at y j) (λ j p. +ℤ-*ℤ (cov_of s.instance.market i j) (if j == i then at s.shift i else pos 0) (lots_at y j)) in
    let b = sum-add n (λ j. cov_of s.instance.market i j *ℤ lots_at y j) (λ j. (if j == i then at s.shift i else pos 0) *ℤ lots_at y j) in
    let c = sum_same n (λ j. (if j == i then at s.shift i else pos 0) *ℤ lots_at y j) (λ j. if j == i then at s.shift i *ℤ lots_at y j else pos 0) (λ j p. diagonal_term (at s.shift i) (lots_at y j) i j) ∙ sum_pick n i (λ j. at s.shift i *ℤ lots_at y j) h in
    ap (λ z. z +ℤ at s.shift i *ℤ lots_at y i) (r.sums i h) ∙ sym (tilt_is s (lots_at y) i ∙ a ∙ b ∙ ap (λ z. sum_below n (λ j. cov_of s.instance.market i j *ℤ lots_at y j) +ℤ z) c)
