use Rattle.std.proofs.Common.{◌≡◌, ◌≢◌, ℕ, ℤ, pos, ◌+ℤ◌, ◌-ℤ◌, FitsSigned, sym, ap, ◌∙◌, arith}
use Rattle.std.specs.Int.{w64}
use Rattle.std.proofs.lemmas.Int.{to_z-of_z}
use Rattle.gap_base.specs.Sums.{at}
use Rattle.gap_base.proofs.Ring.{if_other, linear}
use Rattle.gap_instance.specs.Objective.{cov_of}
use Rattle.gap_model.specs.Settings.{Setting, shifted_cov}
use Rattle.gap_tangent.specs.Seen.{setting_of}
use Rattle.gap_tangent.proofs.moves.lead_apart.Goals as goal

-- off the diagonal an entry is the covariance
off_diagonal : (s : Setting) (k j : ℕ) → k ≢ j → shifted_cov s k j ≡ cov_of s.instance.market k j
off_diagonal s k j n = ap (λ (z : ℤ). cov_of s.instance.market k j +ℤ z) (if_other j k (at s.shift k) (pos 0) (λ e. n (sym e))) ∙ plain (cov_of s.instance.market k j)
  where
    plain : (a : ℤ) → a +ℤ pos 0 ≡ a
    plain a = omega (arith, linear)

pub returns-clause-value : goal.returns-clause-value
returns-clause-value c =
    let s = setting_of c.args.mv.now in
    let fm : FitsSigned w64 c.cov-more.result = record { sfits = c.cov-more.type_inv } in
    let fl : FitsSigned w64 c.cov-less.result = record { sfits = c.cov-less.type_inv } in
    let fd : FitsSigned w64 c.difference.result = record { sfits = c.difference.type_inv } in
    let v = simp to_z-of_z at c.difference.ensures.value in
    let more = c.cov-more.ensures.symmetric ∙ sym (off_diagonal s c.args.k c.args.j c.requires.not_taker) in
    let less = c.cov-less.ensures.symmetric ∙ sym (off_diagonal s c.args.k c.args.i c.requires.not_giver) in
    to_z-of_z w64 c.difference.result fd ∙ (v ∙ (ap (λ (z : ℤ). z -ℤ c.cov-less.result) more ∙ ap (λ (z : ℤ). shifted_cov s c.args.k c.args.j -ℤ z) less))
