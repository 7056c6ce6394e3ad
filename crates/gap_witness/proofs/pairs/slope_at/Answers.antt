use Rattle.std.proofs.Common.{◌≡◌, ℕ, ◌<◌, ◌≤◌, ℤ, ◌-ℤ◌, unsigned_abs, FitsSigned, lit<, length, sym, ap, ◌∙◌, subst}
use Rattle.std.specs.Int.{w128}
use Rattle.std.proofs.lemmas.Int.{to_z-of_z}
use Rattle.gap_base.specs.Sums.{at}
use Rattle.gap_base.specs.Lots.{lots_at}
use Rattle.gap_base.proofs.Machine.{fits_of}
use Rattle.gap_model.specs.Settings.{Setting}
use Rattle.gap_tangent.specs.Terms.{gradient_of}
use Rattle.gap_witness.specs.Frames.{setting_in, choice_in, level}
use Rattle.gap_witness.proofs.GradientLaws.{gradient_is}
use Rattle.gap_witness.proofs.pairs.slope_at.Goals as goal

pub returns-clause-value : goal.returns-clause-value
returns-clause-value c =
    let s = setting_in c.args.frame.now in
    let o = choice_in c.args.frame.now in
    let y = c.args.point.now.eighths in
    let i = c.args.i in
    let k = c.from.result in
    let there = subst (λ (n : ℕ). n < length c.args.frame.now.part.now) (sym c.from.ensures) c.requires.there in
    let fg : FitsSigned w128 c.gradient.result = record { sfits = c.gradient.type_inv } in
    let fl : FitsSigned w128 (at c.args.levels.now k) = fits_of (at c.args.levels.now k) 16000000000000000000000000000 (c.requires.small k there) (lit< tt) in
    let fa : FitsSigned w128 c.above.result = record { sfits = c.above.type_inv } in
    let v = simp to_z-of_z at c.above.ensures.value in
    let g = c.gradient.ensures.value ∙ ap (λ (t : Setting). gradient_of t (lots_at y) i) c.requires.same in
    let l = c.requires.levels k there ∙ ap (level s o) c.from.ensures in
    to_z-of_z w128 c.above.result fa ∙ (v ∙ (ap (λ (z : ℤ). z -ℤ at c.args.levels.now k) g ∙ (ap (λ (z : ℤ). gradient_of s (lots_at y) i -ℤ z) l ∙ sym (gradient_is s o y i))))
