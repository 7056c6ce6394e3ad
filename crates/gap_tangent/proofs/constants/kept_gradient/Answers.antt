use Rattle.std.proofs.Common.{◌<◌, ◌≤◌, ℕ, ℤ, unsigned_abs, lit<, subst, sym}
use Rattle.gap_base.specs.Sums.{at}
use Rattle.gap_base.proofs.Machine.{back_of}
use Rattle.gap_tangent.specs.Seen.{setting_of}
use Rattle.gap_tangent.proofs.SizeLaws.{gradient_small}
use Rattle.gap_tangent.proofs.constants.kept_gradient.Goals as goal

pub returns-clause-small : goal.returns-clause-small
returns-clause-small c =
    let b = c.args.mv.now in
    let s = setting_of b in
    let there = subst (λ (k : ℕ). k < s.instance.market.assets) (sym c.from-place.ensures) c.requires.there in
    let small = subst (λ (z : ℤ). unsigned_abs z ≤ 16250000000000000000000000000) (sym (c.requires.kept c.from-place.result there)) (gradient_small s c.args.y.now c.from-place.result b.setting c.requires.point there) in
    rw (back_of (at c.args.gradients.now c.from-place.result) 16250000000000000000000000000 small (lit< tt)) small
