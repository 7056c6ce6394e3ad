use Rattle.std.proofs.Common.{◌≡◌, ◌<◌, ◌≤◌, ℤ, unsigned_abs, lit<, sym, subst}
use Rattle.gap_base.specs.Sums.{at}
use Rattle.gap_base.proofs.Machine.{back_of}
use Rattle.gap_tangent.specs.Seen.{setting_of}
use Rattle.gap_tangent.specs.Points.{PointValue}
use Rattle.gap_tangent.proofs.SizeLaws.{gradient_small}
use Rattle.gap_tangent.proofs.point.Point.gradient.Goals as goal

pub returns-clause-small : goal.returns-clause-small
returns-clause-small c =
    let b = c.self.inside.bound.now in
    let s = setting_of b in
    let kept = c.self.invariant in
    let there : c.args.i < s.instance.market.assets = subst (λ (v : PointValue). c.args.i < v.setting.instance.market.assets) (sym c.self.view_is) c.requires in
    let inside : c.from.result < s.instance.market.assets = rw c.from.ensures there in
    let small = subst (λ (z : ℤ). unsigned_abs z ≤ 16250000000000000000000000000) (sym (kept.gradients_are c.from.result inside)) (gradient_small s c.self.inside.eighths c.from.result b.setting kept.point inside) in
    rw (back_of (at c.self.inside.gradients c.from.result) 16250000000000000000000000000 small (lit< tt)) small
