use Rattle.std.proofs.Common.{◌≡◌, ◌<◌, ◌≤◌, ℕ, ℤ, pos, ◌*ℤ◌, unsigned_abs, lit<, sym, subst}
use Rattle.gap_base.specs.Sums.{at}
use Rattle.gap_base.specs.Lots.{lots_at}
use Rattle.gap_base.proofs.Machine.{back_of}
use Rattle.gap_tangent.specs.Seen.{setting_of}
use Rattle.gap_tangent.specs.Points.{PointValue}
use Rattle.gap_tangent.specs.Terms.{gradient_of}
use Rattle.gap_tangent.proofs.SizeLaws.{constant_small}
use Rattle.gap_tangent.proofs.PointLaws.{kept_tangent}
use Rattle.gap_tangent.proofs.tangent.Tangent.of.Goals as goal

pub invariant_of-result : goal.invariant_of-result
invariant_of-result c =
    let b = c.point.inside.bound.now in
    let s = setting_of b in
    let slopes = c.slopes_of.result in
    let h = subst (λ (v : PointValue). (i : ℕ) → i < v.setting.instance.market.assets → at slopes i ≡ pos 8 *ℤ gradient_of v.setting (lots_at v.eighths) i) (sym c.point.view_is) c.slopes_of.ensures.slopes in
    let k = c.constant_of.result in
    let small = subst (λ (z : ℤ). unsigned_abs z ≤ 170000000000000000000000000000000000) (sym c.constant_of.ensures) (constant_small s c.point.inside.eighths b.setting c.point.invariant.point) in
    rw (c.copy.ensures, back_of k 170000000000000000000000000000000000 small (lit< tt)) (kept_tangent s c.point.inside.eighths c.point.inside.gradients b.bends slopes k b.bends_are c.point.invariant c.constant_of.ensures c.slopes_of.ensures.room h)
