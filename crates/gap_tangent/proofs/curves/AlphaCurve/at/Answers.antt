use Rattle.std.proofs.Common.{ℤ, List, ℕ}
use Rattle.gap_base.specs.Lots.{lots_at}
use Rattle.gap_model.specs.Lagrangian.{lag}
use Rattle.gap_price.specs.CurveOf.{curve_of}
use Rattle.gap_tangent.specs.Curves.{alpha_value}
use Rattle.gap_tangent.proofs.LineLaws.{line_from, theta_over_alpha}
use Rattle.gap_tangent.proofs.curves.AlphaCurve.at.Goals as goal

pub returns-clause-line : goal.returns-clause-line
returns-clause-line c =
    let a = c.args.self.now in
    let t = a.tangent.now in
    let s = t.setting in
    let k = a.kept in
    line_from (λ (m : ℤ) (x : List ℕ). lag s (lots_at t.eighths) m a.tau x) (alpha_value a) a.part.now s.instance.held s.instance.held_most (curve_of a.priced.costs) a.priced.fixed a.priced.limit c.at.result k (theta_over_alpha s a.part.now (lots_at t.eighths) a.tau c.len-cells.ensures.valid k.order k.counted) c.at.ensures.line
