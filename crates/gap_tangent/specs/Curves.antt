-- What contracts see of the curves of theta. Own to portgap.

use Rattle.std.specs.Prelude.{ℤ}
use Rattle.gap_base.specs.Lots.{lots_at}
use Rattle.gap_tangent.specs.declared.curves.AlphaCurve.{AlphaCurve}
use Rattle.gap_tangent.specs.declared.curves.TauCurve.{TauCurve}
use Rattle.gap_tangent.specs.Lines.{alpha_curve, tau_curve}

-- theta of the curve's part at its point, over alpha and over tau
abbrev pub alpha_value : AlphaCurve → ℤ → ℤ
alpha_value c = alpha_curve c.tangent.now.setting c.part.now (lots_at c.tangent.now.eighths) c.tau

abbrev pub tau_value : TauCurve → ℤ → ℤ
tau_value c = tau_curve c.tangent.now.setting c.part.now (lots_at c.tangent.now.eighths) c.alpha
