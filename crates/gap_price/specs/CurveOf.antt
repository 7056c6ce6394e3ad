-- What a cost curve is over. Own to portgap.

use Rattle.gap_price.specs.declared.curve.CostCurve.{CostCurve}
use Rattle.gap_price.specs.Curves.{CurveValue, curve_with}

-- the costs, the price that varies, the part and the numbers of assets of a curve
abbrev pub curve_of : CostCurve → CurveValue
curve_of c = curve_with c.costs c.varied c.part.now c.fewest c.most
