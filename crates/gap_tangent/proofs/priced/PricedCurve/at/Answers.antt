use Rattle.std.proofs.Common.{◌*◌, FitsSigned, lit<, ◌∙◌, arith}
use Rattle.std.proofs.lemmas.Int.{to_z-of_z}
use Rattle.std.specs.Int.{w128}
use Rattle.gap_base.proofs.Machine.{fits_of}
use Rattle.gap_price.specs.CurveOf.{curve_of}
use Rattle.gap_tangent.proofs.LineLaws.{cost_line}
use Rattle.gap_tangent.proofs.priced.PricedCurve.at.Goals as goal

pub returns-clause-line : goal.returns-clause-line
returns-clause-line c =
    let fm = c.ranges.multiplier in
    let p = c.args.self.now in
    let h = p.fixed_small in
    let k = c.at-chosen.result in
    let ff : FitsSigned w128 p.fixed = fits_of p.fixed 3180000000000000000000000000000000000 (omega arith) (lit< tt) in
    let fk : FitsSigned w128 k.value = fits_of k.value (256 * 23000000000000000000000000000000000) c.at-chosen.ensures.value_small (lit< tt) in
    let fs : FitsSigned w128 k.slope = fits_of k.slope (256 * 10000) c.at-chosen.ensures.slope_small (lit< tt) in
    let fl : FitsSigned w128 c.limited-price.result = record { sfits = c.limited-price.type_inv } in
    let fj : FitsSigned w128 c.joined.result = record { sfits = c.joined.type_inv } in
    let fa : FitsSigned w128 c.above.result = record { sfits = c.above.type_inv } in
    let least = simp to_z-of_z at c.at-chosen.ensures.least in
    let u = simp to_z-of_z at c.limited-price.ensures.value in
    let v = simp to_z-of_z at c.joined.ensures.value in
    let w = simp to_z-of_z at c.above.ensures.value in
    cost_line (curve_of p.costs) p.fixed p.limit c.args.multiplier k.value k.slope c.limited-price.result _ (to_z-of_z w128 c.args.multiplier fm) least u (to_z-of_z w128 c.joined.result fj ∙ v) (to_z-of_z w128 c.above.result fa ∙ w)
