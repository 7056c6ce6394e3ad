use Rattle.std.proofs.Common.{◌≡◌, true, false, Bool, FitsSigned, lit<, refl, sym}
use Rattle.std.proofs.lemmas.Int.{to_z-of_z}
use Rattle.std.specs.Int.{w128}
use Rattle.gap_base.specs.Lots.{lots_at}
use Rattle.gap_base.proofs.Machine.{fits_of}
use Rattle.gap_box.specs.Parts.{can_meet}
use Rattle.gap_model.proofs.ThetaLaws.{theta_none}
use Rattle.gap_tangent.proofs.LineLaws.{theta_at_line, met_by}
use Rattle.gap_tangent.proofs.tangent.Tangent.theta.Goals as goal

pub returns-in-Some-clause-value : goal.returns-in-Some-clause-value
returns-in-Some-clause-value c =
    let fa = c.ranges.alpha in
    let ft = c.ranges.tau in
    let s = c.args.self.now.setting in
    let part = c.args.part.now in
    let l = c.in-Some.line in
    let fv : FitsSigned w128 l.value = fits_of l.value 10000000000000000000000000000000000000 l.value_small (lit< tt) in
    let place = simp to_z-of_z at c.in-Some.ensures.place in
    let line = simp to_z-of_z at c.in-Some.ensures.line in
    let met = met_by (can_meet part s.instance.held s.instance.held_most) (λ f. let q = c.in-Some.ensures.none.1 f in cc) in
    simp to_z-of_z (theta_at_line s part (lots_at c.args.self.now.eighths) c.args.alpha c.args.tau l c.len-cells.ensures.valid c.eighths-point.ensures.setting.instance_is.limits_are.held_range met place line)

pub returns-in-None-clause-value : goal.returns-in-None-clause-value
returns-in-None-clause-value c = sym (theta_none c.args.self.now.setting c.args.part.now (lots_at c.args.self.now.eighths) c.args.alpha c.args.tau c.len-cells.ensures.valid (c.in-None.ensures.none.0 refl))
