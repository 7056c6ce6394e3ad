use Rattle.std.proofs.Common.{◌≡◌, ◌≤◌, true, false, Bool, None, List, ℕ, ℤ, pos, unsigned_abs, FitsSigned, lit<, refl, sym, subst}
use Rattle.std.proofs.lemmas.Int.{to_z-of_z}
use Rattle.std.specs.Int.{w128}
use Rattle.gap_base.specs.Lots.{lots_at}
use Rattle.gap_base.proofs.Machine.{back_of, fits_of}
use Rattle.gap_box.specs.Parts.{can_meet, IsWithin, root_cells}
use Rattle.gap_model.specs.Lagrangian.{lag}
use Rattle.gap_price.specs.CurveOf.{curve_of}
use Rattle.gap_tangent.specs.Seen.{setting_of}
use Rattle.gap_tangent.specs.Points.{PointValue}
use Rattle.gap_tangent.specs.Lines.{IsCurveOf}
use Rattle.gap_tangent.proofs.LineLaws.{alpha_terms, met_by}
use Rattle.gap_tangent.proofs.PointLaws.{kept_small, kept_constant}
use Rattle.gap_tangent.proofs.SettingLaws.{part_count}
use Rattle.gap_tangent.proofs.tangent.Tangent.alpha_curve.Goals as goal

pub lots_curve-requires-clause-part_length : goal.lots_curve-requires-clause-part_length
lots_curve-requires-clause-part_length c =
    let b = c.self.inside.bound.now in
    part_count b.instance.now c.args.part.now b.setting.instance_is (subst (λ (v : PointValue). IsWithin c.args.part.now (root_cells v.setting.instance.least v.setting.instance.greatest)) (sym c.self.view_is) c.requires.within)

pub lots_curve-requires-clause-small : goal.lots_curve-requires-clause-small
lots_curve-requires-clause-small c = let b = c.self.inside.bound.now in kept_small (setting_of b) c.self.inside.eighths b.bends c.self.inside.slopes c.self.inside.constant b.setting b.bends_are c.self.invariant

pub lots_curve-requires-clause-constant : goal.lots_curve-requires-clause-constant
lots_curve-requires-clause-constant c =
    let b = c.self.inside.bound.now in
    let small = kept_constant (setting_of b) c.self.inside.eighths b.bends c.self.inside.slopes c.self.inside.constant b.setting c.self.invariant in
    rw (back_of c.self.inside.constant 170000000000000000000000000000000000 small (lit< tt)) small

pub invariant_of-result : goal.invariant_of-result
invariant_of-result c =
    let ft = c.ranges.tau in
    let b = c.self.inside.bound.now in
    let s = setting_of b in
    let part = c.args.part.now in
    let k = c.in-Some.priced in
    let small = kept_constant s c.self.inside.eighths b.bends c.self.inside.slopes c.self.inside.constant b.setting c.self.invariant in
    let fk : FitsSigned w128 c.self.inside.constant = fits_of c.self.inside.constant 170000000000000000000000000000000000 small (lit< tt) in
    let n = part_count b.instance.now part b.setting.instance_is (subst (λ (v : PointValue). IsWithin part (root_cells v.setting.instance.least v.setting.instance.greatest)) (sym c.self.view_is) c.requires.within) in
    let met = met_by (can_meet part s.instance.held s.instance.held_most) (λ f. let q = c.in-Some.ensures.none.1 f in cc) in
    let unset = subst (λ (v : PointValue). v.setting.instance.turnover ≡ None → c.args.tau ≡ pos 0) (sym c.self.view_is) c.requires.tau.tau_unset in
    let curve = simp to_z-of_z at c.in-Some.ensures.curve in
    let fixed = simp to_z-of_z at c.in-Some.ensures.fixed in
    let kept = alpha_terms s (lots_at c.self.inside.eighths) c.self.inside.slopes b.bends c.self.inside.constant c.args.tau k.fixed part k.limit (curve_of k.costs) b.setting n c.self.invariant.terms unset met curve fixed c.in-Some.ensures.limit in
    let seen = subst (λ (v : PointValue). IsCurveOf (λ (m : ℤ) (x : List ℕ). lag v.setting (lots_at v.eighths) m c.args.tau x) part v.setting.instance.held v.setting.instance.held_most (curve_of k.costs) k.fixed k.limit) c.self.view_is kept in
    record { kept = rw (to_z-of_z w128 c.args.tau ft) seen }
