use Rattle.std.proofs.Common.{◌≡◌, ℤ, ◌≤ℤ◌, ◌<ℤ◌, List, ℕ, ◌≤◌, unsigned_abs, FitsSigned, lit<, subst, sym, ap, ◌∙◌, arith}
use Rattle.std.proofs.lemmas.Int.{ints, to_z-of_z}
use Rattle.std.specs.Int.{w128}
use Rattle.gap_base.specs.Lots.{lots_at}
use Rattle.gap_base.proofs.Machine.{fits_of}
use Rattle.gap_lines.proofs.Sizes.{less_by_test, most_by_test}
use Rattle.gap_model.specs.Settings.{Setting}
use Rattle.gap_model.specs.Leaves.{IsPoint}
use Rattle.gap_tangent.specs.Points.{PointValue}
use Rattle.gap_tangent.specs.Seen.{setting_of}
use Rattle.gap_witness.specs.Points.{choice_of, point}
use Rattle.gap_leaf.specs.Candidates.{theta_at, AreBestAt, IsCandidate}
use Rattle.gap_leaf.specs.declared.candidates.Best.{Best}
use Rattle.gap_leaf.proofs.CandidateLaws.{moved_candidate, kept_candidate}
use Rattle.gap_leaf.proofs.candidates.best_witness.Goals as goal

at_most : (a b : ℤ) → a <ℤ b → a ≤ℤ b
at_most a b h = omega (arith, ints)

as_much : (a : ℤ) → a ≤ℤ a
as_much a = omega (arith, ints)

pub returns-then-is_same_point-clause-candidate : goal.returns-then-is_same_point-clause-candidate
returns-then-is_same_point-clause-candidate c =
    let fa = c.ranges.alpha in
    let ft = c.ranges.tau in
    let t = c.args.tangent.now in
    let s = t.setting in
    let part = c.args.part.now in
    let kept = c.kept_multipliers-kept.result in
    let p = c.kept_tangent_point-moved_point.result in
    let made = c.kept_tangent_point-moved_point.ensures in
    let y_is = ap (λ (v : PointValue). v.eighths) made ∙ ap (λ (y : List ℕ). point (setting_of c.args.mv.now) (choice_of (setting_of c.args.mv.now) part) y) c.eighths.ensures.value ∙ ap (λ (r : Setting). point r (choice_of r part) t.eighths) (sym c.requires.same) in
    let h = c.kept_multipliers-kept.ensures.best in
    let f1 : FitsSigned w128 kept.alpha = fits_of kept.alpha 1000000000000000000000000000000 h.multipliers.alpha_most (lit< tt) in
    let f2 : FitsSigned w128 kept.tau = fits_of kept.tau 1000000000000000000000000000000 h.multipliers.tau_most (lit< tt) in
    let f4 : FitsSigned w128 kept.theta = fits_of kept.theta 10000000000000000000000000000000000000 h.small (lit< tt) in
    let same : p.eighths ≡ t.eighths = sym c.eighths-2.ensures.value ∙ c.is_same_point.ensures c.if-is_same_point.true ∙ c.eighths-3.ensures.value in
    let k = subst (λ (y : List ℕ). AreBestAt s part (lots_at y) kept.alpha kept.tau kept.theta) (sym same) h in
    let no_less = simp to_z-of_z at c.kept_multipliers-kept.ensures.no_less in
    let r = kept_candidate s part t.eighths p.eighths c.args.alpha c.args.tau kept.alpha kept.tau kept.theta kept.alpha kept.tau kept.theta c.eighths.ensures.point h no_less y_is k (as_much kept.theta) in
    let e = simp (c.eighths-then-is_same_point.ensures.value) at c.best_at.ensures in
    subst (λ (b : Best). IsCandidate s part (record { y = t.eighths; alpha = c.args.alpha; tau = c.args.tau }) b.witness) (sym e) r

pub returns-then-is_same_point-clause-theta : goal.returns-then-is_same_point-clause-theta
returns-then-is_same_point-clause-theta c =
    let fa = c.ranges.alpha in
    let ft = c.ranges.tau in
    let t = c.args.tangent.now in
    let s = t.setting in
    let part = c.args.part.now in
    let kept = c.kept_multipliers-kept.result in
    let h = c.kept_multipliers-kept.ensures.best in
    let f1 : FitsSigned w128 kept.alpha = fits_of kept.alpha 1000000000000000000000000000000 h.multipliers.alpha_most (lit< tt) in
    let f2 : FitsSigned w128 kept.tau = fits_of kept.tau 1000000000000000000000000000000 h.multipliers.tau_most (lit< tt) in
    let f4 : FitsSigned w128 kept.theta = fits_of kept.theta 10000000000000000000000000000000000000 h.small (lit< tt) in
    let e = simp (c.eighths-then-is_same_point.ensures.value) at c.best_at.ensures in
    subst (λ (b : Best). b.theta ≡ theta_at s part b.witness) (sym e) (sym h.theta_is)

pub returns-then-kept-moved-clause-candidate : goal.returns-then-kept-moved-clause-candidate
returns-then-kept-moved-clause-candidate c =
    let fa = c.ranges.alpha in
    let ft = c.ranges.tau in
    let t = c.args.tangent.now in
    let s = t.setting in
    let part = c.args.part.now in
    let kept = c.kept_multipliers-kept.result in
    let moved = c.new_multipliers-moved.result in
    let p = c.kept_tangent_point-moved_point.result in
    let made = c.kept_tangent_point-moved_point.ensures in
    let there = ap (λ (v : PointValue). v.setting) made ∙ sym c.requires.same in
    let y_is = ap (λ (v : PointValue). v.eighths) made ∙ ap (λ (y : List ℕ). point (setting_of c.args.mv.now) (choice_of (setting_of c.args.mv.now) part) y) c.eighths.ensures.value ∙ ap (λ (r : Setting). point r (choice_of r part) t.eighths) (sym c.requires.same) in
    let k0 = subst (λ (v : PointValue). AreBestAt v.setting part (lots_at v.eighths) moved.alpha moved.tau moved.theta) c.of-moved_tangent.ensures c.new_multipliers-moved.ensures in
    let k = subst (λ (r : Setting). AreBestAt r part (lots_at p.eighths) moved.alpha moved.tau moved.theta) there k0 in
    let h = c.kept_multipliers-kept.ensures.best in
    let f1 : FitsSigned w128 moved.alpha = fits_of moved.alpha 1000000000000000000000000000000 k.multipliers.alpha_most (lit< tt) in
    let f2 : FitsSigned w128 moved.tau = fits_of moved.tau 1000000000000000000000000000000 k.multipliers.tau_most (lit< tt) in
    let f3 : FitsSigned w128 moved.theta = fits_of moved.theta 10000000000000000000000000000000000000 k.small (lit< tt) in
    let f4 : FitsSigned w128 kept.theta = fits_of kept.theta 10000000000000000000000000000000000000 h.small (lit< tt) in
    let less = less_by_test kept.theta moved.theta (simp to_z-of_z at c.if-kept-moved.true) in
    let no_less = simp to_z-of_z at c.kept_multipliers-kept.ensures.no_less in
    let inside = subst (λ (r : Setting). IsPoint r.instance p.eighths) there c.eighths-then-kept-moved.ensures.point in
    let r = moved_candidate s part t.eighths p.eighths c.args.alpha c.args.tau kept.alpha kept.tau kept.theta moved.alpha moved.tau moved.theta inside h no_less y_is k (at_most _ _ less) in
    let e = simp (c.eighths-then-kept-moved.ensures.value) at c.best_at-then-kept-moved.ensures in
    subst (λ (b : Best). IsCandidate s part (record { y = t.eighths; alpha = c.args.alpha; tau = c.args.tau }) b.witness) (sym e) r

pub returns-then-kept-moved-clause-theta : goal.returns-then-kept-moved-clause-theta
returns-then-kept-moved-clause-theta c =
    let fa = c.ranges.alpha in
    let ft = c.ranges.tau in
    let t = c.args.tangent.now in
    let s = t.setting in
    let part = c.args.part.now in
    let kept = c.kept_multipliers-kept.result in
    let moved = c.new_multipliers-moved.result in
    let p = c.kept_tangent_point-moved_point.result in
    let made = c.kept_tangent_point-moved_point.ensures in
    let there = ap (λ (v : PointValue). v.setting) made ∙ sym c.requires.same in
    let y_is = ap (λ (v : PointValue). v.eighths) made ∙ ap (λ (y : List ℕ). point (setting_of c.args.mv.now) (choice_of (setting_of c.args.mv.now) part) y) c.eighths.ensures.value ∙ ap (λ (r : Setting). point r (choice_of r part) t.eighths) (sym c.requires.same) in
    let k0 = subst (λ (v : PointValue). AreBestAt v.setting part (lots_at v.eighths) moved.alpha moved.tau moved.theta) c.of-moved_tangent.ensures c.new_multipliers-moved.ensures in
    let k = subst (λ (r : Setting). AreBestAt r part (lots_at p.eighths) moved.alpha moved.tau moved.theta) there k0 in
    let f1 : FitsSigned w128 moved.alpha = fits_of moved.alpha 1000000000000000000000000000000 k.multipliers.alpha_most (lit< tt) in
    let f2 : FitsSigned w128 moved.tau = fits_of moved.tau 1000000000000000000000000000000 k.multipliers.tau_most (lit< tt) in
    let f3 : FitsSigned w128 moved.theta = fits_of moved.theta 10000000000000000000000000000000000000 k.small (lit< tt) in
    let e = simp (c.eighths-then-kept-moved.ensures.value) at c.best_at-then-kept-moved.ensures in
    subst (λ (b : Best). b.theta ≡ theta_at s part b.witness) (sym e) (sym k.theta_is)

pub returns-clause-candidate : goal.returns-clause-candidate
returns-clause-candidate c =
    let fa = c.ranges.alpha in
    let ft = c.ranges.tau in
    let t = c.args.tangent.now in
    let s = t.setting in
    let part = c.args.part.now in
    let kept = c.kept_multipliers-kept.result in
    let moved = c.new_multipliers-moved.result in
    let p = c.kept_tangent_point-moved_point.result in
    let made = c.kept_tangent_point-moved_point.ensures in
    let there = ap (λ (v : PointValue). v.setting) made ∙ sym c.requires.same in
    let y_is = ap (λ (v : PointValue). v.eighths) made ∙ ap (λ (y : List ℕ). point (setting_of c.args.mv.now) (choice_of (setting_of c.args.mv.now) part) y) c.eighths.ensures.value ∙ ap (λ (r : Setting). point r (choice_of r part) t.eighths) (sym c.requires.same) in
    let k0 = subst (λ (v : PointValue). AreBestAt v.setting part (lots_at v.eighths) moved.alpha moved.tau moved.theta) c.of-moved_tangent.ensures c.new_multipliers-moved.ensures in
    let k = subst (λ (r : Setting). AreBestAt r part (lots_at p.eighths) moved.alpha moved.tau moved.theta) there k0 in
    let h = c.kept_multipliers-kept.ensures.best in
    let f1 : FitsSigned w128 kept.alpha = fits_of kept.alpha 1000000000000000000000000000000 h.multipliers.alpha_most (lit< tt) in
    let f2 : FitsSigned w128 kept.tau = fits_of kept.tau 1000000000000000000000000000000 h.multipliers.tau_most (lit< tt) in
    let f4 : FitsSigned w128 kept.theta = fits_of kept.theta 10000000000000000000000000000000000000 h.small (lit< tt) in
    let f3 : FitsSigned w128 moved.theta = fits_of moved.theta 10000000000000000000000000000000000000 k.small (lit< tt) in
    let less = most_by_test kept.theta moved.theta (simp to_z-of_z at c.if-kept-moved.false) in
    let no_less = simp to_z-of_z at c.kept_multipliers-kept.ensures.no_less in
    let r = kept_candidate s part t.eighths p.eighths c.args.alpha c.args.tau kept.alpha kept.tau kept.theta moved.alpha moved.tau moved.theta c.eighths.ensures.point h no_less y_is k less in
    let e = simp (c.eighths-4.ensures.value) at c.best_at-2.ensures in
    subst (λ (b : Best). IsCandidate s part (record { y = t.eighths; alpha = c.args.alpha; tau = c.args.tau }) b.witness) (sym e) r

pub returns-clause-theta : goal.returns-clause-theta
returns-clause-theta c =
    let fa = c.ranges.alpha in
    let ft = c.ranges.tau in
    let t = c.args.tangent.now in
    let s = t.setting in
    let part = c.args.part.now in
    let kept = c.kept_multipliers-kept.result in
    let h = c.kept_multipliers-kept.ensures.best in
    let f1 : FitsSigned w128 kept.alpha = fits_of kept.alpha 1000000000000000000000000000000 h.multipliers.alpha_most (lit< tt) in
    let f2 : FitsSigned w128 kept.tau = fits_of kept.tau 1000000000000000000000000000000 h.multipliers.tau_most (lit< tt) in
    let f4 : FitsSigned w128 kept.theta = fits_of kept.theta 10000000000000000000000000000000000000 h.small (lit< tt) in
    let e = simp (c.eighths-4.ensures.value) at c.best_at-2.ensures in
    subst (λ (b : Best). b.theta ≡ theta_at s part b.witness) (sym e) (sym h.theta_is)

pub returns-then-is_same_point-clause-small : goal.returns-then-is_same_point-clause-small
returns-then-is_same_point-clause-small c =
    let fa = c.ranges.alpha in
    let ft = c.ranges.tau in
    let t = c.args.tangent.now in
    let s = t.setting in
    let part = c.args.part.now in
    let kept = c.kept_multipliers-kept.result in
    let h = c.kept_multipliers-kept.ensures.best in
    let f1 : FitsSigned w128 kept.alpha = fits_of kept.alpha 1000000000000000000000000000000 h.multipliers.alpha_most (lit< tt) in
    let f2 : FitsSigned w128 kept.tau = fits_of kept.tau 1000000000000000000000000000000 h.multipliers.tau_most (lit< tt) in
    let f4 : FitsSigned w128 kept.theta = fits_of kept.theta 10000000000000000000000000000000000000 h.small (lit< tt) in
    let e = simp (c.eighths-then-is_same_point.ensures.value) at c.best_at.ensures in
    subst (λ (b : Best). unsigned_abs b.theta ≤ 10000000000000000000000000000000000000) (sym e) h.small

pub returns-then-kept-moved-clause-small : goal.returns-then-kept-moved-clause-small
returns-then-kept-moved-clause-small c =
    let fa = c.ranges.alpha in
    let ft = c.ranges.tau in
    let t = c.args.tangent.now in
    let s = t.setting in
    let part = c.args.part.now in
    let kept = c.kept_multipliers-kept.result in
    let moved = c.new_multipliers-moved.result in
    let p = c.kept_tangent_point-moved_point.result in
    let made = c.kept_tangent_point-moved_point.ensures in
    let there = ap (λ (v : PointValue). v.setting) made ∙ sym c.requires.same in
    let y_is = ap (λ (v : PointValue). v.eighths) made ∙ ap (λ (y : List ℕ). point (setting_of c.args.mv.now) (choice_of (setting_of c.args.mv.now) part) y) c.eighths.ensures.value ∙ ap (λ (r : Setting). point r (choice_of r part) t.eighths) (sym c.requires.same) in
    let k0 = subst (λ (v : PointValue). AreBestAt v.setting part (lots_at v.eighths) moved.alpha moved.tau moved.theta) c.of-moved_tangent.ensures c.new_multipliers-moved.ensures in
    let k = subst (λ (r : Setting). AreBestAt r part (lots_at p.eighths) moved.alpha moved.tau moved.theta) there k0 in
    let f1 : FitsSigned w128 moved.alpha = fits_of moved.alpha 1000000000000000000000000000000 k.multipliers.alpha_most (lit< tt) in
    let f2 : FitsSigned w128 moved.tau = fits_of moved.tau 1000000000000000000000000000000 k.multipliers.tau_most (lit< tt) in
    let f3 : FitsSigned w128 moved.theta = fits_of moved.theta 10000000000000000000000000000000000000 k.small (lit< tt) in
    let e = simp (c.eighths-then-kept-moved.ensures.value) at c.best_at-then-kept-moved.ensures in
    subst (λ (b : Best). unsigned_abs b.theta ≤ 10000000000000000000000000000000000000) (sym e) k.small

pub returns-clause-small : goal.returns-clause-small
returns-clause-small c =
    let fa = c.ranges.alpha in
    let ft = c.ranges.tau in
    let t = c.args.tangent.now in
    let s = t.setting in
    let part = c.args.part.now in
    let kept = c.kept_multipliers-kept.result in
    let h = c.kept_multipliers-kept.ensures.best in
    let f1 : FitsSigned w128 kept.alpha = fits_of kept.alpha 1000000000000000000000000000000 h.multipliers.alpha_most (lit< tt) in
    let f2 : FitsSigned w128 kept.tau = fits_of kept.tau 1000000000000000000000000000000 h.multipliers.tau_most (lit< tt) in
    let f4 : FitsSigned w128 kept.theta = fits_of kept.theta 10000000000000000000000000000000000000 h.small (lit< tt) in
    let e = simp (c.eighths-4.ensures.value) at c.best_at-2.ensures in
    subst (λ (b : Best). unsigned_abs b.theta ≤ 10000000000000000000000000000000000000) (sym e) h.small
