use Rattle.std.proofs.Common.{◌≡◌, ◌≤◌, ℕ, true, false, Bool, replicate, List, ℤ, pos, ◌≤ℤ◌, unsigned_abs, FitsSigned, lit<, refl, sym, arith}
use Rattle.std.proofs.lemmas.Int.{ints, to_z-of_z}
use Rattle.std.specs.Int.{w128}
use Rattle.gap_base.specs.Sums.{at}
use Rattle.gap_base.proofs.Machine.{fits_of}
use Rattle.gap_box.specs.Parts.{can_meet}
use Rattle.gap_model.proofs.ThetaLaws.{void_theta_none}
use Rattle.gap_price.specs.CurveOf.{curve_of}
use Rattle.gap_tangent.specs.Seen.{setting_of}
use Rattle.gap_tangent.specs.Terms.{AreSmall}
use Rattle.gap_tangent.proofs.LineLaws.{void_alpha_terms, void_theta_at_line, met_by}
use Rattle.gap_tangent.proofs.RowLaws.{zeros_at}
use Rattle.gap_tangent.proofs.SettingLaws.{part_count}
use Rattle.gap_tangent.proofs.thetas.void_theta.Goals as goal

zero_small : (z : ℤ) (m : ℕ) → z ≡ pos 0 → unsigned_abs z ≤ m
zero_small z m e = rw e (omega (arith, ints))

zero_sign : (z : ℤ) → z ≡ pos 0 → pos 0 ≤ℤ z
zero_sign z e = rw e (omega (arith, ints))

zeros_small : (n : ℕ) (slopes bends : List ℤ) → ((i : ℕ) → at slopes i ≡ pos 0) → ((i : ℕ) → at bends i ≡ pos 0) → AreSmall n slopes bends
zeros_small n slopes bends h k = record { slopes_small = λ i l. zero_small (at slopes i) _ (h i); bends_small = λ i l. zero_small (at bends i) _ (k i); bends_signs = λ i l. zero_sign (at bends i) (k i) }

pub lots_curve-requires-clause-part_length : goal.lots_curve-requires-clause-part_length
lots_curve-requires-clause-part_length c = let b = c.args.mv.now in part_count b.instance.now c.args.part.now b.setting.instance_is c.requires.within

pub lots_curve-requires-clause-small : goal.lots_curve-requires-clause-small
lots_curve-requires-clause-small c = zeros_small _ _ _ (zeros_at 256) (zeros_at 256)

pub returns-in-Some-clause-value : goal.returns-in-Some-clause-value
returns-in-Some-clause-value c =
    let fa = c.ranges.alpha in
    let ft = c.ranges.tau in
    let b = c.args.mv.now in
    let s = setting_of b in
    let part = c.args.part.now in
    let k = c.in-Some.curve in
    let l = c.at.result in
    let zeros = replicate 256 (pos 0) in
    let fv : FitsSigned w128 l.value = fits_of l.value 10000000000000000000000000000000000000 l.value_small (lit< tt) in
    let met = met_by (can_meet part s.instance.held s.instance.held_most) (λ f. let q = c.in-Some.ensures.none.1 f in cc) in
    let n = part_count b.instance.now part b.setting.instance_is c.requires.within in
    let curve = simp to_z-of_z at c.in-Some.ensures.curve in
    let fixed = simp to_z-of_z at c.in-Some.ensures.fixed in
    let place = simp to_z-of_z at c.at.ensures.place in
    let kept = void_alpha_terms s zeros zeros c.args.tau k.fixed part k.limit (curve_of k.costs) b.setting n (zeros_at 256) (zeros_at 256) c.requires.multipliers.tau_unset met curve fixed c.in-Some.ensures.limit in
    simp to_z-of_z (void_theta_at_line s part c.args.alpha c.args.tau k.fixed (curve_of k.costs) k.limit l place kept c.at.ensures.line)

pub returns-in-None-clause-value : goal.returns-in-None-clause-value
returns-in-None-clause-value c = sym (void_theta_none (setting_of c.args.mv.now) c.args.part.now c.args.alpha c.args.tau c.len-cells.ensures.valid (c.in-None.ensures.none.0 refl))
