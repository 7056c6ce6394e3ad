use Rattle.std.proofs.Common.{◌≤◌, ℤ, ◌+ℤ◌, unsigned_abs, lit<, ◌∙◌, ap, sym, subst, arith}
use Rattle.std.proofs.lemmas.Int.{ints, to_z-of_z}
use Rattle.gap_base.specs.Sums.{at}
use Rattle.gap_price.specs.Curves.{costs_with, lot_under}
use Rattle.gap_price.proofs.Arithmetic.{sum_three}
use Rattle.gap_price.proofs.ends.plain_at.Goals as goal

pub returns-clause-line : goal.returns-clause-line
returns-clause-line c =
    let fm = c.ranges.multiplier in
    let a = c.linear_at.result in
    let b = c.lot_price.result in
    let d = c.distance_price.result in
    let h = c.linear_at.ensures.small in
    let s = sum_three a b d 1001000000000000000000000000000 (omega arith) c.lot_price.ensures.small c.distance_price.ensures.small (lit< tt) in
    let e = simp to_z-of_z at c.lot_price.ensures.value in
    let f = simp to_z-of_z at c.distance_price.ensures.value in
    s ∙ ap (λ z. (z +ℤ b) +ℤ d) c.linear_at.ensures.value ∙ ap (λ z. (at c.args.costs.now.linear.now c.args.i +ℤ z) +ℤ d) e ∙ ap (λ z. (at c.args.costs.now.linear.now c.args.i +ℤ lot_under c.args.varied (costs_with c.args.costs.now) c.args.multiplier) +ℤ z) f

three_small : (a b d : ℤ) → unsigned_abs a ≤ 200000000000000000000000000000 → unsigned_abs b ≤ 1001000000000000000000000000000 → unsigned_abs d ≤ 1001000000000000000000000000000 → unsigned_abs ((a +ℤ b) +ℤ d) ≤ 2202000000000000000000000000000
three_small a b d h k l = omega (arith, ints)

pub invariant_of-result-clause-line_small : goal.invariant_of-result-clause-line_small
invariant_of-result-clause-line_small c =
    let a = c.linear_at.result in
    let b = c.lot_price.result in
    let d = c.distance_price.result in
    let h = c.linear_at.ensures.small in
    let s = sum_three a b d 1001000000000000000000000000000 (omega arith) c.lot_price.ensures.small c.distance_price.ensures.small (lit< tt) in
    subst (λ (z : ℤ). unsigned_abs z ≤ 2202000000000000000000000000000) (sym s) (three_small a b d h c.lot_price.ensures.small c.distance_price.ensures.small)
