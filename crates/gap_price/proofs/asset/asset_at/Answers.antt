use Rattle.std.proofs.Common.{◌+ℤ◌, lit<, ◌∙◌, ap, arith}
use Rattle.std.proofs.lemmas.Int.{to_z-of_z}
use Rattle.gap_base.specs.Sums.{at}
use Rattle.gap_price.proofs.Arithmetic.{sum_back}
use Rattle.gap_price.proofs.asset.asset_at.Goals as goal

pub returns-clause-linear : goal.returns-clause-linear
returns-clause-linear c =
    let fm = c.ranges.multiplier in
    let a = c.linear_at.result in
    let b = c.lot_price.result in
    let h = c.linear_at.ensures.small in
    let s = sum_back a b 1001000000000000000000000000000 (omega arith) c.lot_price.ensures.small (lit< tt) in
    let e = simp to_z-of_z at c.lot_price.ensures.value in
    s ∙ ap (λ z. z +ℤ b) c.linear_at.ensures.value ∙ ap (λ z. at c.args.costs.now.linear.now c.args.i +ℤ z) e
