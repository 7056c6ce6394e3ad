use Rattle.std.proofs.Common.{◌≤◌, ℤ, pos, ◌+ℤ◌, ◌-ℤ◌, ◌*ℤ◌, unsigned_abs, lit<, ◌∙◌, ap, sym, subst, arith}
use Rattle.std.proofs.lemmas.Int.{ints}
use Rattle.gap_price.proofs.Arithmetic.{difference_and}
use Rattle.gap_price.proofs.asset.cost_at.Goals as goal

sum_small : (a b c : ℤ) → unsigned_abs a ≤ 12010000000000000000000000000000000 → unsigned_abs b ≤ 640000000000000000000000000000000 → unsigned_abs c ≤ 10010000000000000000000000000000000 → unsigned_abs ((a -ℤ b) +ℤ c) ≤ 23000000000000000000000000000000000
sum_small a b c h k l = omega (arith, ints)

pub returns-clause-value : goal.returns-clause-value
returns-clause-value c =
    let e = difference_and c.line.result c.square.result c.turnover.result 24000000000000000000000000000000000 (let s = c.line.ensures.small in omega arith) (let s = c.square.ensures.small in omega arith) (let s = c.turnover.ensures.small in omega arith) (lit< tt) in
    e ∙ ap (λ z. (z -ℤ c.square.result) +ℤ c.turnover.result) c.line.ensures.value ∙ ap (λ z. ((c.args.asset.now.linear *ℤ pos c.args.v) -ℤ z) +ℤ c.turnover.result) c.square.ensures.value ∙ ap (λ z. ((c.args.asset.now.linear *ℤ pos c.args.v) -ℤ (c.args.asset.now.bend *ℤ (pos c.args.v *ℤ pos c.args.v))) +ℤ z) c.turnover.ensures.value

pub returns-clause-small : goal.returns-clause-small
returns-clause-small c =
    let e = difference_and c.line.result c.square.result c.turnover.result 24000000000000000000000000000000000 (let s = c.line.ensures.small in omega arith) (let s = c.square.ensures.small in omega arith) (let s = c.turnover.ensures.small in omega arith) (lit< tt) in
    subst (λ (z : ℤ). unsigned_abs z ≤ 23000000000000000000000000000000000) (sym e) (sum_small c.line.result c.square.result c.turnover.result c.line.ensures.small c.square.ensures.small c.turnover.ensures.small)
