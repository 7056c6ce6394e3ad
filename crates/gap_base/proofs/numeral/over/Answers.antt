use Rattle.std.proofs.Common.{◌^◌, ◌<◌, ◌≤◌, arith}
use Rattle.gap_base.specs.Numerals.{rounded_quotient}
use Rattle.gap_base.proofs.NumeralLaws.{power_below, power_above, power_positive, nearest_small, rest_small}
use Rattle.gap_base.proofs.numeral.over.Goals as goal

-- src/numeral.rt:67:9
pub returns-then-k-gt31 : goal.returns-then-k-gt31
unfolding rounded_quotient
returns-then-k-gt31 c =
    let big : 10 ^ 32 ≤ 10 ^ c.args.k = power_above c.args.k c.if-k-gt31.true in
    rw (nearest_small c.args.size (10 ^ c.args.k) (omega arith), rest_small c.args.size (10 ^ c.args.k) (omega arith)) c.capped.ensures

-- src/numeral.rt:69:9
pub pow-divisor-requires : goal.pow-divisor-requires
pow-divisor-requires c =
    let small : 10 ^ c.args.k ≤ 10 ^ 31 = power_below c.args.k (omega arith) in omega arith

-- src/numeral.rt:70:23
pub overflow_add-size : goal.overflow_add-size
overflow_add-size c =
    let small : 10 ^ c.args.k ≤ 10 ^ 31 = power_below c.args.k (omega arith) in omega (arith, c.pow-divisor.ensures)

-- src/numeral.rt:70:46
pub overflow_mul-divisor : goal.overflow_mul-divisor
overflow_mul-divisor c =
    let small : 10 ^ c.args.k ≤ 10 ^ 31 = power_below c.args.k (omega arith) in omega (arith, c.pow-divisor.ensures)

-- src/numeral.rt:70:22
pub nonzero_div-size : goal.nonzero_div-size
nonzero_div-size c = let some : 0 < 10 ^ c.args.k = power_positive c.args.k in omega (arith, c.pow-divisor.ensures)

-- src/numeral.rt:70:60
pub nonzero_rem-size : goal.nonzero_rem-size
nonzero_rem-size c = let some : 0 < 10 ^ c.args.k = power_positive c.args.k in omega (arith, c.pow-divisor.ensures)

-- src/numeral.rt:62:1
pub returns : goal.returns
unfolding rounded_quotient
returns c = rw (← c.pow-divisor.ensures) c.capped-2.ensures
