use Rattle.std.proofs.Common.{◌≡◌, ◌≤◌, ◌*ℤ◌, ap, ◌∙◌, arith, lit<, unsigned_abs, FitsSigned}
use Rattle.std.proofs.lemmas.Int.{ints, to_z-of_z}
use Rattle.std.specs.Int.{w64, w128}
use Rattle.gap_base.proofs.Machine.{mul_is, mul_le}
use Rattle.gap_psd.proofs.quadratic.scaled.Goals as goal

pub returns-clause-value : goal.returns-clause-value
returns-clause-value c =
    let fits : FitsSigned w128 c.from.result = record { sfits = c.from.type_inv } in
    let small : unsigned_abs c.from.result ≤ 80000 = omega (arith, ints) in
    mul_is c.args.entry c.from.result 1001000000000000000000 80000 c.ranges.entry fits c.requires.first small (lit< tt) ∙ ap (λ z. c.args.entry *ℤ z) (c.from.ensures ∙ to_z-of_z w64 c.args.v c.ranges.v)

pub returns-clause-small : goal.returns-clause-small
returns-clause-small c =
    let fits : FitsSigned w128 c.from.result = record { sfits = c.from.type_inv } in
    let small : unsigned_abs c.from.result ≤ 80000 = omega (arith, ints) in
    mul_le c.args.entry c.from.result 1001000000000000000000 80000 c.ranges.entry fits c.requires.first small (lit< tt)
