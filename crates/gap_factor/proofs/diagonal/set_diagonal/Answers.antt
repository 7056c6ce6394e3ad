use Rattle.std.proofs.Common.{◌<ℤ◌, pos, arith, FitsSigned}
use Rattle.std.proofs.lemmas.Int.{ints, to_z-of_z, fits_signed_from_abs}
use Rattle.std.specs.Int.{w128}
use Rattle.gap_instance.specs.Objective.{cov_of}
use Rattle.gap_factor.proofs.LeastLaws.{least_moved, set_step}
use Rattle.gap_factor.proofs.diagonal.set_diagonal.Goals as goal

pub returns-then-least-gt1000000000000000000000-clause-too_much :
    goal.returns-then-least-gt1000000000000000000000-clause-too_much
returns-then-least-gt1000000000000000000000-clause-too_much c = λ _.
    let big : pos 1000000000000000000000 <ℤ c.least_d-least.result = omega (arith, ints) in
    (c.loop-i.i, omega arith, (c.least_d-least.result, least_moved (cov_of c.args.inst.now.market) c.args.shift.now c.loop-i.shift c.loop-i.i c.least_d-least.result c.loop-i.invariant.assets c.loop-i.invariant.factor c.least_d-least.ensures.least, big))

pub loop-i-preserved : goal.loop-i-preserved
loop-i-preserved c =
    let fits : FitsSigned w128 c.least_d-least.result = fits_signed_from_abs w128 c.least_d-least.result (omega arith) in
    let new = simp to_z-of_z at c.set_d.ensures in
    set_step (cov_of c.args.inst.now.market) c.args.shift.now c.loop-i.shift c.set_d.new.self c.loop-i.i c.least_d-least.result c.n-i-end.ensures.shift.diagonal_length (omega arith) c.loop-i.invariant c.least_d-least.ensures.least new
