use Rattle.std.proofs.Common.{◌≡◌, ◌∙◌, lit<, w32}
use Rattle.std.proofs.lemmas.Int.{to_z-of_z}
use Rattle.std.specs.Int.{w128}
use Rattle.std.specs.Prelude.{FitsSigned}
use Rattle.gap_base.proofs.Machine.{fits_of, mul_is, unsigned_abs-product_le}
use Rattle.gap_objective.proofs.terms.climbed.Goals as goal

pub returns-clause-value : goal.returns-clause-value
returns-clause-value c =
    let e : c.from.result ≡ c.args.moved = c.from.ensures ∙ to_z-of_z w32 c.args.moved c.ranges.moved in
    let fits : FitsSigned w128 c.args.moved = fits_of c.args.moved 10000 c.requires.moved (lit< tt) in
    rw e (mul_is c.args.steepness c.args.moved 5000000000000000000000000000 10000 c.ranges.steepness fits c.requires.steepness c.requires.moved (lit< tt))

pub returns-clause-small : goal.returns-clause-small
returns-clause-small c = rw (returns-clause-value c) (unsigned_abs-product_le c.args.steepness c.args.moved 5000000000000000000000000000 10000 c.requires.steepness c.requires.moved)
