use Rattle.std.proofs.Common.{ℤ, ◌≤ℤ◌, ◌<ℤ◌, FitsSigned, arith, subst}
use Rattle.std.specs.Int.{w128}
use Rattle.std.proofs.lemmas.Int.{ints, to_z-of_z}
use Rattle.gap_lines.proofs.nearest.first_reach.Goals as goal

below : (x y z : ℤ) → x ≤ℤ y → y <ℤ z → x <ℤ z
below x y z h k = omega (arith, ints)

pub returns-then-floor-reach-clause-before : goal.returns-then-floor-reach-clause-before
returns-then-floor-reach-clause-before c = λ value is h b k.
    let f : FitsSigned w128 c.reach_within-reach.result = record { sfits = c.reach_within-reach.type_inv } in
    below (value b) _ c.args.top.now.value (is.above b) (c.reach_within-reach.ensures.below b (subst (λ (z : ℤ). b <ℤ z) (to_z-of_z w128 c.reach_within-reach.result f) k))
