use Rattle.std.proofs.Common.{arith}
use Rattle.std.proofs.lemmas.Int.{ints}
use Rattle.gap_start.proofs.step.best_step.Goals as goal

pub returns-clause-moves : goal.returns-clause-moves
returns-clause-moves c i a j b can meets =
    let moved = c.best_of-moved.ensures.none i a j b can meets in
    let lower = c.best_of.ensures.better in
    omega (arith, ints)
