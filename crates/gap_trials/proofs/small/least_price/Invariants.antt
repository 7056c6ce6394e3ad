use Rattle.gap_trials.specs.Small.{small_price, IsLeastBelow}
use Rattle.gap_trials.proofs.small.least_price.Given as goal

abbrev pub invariant-loop-k : goal.invariant-loop-k
invariant-loop-k l = IsLeastBelow (small_price l.small.seed l.small.lots l.leaf) l.part l.k l.least
