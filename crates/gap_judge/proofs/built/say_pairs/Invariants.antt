use Rattle.std.proofs.Common.{◌+◌}
use Rattle.gap_valid.specs.Steps.{IsSaidUpTo}
use Rattle.gap_valid.specs.Heads.{market_in}
use Rattle.gap_judge.proofs.built.say_pairs.Given as goal

abbrev pub invariant-loop-j : goal.invariant-loop-j
invariant-loop-j l = IsSaidUpTo (market_in l.head) l.market (l.i + 1) l.i l.j
