use Rattle.gap_valid.specs.Steps.{IsSaidUpTo}
use Rattle.gap_valid.specs.Heads.{market_in}
use Rattle.gap_judge.proofs.built.market_of.Given as goal

abbrev pub invariant-loop-i : goal.invariant-loop-i
invariant-loop-i l = IsSaidUpTo (market_in l.head) l.market l.i l.i 0
