-- What is to come stays, whatever level is left.
use Rattle.std.proofs.Common.{◌≡◌, length, reverse, vec_len}
use Rattle.gap_judge.specs.Walks.{pending, AreLevels}
use Rattle.gap_judge.proofs.level.climb.Given as goal

abbrev pub invariant-loop-level : goal.invariant-loop-level
invariant-loop-level l = record {
  same : pending l.part (reverse l.levels.items) ≡ pending l.fn.part (reverse l.fn.levels.items);
  kept : AreLevels (length l.part) (reverse l.levels.items);
}

abbrev pub decreases-loop-level : goal.decreases-loop-level
decreases-loop-level l = vec_len l.levels
