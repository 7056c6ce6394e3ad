use Rattle.std.proofs.Common.{◌≡◌, length}
use Rattle.gap_trials.proofs.guide.list_of.Given as goal

abbrev pub invariant-loop-entry : goal.invariant-loop-entry
invariant-loop-entry l = length l.x ≡ 3
