use Rattle.std.proofs.Common.{◌≡◌}
use Rattle.gap_tests_search.proofs.trials.falling.Given as goal

abbrev pub invariant-loop-round : goal.invariant-loop-round
invariant-loop-round l = l.search.workers ≡ 16
