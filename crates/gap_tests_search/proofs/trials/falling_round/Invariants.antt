use Rattle.std.proofs.Common.{◌≡◌}
use Rattle.gap_tests_search.proofs.trials.falling_round.Given as goal

abbrev pub invariant-loop-behind : goal.invariant-loop-behind
invariant-loop-behind l = l.search.workers ≡ 16

abbrev pub invariant-loop-behind-2 : goal.invariant-loop-behind-2
invariant-loop-behind-2 l = l.search.workers ≡ 16
