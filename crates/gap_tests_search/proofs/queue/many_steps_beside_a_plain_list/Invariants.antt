use Rattle.std.proofs.Common.{◌≡◌, length}
use Rattle.gap_tests_search.proofs.queue.many_steps_beside_a_plain_list.Given as goal

abbrev pub invariant-steps : goal.invariant-steps
invariant-steps g l = length l.queue ≡ 64
