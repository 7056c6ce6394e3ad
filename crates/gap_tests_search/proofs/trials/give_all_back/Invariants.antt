use Rattle.std.proofs.Common.{◌≡◌, length}
use Rattle.gap_search.proofs.TurnLaws.{AreFree}
use Rattle.gap_tests_search.proofs.trials.give_all_back.Given as goal

abbrev pub invariant-loop-worker : goal.invariant-loop-worker
invariant-loop-worker l = record {
  places : length l.search.board.held ≡ 16;
  free : AreFree l.search.board.held l.worker;
}
