use Rattle.std.proofs.Common.{◌≡◌, ◌+◌, length, IfOk}
use Rattle.gap_model.specs.Nodes.{splits_of}
use Rattle.gap_search.specs.Boards.{tickets}
use Rattle.gap_search.specs.Driven.{IsDriven, IsSame}
use Rattle.gap_search.proofs.TurnLaws.{AreFree}
use Rattle.gap_search.proofs.rounds.settle_all.Given as goal

abbrev pub invariant-loop-worker : goal.invariant-loop-worker
invariant-loop-worker g l = record {
  same : IsSame l.initial.search l.search;
  driven : IsDriven (g.B.NodeBound.problem l.initial.search.bound) (g.G.Guide.allows l.initial.search.bound) (g.G.Guide.fits l.initial.search.bound) l.initial.search.board l.search.board;
  places : length l.search.board.held ≡ 16;
  free : AreFree l.search.board.held l.worker;
  count : IfOk l.result (λ _. splits_of l.search.board.nodes + tickets l.search.board.held ≡ splits_of l.initial.search.board.nodes + tickets l.initial.search.board.held);
}
