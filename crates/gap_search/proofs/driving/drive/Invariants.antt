use Rattle.std.proofs.Common.{◌≡◌, ℕ, ◌-◌, ◌<◌, true, false}
use Rattle.gap_model.specs.Nodes.{splits_of}
use Rattle.gap_search.specs.Boards.{tickets, IsSound}
use Rattle.gap_search.specs.Steps.{Refusal}
use Rattle.gap_search.specs.Driven.{IsDriven, IsSame}
use Rattle.gap_search.proofs.driving.drive.Given as goal

abbrev pub invariant-loop-more : goal.invariant-loop-more
invariant-loop-more g l = record {
  same : IsSame l.fn.search l.search;
  driven : IsDriven (g.B.NodeBound.problem l.fn.search.bound) (g.G.Guide.allows l.fn.search.bound) (g.G.Guide.fits l.fn.search.bound) l.fn.search.board l.search.board;
  sound : IsSound (g.B.NodeBound.problem l.fn.search.bound) l.search.board;
  some : l.more ≡ true → 0 < tickets l.search.board.held;
  none : l.more ≡ false → (tickets l.search.board.held ≡ 0) × ((w : ℕ) → w < l.search.workers → Refusal (g.B.NodeBound.problem l.search.bound) l.search.board w);
}

abbrev pub decreases-loop-more : goal.decreases-loop-more
decreases-loop-more g l = l.search.board.budget - splits_of l.search.board.nodes
