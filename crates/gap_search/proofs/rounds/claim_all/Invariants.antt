use Rattle.std.proofs.Common.{◌≡◌, ℕ, ◌<◌, true, false, List, length}
use Rattle.gap_search.specs.Boards.{tickets, IsSound}
use Rattle.gap_search.specs.Steps.{Event, Run, Refusal}
use Rattle.gap_search.specs.Driven.{IsSame}
use Rattle.gap_search.proofs.rounds.claim_all.Given as goal

abbrev pub invariant-loop-worker : goal.invariant-loop-worker
invariant-loop-worker g l = record {
  same : IsSame l.initial.search l.search;
  sound : IsSound (g.B.NodeBound.problem l.initial.search.bound) l.search.board;
  places : length l.search.board.held ≡ 16;
  nodes : l.search.board.nodes ≡ l.initial.search.board.nodes;
  run : (events : List Event) × Run (g.B.NodeBound.problem l.initial.search.bound) l.initial.search.board events l.search.board;
  some : l.some ≡ true → 0 < tickets l.search.board.held;
  none : l.some ≡ false → (l.search.board ≡ l.initial.search.board) × ((w : ℕ) → w < l.worker → Refusal (g.B.NodeBound.problem l.initial.search.bound) l.initial.search.board w);
}
