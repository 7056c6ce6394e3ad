use Rattle.std.proofs.Common.{◌≡◌, length, take}
use Rattle.gap_search.specs.Steps.{OfferLeaves}
use Rattle.gap_search.specs.Kept.{WaitBelow}
use Rattle.gap_search.proofs.pieces.take_up_all.Given as goal

abbrev pub invariant-loop-n : goal.invariant-loop-n
invariant-loop-n g l = record {
  room : length l.queue ≡ length l.initial.queue;
  queue : WaitBelow (g.B.NodeBound.problem l.bound) l.tree.nodes l.n l.queue;
  best : OfferLeaves (g.B.NodeBound.problem l.bound) (take l.n l.tree.nodes) l.initial.best l.best;
}
