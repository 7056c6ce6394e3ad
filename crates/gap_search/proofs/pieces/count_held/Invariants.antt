use Rattle.std.proofs.Common.{◌≡◌, ◌≤◌, sum_by, take}
use Rattle.gap_search.specs.Boards.{one_held}
use Rattle.gap_search.proofs.pieces.count_held.Given as goal

abbrev pub invariant-loop-node : goal.invariant-loop-node
invariant-loop-node l = record {
  count : l.count ≡ sum_by one_held (take l.node-index l.held);
  most : l.count ≤ l.node-index;
}
