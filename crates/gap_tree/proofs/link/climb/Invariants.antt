use Rattle.std.proofs.Common.{◌≡◌, ℕ, ◌+◌, Option, Some, None, length, slice_index_or}
use Rattle.gap_tree.specs.declared.link.Up.{Up}
use Rattle.gap_tree.specs.Links.{part_from, parts_of, IsBefore}
use Rattle.gap_tree.proofs.link.climb.Given as goal

abbrev pub height : Option Up → ℕ
height None = 0
height (Some up) = up.parent.0 + 1

abbrev pub invariant-loop-at : goal.invariant-loop-at
invariant-loop-at l = record {
  value : part_from l.part (parts_of l.part l.links) l.at ≡ slice_index_or (parts_of l.root l.links) l.fn.node.0 l.root;
  below : IsBefore l.at (length l.links);
}

abbrev pub decreases-loop-at : goal.decreases-loop-at
decreases-loop-at l = height l.at
