use Rattle.std.proofs.Common.{◌≡◌, Some, rules}
use Rattle.gap_queue.specs.Keys.{key_at, HasLeast}
use Rattle.gap_search.specs.Boards.{BestAtMost}
use Rattle.gap_search.proofs.PieceLaws.{none_below}
use Rattle.gap_search.proofs.pieces.choice.Goals as goal

pub returns-else-is_below : goal.returns-else-is_below
returns-else-is_below c =
    let k : key_at c.args.queue.now c.in_ok-node.node.0 ≡ Some c.in_ok-key.key = search rules in
    let h : HasLeast c.args.queue.now c.in_ok-node.node.0 = search rules in
    let b : BestAtMost c.args.best.now c.in_ok-key.key = search rules in
    none_below _ _ _ _ h k b
