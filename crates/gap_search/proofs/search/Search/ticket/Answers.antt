use Rattle.std.proofs.Common.{◌≡◌, Some, rules}
use Rattle.gap_search.specs.Boards.{node_held}
use Rattle.gap_search.proofs.KeptLaws.{held_there}
use Rattle.gap_search.proofs.search.Search.ticket.Goals as goal

pub part_of-part-requires : goal.part_of-part-requires
part_of-part-requires g c =
    let e : node_held c.self.inside.held c.args.worker ≡ Some c.in_ok-node.node = search rules in
    held_there _ _ c.self.invariant.sound c.args.worker c.in_ok-node.node e
