use Rattle.std.proofs.Common.{◌≡◌, Some, None, sym, ◌∙◌}
use Rattle.gap_model.specs.Nodes.{leaf_at}
use Rattle.gap_search.proofs.OpenLaws.{open_is, held_leaf}
use Rattle.gap_search.proofs.search.Search.leaf.Goals as goal

pub unreachable-requires : goal.unreachable-requires
unreachable-requires g c =
    let h = rw (← c.self.view_is, ← c.ticket.view_is) at c.requires in
    let e : leaf_at c.self.inside.tree.nodes c.ticket.inside.node.0 ≡ None = sym c.leaf_of.ensures ∙ c.in-None.is in
    held_leaf _ _ c.self.invariant.sound _ h e

pub returns-clause-open : goal.returns-clause-open
returns-clause-open g c =
    let h = rw (← c.self.view_is, ← c.ticket.view_is) at c.requires in
    let e : leaf_at c.self.inside.tree.nodes c.ticket.inside.node.0 ≡ Some c.in-Some.leaf = sym c.leaf_of.ensures ∙ c.in-Some.is in
    rw (← c.self.view_is, ← c.ticket.view_is) (open_is _ _ c.self.invariant.sound _ h c.in-Some.leaf e)
