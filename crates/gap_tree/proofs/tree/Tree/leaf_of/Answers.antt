use Rattle.std.proofs.Common.{◌≡◌, List, slice_get, sym, ap, ◌∙◌}
use Rattle.gap_model.specs.Nodes.{Node, leaf_at}
use Rattle.gap_tree.specs.declared.link.Link.{Link}
use Rattle.gap_tree.specs.Links.{TreeValue, nodes_of, link_leaf}
use Rattle.gap_tree.proofs.ViewLaws.{leaf_at_is}
use Rattle.gap_tree.proofs.tree.Tree.leaf_of.Goals as goal

pub returns : goal.returns
returns c =
    let e : nodes_of c.self.inside.root c.self.inside.links.items ≡ c.args.self.now.nodes = ap (λ (t : TreeValue). t.nodes) c.self.view_is in
    let n = c.args.node.0 in
    c.leaf_of.ensures ∙ ap (λ (l : List Link). link_leaf (slice_get l n)) c.as_slice.ensures.value ∙ sym (leaf_at_is c.self.inside.root c.self.inside.links.items n) ∙ ap (λ (l : List Node). leaf_at l n) e
