use Rattle.std.proofs.Common.{◌≡◌, List, slice_get, sym, ap, ◌∙◌}
use Rattle.gap_model.specs.Nodes.{Node, split_at}
use Rattle.gap_tree.specs.declared.link.Link.{Link}
use Rattle.gap_tree.specs.Links.{TreeValue, nodes_of, link_first, split_where}
use Rattle.gap_tree.proofs.ViewLaws.{split_at_is}
use Rattle.gap_tree.proofs.tree.Tree.split_of.Goals as goal

pub returns : goal.returns
returns c =
    let e : nodes_of c.self.inside.root c.self.inside.links.items ≡ c.args.self.now.nodes = ap (λ (t : TreeValue). t.nodes) c.self.view_is in
    let n = c.args.node.0 in
    c.split_of.ensures ∙ ap (λ (l : List Link). split_where l (link_first (slice_get l n))) c.as_slice.ensures.value ∙ sym (split_at_is c.self.inside.root c.self.inside.links.items n) ∙ ap (λ (l : List Node). split_at l n) e
